-- The counts of steps, taken one by one.
use Rattle.std.specs.Prelude.{ℕ, ◌+◌, ◌≤◌, Bool, true, false, List}
use Rattle.bound_order.specs.declared.step.Step.{Step}
use Rattle.order_text.specs.declared.counts.Counts.{Counts}
use Rattle.order_text.specs.Lines.{is_stamp, is_done, is_grant, is_act, stamps_in, done_in, grants_in, acts_in}

abbrev pub one_if : Bool → ℕ
one_if true = 1
one_if false = 0

-- after one step more
abbrev pub counted : Step → Counts → Counts
counted step c = record {
  stamps = c.stamps + one_if (is_stamp step.wait);
  done = c.done + one_if (is_done step.wait);
  grants = c.grants + one_if (is_grant step.lease);
  acts = c.acts + one_if (is_act step.lease);
}

-- after these steps more
abbrev pub all_counted : Counts → List Step → Counts
all_counted c steps = record {
  stamps = c.stamps + stamps_in steps;
  done = c.done + done_in steps;
  grants = c.grants + grants_in steps;
  acts = c.acts + acts_in steps;
}

-- each count is at most this number
pub record AreUpTo (most : ℕ) (c : Counts) : Type 0 where
  pub stamps : c.stamps ≤ most
  pub done : c.done ≤ most
  pub grants : c.grants ≤ most
  pub acts : c.acts ≤ most
