-- All stores of a poll but the last, at once, are those of its publisher, one after another.
use Rattle.std.proofs.Common.{◌≡◌, ℕ, suc, List, [], ◌∷◌, Option, Some, None, sym, ap, subst, ◌∙◌}
use Rattle.std.specs.Prelude.{IfSome}
use Rattle.clock_gate.specs.declared.act.Act.TheVariants.{Store}
use Rattle.clock_gate.specs.declared.clock_row.ClockRow.{ClockRow}
use Rattle.shm_writer.specs.Publisher.{Publishing, publishing_act, publishing_given}
use Rattle.shm_writer.specs.Leaps.{MakesStores}
use Rattle.writer_reopen.specs.declared.order.Order.{Order}
use Rattle.writer_reopen.specs.declared.stage.Stage.TheVariants.{Storing}
use Rattle.writer_reopen.specs.declared.stage.Taken.{Taken}
use Rattle.writer_reopen.specs.PollMachine.{Polling, polling_act, polling_given, IsUpdate}
use Rattle.writer_reopen.proofs.InOrder.{store_goes_on}
use Rattle.writer_reopen.proofs.Cut.{act_before_stop}
use Rattle.writer_reopen.proofs.Polls.{stage_nearer}

abbrev storing : Order → Taken → Publishing → Polling
storing order taken update = record { order = order; stage = Storing taken update }

-- without a stop a poll wants what its publisher wants
same_act : (order : Order) (taken : Taken) (update : Publishing) → order.stop ≡ None → IsUpdate order taken update → polling_act (storing order taken update) ≡ publishing_act update
same_act order taken update none is = sym (act_before_stop order taken update is (λ stop. absurd (let clash : None ≡ Some update.made = sym none ∙ stop in cc clash)))

stores_of : (clock : List ClockRow) (order : Order) (taken : Taken) (word : ℕ) (values : List ℕ) (update later : Publishing) → order.stop ≡ None → IsUpdate order taken update
    → MakesStores publishing_act publishing_given word values update later → MakesStores polling_act (polling_given clock) word values (storing order taken update) (storing order taken later)
stores_of clock order taken word [] update later none is makes =
    (ap (storing order taken) makes.0, λ ends. makes.1 (sym (same_act order taken later none (subst (IsUpdate order taken) makes.0 is)) ∙ ends))
stores_of clock order taken word (value ∷ values) update later none is makes =
    let wants : polling_act (storing order taken update) ≡ Store word value = same_act order taken update none is ∙ makes.0 in
    let next = (stage_nearer clock order (Storing taken update) 0 is (λ ends. store_goes_on word value (sym wants ∙ ends))).0 in
    (wants, makes.1, stores_of clock order taken (suc word) values (publishing_given update 0) later none next makes.2)

pub all_stores_of : (order : Order) (taken : Taken) (update later : Publishing) (found : Option (List ℕ)) → IsUpdate order taken update
    → IfSome found (λ values. (order.stop ≡ None) × MakesStores publishing_act publishing_given 1 values update later)
    → IfSome found (λ values. (clock : List ClockRow) → MakesStores polling_act (polling_given clock) 1 values (storing order taken update) (storing order taken later))
all_stores_of order taken update later None is makes = tt
all_stores_of order taken update later (Some values) is makes = λ clock. stores_of clock order taken 1 values update later makes.0 is makes.1
