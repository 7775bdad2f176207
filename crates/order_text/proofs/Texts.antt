-- The answers that are left, and what their lines and counts come to.
use Rattle.std.proofs.Common.{◌≡◌, ◌++◌, ◌+◌, ◌<◌, ◌≤◌, ℕ, List, [], ◌∷◌, Option, drop, get_or, length, filter_map, All, Bool, true, false, append_assoc, refl, sym, ap, ◌∙◌, arith}
use Rattle.std.proofs.lemmas.List.{append-nil, drop_all, drop_more}
use Rattle.std.specs.Prelude.{count_by, cond, Result, Ok, Err, OnOk}
use Rattle.std.specs.declared.alloc.AllocError.{AllocError}
use Rattle.std.specs.List.{cons_option}
use Rattle.std.proofs.lemmas.List.Elements.{All-tail}
use Rattle.std.proofs.lemmas.List.Sums.{sum_by-cons}
use Rattle.clock_gate.specs.declared.clock_row.ClockRow.{ClockRow}
use Rattle.abstract_run.specs.declared.event.Event.{Event}
use Rattle.bound_order.specs.declared.ordering.Ordering.{Ordering}
use Rattle.bound_order.specs.declared.step.Step.{Step}
use Rattle.bound_order.specs.declared.told.Told.{Told}
use Rattle.bound_order.specs.Ordering.{IsTold, step_of, steps_after}
use Rattle.bound_order.specs.Standing.{StandsAfter}
use Rattle.order_text.specs.declared.counts.Counts.{Counts}
use Rattle.order_text.specs.Counted.{AreUpTo, all_counted, counted, one_if}
use Rattle.order_text.specs.Lines.{is_act, is_done, is_grant, is_stamp, header_line, order_text, step_lines, steps_text, total_line}
use Rattle.order_text.specs.Told.{answers_told, event_told}

-- after these answers, newest first, the text and the counts come to those of all steps once the lines and the steps of those that are
-- left are added
pub record Leaves (n : ℕ) (past left : List Told) (whole : List ℕ) (all : Counts) (ordering : Ordering) (counts : Counts) (text : List ℕ) : Type 0 where
  pub told : All IsTold left
  pub stands : StandsAfter n past ordering
  pub text_comes : text ++ steps_text left (steps_after n past left) ≡ whole
  pub counts_come : all_counted counts (steps_after n past left) ≡ all

counts_if : (b : Bool) → cond b 1 0 ≡ one_if b
counts_if true = refl
counts_if false = refl

plus_none : (k : ℕ) → k ≡ k + 0
plus_none k = omega arith

count_one : (p : Step → Bool) (k : ℕ) (step : Step) (steps : List Step) → k + count_by p (step ∷ steps) ≡ k + one_if (p step) + count_by p steps
count_one p k step steps =
    let cons = sum_by-cons (λ (s : Step). cond (p s) 1 0) step steps in
    let one = counts_if (p step) in
    omega (arith, cons, one)

counts_none : (c : Counts) → c ≡ all_counted c []
counts_none c i = record { stamps = plus_none c.stamps i; done = plus_none c.done i; grants = plus_none c.grants i; acts = plus_none c.acts i }

counts_more : (c : Counts) (step : Step) (steps : List Step) → all_counted c (step ∷ steps) ≡ all_counted (counted step c) steps
counts_more c step steps i = record {
  stamps = count_one (λ (s : Step). is_stamp s.wait) c.stamps step steps i;
  done = count_one (λ (s : Step). is_done s.wait) c.done step steps i;
  grants = count_one (λ (s : Step). is_grant s.lease) c.grants step steps i;
  acts = count_one (λ (s : Step). is_act s.lease) c.acts step steps i;
}

-- the next answer has its step
pub leaves_more : (n : ℕ) (past left : List Told) (whole : List ℕ) (all : Counts) (o p : Ordering) (c d : Counts) (text next : List ℕ) (t : Told)
    → Leaves n past (t ∷ left) whole all o c text → StandsAfter n (t ∷ past) p → next ≡ text ++ step_lines t (step_of n past t) → d ≡ counted (step_of n past t) c
    → Leaves n (t ∷ past) left whole all p d next
unfolding steps_text
leaves_more n past left whole all o p c d text next t was stands lines counts = record {
  told = All-tail IsTold t left was.told;
  stands = stands;
  text_comes = ap (λ (l : List ℕ). l ++ steps_text left (steps_after n (t ∷ past) left)) lines
      ∙ (append_assoc text (step_lines t (step_of n past t)) (steps_text left (steps_after n (t ∷ past) left)) ∙ was.text_comes);
  counts_come = ap (λ (k : Counts). all_counted k (steps_after n (t ∷ past) left)) counts
      ∙ (sym (counts_more c (step_of n past t) (steps_after n (t ∷ past) left)) ∙ was.counts_come);
}

-- an event that tells none leaves the counts below
pub up_more : (most : ℕ) (c : Counts) → AreUpTo most c → AreUpTo (most + 1) c
up_more most c up =
    let stamps = up.stamps in
    let done = up.done in
    let grants = up.grants in
    let acts = up.acts in
    record { stamps = omega (arith, stamps); done = omega (arith, done); grants = omega (arith, grants); acts = omega (arith, acts) }

-- where none is left, the text and the counts have come to those of all
module _ {n : ℕ} {past : List Told} {whole : List ℕ} {all : Counts} {o : Ordering} {c : Counts} {text : List ℕ} (l : Leaves n past [] whole all o c text) where
  pub leaves_text : text ≡ whole
  unfolding steps_text
  leaves_text = sym (append-nil text) ∙ l.text_comes

  pub leaves_counts : c ≡ all
  leaves_counts = counts_none c ∙ l.counts_come

-- the answers that are left from a place on begin with that of the event there
pub answers_front : (clock : List ClockRow) (events : List Event) (place : ℕ) (event : Event) (found : Option Told) → place < length events → event ≡ get_or events place event → event_told clock event ≡ found
    → answers_told clock (drop place events) ≡ cons_option found (answers_told clock (drop (place + 1) events))
unfolding answers_told
answers_front clock events place event found below same is =
    ap (filter_map (event_told clock)) (drop_more events place event below)
    ∙ (ap (λ (e : Event). cons_option (event_told clock e) (answers_told clock (drop (place + 1) events))) (sym same)
    ∙ ap (λ (o : Option Told). cons_option o (answers_told clock (drop (place + 1) events))) is)

pub answers_none : (clock : List ClockRow) (events : List Event) (place : ℕ) → length events ≤ place → answers_told clock (drop place events) ≡ []
unfolding answers_told
answers_none clock events place past = ap (filter_map (event_told clock)) (drop_all place events past)

-- the header, the lines and the counts are the whole
pub all_text : (result : Result (Unit {0}) AllocError) (text before lined : List ℕ) (told : List Told) (steps : List Step) → lined ≡ (before ++ header_line) ++ steps_text told steps
    → OnOk result (text ≡ lined ++ total_line steps) → OnOk result (text ≡ before ++ order_text told steps)
unfolding order_text
all_text (Ok u) text before lined told steps is last =
    last
    ∙ (ap (λ (l : List ℕ). l ++ total_line steps) is
    ∙ (append_assoc (before ++ header_line) (steps_text told steps) (total_line steps) ∙ append_assoc before header_line (steps_text told steps ++ total_line steps)))
all_text (Err e) text before lined told steps is last = last
