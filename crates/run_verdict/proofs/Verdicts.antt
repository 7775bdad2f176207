-- The premises, event by event.
use Rattle.std.proofs.Common.{◌≡◌, ◌<◌, ◌≤◌, ◌+◌, ◌∷◌, [], ℕ, zero, suc, List, length, reverse, take, slice_index_or, Some, None, refl, sym, ◌∙◌, ap, subst, arith, inl, inr}
use Rattle.std.proofs.lemmas.Bool.{cases_eq}
use Rattle.std.proofs.lemmas.List.{reverse-append, take_all, take_more}
use Rattle.clock_gate.specs.declared.trace.Trace.{Trace}
use Rattle.interval_now.specs.declared.answers.Answer.TheVariants as answers
use Rattle.abstract_run.specs.declared.event.Event.{Event}
use Rattle.abstract_run.specs.declared.event.Event.TheVariants.{Opened, Moved, Published, Skipped, Stopped, Answered}
use Rattle.run_promises.specs.declared.premises.Premises.{Premises}
use Rattle.run_promises.specs.declared.premises.Premises.TheVariants.{Held, Failed}
use Rattle.run_promises.specs.Judged.{failed_or, premises_by, premises_of, EachTrusted, FitsJudge}
use Rattle.run_verdict.specs.Events.{judged_event, EventFits, EventsFit}
use Rattle.run_verdict.specs.Past.{no_event, past_of}
use Rattle.run_verdict.proofs.Backwards.{past_on}

-- ---- the premises, one event at a time

held_last : (premises : Premises) → premises ≡ failed_or premises Held
held_last Held = refl
held_last (Failed client call why at) = refl

-- one event more, the newest
premises_on : (trace : Trace) (event : Event) (past : List Event) → premises_by trace (event ∷ past) ≡ failed_or (premises_by trace past) (judged_event trace past event)
premises_on trace (Opened poll start) past = held_last (premises_by trace past)
premises_on trace (Moved poll position generation) past = held_last (premises_by trace past)
premises_on trace (Published position publication marked_at replied_at) past = held_last (premises_by trace past)
premises_on trace (Skipped poll first last) past = held_last (premises_by trace past)
premises_on trace (Stopped poll stores) past = held_last (premises_by trace past)
premises_on trace (Answered client call answer trail) past = refl

-- the same by places
pub premises_on_more : (trace : Trace) (events : List Event) (place : ℕ)
    → premises_by trace (past_of events (place + 1)) ≡ failed_or (premises_by trace (past_of events place)) (judged_event trace (past_of events place) (slice_index_or events place no_event))
premises_on_more trace events place =
    ap (λ (past : List Event). premises_by trace past) (past_on events place) ∙ premises_on trace (slice_index_or events place no_event) (past_of events place)

take_none : (events : List Event) → take 0 events ≡ []
take_none [] = refl
take_none (event ∷ events) = refl

-- the past at a place is that many events in reverse
past_is_reversed : (events : List Event) (k : ℕ) → k ≤ length events → past_of events k ≡ reverse (take k events)
past_is_reversed events zero within = ap (λ (l : List Event). reverse l) (sym (take_none events))
past_is_reversed events (suc k) within =
    let below : k < length events = omega (arith, within) in
    let le : k ≤ length events = omega (arith, within) in
    let one : suc k ≡ k + 1 = omega arith in
    let here = slice_index_or events k no_event in
    ap (λ (past : List Event). here ∷ past) (past_is_reversed events k le)
    ∙ sym (reverse-append (take k events) (here ∷ []))
    ∙ ap (λ (l : List Event). reverse l) (sym (take_more events k no_event below))
    ∙ ap (λ (j : ℕ). reverse (take j events)) (sym one)

-- so the premises of all of them are those of the run
pub premises_whole : (trace : Trace) (events : List Event) (k : ℕ) → length events ≤ k → k ≤ length events → premises_by trace (past_of events k) ≡ premises_of trace events
premises_whole trace events k low high =
    ap (λ (past : List Event). premises_by trace past) (past_is_reversed events k high ∙ ap (λ (l : List Event). reverse l) (take_all k events low))

-- ---- each answer can be judged

fits_here : (trace : Trace) (event : Event) (past : List Event) → EachTrusted (FitsJudge trace) (event ∷ past) → EventFits trace past event
fits_here trace (Opened poll start) past all = tt
fits_here trace (Moved poll position generation) past all = tt
fits_here trace (Published position publication marked_at replied_at) past all = tt
fits_here trace (Skipped poll first last) past all = tt
fits_here trace (Stopped poll stores) past all = tt
fits_here trace (Answered client call (answers.Time time) None) past all = tt
fits_here trace (Answered client call (answers.Time time) (Some trail)) past all = all.0
fits_here trace (Answered client call answers.NotInitialized trail) past all = tt
fits_here trace (Answered client call (answers.Busy tries first last) trail) past all = tt
fits_here trace (Answered client call (answers.PageBusy first last) trail) past all = tt
fits_here trace (Answered client call (answers.Causality causality) trail) past all = tt

fits_before : (trace : Trace) (event : Event) (past : List Event) → EachTrusted (FitsJudge trace) (event ∷ past) → EachTrusted (FitsJudge trace) past
fits_before trace (Opened poll start) past all = all
fits_before trace (Moved poll position generation) past all = all
fits_before trace (Published position publication marked_at replied_at) past all = all
fits_before trace (Skipped poll first last) past all = all
fits_before trace (Stopped poll stores) past all = all
fits_before trace (Answered client call (answers.Time time) None) past all = all.1
fits_before trace (Answered client call (answers.Time time) (Some trail)) past all = all.1
fits_before trace (Answered client call answers.NotInitialized trail) past all = all
fits_before trace (Answered client call (answers.Busy tries first last) trail) past all = all
fits_before trace (Answered client call (answers.PageBusy first last) trail) past all = all
fits_before trace (Answered client call (answers.Causality causality) trail) past all = all

fits_from : (trace : Trace) (events : List Event) (count place : ℕ) → EachTrusted (FitsJudge trace) (past_of events count) → place < count
    → EventFits trace (past_of events place) (slice_index_or events place no_event)
fits_from trace events zero place all below = elim below [ ]
fits_from trace events (suc count) place all below = elim (cases_eq place count) [
  | inl same ↦ subst (λ (p : ℕ). EventFits trace (past_of events p) (slice_index_or events p no_event)) (sym same) (fits_here trace (slice_index_or events count no_event) (past_of events count) all)
  | inr differs ↦ fits_from trace events count place (fits_before trace (slice_index_or events count no_event) (past_of events count) all) (omega (arith, below, differs))
]

-- each event fits where each answer that is looked at does
pub events_fit : (trace : Trace) (events : List Event) → EachTrusted (FitsJudge trace) (reverse events) → EventsFit trace events
events_fit trace events all place below =
    let whole : past_of events (length events) ≡ reverse events = past_is_reversed events (length events) (omega arith) ∙ ap (λ (l : List Event). reverse l) (take_all (length events) events (omega arith)) in
    fits_from trace events (length events) place (subst (λ (past : List Event). EachTrusted (FitsJudge trace) past) (sym whole) all) below
