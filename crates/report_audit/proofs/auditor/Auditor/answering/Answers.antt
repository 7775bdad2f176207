use Rattle.std.proofs.Common.{◌≡◌, ℕ, ◌+◌, ◌≤◌, List, [], Option, Some, None, refl, sym, ap, subst, ◌∙◌, arith}
use Rattle.std.specs.Prelude.{slice_get}
use Rattle.lawful_report.specs.declared.counts.Counts.{Counts}
use Rattle.std.proofs.Common.{drop, suc, Bor, length}
use Rattle.std.proofs.lemmas.Option.{slice_get_within}
use Rattle.clock_gate.specs.declared.trace.Trace.{Trace}
use Rattle.lawful_report.specs.declared.call.Call.{Call}
use Rattle.lawful_report.specs.declared.seen.Seen.{Seen}
use Rattle.lawful_report.specs.Course.{Course}
use Rattle.lawful_report.specs.Lawful.{Answering, seen_before, one_answer}
use Rattle.report_audit.specs.FoundLines.{NoAnswer, IsAnyAnswer, Answers}
use Rattle.report_audit.specs.NextLine.{Holds, NextFound, NoLine, Taken, at}
use Rattle.report_audit.specs.declared.auditor.Auditor.{Auditor}
use Rattle.report_audit.specs.declared.due.Due.TheVariants as dues
use Rattle.report_audit.specs.declared.known.Known.{Known}
use Rattle.report_audit.proofs.AuditorSteps.{none_of, dropped, dropped_past, first_alike, ok_map}
use Rattle.report_audit.proofs.Candidates.{no_answering}
use Rattle.report_audit.proofs.TakenLines.{taken_answer}
use Rattle.report_audit.proofs.TraceLimits.{rows_few, calls_few}
use Rattle.report_audit.proofs.auditor.Auditor.answering.Goals as goal

pub answer_at-requires-clause-rows : goal.answer_at-requires-clause-rows
answer_at-requires-clause-rows c = rows_few c.args.trace.now c.requires.lawful

pub returns-in_default : goal.returns-in_default
returns-in_default c =
    let past : slice_get c.args.known.now.calls c.args.place ≡ None = sym (c.copied.ensures ∙ c.get.ensures) ∙ none_of c.copied.result c.in_default.not-Some in
    let none : drop c.args.place c.args.known.now.calls ≡ [] = dropped_past c.args.known.now.calls c.args.place past in
    ok_map (λ (found : Option (Bor (List ℕ))). (trace : Trace) (known : Known) (course : Course) (counts : Counts) (seen : Seen) → Holds course counts c.args.self.now → NextFound trace known (at course counts (Answering seen [])) c.args.text.now found c.counting.new.self)
    (λ found. (course : Course) (counts : Counts) → Holds course counts c.args.self.now → NextFound c.args.trace.now c.args.known.now (at course counts (Answering c.args.seen (drop c.args.place c.args.known.now.calls))) c.args.text.now found c.counting.new.self)
    c.counting.result
    (λ found all course counts holds. subst (λ (calls : List Call). NextFound c.args.trace.now c.args.known.now (at course counts (Answering c.args.seen calls)) c.args.text.now found c.counting.new.self) (sym none) (all c.args.trace.now c.args.known.now course counts c.args.seen holds))
    c.counting.ensures

pub overflow_add-self : goal.overflow_add-self
overflow_add-self c =
    let here : slice_get c.args.known.now.calls c.args.place ≡ Some c.in-Some.call = sym (c.copied.ensures ∙ c.get.ensures) ∙ c.in-Some.is in
    let few : length c.args.known.now.calls ≤ 19200000 = subst (λ (calls : List Call). length calls ≤ 19200000) c.requires.knows.calls (calls_few c.args.trace.now c.requires.lawful) in
    omega (arith, few, slice_get_within c.args.known.now.calls c.args.place c.in-Some.call here)

pub returns-in-Ok-None : goal.returns-in-Ok-None
returns-in-Ok-None c course counts holds =
    let here : slice_get c.args.known.now.calls c.args.place ≡ Some c.in-Some.call = sym (c.copied.ensures ∙ c.get.ensures) ∙ c.in-Some.is in
    let before : c.seen_before-before.result ≡ seen_before c.args.trace.now c.args.seen c.in-Some.call = c.seen_before-before.ensures ∙ first_alike c.args.trace.now c.args.known.now.first c.args.seen c.in-Some.call c.requires.knows.first in
    let none : NoAnswer c.args.trace.now course c.in-Some.call (seen_before c.args.trace.now c.args.seen c.in-Some.call) c.args.text.now IsAnyAnswer = subst (λ (seen : Seen). NoAnswer c.args.trace.now course c.in-Some.call seen c.args.text.now IsAnyAnswer) before (rw c.in-Ok-None.field-0-is at (c.in-Ok-None.ensures course holds.course_is)) in
    subst (λ (calls : List Call). NoLine c.args.trace.now (at course counts (Answering c.args.seen calls)) c.args.text.now) (sym (dropped c.args.known.now.calls c.args.place c.in-Some.call here))
    (no_answering c.args.trace.now course counts c.args.seen c.in-Some.call (drop (suc c.args.place) c.args.known.now.calls) c.args.text.now none)

pub returns-in-Ok-Some : goal.returns-in-Ok-Some
returns-in-Ok-Some c course counts holds =
    let here : slice_get c.args.known.now.calls c.args.place ≡ Some c.in-Some.call = sym (c.copied.ensures ∙ c.get.ensures) ∙ c.in-Some.is in
    let before : c.seen_before-before.result ≡ seen_before c.args.trace.now c.args.seen c.in-Some.call = c.seen_before-before.ensures ∙ first_alike c.args.trace.now c.args.known.now.first c.args.seen c.in-Some.call c.requires.knows.first in
    let found : Answers c.args.trace.now course c.in-Some.call (seen_before c.args.trace.now c.args.seen c.in-Some.call) c.args.text.now c.in-Ok-Some.after c.in-Ok-Some.answer c.in-Ok-Some.later.now = subst (λ (seen : Seen). Answers c.args.trace.now course c.in-Some.call seen c.args.text.now c.in-Ok-Some.after c.in-Ok-Some.answer c.in-Ok-Some.later.now) before (rw c.in-Ok-Some.field-0-is at (c.in-Ok-Some.ensures course holds.course_is)) in
    let auditor : Auditor = record { progress = c.args.self.now.progress; counts = c.counted-self.result; due = dues.Answering c.in-Ok-Some.after (c.args.place + 1) } in
    let next : suc c.args.place ≡ c.args.place + 1 = omega arith in
    subst (λ (calls : List Call). Taken c.args.trace.now c.args.known.now (at course counts (Answering c.args.seen calls)) c.args.text.now auditor c.in-Ok-Some.later.now) (sym (dropped c.args.known.now.calls c.args.place c.in-Some.call here))
    (taken_answer c.args.trace.now c.args.known.now course counts c.args.text.now c.in-Ok-Some.later.now auditor c.args.seen c.in-Some.call (drop (suc c.args.place) c.args.known.now.calls) c.in-Ok-Some.after c.in-Ok-Some.answer found
    (record { course_is = holds.course_is; counts_are = ap (one_answer c.in-Ok-Some.answer) holds.counts_are ∙ sym c.counted-self.ensures })
    (refl, ap (λ (n : ℕ). drop n c.args.known.now.calls) next))
