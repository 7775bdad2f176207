use Rattle.std.proofs.Common.{◌≡◌, ◌<◌, ◌^◌, ℕ, List, ◌++◌, slice_index_or, arith, rules, ap, sym, ◌∙◌}
use Rattle.clock_gate.specs.declared.trace.Trace.{Trace}
use Rattle.interval_now.specs.declared.answers.Answer.TheVariants.{Busy}
use Rattle.lawful_report.specs.declared.call.Call.{Call}
use Rattle.lawful_report.specs.declared.seen.Seen.{Seen}
use Rattle.lawful_report.specs.Course.{Course}
use Rattle.lawful_report.specs.Calls.{IsBusy}
use Rattle.lawful_report.specs.Lines.{answered_line}
use Rattle.report_audit.specs.Numbers.{numbers_in}
use Rattle.report_audit.proofs.LineNumbers.{busy_six}
use Rattle.report_audit.proofs.AnswerKinds.{no_busy}
use Rattle.report_audit.proofs.SmallNumbers.{failing_small}
use Rattle.report_audit.proofs.failed_answers.busy_answer.Goals as goal

-- the numbers that were read are those of the line
record Reads (numbers : List ℕ) (first last : ℕ) : Type 0 where
  first_is : slice_index_or numbers 3 0 ≡ first
  last_is : slice_index_or numbers 4 0 ≡ last
  first_small : first < 2 ^ 32
  last_small : last < 2 ^ 32

read : (trace : Trace) (course : Course) (call : Call) (seen after : Seen) (numbers text later : List ℕ) (first last : ℕ) → numbers ≡ numbers_in 5 text → call.client < 2 ^ 32 → call.number < 2 ^ 32 → call.tries < 2 ^ 32
    → IsBusy trace course seen first last after → text ≡ answered_line call.client call.number 0 (Busy call.tries first last) ++ later → Reads numbers first last
read trace course call seen after numbers text later first last same c k t busy is =
    let small = failing_small trace.layout seen.point course.point first last after.point busy.found in
    let six = busy_six call.client call.number call.tries 0 first last text later c k t (omega (arith, small.0)) (omega (arith, small.1)) is in
    record {
      first_is = ap (λ (ns : List ℕ). slice_index_or ns 3 0) same ∙ six.0;
      last_is = ap (λ (ns : List ℕ). slice_index_or ns 4 0) same ∙ six.1;
      first_small = small.0;
      last_small = small.1;
    }

pub returns-in_default : goal.returns-in_default
returns-in_default c course point = no_busy c.args.trace.now course c.args.call c.args.seen c.args.text.now (λ first last after later busy begins.
    let is = read c.args.trace.now course c.args.call c.args.seen after c.args.numbers c.args.text.now later first last c.requires.numbers (search rules) (search rules) (search rules) busy begins in
    c.in_default.ensures (omega (arith, is.first_is, is.first_small)))

pub returns-in_default-try_from : goal.returns-in_default-try_from
returns-in_default-try_from c course point = no_busy c.args.trace.now course c.args.call c.args.seen c.args.text.now (λ first last after later busy begins.
    let is = read c.args.trace.now course c.args.call c.args.seen after c.args.numbers c.args.text.now later first last c.requires.numbers (search rules) (search rules) (search rules) busy begins in
    c.in_default-try_from.ensures (omega (arith, is.last_is, is.last_small)))

pub returns-in_default-busy_point : goal.returns-in_default-busy_point
returns-in_default-busy_point c course point = no_busy c.args.trace.now course c.args.call c.args.seen c.args.text.now (λ first last after later busy begins.
    let is = read c.args.trace.now course c.args.call c.args.seen after c.args.numbers c.args.text.now later first last c.requires.numbers (search rules) (search rules) (search rules) busy begins in
    let first_same : c.from.result ≡ first = c.from.ensures ∙ (c.in-Ok.ensures.1 ∙ is.first_is) in
    let last_same : c.from-2.result ≡ last = c.from-2.ensures ∙ (c.in-Ok-try_from.ensures.1 ∙ is.last_is) in
    c.in_default-busy_point.ensures after.point (rw (c.period-period.ensures.value, first_same, last_same, sym point) busy.found))

pub returns-in-None : goal.returns-in-None
returns-in-None c course point = no_busy c.args.trace.now course c.args.call c.args.seen c.args.text.now (λ first last after later busy begins.
    let is = read c.args.trace.now course c.args.call c.args.seen after c.args.numbers c.args.text.now later first last c.requires.numbers (search rules) (search rules) (search rules) busy begins in
    (rw c.in-None.is at c.after_answer.ensures.other) later (rw (c.in-Ok.ensures.1 ∙ is.first_is, c.in-Ok-try_from.ensures.1 ∙ is.last_is) begins))
