use Rattle.std.proofs.Common.{◌≡◌, ◌<◌, ◌^◌, ℕ, List, ◌++◌, slice_index_or, arith, rules, ap, ◌∙◌}
use Rattle.clock_gate.specs.declared.trace.Trace.{Trace}
use Rattle.interval_now.specs.declared.answers.Answer.TheVariants.{PageBusy}
use Rattle.lawful_report.specs.declared.call.Call.{Call}
use Rattle.lawful_report.specs.declared.seen.Seen.{Seen}
use Rattle.lawful_report.specs.Calls.{IsPageBusy}
use Rattle.lawful_report.specs.Lines.{answered_line}
use Rattle.report_audit.specs.Numbers.{numbers_in}
use Rattle.report_audit.proofs.LineNumbers.{page_busy_six}
use Rattle.report_audit.proofs.AnswerKinds.{no_page_busy}
use Rattle.report_audit.proofs.failed_answers.page_busy_answer.Goals as goal

-- the numbers that were read are those of the line
read : (trace : Trace) (call : Call) (seen after : Seen) (numbers text later : List ℕ) (first last : ℕ) → numbers ≡ numbers_in 5 text → call.client < 2 ^ 32 → call.number < 2 ^ 32 → IsPageBusy trace seen first last after
    → text ≡ answered_line call.client call.number 0 (PageBusy first last) ++ later → (slice_index_or numbers 2 0 ≡ first) × (slice_index_or numbers 3 0 ≡ last)
read trace call seen after numbers text later first last same c k busy is =
    let six = page_busy_six call.client call.number 0 first last text later c k (omega (arith, busy.fails.first_fits)) (omega (arith, busy.fails.last_fits)) is in
    (ap (λ (ns : List ℕ). slice_index_or ns 2 0) same ∙ six.0, ap (λ (ns : List ℕ). slice_index_or ns 3 0) same ∙ six.1)

pub returns-in_default : goal.returns-in_default
returns-in_default c trace course knows = no_page_busy trace course c.args.call c.args.seen c.args.text.now (λ first last after later busy begins.
    let is = read trace c.args.call c.args.seen after c.args.numbers c.args.text.now later first last c.requires.numbers (search rules) (search rules) busy begins in
    c.in_default.ensures (omega (arith, is.0, busy.fails.first_fits)))

pub returns-in_default-try_from : goal.returns-in_default-try_from
returns-in_default-try_from c trace course knows = no_page_busy trace course c.args.call c.args.seen c.args.text.now (λ first last after later busy begins.
    let is = read trace c.args.call c.args.seen after c.args.numbers c.args.text.now later first last c.requires.numbers (search rules) (search rules) busy begins in
    c.in_default-try_from.ensures (omega (arith, is.1, busy.fails.last_fits)))

pub returns-in_default-page_after : goal.returns-in_default-page_after
returns-in_default-page_after c trace course knows = no_page_busy trace course c.args.call c.args.seen c.args.text.now (λ first last after later busy begins.
    let is = read trace c.args.call c.args.seen after c.args.numbers c.args.text.now later first last c.requires.numbers (search rules) (search rules) busy begins in
    c.in_default-page_after.ensures trace knows (rw (c.in-Ok.ensures.1 ∙ is.0, c.in-Ok-try_from.ensures.1 ∙ is.1) busy.fails))

pub returns-in-None : goal.returns-in-None
returns-in-None c trace course knows = no_page_busy trace course c.args.call c.args.seen c.args.text.now (λ first last after later busy begins.
    let is = read trace c.args.call c.args.seen after c.args.numbers c.args.text.now later first last c.requires.numbers (search rules) (search rules) busy begins in
    (rw c.in-None.is at c.after_answer.ensures.other) later (rw (c.in-Ok.ensures.1 ∙ is.0, c.in-Ok-try_from.ensures.1 ∙ is.1) begins))
