use Rattle.std.proofs.Common.{◌∙◌, ap, ◌++◌, List, ℕ}
use Rattle.interval_now.specs.declared.answers.Answer.TheVariants.{Time, Busy, NotInitialized, PageBusy, Causality as Early}
use Rattle.report_audit.proofs.PageFree.{nothing_on}
use Rattle.report_audit.proofs.failed_answers.nothing_answer.Goals as goal

pub returns-in-None : goal.returns-in-None
returns-in-None c trace course page NotInitialized after later kind may begins =
    (rw c.in-None.is at c.after_answer.ensures.other) later (begins ∙ ap (λ (line : List ℕ). line ++ later) (nothing_on c.args.call.client c.args.call.number page))
returns-in-None c trace course page (Time timed) after later kind may begins = kind
returns-in-None c trace course page (Busy tries first last) after later kind may begins = kind
returns-in-None c trace course page (PageBusy first last) after later kind may begins = kind
returns-in-None c trace course page (Early causality) after later kind may begins = kind
