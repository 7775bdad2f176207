-- The lines of answers that name no page are the same for each.
use Rattle.std.proofs.Common.{◌≡◌, ℕ, refl}
use Rattle.interval_now.specs.declared.answers.Answer.TheVariants.{Busy, NotInitialized, PageBusy, Causality as Early}
use Rattle.interval_now.specs.declared.answers.Causality.{Causality}
use Rattle.lawful_report.specs.Lines.{answered_line}

pub nothing_on : (client call page : ℕ) → answered_line client call page NotInitialized ≡ answered_line client call 0 NotInitialized
unfolding answered_line
nothing_on client call page = refl

pub busy_on : (client call page tries first last : ℕ) → answered_line client call page (Busy tries first last) ≡ answered_line client call 0 (Busy tries first last)
unfolding answered_line
busy_on client call page tries first last = refl

pub page_busy_on : (client call page first last : ℕ) → answered_line client call page (PageBusy first last) ≡ answered_line client call 0 (PageBusy first last)
unfolding answered_line
page_busy_on client call page first last = refl

pub early_on : (client call page : ℕ) (c : Causality) → answered_line client call page (Early c) ≡ answered_line client call 0 (Early c)
unfolding answered_line
early_on client call page c = refl
