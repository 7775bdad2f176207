-- What an auditor knows of the pages of a trace, and what sequence counts of failing tries tell it.
use Rattle.std.specs.Prelude.{◌≡◌, ℕ, Option, Some, None, is_some}
use Rattle.clock_gate.specs.declared.trace.Trace.{Trace}
use Rattle.vmclock_page.specs.Host.{count_of}
use Rattle.lawful_report.specs.Pages.{last_page, page_seen, PageTriesFail}
use Rattle.report_audit.specs.declared.pages.Pages.{Pages}

-- the page that failing tries tell, or that these are no counts of failing tries
abbrev pub PageSeenOrNone : Trace → (page first last : ℕ) → Option ℕ → Type 0
PageSeenOrNone trace page first last None = PageTriesFail trace page first last → ⊥
PageSeenOrNone trace page first last (Some seen) = PageTriesFail trace page first last × (seen ≡ page_seen trace last)

-- whether there are any pages, the start page's sequence count, and the last page
pub record KnowsPages (trace : Trace) (pages : Pages) : Type 0 where
  pub has : is_some trace.page ≡ pages.has_page
  pub start_is : count_of trace.page ≡ pages.start
  pub most_is : last_page trace ≡ pages.most
