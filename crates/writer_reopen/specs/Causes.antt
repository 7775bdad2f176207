-- Why a poll gives its answer.
use Rattle.std.specs.Prelude.{◌≡◌, ℕ, ◌<◌, Some}
use Rattle.clock_gate.specs.declared.limits.TheConstants.{MOST_STORES}
use Rattle.segment_layout.specs.declared.publication.Publication.{Publication}
use Rattle.status_machine.specs.declared.daemon.Daemon.{Daemon}
use Rattle.vmclock_page.specs.declared.page_seen.PageSeen.TheVariants.{Busy}
use Rattle.vmclock_page.specs.PageRead.{end_of}
use Rattle.writer_reopen.specs.declared.order.Order.{Order}
use Rattle.writer_reopen.specs.declared.stage.Stage.{Stage}
use Rattle.writer_reopen.specs.declared.stage.Stage.TheVariants.{Asking, Looking, Taking, Storing}

-- the reader of the page is busy by these counts; no store was made yet
abbrev pub IsSkipped : Stage → (first last : ℕ) → Type 0
IsSkipped Asking first last = ⊥
IsSkipped (Looking asked read) first last = end_of read ≡ Some (Busy first last)
IsSkipped (Taking asked seen) first last = ⊥
IsSkipped (Storing taken update) first last = ⊥

-- the stop is this number, below ten, and so many stores were made
abbrev pub IsStopped : Order → Stage → (number : ℕ) → Type 0
IsStopped order Asking number = ⊥
IsStopped order (Looking asked read) number = ⊥
IsStopped order (Taking asked seen) number = ⊥
IsStopped order (Storing taken update) number = (order.stop ≡ Some number) × ((number < MOST_STORES) × (update.made ≡ number))

-- all ten stores were made, of what was taken
abbrev pub IsPublished : Stage → Daemon → Publication → Type 0
IsPublished Asking daemon publication = ⊥
IsPublished (Looking asked read) daemon publication = ⊥
IsPublished (Taking asked seen) daemon publication = ⊥
IsPublished (Storing taken update) daemon publication = (update.made ≡ MOST_STORES) × ((taken.daemon ≡ daemon) × (taken.publication ≡ publication))
