-- The line that stands next, found at the head of a text by an auditor that shows a standing.
use Rattle.std.specs.Prelude.{◌≡◌, ◌≢◌, ℕ, ◌+◌, Bool, if◌then◌else◌, List, ◌++◌, drop, Option, Some, None}
use Rattle.std.specs.Borrow.{Bor}
use Rattle.clock_gate.specs.declared.trace.Trace.{Trace}
use Rattle.lawful_report.specs.declared.counts.Counts.{Counts}
use Rattle.lawful_report.specs.declared.printed.Printed.{Printed}
use Rattle.lawful_report.specs.Course.{Course, ended}
use Rattle.lawful_report.specs.Lawful.{Due, Heading, Opening, Moving, Polling, Stopping, Answering, Finished, Standing, going_on, Follows}
use Rattle.lawful_report.specs.Lines.{line_text, skipped_line}
use Rattle.lawful_report.specs.Pages.{PageTriesFail}
use Rattle.report_audit.specs.Auditor.{ShowsCourse}
use Rattle.report_audit.specs.declared.auditor.Auditor.{Auditor}
use Rattle.report_audit.specs.declared.due.Due.{Due as Kind}
use Rattle.report_audit.specs.declared.due.Due.TheVariants as dues
use Rattle.report_audit.specs.declared.known.Known.{Known}

-- a standing where this is due
abbrev pub at : Course → Counts → Due → Standing
at course counts due = record { course = course; counts = counts; due = due }

-- the auditor holds this course and these counts
pub record Holds (course : Course) (counts : Counts) (auditor : Auditor) : Type 0 where
  pub course_is : ShowsCourse course auditor.progress
  pub counts_are : counts ≡ auditor.counts

-- and waits for the same kind of line
abbrev pub ShowsDue : Known → Due → Kind → Type 0
ShowsDue known Heading dues.Heading = Unit {0}
ShowsDue known Opening dues.Opening = Unit {0}
ShowsDue known Moving dues.Moving = Unit {0}
ShowsDue known Polling dues.Polling = Unit {0}
ShowsDue known Stopping dues.Stopping = Unit {0}
ShowsDue known (Answering seen calls) (dues.Answering view place) = (seen ≡ view) × (calls ≡ drop place known.calls)
ShowsDue known Finished dues.Finished = Unit {0}
ShowsDue known due kind = ⊥

pub record ShowsStanding (known : Known) (standing : Standing) (auditor : Auditor) : Type 0 where
  pub holds : Holds standing.course standing.counts auditor
  pub due_is : ShowsDue known standing.due auditor.due

-- a line that may stand next begins the text: the auditor shows where it leads, and this follows it
pub record Taken (trace : Trace) (known : Known) (standing : Standing) (text : List ℕ) (auditor : Auditor) (later : List ℕ) : Type 0 where
  pub line : Printed
  pub after : Standing
  pub follows : Follows trace standing line after
  pub begins : text ≡ line_text line ++ later
  pub shows : ShowsStanding known after auditor

-- no line that may stand next begins the text
abbrev pub NoLine : Trace → Standing → List ℕ → Type 0
NoLine trace standing text = (line : Printed) (after : Standing) (later : List ℕ) → Follows trace standing line after → text ≢ line_text line ++ later

abbrev pub NextFound : Trace → Known → Standing → List ℕ → Option (Bor (List ℕ)) → Auditor → Type 0
NextFound trace known standing text None auditor = NoLine trace standing text
NextFound trace known standing text (Some later) auditor = Taken trace known standing text auditor later.now

-- the poll that is next isn't skipped
abbrev pub NoSkip : Trace → Course → List ℕ → Type 0
NoSkip trace course text = (first last : ℕ) (later : List ℕ) → PageTriesFail trace course.page first last → text ≢ skipped_line (course.polled + 1) first last ++ later

-- after a publication, where the daemon stops or goes on
abbrev pub published_by : Trace → Counts → (stops : Bool) → Course → Standing
published_by trace counts stops course = if stops then at (ended course) counts Stopping else going_on trace counts course
