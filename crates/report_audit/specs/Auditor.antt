-- What an auditor knows of a trace, and the standing that it shows.
use Rattle.std.specs.Prelude.{◌≡◌, ℕ, ◌^◌, ◌<◌, ◌≤◌, All, Option, Some, None, IfSome, is_some, slice_get}
use Rattle.clock_gate.specs.declared.trace.Trace.{Trace}
use Rattle.segment_layout.specs.Record.{KeepsBounds}
use Rattle.status_machine.specs.declared.daemon.Daemon.{Daemon}
use Rattle.status_machine.specs.Poll.{BaseFits}
use Rattle.status_machine.specs.Step.{ShowsPast}
use Rattle.lawful_report.specs.declared.counts.Counts.{Counts}
use Rattle.lawful_report.specs.declared.seen.Seen.{Seen}
use Rattle.lawful_report.specs.declared.entry.Entry.{Entry}
use Rattle.lawful_report.specs.Pages.{marker_of_page}
use Rattle.lawful_report.specs.Course.{Course, Life, course_start}
use Rattle.lawful_report.specs.Calls.{calls_of, seen_first}
use Rattle.report_audit.specs.declared.due.Due.{Due}
use Rattle.report_audit.specs.declared.due.Due.TheVariants.{Answering}
use Rattle.report_audit.specs.declared.known.Known.{Known}
use Rattle.report_audit.specs.declared.progress.Progress.{Progress}
use Rattle.report_audit.specs.KnownPages.{KnowsPages}

-- what a client has seen is a row of the clock, and small
pub record SeenFits (seen : Seen) : Type 0 where
  pub point_small : seen.point < 2 ^ 40
  pub row_some : 1 ≤ seen.row
  pub page_small : seen.page < 2 ^ 31

-- ---- of the trace

pub record KnowsTrace (trace : Trace) (known : Known) : Type 0 where
  pub pages : KnowsPages trace known.pages
  pub most : known.pages.most < 2 ^ 31
  pub markers : (page : ℕ) → marker_of_page trace page ≡ slice_get known.markers page
  pub calls : calls_of trace ≡ known.calls
  pub first : seen_first trace ≡ known.first
  pub first_fits : SeenFits known.first

-- ---- of the daemon's lines

-- the daemon is where the polls of its incarnation lead
abbrev pub ShowsLife : Option Life → Option Daemon → Type 0
ShowsLife None None = Unit {0}
ShowsLife None (Some daemon) = ⊥
ShowsLife (Some life) None = ⊥
ShowsLife (Some life) (Some daemon) = ShowsPast life.from life.past daemon

pub record ShowsCourse (course : Course) (progress : Progress) : Type 0 where
  pub polled : course.polled ≡ progress.polled
  pub before_is : course.before ≡ progress.before
  pub entries_are : course.entries ≡ progress.entries.items
  pub point_is : course.point ≡ progress.point
  pub row_is : course.row ≡ progress.row
  pub page_is : course.page ≡ progress.page
  pub life_is : ShowsLife course.life progress.life

-- the record of an entry keeps the bounds of a record
abbrev pub EntryFits : Entry → Type 0
EntryFits entry = KeepsBounds entry.rec.as_of entry.rec.void_after entry.rec.bound entry.rec.drift

-- what the image gives keeps them, and is small
pub record StartIsSmall (trace : Trace) : Type 0 where
  pub entries : All EntryFits (course_start trace).entries
  pub before_small : (course_start trace).before < 2 ^ 32
  pub point_small : (course_start trace).point ≤ 2 ^ 32

-- a daemon that can take a poll of the trace
pub record CanStep (trace : Trace) (daemon : Daemon) : Type 0 where
  pub base : IfSome daemon.base BaseFits
  pub drift : daemon.drift ≤ 1000000000
  pub support : daemon.support ≡ is_some trace.page

-- the sizes that the daemon's lines keep
pub record KeepsSizes (trace : Trace) (progress : Progress) : Type 0 where
  pub polled_few : progress.polled ≤ 100000
  pub before_small : progress.before < 2 ^ 32
  pub point_small : progress.point < 2 ^ 34
  pub row_some : 1 ≤ progress.row
  pub page_small : progress.page < 2 ^ 31
  pub entries : All EntryFits progress.entries.items
  pub life : IfSome progress.life (CanStep trace)

-- ---- of the clients' lines

pub record CountsFit (counts : Counts) : Type 0 where
  pub publications_few : counts.publications ≤ 100000
  pub answers_few : counts.answers ≤ 19200000
  pub times_few : counts.times ≤ 19200000
  pub unknown_few : counts.unknown ≤ 19200000
  pub synchronized_few : counts.synchronized ≤ 19200000
  pub free_running_few : counts.free_running ≤ 19200000
  pub disrupted_few : counts.disrupted ≤ 19200000

abbrev pub DueFits : Due → Type 0
DueFits (Answering seen place) = SeenFits seen
DueFits other = Unit {0}
