-- A poll as a machine: where it stands, and what one more value makes of it.
use Rattle.std.specs.Prelude.{◌≡◌, ◌⊎◌, ℕ, ◌+◌, ◌-◌, ◌*◌, ◌<◌, ◌≤◌, true, if◌then◌else◌, List, Option, Some, None, IfSome, is_some}
use Rattle.generation_word.specs.Layout.{period_of}
use Rattle.clock_gate.specs.declared.act.Act.{Act}
use Rattle.clock_gate.specs.declared.act.Act.TheVariants.{Load, Store, End}
use Rattle.clock_gate.specs.declared.clock_row.ClockRow.{ClockRow}
use Rattle.clock_gate.specs.declared.clock_row.Reading.{Reading}
use Rattle.clock_gate.specs.declared.limits.TheConstants.{LAST_MOMENT, MOST_DRIFT, MOST_STORES, MOST_TRIES}
use Rattle.seqlock.specs.Tries.{SeqlockRead, started, IsStage, steps_left}
use Rattle.vmclock_page.specs.declared.page_seen.PageSeen.{PageSeen}
use Rattle.vmclock_page.specs.declared.page_seen.PageSeen.TheVariants.{Marker, Busy}
use Rattle.vmclock_page.specs.PageRead as page
use Rattle.vmclock_page.specs.PageRead.{page_lock}
use Rattle.segment_layout.specs.declared.publication.Publication.{Publication}
use Rattle.segment_layout.specs.Words.{IsGoodWord}
use Rattle.status_machine.specs.declared.daemon.Daemon.{Daemon}
use Rattle.status_machine.specs.Poll.{BaseFits}
use Rattle.shm_writer.specs.Publisher.{Publishing, new_publishing, publishing_given}
use Rattle.writer_reopen.specs.declared.order.Order.{Order}
use Rattle.writer_reopen.specs.declared.polled.Polled.{Polled}
use Rattle.writer_reopen.specs.declared.polled.Polled.TheVariants.{Published, Skipped, Stopped}
use Rattle.writer_reopen.specs.declared.stage.Stage.{Stage}
use Rattle.writer_reopen.specs.declared.stage.Stage.TheVariants.{Asking, Looking, Taking, Storing}
use Rattle.writer_reopen.specs.declared.stage.Taken.{Taken}
use Rattle.writer_reopen.specs.declared.stage.TheConstants.{CLOCK_WORD}
use Rattle.writer_reopen.specs.Poll.{reading_at, taken_for, storing_of}
use Rattle.writer_reopen.specs.Progress.{Progress, Asks, Ends, act_of, end_of}

-- a poll: what it was begun with, and where it stands
pub record Polling : Type 0 where
  pub order : Order
  pub stage : Stage

abbrev pub new_polling : Order → Polling
new_polling order = record { order = order; stage = Asking }

-- the reader's act; where its tries all failed the poll is skipped, and with the marker it asks for the clock
abbrev pub looking_by : Act → Option PageSeen → Progress Polled
looking_by act None = Asks act
looking_by act (Some (Busy first last)) = Ends (Skipped first last)
looking_by act (Some (Marker marker sequence)) = Asks (Load CLOCK_WORD)

abbrev pub stage_progress : Order → Stage → Progress Polled
stage_progress order Asking = Asks (Load CLOCK_WORD)
stage_progress order (Looking asked read) = looking_by (page.act_of read) (page.end_of read)
stage_progress order (Taking asked seen) = Asks (Load CLOCK_WORD)
stage_progress order (Storing taken update) = storing_of order taken update.made

abbrev pub polling_progress : Polling → Progress Polled
polling_progress p = stage_progress p.order p.stage

abbrev pub polling_act : Polling → Act
polling_act p = act_of (polling_progress p)

abbrev pub polling_end : Polling → Option Polled
polling_end p = end_of (polling_progress p)

-- the look at the page ends with the marker
abbrev pub stage_seen : Reading → SeqlockRead → Option PageSeen → Stage
stage_seen asked read None = Looking asked read
stage_seen asked read (Some (Busy first last)) = Looking asked read
stage_seen asked read (Some (Marker marker sequence)) = Taking asked (Some (record { marker = marker; sequence = sequence }))

abbrev pub stage_looked : Reading → SeqlockRead → Stage
stage_looked asked read = stage_seen asked read (page.end_of read)

-- the first reading: with support the page is looked at
abbrev pub stage_asked : Order → Reading → Stage
stage_asked order asked = if order.daemon.support then Looking asked (started order.tries) else Taking asked None

-- the reply is taken
abbrev pub stage_taken : Order → Taken → Stage
stage_taken order taken = Storing taken (new_publishing taken.publication.rec order.layout order.generation)

abbrev pub stage_given : List ClockRow → Order → Stage → ℕ → Stage
stage_given clock order Asking value = stage_asked order (reading_at clock value)
stage_given clock order (Looking asked read) value = stage_looked asked (page.given read value)
stage_given clock order (Taking asked seen) value = stage_taken order (taken_for order asked seen value)
stage_given clock order (Storing taken update) value = Storing taken (publishing_given update value)

-- the poll after one more value, by this clock
abbrev pub polling_given : List ClockRow → Polling → ℕ → Polling
polling_given clock p value = record p { stage = stage_given clock p.order p.stage value }

-- no marker was seen yet
abbrev pub IsUnseen : Option PageSeen → Type 0
IsUnseen None = Unit {0}
IsUnseen (Some (Busy first last)) = Unit {0}
IsUnseen (Some (Marker marker sequence)) = ⊥

-- the update is that of what was taken, and no store was made past the stop
pub record IsUpdate (order : Order) (taken : Taken) (update : Publishing) : Type 0 where
  pub same_record : update.rec ≡ taken.publication.rec
  pub same_layout : update.layout ≡ order.layout
  pub same_generation : update.generation ≡ order.generation
  pub most : update.made ≤ MOST_STORES
  pub until : IfSome order.stop (λ stop. update.made ≤ stop)

-- no store was made yet
abbrev pub IsBeforeStores : Stage → Type 0
IsBeforeStores Asking = Unit {0}
IsBeforeStores (Looking asked read) = Unit {0}
IsBeforeStores (Taking asked seen) = Unit {0}
IsBeforeStores (Storing taken update) = ⊥

-- where a poll can stand
abbrev pub IsPollStage : Order → Stage → Type 0
IsPollStage order Asking = Unit {0}
IsPollStage order (Looking asked read) = (order.daemon.support ≡ true) × (IsStage page_lock read × IsUnseen (page.end_of read))
IsPollStage order (Taking asked seen) = is_some seen ≡ order.daemon.support
IsPollStage order (Storing taken update) = IsUpdate order taken update

-- how many steps a poll takes at most from here on
abbrev pub stage_steps : Order → Stage → ℕ
stage_steps order Asking = 3 * order.tries + 12
stage_steps order (Looking asked read) = steps_left page_lock read + 11
stage_steps order (Taking asked seen) = 11
stage_steps order (Storing taken update) = MOST_STORES - update.made

-- what is published, at every stage in which stores are made
abbrev pub stage_entry : Stage → Option Publication
stage_entry Asking = None
stage_entry (Looking asked read) = None
stage_entry (Taking asked seen) = None
stage_entry (Storing taken update) = Some taken.publication

abbrev pub entry_of : Polling → Option Publication
entry_of p = stage_entry p.stage

-- a daemon that can take a poll
pub record DaemonFits (daemon : Daemon) : Type 0 where
  pub drift : daemon.drift ≤ MOST_DRIFT
  pub base : IfSome daemon.base BaseFits

-- what a poll may be begun with
pub record OrderFits (order : Order) : Type 0 where
  pub daemon : DaemonFits order.daemon
  pub numbered : order.generation ≤ 2 * period_of order.layout + 1
  pub stops : IfSome order.stop (λ stop. stop ≤ MOST_STORES)
  pub some_tries : 0 < order.tries
  pub most_tries : order.tries ≤ MOST_TRIES

-- the first reading is of the clock's time, and what was taken can go on
abbrev pub StageFits : Stage → Type 0
StageFits Asking = Unit {0}
StageFits (Looking asked read) = asked.mono ≤ LAST_MOMENT
StageFits (Taking asked seen) = asked.mono ≤ LAST_MOMENT
StageFits (Storing taken update) = DaemonFits taken.daemon

-- a load of the clock, the page's count or its marker, or a store of a good word in words 1 to 9
abbrev pub IsPollAct : Act → Type 0
IsPollAct (Load word) = (word ≡ CLOCK_WORD) ⊎ ((word ≡ 11) ⊎ (word ≡ 12))
IsPollAct (Store word value) = (1 ≤ word) × ((word < 10) × IsGoodWord word value)
IsPollAct End = Unit {0}

-- a daemon that is handed on can take the next poll
abbrev pub PolledFits : Polled → Type 0
PolledFits (Published daemon publication) = DaemonFits daemon
PolledFits (Skipped first last) = Unit {0}
PolledFits (Stopped number) = Unit {0}
