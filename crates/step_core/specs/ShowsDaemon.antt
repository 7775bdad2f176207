-- What the daemon on the shared words shows of the daemon in the abstract run.
use Rattle.std.specs.Prelude.{◌≡◌, ℕ, ◌+◌, ◌<◌, Bool, true, false, List, [], ◌∷◌, ◌++◌, take, slice_index, Option, Some, None, is_some, IfSome}
use Rattle.generation_word.specs.Layout.{period_of}
use Rattle.generation_word.specs.Numbering.{odd_after, even_after}
use Rattle.generation_word.specs.Header.{generation_in}
use Rattle.clock_gate.specs.declared.trace.Trace.{Trace}
use Rattle.clock_gate.specs.ClockRow.{reading_at}
use Rattle.segment_layout.specs.declared.words.TheConstants.{MAGIC}
use Rattle.segment_layout.specs.declared.start.Start.{Start}
use Rattle.segment_layout.specs.declared.start.Start.TheVariants.{Fresh, Kept, Torn}
use Rattle.segment_layout.specs.Image.{generation_of_start, is_old_header}
use Rattle.segment_layout.specs.Record.{KeepsBounds}
use Rattle.segment_layout.specs.Words.{data_words}
use Rattle.segment_layout.specs.History.{Begun}
use Rattle.status_machine.specs.declared.daemon.Daemon.{Daemon}
use Rattle.status_machine.specs.Poll.{heard_of}
use Rattle.status_machine.specs.Step.{ShowsPast}
use Rattle.segment_run.specs.SegmentRun.{SegmentRun, number_at, number_shown, header_shown, published_at, opening_length}
use Rattle.segment_run.specs.ShowsSegment.{HoldsWords}
use Rattle.writer_reopen.specs.declared.order.Order.{Order}
use Rattle.writer_reopen.specs.declared.stage.Stage.{Stage}
use Rattle.writer_reopen.specs.declared.stage.Stage.TheVariants as stages
use Rattle.writer_reopen.specs.Opening.{OpenerState, IsAdmitted}
use Rattle.writer_reopen.specs.Poll.{marker_seen, sequence_seen}
use Rattle.writer_reopen.specs.PollMachine.{DaemonFits}
use Rattle.abstract_run.specs.HostRun.{HostRun}
use Rattle.abstract_run.specs.DaemonRun.{Life, Storing, Work, Resting, Opening, Asking, Looking, Taking, Writing, DaemonRun, poll_row}
use Rattle.step_core.specs.declared.hand.Hand.{Hand}
use Rattle.step_core.specs.declared.hand.Hand.TheVariants as hands
use Rattle.step_core.specs.declared.hand.Job.{Job}
use Rattle.step_core.specs.declared.hand.Resumed.{Resumed}
use Rattle.step_core.specs.declared.marks.PollMarks.{PollMarks}
use Rattle.step_core.specs.SharedDaemon.{DaemonState}
use Rattle.step_core.specs.ShowsHost.{ShowsPageRead}

-- the daemon is where its incarnation has led, which looks at the page where there is one, and what it holds fits a record
pub record IsWhere (trace : Trace) (life : Life) (daemon : Daemon) : Type 0 where
  pub past : ShowsPast life.from life.past daemon
  pub support : life.from.support ≡ is_some trace.page
  pub fits : DaemonFits daemon

abbrev pub IsAlive : Trace → Option Life → Daemon → Type 0
IsAlive trace None daemon = ⊥
IsAlive trace (Some life) daemon = IsWhere trace life daemon

-- between two polls: stopped, or where its incarnation has led, with the number that word 1 shows
abbrev pub ShowsResumed : Trace → SegmentRun → Option Life → Option Resumed → Type 0
ShowsResumed trace segment None None = Unit {0}
ShowsResumed trace segment (Some life) (Some resumed) = IsWhere trace life resumed.daemon × (resumed.generation ≡ number_shown segment)
ShowsResumed trace segment life resumed = ⊥

-- what the poll in hand was given
pub record IsJob (trace : Trace) (daemon : DaemonRun) (job : Job) : Type 0 where
  pub heard : job.heard ≡ heard_of (poll_row trace daemon).reply
  pub stop : job.stop ≡ (poll_row trace daemon).stop

-- ---- an opening

-- the words after the first two that an opening is given, 0 for each store
abbrev pub given_after : Start → List ℕ
given_after Fresh = 0 ∷ 0 ∷ []
given_after (Torn generation) = 0 ∷ []
given_after (Kept generation rec) = data_words rec ++ 0 ∷ 0 ∷ []

-- where the segment stands in an opening that found this, after so many steps: only a move changes it, and not the data words
abbrev pub StandsIn : SegmentRun → Start → (old : Bool) → (steps : ℕ) → Type 0
StandsIn segment Fresh old steps = (segment.position ≡ 0) × (segment.is_writing ≡ false)
StandsIn segment (Torn generation) old steps = (segment.is_writing ≡ true) × (generation ≡ number_shown segment)
StandsIn segment (Kept generation rec) old steps =
    (segment.base < segment.position) × ((generation ≡ number_at segment segment.position) × ((rec ≡ (published_at segment segment.position).rec)
    × ((steps < 11 → segment.is_writing ≡ false) × (steps ≡ 11 → (segment.is_writing ≡ true) × ((segment.is_headed ≡ true) × HoldsWords segment rec)))))

-- word 0 is the magic after so many steps of an opening that found this: a fresh one stores it with its third step, and before
-- that it may be 0
abbrev pub HasMagicIn : Start → (steps : ℕ) → List ℕ → Type 0
HasMagicIn Fresh steps words = 2 < steps → slice_index words 0 ≡ MAGIC
HasMagicIn start steps words = slice_index words 0 ≡ MAGIC

-- an opening that loaded this header; what it loads begins an image that is admitted
pub record ShowsOpening (trace : Trace) (segment : SegmentRun) (start : Start) (old : Bool) (steps : ℕ) (opener : OpenerState) : Type 0 where
  pub first : ℕ
  pub header : ℕ
  pub same_layout : opener.layout ≡ trace.layout
  pub values : opener.values ≡ take steps (first ∷ header ∷ given_after start)
  pub begun : 0 < steps
  pub few : steps < opening_length old start
  pub is_old : old ≡ is_old_header trace.layout header
  pub tells : generation_in header ≡ generation_of_start start
  pub admitted : IsAdmitted trace.layout (first ∷ header ∷ given_after start)
  pub stands : StandsIn segment start old steps
  -- word 1 is stored by the last step, and in a move by the last two
  pub unchanged : steps < 11 → header_shown segment ≡ header
  pub unheaded : old ≡ true → steps < 11 → segment.is_headed ≡ false

-- ---- a poll

-- what the machine was begun with, but for the daemon
pub record IsOrder (trace : Trace) (run : DaemonRun) (order : Order) : Type 0 where
  pub layout : order.layout ≡ trace.layout
  pub number : order.number ≡ run.polled
  pub heard : order.heard ≡ heard_of (poll_row trace run).reply
  pub stop : order.stop ≡ (poll_row trace run).stop
  pub tries : order.tries ≡ trace.tries

-- before its reply is taken: the daemon is where the incarnation has led, and the number that word 1 shows is the machine's
pub record IsUntaken (trace : Trace) (segment : SegmentRun) (run : DaemonRun) (order : Order) : Type 0 where
  pub order_is : IsOrder trace run order
  pub alive : IsAlive trace run.life order.daemon
  pub numbered : order.generation ≡ number_shown segment

-- the first store was made as often as the newest publication says
abbrev pub IsBegun : Storing → List Begun → Type 0
IsBegun storing begun = 0 < storing.stores → (older : List Begun) × (begun ≡ record { rec = storing.publication.rec; stores = storing.stores } ∷ older)

-- in its stores
pub record IsStoring (trace : Trace) (segment : SegmentRun) (run : DaemonRun) (storing : Storing) (order : Order) (daemon : Daemon) : Type 0 where
  pub order_is : IsOrder trace run order
  pub alive : IsAlive trace run.life daemon
  pub odd : odd_after order.generation ≡ number_at segment segment.position + 1
  pub even : even_after (period_of order.layout) order.generation ≡ number_at segment (segment.position + 1)
  pub told : storing.publication.generation ≡ number_at segment (segment.position + 1)
  pub writes : 0 < storing.stores → (segment.is_writing ≡ true) × (segment.is_headed ≡ true)
  pub begun : IsBegun storing segment.begun
  pub few : storing.stores < 10
  pub until : IfSome (poll_row trace run).stop (λ stop. storing.stores < stop)
  pub bounds : KeepsBounds storing.publication.rec.as_of storing.publication.rec.void_after storing.publication.rec.bound storing.publication.rec.drift

pub record IsMarkedAt (marked_at : ℕ) (marks : PollMarks) : Type 0 where
  pub asked : marks.has_asked ≡ true
  pub marked : marks.marked_at ≡ marked_at

-- a stage of the poll machine shows the work
abbrev pub ShowsPoll : Trace → HostRun → SegmentRun → DaemonRun → Work → Order → Stage → PollMarks → Type 0
ShowsPoll trace host segment run Asking order stages.Asking marks =
    IsUntaken trace segment run order × (marks.has_asked ≡ false)
ShowsPoll trace host segment run (Looking row reading marked_at) order (stages.Looking asked read) marks =
    IsUntaken trace segment run order × ((asked ≡ reading_at trace.clock row) × (IsMarkedAt marked_at marks
    × (ShowsPageRead trace.page trace.host host trace.tries reading read × (is_some trace.page ≡ true))))
ShowsPoll trace host segment run (Taking before) order (stages.Taking asked seen) marks =
    IsUntaken trace segment run order × ((asked ≡ reading_at trace.clock before.row) × (IsMarkedAt before.marked_at marks
    × ((marker_seen seen ≡ before.marker) × ((sequence_seen seen ≡ before.sequence) × (is_some before.marker ≡ is_some trace.page)))))
ShowsPoll trace host segment run (Writing storing) order (stages.Storing taken update) marks =
    IsStoring trace segment run storing order taken.daemon × ((taken.publication ≡ storing.publication)
    × ((update ≡ record { rec = storing.publication.rec; layout = order.layout; generation = order.generation; made = storing.stores })
    × (IsMarkedAt storing.marked_at marks × (marks.replied_at ≡ storing.replied_at))))
ShowsPoll trace host segment run work order machine marks = ⊥

-- what is in hand shows the work
abbrev pub ShowsWork : Trace → HostRun → SegmentRun → DaemonRun → Work → Hand → Type 0
ShowsWork trace host segment run Resting hands.Resting = Unit {0}
ShowsWork trace host segment run (Opening start old steps) (hands.Opening reopening) =
    ShowsOpening trace segment start old steps reopening.machine × IsJob trace run reopening.job
ShowsWork trace host segment run work (hands.Polling polling) =
    (polling.stop ≡ (poll_row trace run).stop) × ShowsPoll trace host segment run work polling.machine.order polling.machine.stage polling.marks
ShowsWork trace host segment run work hand = ⊥

-- between two polls the daemon stands by itself; a poll that is skipped leaves it, and an opening finds it stopped
abbrev pub ShowsIdle : Trace → SegmentRun → Work → Option Life → Option Resumed → Type 0
ShowsIdle trace segment (Opening start old steps) life resumed = Unit {0}
ShowsIdle trace segment (Writing storing) life resumed = Unit {0}
ShowsIdle trace segment work life resumed = ShowsResumed trace segment life resumed

pub record ShowsDaemon (trace : Trace) (host : HostRun) (segment : SegmentRun) (run : DaemonRun) (daemon : DaemonState) : Type 0 where
  pub same_polled : daemon.polled ≡ run.polled
  pub same_base : daemon.base ≡ run.base
  pub same_position : daemon.position ≡ segment.position
  pub work : ShowsWork trace host segment run run.work daemon.hand
  pub idle : ShowsIdle trace segment run.work run.life daemon.resumed

-- word 0 is the magic while the daemon lives, and in an opening from its third step on
abbrev pub HasMagicWhile : Work → Option Life → List ℕ → Type 0
HasMagicWhile (Opening start old steps) life words = HasMagicIn start steps words
HasMagicWhile work None words = Unit {0}
HasMagicWhile work (Some life) words = slice_index words 0 ≡ MAGIC

abbrev pub HasMagicFor : DaemonRun → List ℕ → Type 0
HasMagicFor run words = HasMagicWhile run.work run.life words
