-- The daemon's poll: its stores, and what a poll leaves.
use Rattle.std.specs.Prelude.{◌≡◌, ◌≢◌, ◌↔◌, ℕ, ◌+◌, ◌*◌, ◌%◌, ◌<◌, ◌≤◌, ◌==◌, Bool, true, false, List, [], ◌∷◌, ◌++◌, length, slice_index, Option, Some, None, is_some, unwrap_or, if◌then◌else◌}
use Rattle.clock_gate.specs.declared.clock_row.ClockRow.{ClockRow}
use Rattle.clock_gate.specs.declared.limits.TheConstants.{MOST_STORES}
use Rattle.clock_gate.specs.Acts.{Touch, Wanted, replayed, values_of, stores_in}
use Rattle.generation_word.specs.Header.{word1_of, generation_in}
use Rattle.segment_layout.specs.declared.publication.Publication.{Publication}
use Rattle.segment_layout.specs.History.{History}
use Rattle.segment_layout.specs.Record.{KeepsBounds}
use Rattle.segment_layout.specs.Words.{record_words}
use Rattle.seqlock.specs.Tries.{end_of, read_of}
use Rattle.vmclock_page.specs.declared.page_seen.PageSeen.{PageSeen}
use Rattle.vmclock_page.specs.declared.page_seen.PageSeen.TheVariants.{Marker, Busy}
use Rattle.vmclock_page.specs.PageRead.{page_lock, page_seen}
use Rattle.vmclock_page.specs.Host.{count_of}
use Rattle.vmclock_page.specs.Counting.{page_number_of}
use Rattle.status_machine.specs.declared.daemon.Daemon.{Daemon}
use Rattle.status_machine.specs.declared.heard.Heard.{Heard}
use Rattle.segment_run.specs.SegmentRun.{SegmentRun, number_at, number_shown, header_shown, no_publication}
use Rattle.segment_views.specs.Views.{SeatView, point_of}
use Rattle.segment_views.specs.Steps.{Tells, TellsDaemonPart, HasMagic, update_begun, update_filled, update_ended, calls_of}
use Rattle.segment_views.specs.Shown.{touches_of, IsSoundCall, PointsFollow}
use Rattle.writer_reopen.specs.declared.order.Order.{Order}
use Rattle.writer_reopen.specs.declared.polled.Polled.{Polled}
use Rattle.writer_reopen.specs.declared.polled.Polled.TheVariants.{Published, Skipped, Stopped}
use Rattle.writer_reopen.specs.Poll.{AreRows}
use Rattle.writer_reopen.specs.PollMachine.{OrderFits, Polling, new_polling, polling_act, polling_given, polling_end, entry_of}
use Rattle.segment_rule.specs.Ruled.{Either}
use Rattle.segment_rule.specs.Opens.{IsDaemonPart, OpenAt}

-- ---- one store

-- what is published, where the machine has come to its stores
abbrev pub entry_in : Polling → Publication
entry_in p = unwrap_or (entry_of p) no_publication

-- a store of a publication tells of what kind it is: the odd number, one of its words, or the even number
abbrev pub TellsPoll : Publication → ℕ → Tells
TellsPoll e i v found left w =
    Either (i == 1) (Either (generation_in left % 2 == 1) (TellsDaemonPart (update_begun e) 1 v found left w) (TellsDaemonPart update_ended 1 v found left w))
    (TellsDaemonPart (update_filled i) i v found left w)

abbrev pub MayPoll : Publication → ℕ → ℕ → SeatView → Type 0
MayPoll e i n v =
    Either (i == 1)
    (Either (generation_in n % 2 == 1)
    (HasMagic v.daemon_part × (n ≡ word1_of v.setup.layout (number_at v.daemon_part.segment v.daemon_part.segment.position + 1)) × KeepsBounds e.rec.as_of e.rec.void_after e.rec.bound e.rec.drift
    × (e.replied ≤ v.seen.rows) × (2 * page_number_of (count_of v.setup.page) e.sequence ≤ v.seen.page_point))
    ((v.daemon_part.hand.stores ≡ 9) × (n ≡ word1_of v.setup.layout (number_at v.daemon_part.segment (v.daemon_part.segment.position + 1)))))
    ((2 ≤ i) × (i < 10) × (0 < v.daemon_part.hand.stores) × (v.daemon_part.hand.stores + 1 ≡ i) × (n ≡ slice_index (record_words 0 v.daemon_part.hand.publication.rec) i))

-- ---- a poll

-- what the machine of a poll begins with on a seat with this view: the number that word 1 shows among it
abbrev pub order_for : SeatView → Daemon → (number : ℕ) → Heard → (stop : Option ℕ) → (tries : ℕ) → Order
order_for v daemon number heard stop tries =
    record { daemon = daemon; layout = v.setup.layout; generation = number_shown v.daemon_part.segment; number = number; heard = heard; stop = stop; tries = tries }

-- what a poll on the daemon's seat begins with: the order fits, the clock is the table's, the daemon has the table's support, and
-- the number is that of word 1, which isn't 0
pub record MayBegin (clock : List ClockRow) (order : Order) (v : SeatView) : Type 0 where
  pub fits : OrderFits order
  pub rows : AreRows clock
  pub all : length clock ≡ v.setup.rows
  pub support : order.daemon.support ≡ is_some v.setup.page
  pub daemon : v.is_daemon ≡ true
  pub own : IsDaemonPart v
  pub layout : order.layout ≡ v.setup.layout
  pub number : order.generation ≡ number_shown v.daemon_part.segment
  pub header : header_shown v.daemon_part.segment ≢ 0

-- the history after a poll: a finished publication is appended, and nothing else of it changes
abbrev pub history_after : Polled → History → History
history_after (Published daemon publication) history = history ++ publication ∷ []
history_after (Skipped first last) history = history
history_after (Stopped stores) history = history

-- the segment's position after a poll: a finished publication raises it by one
abbrev pub position_after : Polled → ℕ → ℕ
position_after (Published daemon publication) position = position + 1
position_after (Skipped first last) position = position
position_after (Stopped stores) position = position

-- an update is open after a poll that stopped after some of its stores, and none is after a finished publication
abbrev pub writing_after : Polled → Bool → Bool
writing_after (Published daemon publication) is_writing = false
writing_after (Skipped first last) is_writing = is_writing
writing_after (Stopped stores) is_writing = if stores == 0 then is_writing else true

-- word 1 was stored by a poll that made stores
abbrev pub headed_after : Polled → Bool → Bool
headed_after (Published daemon publication) is_headed = true
headed_after (Skipped first last) is_headed = is_headed
headed_after (Stopped stores) is_headed = if stores == 0 then is_headed else true

-- what a poll leaves of the segment beside its history
pub record LeavesSegment (polled : Polled) (old new : SegmentRun) : Type 0 where
  pub layout : new.layout ≡ old.layout
  pub image : new.image ≡ old.image
  pub base : new.base ≡ old.base
  pub position : new.position ≡ position_after polled old.position
  pub writing : new.is_writing ≡ writing_after polled old.is_writing
  pub headed : new.is_headed ≡ headed_after polled old.is_headed

-- the generation of word 1 after a poll that began at this one and goes on
abbrev pub next_generation : (generation : ℕ) → Polled → ℕ
next_generation generation (Published daemon publication) = publication.generation
next_generation generation (Skipped first last) = generation
next_generation generation (Stopped stores) = generation

abbrev pub was_skipped : Polled → Bool
was_skipped (Published daemon publication) = false
was_skipped (Skipped first last) = true
was_skipped (Stopped stores) = false

-- so it has it, and the daemon stops only where it was told to
abbrev pub OpenAfter : (stop : Option ℕ) → (generation : ℕ) → Polled → SeatView → Type 0
OpenAfter stop generation (Published daemon publication) w = OpenAt publication.generation w
OpenAfter stop generation (Skipped first last) w = OpenAt generation w
OpenAfter stop generation (Stopped stores) w = stop ≡ Some stores

-- without a stop the seat stays open, and with one only where the poll was skipped
abbrev pub stays_open : (stop : Option ℕ) → Polled → Bool
stays_open None polled = true
stays_open (Some stop) polled = was_skipped polled

-- a daemon that is handed on has the support that it had
abbrev pub SupportAfter : Bool → Polled → Type 0
SupportAfter support (Published daemon publication) = daemon.support ≡ support
SupportAfter support (Skipped first last) = Unit {0}
SupportAfter support (Stopped stores) = Unit {0}

-- ---- why it answers as it does

-- what the tries of the page come to, which follow on a poll's first load
abbrev pub page_by : (tries : ℕ) → List Touch → Option PageSeen
page_by tries [] = None
page_by tries (first ∷ touches) = page_seen (end_of (read_of page_lock tries 0 0 (values_of touches)))

-- there is a page, and each of its tries failed, the last by these counts
abbrev pub IsPageBusy : Order → List Touch → (first last : ℕ) → Type 0
IsPageBusy order touches first last = (order.daemon.support ≡ true) × (page_by order.tries touches ≡ Some (Busy first last))

-- the marker was seen, where there is a page
abbrev pub IsPageSeen : Order → List Touch → Type 0
IsPageSeen order touches = order.daemon.support ≡ true → (marker sequence : ℕ) × (page_by order.tries touches ≡ Some (Marker marker sequence))

-- how many stores an answer tells
abbrev pub stores_told : Polled → ℕ
stores_told (Published daemon publication) = MOST_STORES
stores_told (Skipped first last) = 0
stores_told (Stopped stores) = stores

-- a poll is skipped exactly where each try of the page failed, and stopped exactly where none stood in its way and the stop is
-- below ten; else it publishes. It made so many stores as it tells: none, so many as the stop says, or all ten
pub record HasCause (order : Order) (touches : List Touch) (polled : Polled) : Type 0 where
  pub skipped : (first last : ℕ) → (polled ≡ Skipped first last) ↔ IsPageBusy order touches first last
  pub stopped : (stores : ℕ) → (polled ≡ Stopped stores) ↔ (order.stop ≡ Some stores) × (stores < MOST_STORES) × IsPageSeen order touches
  pub stores : stores_in touches ≡ stores_told polled

-- a poll of this order: it adds a call, which begins with what was seen, and whose steps are those of the machine for the values that it
-- loaded and stored, and its answer is the machine's
pub record Polls (clock : List ClockRow) (order : Order) (v : SeatView) (polled : Polled) (w : SeatView) : Type 0 where
  pub setup : w.setup ≡ v.setup
  pub calls : w.calls ≡ calls_of v
  pub before : w.before ≡ v.seen
  pub steps : Wanted polling_act (polling_given clock) (new_polling order) (touches_of w.steps)
  pub answer : polling_end (replayed polling_act (polling_given clock) (new_polling order) (touches_of w.steps)) ≡ Some polled
  pub sound : IsSoundCall w
  pub points : PointsFollow (point_of v.daemon_part.segment) w.steps (point_of w.daemon_part.segment)
  pub history : w.daemon_part.segment.history ≡ history_after polled v.daemon_part.segment.history
  pub segment : LeavesSegment polled v.daemon_part.segment w.daemon_part.segment
  pub cause : HasCause order (touches_of w.steps) polled
