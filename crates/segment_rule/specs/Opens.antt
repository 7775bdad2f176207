-- The daemon's opening: its stores, and what is in hand.
use Rattle.std.specs.Prelude.{◌≡◌, ◌≢◌, ◌⊎◌, ℕ, ◌+◌, ◌%◌, ◌^◌, ◌<◌, ◌==◌, Bool, true, false, if◌then◌else◌, [], ◌∷◌, ◌++◌, Option, Some, None}
use Rattle.clock_gate.specs.Acts.{Wanted, replayed}
use Rattle.generation_word.specs.Header.{word1_of}
use Rattle.segment_layout.specs.declared.words.TheConstants.{MAGIC}
use Rattle.segment_layout.specs.declared.start.Start.{Start}
use Rattle.segment_layout.specs.declared.start.Start.TheVariants.{Fresh, Kept, Torn}
use Rattle.segment_layout.specs.History.{History}
use Rattle.segment_layout.specs.Image.{generation_of_start, is_old_header}
use Rattle.segment_run.specs.SegmentRun.{SegmentRun, published_at, headed, opened_update, moved_once, number_at, number_shown, header_shown, start_found, no_publication}
use Rattle.generation_word.specs.Header.{generation_in}
use Rattle.segment_run.specs.ShowsSegment.{IsSegment}
use Rattle.writer_reopen.specs.declared.opening.Opening.{Opening}
use Rattle.writer_reopen.specs.Opening.{moved_to, new_opener, opening_act, opening_given, opening_end}
use Rattle.segment_views.specs.Views.{DaemonPart, SeatView, no_update, point_of}
use Rattle.segment_views.specs.Steps.{Tells, TellsDaemonPart, HasMagic, with_magic, with_head, move_begun, move_ended, calls_of}
use Rattle.segment_views.specs.Shown.{touches_of, IsSoundCall, PointsFollow}
use Rattle.atomic_table.specs.Seated.{TableId}
use Rattle.segment_rule.specs.Ruled.{Either}

-- a store of the opening: the magic, the header with the number that stands there, or the odd or the even number of the move
abbrev pub is_header : SeatView → ℕ → Bool
is_header v n = n == word1_of v.setup.layout (number_shown v.daemon_part.segment)

abbrev pub TellsOpen : ℕ → Tells
TellsOpen i v found left w =
    Either (i == 0) (TellsDaemonPart with_magic 0 v found left w)
    (Either (is_header v left) (TellsDaemonPart with_head 1 v found left w)
    (Either (generation_in left % 2 == 1) (TellsDaemonPart move_begun 1 v found left w) (TellsDaemonPart move_ended 1 v found left w)))

abbrev pub MayOpen : ℕ → ℕ → SeatView → Type 0
MayOpen i n v =
    Either (i == 0) (n ≡ MAGIC)
    (Either (is_header v n) ((i ≡ 1) × HasMagic v.daemon_part × ((v.daemon_part.segment.is_writing ≡ true) ⊎ (v.daemon_part.segment.position ≡ 0)))
    (Either (generation_in n % 2 == 1)
    ((i ≡ 1) × (v.daemon_part.segment.is_writing ≡ false) × (v.daemon_part.segment.base < v.daemon_part.segment.position) × (n ≡ word1_of v.setup.layout (number_at v.daemon_part.segment v.daemon_part.segment.position + 1)))
    ((i ≡ 1) × (v.daemon_part.hand.moves ≡ true) × (n ≡ word1_of v.setup.layout (number_at v.daemon_part.segment (v.daemon_part.segment.position + 1))))))

-- what the daemon owns by itself
pub record IsDaemonPart (v : SeatView) : Type 0 where
  pub is : IsSegment v.daemon_part.segment
  pub layout : v.daemon_part.segment.layout ≡ v.setup.layout
  pub fits : header_shown v.daemon_part.segment < 2 ^ 64

-- the daemon's seat: its table, its view, and whether it is open
pub record DaemonState : Type 0 where
  pub table : TableId
  pub view : SeatView
  pub is_open : Bool

abbrev pub daemon_state : TableId → SeatView → Bool → DaemonState
daemon_state t v o = record { table = t; view = v; is_open = o }

-- word 1 has this generation, and isn't 0
abbrev pub OpenAt : (generation : ℕ) → SeatView → Type 0
OpenAt generation v = (generation ≡ number_shown v.daemon_part.segment) × (header_shown v.daemon_part.segment ≢ 0)

abbrev pub marked_of : DaemonPart → DaemonPart
marked_of s = record s { stored_magic = true }

abbrev pub headed_of : DaemonPart → DaemonPart
headed_of s = record { segment = headed s.segment; stored_magic = s.stored_magic; hand = no_update }

abbrev pub move_of : DaemonPart → DaemonPart
move_of s = record { segment = opened_update s.segment; stored_magic = s.stored_magic; hand = record { publication = no_publication; stores = 0; moves = true } }

abbrev pub moved_of : DaemonPart → DaemonPart
moved_of s = record { segment = moved_once s.segment; stored_magic = s.stored_magic; hand = no_update }

-- what an opening leaves that finds this
abbrev pub opened_of : Start → (old : Bool) → DaemonPart → DaemonPart
opened_of Fresh old s = headed_of (marked_of s)
opened_of (Torn generation) old s = if old then headed_of s else s
opened_of (Kept generation rec) old s = if old then moved_of (move_of s) else s

-- the generation that an opening leaves in word 1
abbrev pub generation_by : Option ℕ → Start → ℕ
generation_by None start = generation_of_start start
generation_by (Some generation) start = generation

abbrev pub generation_after : Opening → ℕ
generation_after opening = generation_by opening.moved opening.start

-- the number of the move, where an opening under an old header finds a record
abbrev pub moved_by : Start → (old : Bool) → ℕ → Option ℕ
moved_by Fresh old generation = None
moved_by (Torn number) old generation = None
moved_by (Kept number rec) old generation = moved_to old generation

-- the history after an opening: the record at the position is appended once more where it was moved, and nothing else changes
abbrev pub history_opened : Option ℕ → SegmentRun → History
history_opened None segment = segment.history
history_opened (Some generation) segment = segment.history ++ published_at segment segment.position ∷ []

-- an opening: it adds a call, which begins with what was seen, and whose steps are those of the machine for the values that it loaded and
-- stored, and its answer is the machine's. Its start is what the segment held by its point and its history
pub record Reopens (v : SeatView) (opening : Opening) (w : SeatView) : Type 0 where
  pub setup : w.setup ≡ v.setup
  pub calls : w.calls ≡ calls_of v
  pub before : w.before ≡ v.seen
  pub steps : Wanted opening_act opening_given (new_opener v.setup.layout) (touches_of w.steps)
  pub answer : opening_end (replayed opening_act opening_given (new_opener v.setup.layout) (touches_of w.steps)) ≡ Some opening
  pub start : opening.start ≡ start_found v.daemon_part.segment
  pub sound : IsSoundCall w
  pub points : PointsFollow (point_of v.daemon_part.segment) w.steps (point_of w.daemon_part.segment)
  pub moved : opening.moved ≡ moved_by (start_found v.daemon_part.segment) (is_old_header v.daemon_part.segment.layout (header_shown v.daemon_part.segment)) (number_shown v.daemon_part.segment)
  pub history : w.daemon_part.segment.history ≡ history_opened opening.moved v.daemon_part.segment
  pub daemon_part : w.daemon_part ≡ opened_of (start_found v.daemon_part.segment) (is_old_header v.daemon_part.segment.layout (header_shown v.daemon_part.segment)) v.daemon_part
