-- The kinds of step on the shared words: for each, when a seat may take it, the state and the seat's view after it, and what it
-- tells its caller. A step is one load or one store of one word.
use Rattle.std.specs.Prelude.{◌≡◌, ◌≢◌, ◌⊎◌, ℕ, ◌+◌, ◌-◌, ◌*◌, ◌/◌, ◌%◌, ◌^◌, ◌<◌, ◌≤◌, List, [], ◌∷◌, ◌++◌, length, slice_index, slice_index_or, slice_set, Bool, true, false, is_some}
use mathlib.Core.Option.{some}
use lib.ListN.{get_elem?}
use Rattle.clock_gate.specs.declared.limits.TheConstants.{MOST_HOST_ROWS}
use Rattle.generation_word.specs.Layout.{period_of}
use Rattle.generation_word.specs.Header.{word1_of}
use Rattle.segment_layout.specs.declared.publication.Publication.{Publication}
use Rattle.segment_layout.specs.declared.words.TheConstants.{MAGIC}
use Rattle.segment_layout.specs.Record.{KeepsBounds}
use Rattle.segment_layout.specs.Words.{record_words, IsGoodWord}
use Rattle.segment_layout.specs.Image.{IsHeaderFor}
use Rattle.segment_layout.specs.History.{last_store}
use Rattle.vmclock_page.specs.Host.{count_of}
use Rattle.vmclock_page.specs.Counting.{page_number_of}
use Rattle.segment_run.specs.SegmentRun.{SegmentRun, headed, opened_update, moved_once, ended_update, one_store_more, header_shown, number_shown, number_at, no_publication}
use Rattle.segment_run.specs.ShowsSegment.{IsSegment, IsSegmentLater}
use Rattle.segment_views.specs.declared.setup.Setup.{Setup}
use Rattle.segment_views.specs.Views.{Begins, Step, DaemonPart, HostPart, Seen, SeatView, SegmentTry, PageTry, no_segment_try, no_page_try, no_update, point_of, point_after, page_point_of, number_of_point, base_of, entry_at, segment_try_of, page_try_of}
use Rattle.segment_views.specs.Rule.{SharedState, AreWordsOf, MeetsRule, count_word_at}

abbrev pub Calls : Type 0
Calls = List (List Step)

abbrev pub calls_with : Calls → List Step → Calls
calls_with cs [] = cs
calls_with cs (t ∷ ts) = cs ++ (t ∷ ts) ∷ []

abbrev pub calls_of : SeatView → Calls
calls_of v = calls_with v.calls v.steps

abbrev pub loaded : ℕ → ℕ → ℕ → Step
loaded i n shown = record { touch = record { word = i; value = n; stored = false }; shown = shown }

abbrev pub stored : ℕ → ℕ → ℕ → Step
stored i n shown = record { touch = record { word = i; value = n; stored = true }; shown = shown }

-- the first step of a call begins a new call
abbrev pub calls_at : Bool → SeatView → Calls
calls_at true v = calls_of v
calls_at false v = v.calls

abbrev pub steps_at : Bool → Step → SeatView → List Step
steps_at true t v = t ∷ []
steps_at false t v = v.steps ++ t ∷ []

-- what the seat had seen before the call
abbrev pub before_at : Bool → SeatView → Seen
before_at true v = v.seen
before_at false v = v.before

abbrev pub touched : Bool → Step → SeatView → SeatView
touched first t v = record v { calls = calls_at first v; before = before_at first v; steps = steps_at first t v }

-- the try that a load of this step ends
abbrev pub segment_try_at : Bool → SeatView → SegmentTry
segment_try_at true v = no_segment_try
segment_try_at false v = segment_try_of v

abbrev pub page_try_at : Bool → SeatView → PageTry
page_try_at true v = no_page_try
page_try_at false v = page_try_of v

-- ---- a kind of step: `found` stands in its word before it, and `left` after it

-- when a seat with this view may take it
abbrev pub May : Type 1
May = SeatView → ℕ → ℕ → Type 0

-- the state and the view that it leads to
abbrev pub StateAfter : Type 0
StateAfter = SharedState → SeatView → ℕ → ℕ → SharedState

abbrev pub ViewAfter : Type 0
ViewAfter = SharedState → SeatView → ℕ → ℕ → SeatView

-- what its caller learns of the view before and after
abbrev pub Tells : Type 1
Tells = SeatView → ℕ → ℕ → SeatView → Type 0

-- the law of a kind, at word i: from a state that meets the rule, such a step leads to one that meets it, and tells this
abbrev pub KeepsRule : ℕ → May → StateAfter → ViewAfter → Tells → Type 0
KeepsRule i may state view tells =
    (c : Setup) (a : SharedState) (words : List ℕ) (views : List SeatView) (id : ℕ) (v : SeatView) (n : ℕ)
    → MeetsRule c a words views → get_elem? views id ≡ some v → may v (slice_index words i) n
    → MeetsRule c (state a v (slice_index words i) n) (slice_set words i n) (slice_set views id (view a v (slice_index words i) n))
    × tells v (slice_index words i) n (view a v (slice_index words i) n)

abbrev pub same_state : StateAfter
same_state a v found left = a

abbrev pub MayLoad : May
MayLoad v found left = (left ≡ found) × (v.seated ≡ true)

-- ---- the host

abbrev pub host_state : (SeatView → HostPart) → StateAfter
host_state host_part a v found left = record a { host_part = host_part v }

abbrev pub host_view : (SeatView → HostPart) → ViewAfter
host_view host_part a v found left = record v { host_part = host_part v }

abbrev pub TellsHostPart : (SeatView → HostPart) → Tells
TellsHostPart host_part v found left w = w ≡ record v { host_part = host_part v }

-- a row of the clock: word 23 has the next number
abbrev pub MayRow : May
MayRow v found left = (v.is_host ≡ true) × (left ≡ v.host_part.rows + 1) × (v.host_part.rows < v.setup.rows)

abbrev pub row_done : SeatView → HostPart
row_done v = record v.host_part { rows = v.host_part.rows + 1 }

-- a page row is begun, with these words: word 11 has the odd count
abbrev pub MayPageOdd : May
MayPageOdd v found left = (v.is_host ≡ true) × (is_some v.setup.page ≡ true) × (v.host_part.stores ≡ 0) × (left ≡ count_word_at v.setup (page_point_of v.host_part + 1))

abbrev pub page_begun : List ℕ → SeatView → HostPart
page_begun p v = record v.host_part { stores = 1; hand = p }

-- one more of its words is stored, from the marker on
abbrev pub MayPageFill : ℕ → May
MayPageFill i v found left = (v.is_host ≡ true) × (is_some v.setup.page ≡ true) × (v.host_part.stores + 1 ≡ i) × (left ≡ slice_index v.host_part.hand i)

abbrev pub page_filled : ℕ → SeatView → HostPart
page_filled i v = record v.host_part { stores = i }

-- and it is ended: word 11 has the even count
abbrev pub MayPageEven : May
MayPageEven v found left = (v.is_host ≡ true) × (is_some v.setup.page ≡ true) × (v.host_part.stores ≡ 12) × (length v.host_part.pages ≤ MOST_HOST_ROWS) × (left ≡ count_word_at v.setup (2 * length v.host_part.pages))

abbrev pub page_done : SeatView → HostPart
page_done v = record v.host_part { pages = v.host_part.pages ++ v.host_part.hand ∷ []; stores = 0 }

-- ---- the daemon's stores

abbrev pub daemon_state : (SeatView → DaemonPart) → StateAfter
daemon_state daemon_part a v found left = record a { daemon_part = daemon_part v }

abbrev pub daemon_view : (SeatView → DaemonPart) → ℕ → ViewAfter
daemon_view daemon_part i a v found left = record (touched false (stored i left (point_of (daemon_part v).segment)) v) { daemon_part = daemon_part v }

pub record TellsDaemonPart (daemon_part : SeatView → DaemonPart) (i : ℕ) (v : SeatView) (found left : ℕ) (w : SeatView) : Type 0 where
  pub view : w ≡ record (touched false (stored i left (point_of (daemon_part v).segment)) v) { daemon_part = daemon_part v }
  pub is : IsSegment (daemon_part v).segment
  pub later : IsSegmentLater v.daemon_part.segment (daemon_part v).segment
  pub point : point_of (daemon_part v).segment ≡ point_after (point_of v.daemon_part.segment) i left
  -- word 1 is what was stored, or as before
  pub header : (header_shown (daemon_part v).segment ≡ left) ⊎ (header_shown (daemon_part v).segment ≡ header_shown v.daemon_part.segment)

-- word 0 is known to be the magic: the daemon stored it, or word 1 isn't 0
abbrev pub HasMagic : DaemonPart → Type 0
HasMagic s = (s.stored_magic ≡ true) ⊎ (header_shown s.segment ≢ 0)

-- the magic is stored
abbrev pub MayMagic : May
MayMagic v found left = (v.is_daemon ≡ true) × (left ≡ MAGIC)

abbrev pub with_magic : SeatView → DaemonPart
with_magic v = record v.daemon_part { stored_magic = true }

-- the header with the number that stands there: 0 where nothing was published, or the odd number of an abandoned update, under
-- the layout's own version
abbrev pub MayHead : May
MayHead v found left =
    (v.is_daemon ≡ true) × HasMagic v.daemon_part × ((v.daemon_part.segment.is_writing ≡ true) ⊎ (v.daemon_part.segment.position ≡ 0))
    × (left ≡ word1_of v.setup.layout (number_shown v.daemon_part.segment))

abbrev pub with_head : SeatView → DaemonPart
with_head v = record { segment = headed v.daemon_part.segment; stored_magic = v.daemon_part.stored_magic; hand = no_update }

-- the odd number of a publication, whose clock row and page the daemon has seen; an abandoned update may stand open
abbrev pub MayOdd : Publication → May
MayOdd e v found left =
    (v.is_daemon ≡ true) × HasMagic v.daemon_part × (left ≡ word1_of v.setup.layout (number_at v.daemon_part.segment v.daemon_part.segment.position + 1))
    × KeepsBounds e.rec.as_of e.rec.void_after e.rec.bound e.rec.drift
    × (e.replied ≤ v.seen.rows) × (2 * page_number_of (count_of v.setup.page) e.sequence ≤ v.seen.page_point)

abbrev pub begun_segment : Publication → SegmentRun → SegmentRun
begun_segment e segment = record segment { is_headed = true; is_writing = true; begun = record { rec = e.rec; stores = 1 } ∷ segment.begun }

abbrev pub update_begun : Publication → SeatView → DaemonPart
update_begun e v = record { segment = begun_segment e v.daemon_part.segment; stored_magic = v.daemon_part.stored_magic; hand = record { publication = e; stores = 1; moves = false } }

-- the next of its words is stored
abbrev pub MayFill : ℕ → May
MayFill i v found left =
    (v.is_daemon ≡ true) × (0 < v.daemon_part.hand.stores) × (v.daemon_part.hand.stores + 1 ≡ i) × (left ≡ slice_index (record_words 0 v.daemon_part.hand.publication.rec) i)

abbrev pub filled_segment : SegmentRun → SegmentRun
filled_segment segment = record segment { begun = one_store_more segment.begun }

abbrev pub update_filled : ℕ → SeatView → DaemonPart
update_filled i v = record { segment = filled_segment v.daemon_part.segment; stored_magic = v.daemon_part.stored_magic; hand = record { publication = v.daemon_part.hand.publication; stores = i; moves = false } }

-- its even number, after the ninth store: the record is published
abbrev pub MayEven : May
MayEven v found left = (v.is_daemon ≡ true) × (v.daemon_part.hand.stores ≡ 9) × (left ≡ word1_of v.setup.layout (number_at v.daemon_part.segment (v.daemon_part.segment.position + 1)))

abbrev pub update_ended : SeatView → DaemonPart
update_ended v = record { segment = ended_update (filled_segment v.daemon_part.segment) v.daemon_part.hand.publication; stored_magic = v.daemon_part.stored_magic; hand = no_update }

-- the odd number of a move: the last record is published once more
abbrev pub MayMoveOdd : May
MayMoveOdd v found left =
    (v.is_daemon ≡ true) × (v.daemon_part.segment.is_writing ≡ false) × (v.daemon_part.segment.base < v.daemon_part.segment.position)
    × (left ≡ word1_of v.setup.layout (number_at v.daemon_part.segment v.daemon_part.segment.position + 1))

abbrev pub move_begun : SeatView → DaemonPart
move_begun v = record { segment = opened_update v.daemon_part.segment; stored_magic = v.daemon_part.stored_magic; hand = record { publication = no_publication; stores = 0; moves = true } }

-- the even number of a move
abbrev pub MayMoveEven : May
MayMoveEven v found left = (v.is_daemon ≡ true) × (v.daemon_part.hand.moves ≡ true) × (left ≡ word1_of v.setup.layout (number_at v.daemon_part.segment (v.daemon_part.segment.position + 1)))

abbrev pub move_ended : SeatView → DaemonPart
move_ended v = record { segment = moved_once v.daemon_part.segment; stored_magic = v.daemon_part.stored_magic; hand = no_update }

-- ---- loads by the daemon or a client

-- of word 23: the row
abbrev pub clock_view : Bool → ViewAfter
clock_view first a v found left = record (touched first (loaded 23 found found) v) { seen = record v.seen { rows = found } }

pub record TellsClock (first : Bool) (v : SeatView) (found left : ℕ) (w : SeatView) : Type 0 where
  pub later : v.seen.rows ≤ found
  pub some : 1 ≤ found
  pub few : found ≤ v.setup.rows
  pub known : (k : ℕ) → k < length v.seen.history → (slice_index_or v.seen.history k no_publication).replied ≤ found
  pub view : w ≡ record (touched first (loaded 23 found found) v) { seen = record v.seen { rows = found } }

-- of word 1: the front becomes the whole history
abbrev pub front_view : Bool → ViewAfter
front_view first a v found left =
    record (touched first (loaded 1 found (point_of a.daemon_part.segment)) v) { seen = record v.seen { history = a.daemon_part.segment.history; point = point_of a.daemon_part.segment } }

-- a value of word 1 stands for a point
abbrev pub StandsPoint : Setup → ℕ → ℕ → Type 0
StandsPoint c found p = ((found ≡ 0) × (p ≡ 0)) ⊎ IsHeaderFor c.layout found (number_of_point c.layout p)

-- what a load of word 1 shows: a point that its value stands for; at an even one above 0 the history has its entry
abbrev pub ShowsPoint : Setup → ℕ → ℕ → Type 0
ShowsPoint c found p = StandsPoint c found p × (p % 2 ≡ 0 → 0 < p / 2 → base_of c < p / 2)

abbrev pub IsBounded : Publication → Type 0
IsBounded e = KeepsBounds e.rec.as_of e.rec.void_after e.rec.bound e.rec.drift

-- where word 1 is the word of the try's first load, and fewer publications than a period lie between, none does, and the words loaded are the entry's
abbrev pub IsWholeRead : Setup → List Publication → SegmentTry → (found shown : ℕ) → Type 0
IsWholeRead c history t found shown =
    found ≡ t.header → t.shown % 2 ≡ 0 → base_of c < t.shown / 2 → IsHeaderFor c.layout t.header (number_of_point c.layout t.shown) → shown / 2 < t.shown / 2 + period_of c.layout
    → (shown ≡ t.shown) × (t.shown / 2 ≤ base_of c + length history) × AreWordsOf (entry_at c history (t.shown / 2)).rec t.loads × IsBounded (entry_at c history (t.shown / 2))

-- at rest, once something was published, word 1 is the word of the try's first load, where the point is that of that load
abbrev pub IsSteady : SegmentTry → (found shown : ℕ) → Type 0
IsSteady t found shown = shown ≡ t.shown → shown % 2 ≡ 0 → 0 < shown → found ≡ t.header

pub record TellsFront (first : Bool) (v : SeatView) (found left : ℕ) (w : SeatView) : Type 0 where
  pub point : ℕ
  pub history : List Publication
  pub begins : Begins v.seen.history history
  pub later : v.seen.point ≤ point
  pub place : base_of v.setup + length history ≡ point / 2
  pub stands : StandsPoint v.setup found point
  -- at rest nothing was published, or the last record is known
  pub known : point % 2 ≡ 0 → 0 < point / 2 → 0 < length history
  pub whole : IsWholeRead v.setup history (segment_try_at first v) found point
  pub steady : IsSteady (segment_try_at first v) found point
  pub own : v.is_daemon ≡ true → (point ≡ point_of v.daemon_part.segment) × (history ≡ v.daemon_part.segment.history) × (found ≡ header_shown v.daemon_part.segment)
  pub view : w ≡ record (touched first (loaded 1 found point) v) { seen = record v.seen { history = history; point = point } }

-- of a data word
abbrev pub plain_view : Bool → ℕ → ViewAfter
plain_view first i a v found left = touched first (loaded i found 0) v

pub record TellsData (first : Bool) (i : ℕ) (v : SeatView) (found left : ℕ) (w : SeatView) : Type 0 where
  pub good : 0 < length v.seen.history → IsGoodWord i found
  pub own : v.is_daemon ≡ true → found ≡ last_store v.daemon_part.segment.image v.daemon_part.segment.begun i
  pub view : w ≡ touched first (loaded i found 0) v

-- of word 0
pub record TellsZero (first : Bool) (v : SeatView) (found left : ℕ) (w : SeatView) : Type 0 where
  pub own : v.is_daemon ≡ true → (found ≡ MAGIC) ⊎ ((found ≡ 0) × (header_shown v.daemon_part.segment ≡ 0))
  pub view : w ≡ touched first (loaded 0 found 0) v

-- of word 11, where there is a page
abbrev pub MayPage : May
MayPage v found left = (left ≡ found) × (v.seated ≡ true) × (is_some v.setup.page ≡ true)

abbrev pub page_view : Bool → ViewAfter
page_view first a v found left =
    record (touched first (loaded 11 found (page_point_of a.host_part)) v) { seen = record v.seen { pages = a.host_part.pages; page_point = page_point_of a.host_part } }

-- where the page's count is that of the try's first load, no page was begun between, and the marker is that of the page with this number
abbrev pub IsWholePageRead : Setup → List (List ℕ) → PageTry → (found shown : ℕ) → Type 0
IsWholePageRead c pages t found shown =
    found ≡ t.word → t.word ≡ count_word_at c t.shown → t.has_marker ≡ true → shown % 2 ≡ 0
    → (shown ≡ t.shown) × (shown / 2 < length pages) × (t.marker ≡ slice_index (slice_index_or pages (shown / 2) []) 2)

pub record TellsPage (first : Bool) (v : SeatView) (found left : ℕ) (w : SeatView) : Type 0 where
  pub point : ℕ
  pub pages : List (List ℕ)
  pub begins : Begins v.seen.pages pages
  pub later : v.seen.page_point ≤ point
  pub place : length pages - 1 ≡ point / 2
  pub few : point < 2 ^ 21
  pub stands : found ≡ count_word_at v.setup point
  pub known : (k : ℕ) → k < length v.seen.history → 2 * page_number_of (count_of v.setup.page) (slice_index_or v.seen.history k no_publication).sequence ≤ point
  pub whole : IsWholePageRead v.setup pages (page_try_at first v) found point
  pub view : w ≡ record (touched first (loaded 11 found point) v) { seen = record v.seen { pages = pages; page_point = point } }

-- of a word that shows nothing by itself, as the marker
abbrev pub TellsPlain : Bool → ℕ → Tells
TellsPlain first i v found left w = w ≡ touched first (loaded i found 0) v
