-- The rule of the shared words: at every moment they show one state, and the view of each seat fits it.
use Rattle.std.specs.Prelude.{◌≡◌, ℕ, ◌+◌, ◌*◌, ◌<◌, ◌≤◌, List, [], ◌∷◌, length, slice_index, true, false, is_some}
use mathlib.Core.Option.{some}
use lib.ListN.{get_elem?}
use Rattle.clock_gate.specs.declared.limits.TheConstants.{MOST_HOST_ROWS}
use Rattle.segment_layout.specs.declared.publication.Publication.{Publication}
use Rattle.segment_layout.specs.declared.words.TheConstants.{MAGIC}
use Rattle.segment_layout.specs.Record.{RecordFields, KeepsBounds}
use Rattle.segment_layout.specs.Words.{record_words, AreGoodWords}
use Rattle.segment_layout.specs.History.{Begun}
use Rattle.vmclock_page.specs.Host.{constants_of, count_of, raised}
use Rattle.vmclock_page.specs.Words.{word_with_count}
use Rattle.vmclock_page.specs.Counting.{page_number_of}
use Rattle.segment_run.specs.SegmentRun.{SegmentRun, header_shown, published_at}
use Rattle.segment_run.specs.ShowsSegment.{HoldsWords, ShowsSegment}
use Rattle.segment_views.specs.declared.setup.Setup.{Setup}
use Rattle.segment_views.specs.Views.{Begins, UpdateInHand, DaemonPart, HostPart, Seen, SeatView, SegmentTry, PageTry, point_of, page_point_of, base_of, segment_try_of, page_try_of}

-- what daemon and host have made of the words, and which seats are theirs
pub record SharedState : Type 0 where
  pub daemon_part : DaemonPart
  pub host_part : HostPart
  pub host : ℕ
  pub daemon : ℕ

-- ---- the segment

-- the words that an update in hand has stored are those of its record: it was begun last, and so many of its stores are made
pub record IsStoring (segment : SegmentRun) (publication : Publication) (stores : ℕ) : Type 0 where
  pub writes : segment.is_writing ≡ true
  pub headed : segment.is_headed ≡ true
  pub few : stores < 10
  pub older : List Begun
  pub begun : segment.begun ≡ record { rec = publication.rec; stores = stores } ∷ older
  pub bounds : KeepsBounds publication.rec.as_of publication.rec.void_after publication.rec.bound publication.rec.drift

-- the last record is being published once more under the next number, and stands in the data words meanwhile
pub record IsMoving (segment : SegmentRun) : Type 0 where
  pub known : segment.base < segment.position
  pub writes : segment.is_writing ≡ true
  pub headed : segment.is_headed ≡ true
  pub holds : HoldsWords segment (published_at segment segment.position).rec

pub record HandFits (segment : SegmentRun) (hand : UpdateInHand) : Type 0 where
  pub storing : 0 < hand.stores → IsStoring segment hand.publication hand.stores
  pub moving : hand.moves ≡ true → IsMoving segment

-- words 0 to 9 show the segment that the daemon owns, which began with the image; wherever something was published they pass
-- the test that a reader relies on
pub record ShowsDaemonPart (c : Setup) (s : DaemonPart) (words : List ℕ) : Type 0 where
  pub shows : ShowsSegment s.segment words
  pub layout : s.segment.layout ≡ c.layout
  pub base : s.segment.base ≡ base_of c
  pub stored_magic : s.stored_magic ≡ true → slice_index words 0 ≡ MAGIC
  pub hand : HandFits s.segment s.hand
  pub sane : s.segment.base < s.segment.position → AreGoodWords words

-- ---- the page and the clock

-- the last of the pages
abbrev pub last_page : List (List ℕ) → List ℕ
last_page [] = []
last_page (p ∷ []) = p
last_page (p ∷ q ∷ ps) = last_page (q ∷ ps)

-- word 11 at a point of the page: the start page's, with the count raised by the point
abbrev pub count_word_at : Setup → ℕ → ℕ
count_word_at c p = word_with_count (constants_of c.page) (raised p (count_of c.page))

-- the count is that of the point; the words of the page row in hand that are stored are those that its seat holds, and with none
-- in hand the words are those of the last page
pub record ShowsPage (c : Setup) (w : HostPart) (words : List ℕ) : Type 0 where
  pub first : 0 < length w.pages
  pub sequence : slice_index words 11 ≡ count_word_at c (page_point_of w)
  pub stages : w.stores < 13
  pub stored : (i : ℕ) → 2 ≤ i → i ≤ w.stores → slice_index words (i + 10) ≡ slice_index w.hand i
  pub still : w.stores ≡ 0 → (i : ℕ) → 2 ≤ i → i < 13 → slice_index words (i + 10) ≡ slice_index (last_page w.pages) i

-- words 10 to 23 show the rows of the clock and the pages; without a page words 10 to 22 are 0
pub record ShowsHostPart (c : Setup) (w : HostPart) (words : List ℕ) : Type 0 where
  pub clock : slice_index words 23 ≡ w.rows
  pub first_row : 1 ≤ w.rows
  pub few_rows : w.rows ≤ c.rows
  pub few_pages : length w.pages ≤ MOST_HOST_ROWS + 1
  pub page : is_some c.page ≡ true → ShowsPage c w words
  pub no_pages : is_some c.page ≡ false → length w.pages ≡ 0
  pub none : is_some c.page ≡ false → (i : ℕ) → 10 ≤ i → i < 23 → slice_index words i ≡ 0

-- ---- the entries

-- the clock row and the page that a publication names are there
pub record EntryFits (c : Setup) (w : HostPart) (e : Publication) : Type 0 where
  pub rows : e.replied ≤ w.rows
  pub page : 2 * page_number_of (count_of c.page) e.sequence ≤ page_point_of w

abbrev pub EntriesFit : Setup → HostPart → List Publication → Type 0
EntriesFit c w [] = Unit {0}
EntriesFit c w (e ∷ es) = EntryFits c w e × EntriesFit c w es

-- ---- the views

-- what was seen is a prefix of what there is, and no row and no point is past the present one
pub record SeenFits (segment : SegmentRun) (w : HostPart) (s : Seen) : Type 0 where
  pub history : Begins s.history segment.history
  pub point : s.point ≤ point_of segment
  pub rows : s.rows ≤ w.rows
  pub pages : Begins s.pages w.pages
  pub page_point : s.page_point ≤ page_point_of w

-- the data words among these loads are those of the record
abbrev pub AreWordsOf : RecordFields → List (ℕ × ℕ) → Type 0
AreWordsOf rec [] = Unit {0}
AreWordsOf rec (load ∷ loads) = (2 ≤ load.0 → load.0 < 10 → load.1 ≡ slice_index (record_words 0 rec) load.0) × AreWordsOf rec loads

-- while the point has not moved since its first load, a try has loaded the words of the record at the front, and word 1, which is the
-- same at rest once something was published
pub record SegmentTryFits (segment : SegmentRun) (t : SegmentTry) : Type 0 where
  pub point : t.shown ≤ point_of segment
  pub words : t.shown ≡ point_of segment → segment.is_writing ≡ false → segment.base < segment.position → AreWordsOf (published_at segment segment.position).rec t.loads
  pub header : t.shown ≡ point_of segment → segment.is_writing ≡ false → 0 < segment.position → t.header ≡ header_shown segment

-- while the count has not moved since its first load, a try of the page has loaded the marker of the last page
pub record PageTryFits (w : HostPart) (t : PageTry) : Type 0 where
  pub point : t.shown ≤ page_point_of w
  pub marker : 0 < length w.pages → t.has_marker ≡ true → t.shown ≡ page_point_of w → w.stores ≡ 0 → t.marker ≡ slice_index (last_page w.pages) 2

-- a view fits the state: the host's seat and the daemon's own what the state has of them; a seat that was joined away is bound
-- to nothing
pub record ViewFits (c : Setup) (state : SharedState) (id : ℕ) (v : SeatView) : Type 0 where
  pub setup : v.seated ≡ true → v.setup ≡ c
  pub host : v.is_host ≡ true → (id ≡ state.host) × (v.host_part ≡ state.host_part) × (v.setup ≡ c)
  pub daemon : v.is_daemon ≡ true → (id ≡ state.daemon) × (v.daemon_part ≡ state.daemon_part) × (v.setup ≡ c)
  pub seen : SeenFits state.daemon_part.segment state.host_part v.seen
  pub taught : SeenFits state.daemon_part.segment state.host_part v.taught
  pub segment_try : SegmentTryFits state.daemon_part.segment (segment_try_of v)
  pub page_try : PageTryFits state.host_part (page_try_of v)

-- the rule
pub record MeetsRule (c : Setup) (state : SharedState) (words : List ℕ) (views : List SeatView) : Type 0 where
  pub segment : ShowsDaemonPart c state.daemon_part words
  pub host_part : ShowsHostPart c state.host_part words
  pub published : EntriesFit c state.host_part state.daemon_part.segment.history
  pub in_hand : 0 < state.daemon_part.hand.stores → EntryFits c state.host_part state.daemon_part.hand.publication
  pub seats : (id : ℕ) (v : SeatView) → get_elem? views id ≡ some v → ViewFits c state id v
