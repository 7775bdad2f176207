-- The loads.
use Rattle.std.proofs.Common.{◌≡◌, ◌≢◌, ℕ, ◌+◌, ◌-◌, ◌*◌, ◌/◌, ◌%◌, ◌^◌, ◌<◌, ◌≤◌, ◌⊎◌, ⊎_elim, inl, inr, List, length, refl, sym, ap, ◌∙◌, subst, arith, Bool, true, false}
use Rattle.std.specs.Prelude.{slice_index, slice_set, slice_index_or, is_some, nat_lt, ◌==◌}
use Rattle.std.proofs.lemmas.Bool.{cases_Bool}
use Rattle.std.proofs.lemmas.Bool.Decides.{nat_tests}
use Rattle.std.proofs.lemmas.List.{set-get_or}
use mathlib.Core.Option.{some}
use lib.ListN.{get_elem?}
use Rattle.generation_word.specs.declared.layout.Layout.{Layout}
use Rattle.generation_word.specs.Layout.{period_of}
use Rattle.generation_word.specs.Numbering.{generation_at}
use Rattle.generation_word.proofs.Laws.{one_position, generation_at-even}
use Rattle.segment_layout.specs.declared.words.TheConstants.{MAGIC}
use Rattle.segment_layout.specs.Image.{IsHeaderFor}
use Rattle.segment_layout.specs.Words.{flag_of}
use Rattle.segment_layout.specs.History.{last_store}
use Rattle.vmclock_page.specs.Host.{count_of}
use Rattle.vmclock_page.specs.Counting.{page_number_of}
use Rattle.segment_run.specs.SegmentRun.{SegmentRun, header_shown, number_shown, published_at, no_publication}
use Rattle.generation_word.specs.Header.{generation_in}
use Rattle.segment_run.specs.ShowsSegment.{IsSegment, ShowsSegment}
use Rattle.segment_run.proofs.SegmentHeader.{header_tells, number_told}
use Rattle.segment_views.specs.declared.setup.Setup.{Setup}
use Rattle.segment_views.specs.Views.{Step, DaemonPart, HostPart, Seen, SeatView, SegmentTry, no_segment_try, no_page_try, point_of, page_point_of, number_of_point, base_of, with_load, after_step, segment_try_after, page_after_step, page_try_after, segment_try_of, page_try_of}
use Rattle.segment_views.specs.Rule.{SharedState, AreWordsOf, EntryFits, SeenFits, SegmentTryFits, PageTryFits, ViewFits, MeetsRule, count_word_at}
use Rattle.atomic_table.proofs.Lists.{one_turn}
use Rattle.segment_views.specs.Steps.{KeepsRule, MayLoad, MayPage, same_state, loaded, steps_at, segment_try_at, page_try_at, clock_view, TellsClock, front_view, IsBounded, TellsFront, plain_view, TellsData, TellsZero, page_view, TellsPage, TellsPlain}
use Rattle.segment_views.proofs.Lists.{begins_self, begins_length, flag_most, flag_calm, stores_flag, entries_at, entries_begin, segment_try-snoc, page_try-snoc, words_of-snoc, last_page-at}
use Rattle.segment_views.proofs.Frames.{seats_after, grows_self}

-- a load that leaves the seat what it owns
pub load_step : (c : Setup) (a : SharedState) (words : List ℕ) (views : List SeatView) (id : ℕ) (v w : SeatView) (i n : ℕ) → MeetsRule c a words views → get_elem? views id ≡ some v → n ≡ slice_index words i
    → w.seated ≡ v.seated → w.setup ≡ v.setup → w.is_host ≡ v.is_host → w.is_daemon ≡ v.is_daemon → w.host_part ≡ v.host_part → w.daemon_part ≡ v.daemon_part → w.taught ≡ v.taught
    → SeenFits a.daemon_part.segment a.host_part w.seen → SegmentTryFits a.daemon_part.segment (segment_try_of w) → PageTryFits a.host_part (page_try_of w)
    → MeetsRule c a (slice_set words i n) (slice_set views id w)
load_step c a words views id v w i n kept at is seated setup host daemon host_part daemon_part taught seen segment_try page =
    let fits = kept.seats id v at in
    let same : slice_set words i n ≡ words = ap (slice_set words i) is ∙ set-get_or words i 0 in
    rw same record {
      segment = kept.segment;
      host_part = kept.host_part;
      published = kept.published;
      in_hand = kept.in_hand;
      seats = seats_after c a a words views id v w kept at
          record { grows = grows_self c a words views kept; some = λ h. h; host = refl; daemon = refl; host_part = inr refl; daemon_part = inr refl }
          record {
            setup = λ s. setup ∙ fits.setup (sym seated ∙ s);
            host = λ h. let m = fits.host (sym host ∙ h) in (m.0, host_part ∙ m.1, setup ∙ m.2);
            daemon = λ d. let m = fits.daemon (sym daemon ∙ d) in (m.0, daemon_part ∙ m.1, setup ∙ m.2);
            seen = seen;
            taught = rw taught fits.taught;
            segment_try = segment_try;
            page_try = page;
          };
    }

-- ---- what a load does to the tries

pub tries_nothing : (segment : SegmentRun) → SegmentTryFits segment no_segment_try
tries_nothing segment = record { point = omega arith; words = λ same calm above. tt; header = λ same calm some. absurd (omega (arith, same, some)) }

pub looks_at_nothing : (w : HostPart) → PageTryFits w no_page_try
looks_at_nothing w = record { point = omega arith; marker = λ here has. absurd (cc has) }

pub at_segment_try : (first : Bool) (c : Setup) (a : SharedState) (id : ℕ) (v : SeatView) → ViewFits c a id v → SegmentTryFits a.daemon_part.segment (segment_try_at first v)
at_segment_try true c a id v fits = tries_nothing a.daemon_part.segment
at_segment_try false c a id v fits = fits.segment_try

pub at_page_try : (first : Bool) (c : Setup) (a : SharedState) (id : ℕ) (v : SeatView) → ViewFits c a id v → PageTryFits a.host_part (page_try_at first v)
at_page_try true c a id v fits = looks_at_nothing a.host_part
at_page_try false c a id v fits = fits.page_try

pub segment_try_next : (first : Bool) (v : SeatView) (t : Step) → segment_try_after no_segment_try (steps_at first t v) ≡ after_step (segment_try_at first v) t
segment_try_next true v t = refl
segment_try_next false v t = segment_try-snoc no_segment_try v.steps t

pub page_try_next : (first : Bool) (v : SeatView) (t : Step) → page_try_after no_page_try (steps_at first t v) ≡ page_after_step (page_try_at first v) t
page_try_next true v t = refl
page_try_next false v t = page_try-snoc no_page_try v.steps t

-- a word that is loaded is the last one stored, where the segment is at rest
loaded_word : (segment : SegmentRun) (words : List ℕ) (t : SegmentTry) (i : ℕ) → ShowsSegment segment words → SegmentTryFits segment t → SegmentTryFits segment (with_load t i (slice_index words i))
loaded_word segment words t i shows h = record {
  point = h.point;
  words = λ same calm above. words_of-snoc (published_at segment segment.position).rec t.loads i (slice_index words i) (h.words same calm above)
      (λ low high. shows.data_words i low high ∙ shows.is.stands calm above i low high);
  header = h.header;
}

segment_try_loaded : (c : Setup) (a : SharedState) (words : List ℕ) (views : List SeatView) (id : ℕ) (first : Bool) (v : SeatView) (i shown : ℕ) → MeetsRule c a words views → ViewFits c a id v → i ≢ 1
    → SegmentTryFits a.daemon_part.segment (segment_try_after no_segment_try (steps_at first (loaded i (slice_index words i) shown) v))
segment_try_loaded c a words views id first v i shown kept fits other =
    let test : (i == 1) ≡ false = grind (arith, nat_tests) in
    rw (segment_try_next first v (loaded i (slice_index words i) shown), test) (loaded_word a.daemon_part.segment words (segment_try_at first v) i kept.segment.shows (at_segment_try first c a id v fits))

page_try_kept : (c : Setup) (a : SharedState) (words : List ℕ) (views : List SeatView) (id : ℕ) (first : Bool) (v : SeatView) (i n shown : ℕ) → ViewFits c a id v → i ≢ 11 → i ≢ 12
    → PageTryFits a.host_part (page_try_after no_page_try (steps_at first (loaded i n shown) v))
page_try_kept c a words views id first v i n shown fits ne nm =
    let test : (i == 11) ≡ false = grind (arith, nat_tests) in
    let more : (i == 12) ≡ false = grind (arith, nat_tests) in
    rw (page_try_next first v (loaded i n shown), test, more) (at_page_try first c a id v fits)

-- an entry that was seen has its rows and its page
entry_known : (c : Setup) (a : SharedState) (words : List ℕ) (views : List SeatView) (s : Seen) (k : ℕ) → MeetsRule c a words views → SeenFits a.daemon_part.segment a.host_part s → k < length s.history
    → EntryFits c a.host_part (slice_index_or s.history k no_publication)
entry_known c a words views s k kept seen lt = entries_at c a.host_part s.history k (entries_begin c a.host_part s.history a.daemon_part.segment.history seen.history kept.published) lt

-- ---- the clock

pub clock_law : (first : Bool) → KeepsRule 23 MayLoad same_state (clock_view first) (TellsClock first)
clock_law first c a words views id v n kept at may =
    let fits = kept.seats id v at in
    let s = fits.seen in
    let fix = fits.setup may.1 in
    let is = kept.host_part.clock in
    let one = kept.host_part.first_row in
    let few = kept.host_part.few_rows in
    let same : v.setup.rows ≡ c.rows = ap (λ (x : Setup). x.rows) fix in (
      load_step c a words views id v (clock_view first a v (slice_index words 23) n) 23 n kept at may.0 refl refl refl refl refl refl refl
          record { history = s.history; point = s.point; rows = omega (arith, is); pages = s.pages; page_point = s.page_point }
          (segment_try_loaded c a words views id first v 23 (slice_index words 23) kept fits (λ e. absurd (omega arith)))
          (page_try_kept c a words views id first v 23 (slice_index words 23) (slice_index words 23) fits (λ e. absurd (omega arith)) (λ e. absurd (omega arith))),
      record {
        later = omega (arith, s.rows, is);
        some = omega (arith, is, one);
        few = omega (arith, is, few, same);
        known = λ k lt. let x = (entry_known c a words views v.seen k kept s lt).rows in omega (arith, x, is);
        view = refl;
      },
    )

-- ---- words that show nothing_seen

pub plain_law : (first : Bool) (i : ℕ) (c : Setup) (a : SharedState) (words : List ℕ) (views : List SeatView) (id : ℕ) (v : SeatView) (n : ℕ) → MeetsRule c a words views → get_elem? views id ≡ some v → n ≡ slice_index words i → i ≢ 1 → i ≢ 11 → i ≢ 12
    → MeetsRule c a (slice_set words i n) (slice_set views id (plain_view first i a v (slice_index words i) n))
plain_law first i c a words views id v n kept at is ne np nm =
    let fits = kept.seats id v at in
    load_step c a words views id v (plain_view first i a v (slice_index words i) n) i n kept at is refl refl refl refl refl refl refl fits.seen
    (segment_try_loaded c a words views id first v i 0 kept fits ne)
    (page_try_kept c a words views id first v i (slice_index words i) 0 fits np nm)

zero_by : (a : DaemonPart) (words : List ℕ) → ShowsSegment a.segment words → (slice_index words 0 ≡ MAGIC) ⊎ ((slice_index words 0 ≡ 0) × (header_shown a.segment ≡ 0))
zero_by a words shows = ⊎_elim (λ e. inl e) (λ e. inr (e.0, sym shows.header ∙ e.1)) shows.magic

pub zero_law : (first : Bool) → KeepsRule 0 MayLoad same_state (plain_view first 0) (TellsZero first)
zero_law first c a words views id v n kept at may = (
  plain_law first 0 c a words views id v n kept at may.0 (λ e. absurd (omega arith)) (λ e. absurd (omega arith)) (λ e. absurd (omega arith)),
  record { own = λ d. subst (λ (x : DaemonPart). (slice_index words 0 ≡ MAGIC) ⊎ ((slice_index words 0 ≡ 0) × (header_shown x.segment ≡ 0))) (sym ((kept.seats id v at).daemon d).1) (zero_by a.daemon_part words kept.segment.shows); view = refl },
)

pub data_law : (first : Bool) (i : ℕ) → 2 ≤ i → i < 10 → KeepsRule i MayLoad same_state (plain_view first i) (TellsData first i)
data_law first i lo hi c a words views id v n kept at may =
    let fits = kept.seats id v at in (
      plain_law first i c a words views id v n kept at may.0 (λ e. absurd (omega arith)) (λ e. absurd (omega arith)) (λ e. absurd (omega arith)),
      record {
        good = λ here. let longer = begins_length _ _ fits.seen.history in let known = kept.segment.shows.is.known in kept.segment.sane (omega (arith, here, longer, known)) i lo hi;
        own = λ d. kept.segment.shows.data_words i lo hi ∙ ap (λ (x : DaemonPart). last_store x.segment.image x.segment.begun i) (sym (fits.daemon d).1);
        view = refl;
      },
    )

pub marker_law : (first : Bool) → KeepsRule 12 MayLoad same_state (plain_view first 12) (TellsPlain first 12)
marker_law first c a words views id v n kept at may =
    let fits = kept.seats id v at in
    let h = at_page_try first c a id v fits in (
      load_step c a words views id v (plain_view first 12 a v (slice_index words 12) n) 12 n kept at may.0 refl refl refl refl refl refl refl fits.seen
          (segment_try_loaded c a words views id first v 12 0 kept fits (λ e. absurd (omega arith)))
          (rw (page_try_next first v (loaded 12 (slice_index words 12) 0)) record {
            point = h.point;
            marker = λ here has same z. ⊎_elim
                (λ page. (kept.host_part.page page).still z 2 (omega arith) (omega arith))
                (λ none. absurd (let e = kept.host_part.no_pages none in omega (arith, e, here)))
                (cases_Bool (is_some c.page));
          }),
      refl,
    )

-- ---- word 1

half_point : (p : ℕ) (b : Bool) → (2 * p + flag_of b) / 2 ≡ p
half_point p b = let most = flag_most b in omega (arith, most)

odd_point : (p : ℕ) (b : Bool) → (2 * p + flag_of b) % 2 ≡ flag_of b
odd_point p b = let most = flag_most b in omega (arith, most)

number_point : (segment : SegmentRun) → number_shown segment ≡ number_of_point segment.layout (point_of segment)
number_point segment =
    let half = half_point segment.position segment.is_writing in
    let odd = odd_point segment.position segment.is_writing in
    rw (half, odd) refl

stands_by : (segment : SegmentRun) (found : ℕ) → IsSegment segment → found ≡ header_shown segment → ((found ≡ 0) × (point_of segment ≡ 0)) ⊎ IsHeaderFor segment.layout found (number_of_point segment.layout (point_of segment))
stands_by segment found is same =
    ⊎_elim
    (λ zero. let none = is.none zero in inl (same ∙ zero, (let off : flag_of segment.is_writing ≡ 0 = ap flag_of none.1 in let at_none = none.0 in omega (arith, off, at_none))))
    (λ header. inr (subst (λ (x : ℕ × ℕ). IsHeaderFor segment.layout x.0 x.1) (λ i. (sym same i, number_point segment i)) header))
    is.header

-- the central fact: an equal word 1 and fewer publications than a period between make one position, for each layout
whole_by : (segment : SegmentRun) (t : SegmentTry) → IsSegment segment → SegmentTryFits segment t → header_shown segment ≡ t.header → t.shown % 2 ≡ 0 → segment.base < t.shown / 2 → IsHeaderFor segment.layout t.header (number_of_point segment.layout t.shown)
    → point_of segment / 2 < t.shown / 2 + period_of segment.layout → (point_of segment ≡ t.shown) × AreWordsOf (published_at segment segment.position).rec t.loads
whole_by segment t is h same even above header near =
    let most = flag_most segment.is_writing in
    let half = half_point segment.position segment.is_writing in
    let le = h.point in
    let now = generation_at-even (period_of segment.layout) segment.position in
    let then = generation_at-even (period_of segment.layout) (t.shown / 2) in
    let told : generation_in t.header ≡ number_of_point segment.layout t.shown = header_tells segment.layout t.header (number_of_point segment.layout t.shown) header in
    let tells : number_of_point segment.layout t.shown ≡ number_shown segment = sym told ∙ (ap generation_in (sym same) ∙ number_told segment is) in
    let off : flag_of segment.is_writing ≡ 0 = omega (arith, most, now, then, tells, even) in
    let numbers : generation_at (period_of segment.layout) (t.shown / 2) ≡ generation_at (period_of segment.layout) segment.position = omega (arith, tells, even, off) in
    let one : t.shown / 2 ≡ segment.position = one_position (period_of segment.layout) (t.shown / 2) segment.position (omega (arith, above)) (omega (arith, le, most)) (omega (arith, near, half)) numbers in
    let at : t.shown ≡ point_of segment = omega (arith, one, even, off) in
    (sym at, h.words at (flag_calm segment.is_writing off) (omega (arith, above, one)))

pub front_law : (first : Bool) → KeepsRule 1 MayLoad same_state (front_view first) (TellsFront first)
front_law first c a words views id v n kept at may =
    let fits = kept.seats id v at in
    let s = fits.seen in
    let fix : v.setup ≡ c = fits.setup may.1 in
    let segment : SegmentRun = a.daemon_part.segment in
    let shows = kept.segment.shows in
    let found : ℕ = slice_index words 1 in
    let layout : v.setup.layout ≡ a.daemon_part.segment.layout = ap (λ (x : Setup). x.layout) fix ∙ sym kept.segment.layout in
    let base : base_of v.setup ≡ a.daemon_part.segment.base = ap base_of fix ∙ sym kept.segment.base in
    let half = half_point a.daemon_part.segment.position a.daemon_part.segment.is_writing in
    let odd = odd_point a.daemon_part.segment.position a.daemon_part.segment.is_writing in
    let known = shows.is.known in
    let h = at_segment_try first c a id v fits in (
      load_step c a words views id v (front_view first a v (slice_index words 1) n) 1 n kept at may.0 refl refl refl refl refl refl refl
          record { history = begins_self _; point = omega arith; rows = s.rows; pages = s.pages; page_point = s.page_point }
          (rw (segment_try_next first v (loaded 1 (slice_index words 1) (point_of a.daemon_part.segment))) record { point = omega arith; words = λ same calm above. tt; header = λ same calm some. shows.header })
          (page_try_kept c a words views id first v 1 (slice_index words 1) (point_of a.daemon_part.segment) fits (λ e. absurd (omega arith)) (λ e. absurd (omega arith))),
      record {
        point = point_of a.daemon_part.segment;
        history = a.daemon_part.segment.history;
        begins = s.history;
        later = s.point;
        place = omega (arith, base, known, half);
        stands = subst (λ (l : Layout). ((slice_index words 1 ≡ 0) × (point_of a.daemon_part.segment ≡ 0)) ⊎ IsHeaderFor l (slice_index words 1) (number_of_point l (point_of a.daemon_part.segment))) (sym layout)
            (stands_by a.daemon_part.segment (slice_index words 1) shows.is shows.header);
        known = λ even positive.
            let off : flag_of a.daemon_part.segment.is_writing ≡ 0 = omega (arith, even, odd) in
            let above = shows.is.calm (flag_calm a.daemon_part.segment.is_writing off) (omega (arith, positive, half)) in omega (arith, above, known);
        whole = λ same even above header near.
            let w = whole_by a.daemon_part.segment (segment_try_at first v) shows.is h (sym shows.header ∙ same) even (omega (arith, above, base))
            (subst (λ (l : Layout). IsHeaderFor l (segment_try_at first v).header (number_of_point l (segment_try_at first v).shown)) layout header)
            (subst (λ (l : Layout). point_of a.daemon_part.segment / 2 < (segment_try_at first v).shown / 2 + period_of l) layout near) in
            let there = w.0 in
            let position : (segment_try_at first v).shown / 2 ≡ a.daemon_part.segment.position = omega (arith, there, half) in
            let entry = subst (λ (k : ℕ). AreWordsOf (slice_index_or a.daemon_part.segment.history (k - 1) no_publication).rec (segment_try_at first v).loads × IsBounded (slice_index_or a.daemon_part.segment.history (k - 1) no_publication)) (omega (arith, position, base)) (w.1, shows.is.records a.daemon_part.segment.position (omega (arith, position, base, above)) (omega arith)) in (
              w.0,
              omega (arith, position, base, known),
              entry.0,
              entry.1,
            );
        steady = λ same even some.
            let most = flag_most a.daemon_part.segment.is_writing in
            let off : flag_of a.daemon_part.segment.is_writing ≡ 0 = omega (arith, odd, even) in
            shows.header ∙ sym (h.header (sym same) (flag_calm a.daemon_part.segment.is_writing off) (omega (arith, some, off)));
        own = λ d. (ap (λ (x : DaemonPart). point_of x.segment) (sym (fits.daemon d).1), ap (λ (x : DaemonPart). x.segment.history) (sym (fits.daemon d).1), shows.header ∙ ap (λ (x : DaemonPart). header_shown x.segment) (sym (fits.daemon d).1));
        view = refl;
      },
    )

-- ---- word 11

-- two points of the page that are not far apart have words of their own
one_count : (c : Setup) (p q : ℕ) → q ≤ p → p < 2 ^ 21 → count_word_at c p ≡ count_word_at c q → p ≡ q
one_count c p q le few same =
    let counts : (count_of c.page + q) % 2 ^ 32 ≡ (count_of c.page + p) % 2 ^ 32 = omega (arith, same) in
    let one : count_of c.page + q ≡ count_of c.page + p = one_turn (count_of c.page + q) (count_of c.page + p) (2 ^ 32) (omega (arith, le)) (omega (arith, le, few)) counts in
    omega (arith, one)

pub page_law : (first : Bool) → KeepsRule 11 MayPage same_state (page_view first) (TellsPage first)
page_law first c a words views id v n kept at may =
    let fits = kept.seats id v at in
    let s = fits.seen in
    let fix : v.setup ≡ c = fits.setup may.1 in
    let has : is_some c.page ≡ true = ap (λ (x : Setup). is_some x.page) (sym fix) ∙ may.2 in
    let shows = kept.host_part.page has in
    let few = kept.host_part.few_pages in
    let bit = flag_most (nat_lt 0 a.host_part.stores) in
    let h = at_page_try first c a id v fits in
    let below : page_point_of a.host_part < 2 ^ 21 = omega (arith, few, bit) in
    let stands : slice_index words 11 ≡ count_word_at v.setup (page_point_of a.host_part) = shows.sequence ∙ ap (λ (x : Setup). count_word_at x (page_point_of a.host_part)) (sym fix) in (
      load_step c a words views id v (page_view first a v (slice_index words 11) n) 11 n kept at may.0 refl refl refl refl refl refl refl
          record { history = s.history; point = s.point; rows = s.rows; pages = begins_self _; page_point = omega arith }
          (segment_try_loaded c a words views id first v 11 (page_point_of a.host_part) kept fits (λ e. absurd (omega arith)))
          (rw (page_try_next first v (loaded 11 (slice_index words 11) (page_point_of a.host_part))) record { point = omega arith; marker = λ here m. absurd (cc m) }),
      record {
        point = page_point_of a.host_part;
        pages = a.host_part.pages;
        begins = s.pages;
        later = s.page_point;
        place = omega (arith, bit);
        few = below;
        stands = stands;
        known = λ k lt. subst (λ (x : Setup). 2 * page_number_of (count_of x.page) (slice_index_or v.seen.history k no_publication).sequence ≤ page_point_of a.host_part) (sym fix)
            (entry_known c a words views v.seen k kept s lt).page;
        whole = λ same word marker even.
            let le = h.point in
            let one : page_point_of a.host_part ≡ (page_try_at first v).shown = one_count v.setup (page_point_of a.host_part) (page_try_at first v).shown le below (sym stands ∙ same ∙ word) in
            let off : flag_of (nat_lt 0 a.host_part.stores) ≡ 0 = omega (arith, even, bit) in
            let half : page_point_of a.host_part / 2 ≡ length a.host_part.pages - 1 = omega (arith, off) in
            let some_page = shows.first in (
              one,
              omega (arith, half, some_page),
              h.marker shows.first marker (sym one) (stores_flag a.host_part.stores off) ∙ ap (λ x. slice_index x 2) (last_page-at a.host_part.pages (page_point_of a.host_part / 2) shows.first (sym half)),
            );
        view = refl;
      },
    )
