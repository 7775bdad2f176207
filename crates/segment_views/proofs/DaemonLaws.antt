-- The daemon's stores.
use Rattle.std.proofs.Common.{◌≡◌, ◌≢◌, ℕ, ◌+◌, ◌-◌, ◌*◌, ◌<◌, ◌≤◌, ⊎_elim, inl, inr, List, ◌∷◌, refl, sym, ap, ◌∙◌, subst, le_trans, arith, Bool, true, false, ◌%◌}
use Rattle.std.specs.Prelude.{slice_index, slice_set}
use Rattle.std.proofs.lemmas.List.{length-set}
use Rattle.std.proofs.lemmas.Bool.{cases_eq}
use mathlib.Core.Option.{some}
use lib.ListN.{get_elem?}
use Rattle.generation_word.specs.declared.layout.Layout.{Layout}
use Rattle.generation_word.specs.Header.{word1_of, generation_in}
use Rattle.generation_word.specs.Layout.{period_of}
use Rattle.generation_word.specs.Numbering.{generation_at}
use Rattle.generation_word.proofs.Laws.{generation_at-even}
use Rattle.std.proofs.lemmas.Bool.Decides.{nat_tests}
use Rattle.std.specs.Prelude.{◌==◌}
use Rattle.segment_layout.specs.declared.publication.Publication.{Publication}
use Rattle.segment_layout.specs.declared.words.TheConstants.{MAGIC}
use Rattle.segment_layout.specs.Record.{RecordFields}
use Rattle.segment_layout.specs.Words.{record_words, AreGoodWords, IsGoodWord, flag_of}
use Rattle.segment_layout.specs.History.{Begun, last_store}
use Rattle.segment_layout.proofs.Back.{record_words_good}
use Rattle.vmclock_page.specs.Host.{count_of}
use Rattle.vmclock_page.specs.Counting.{page_number_of}
use Rattle.segment_run.specs.SegmentRun.{SegmentRun, headed, moved_once, one_store_more, header_shown, number_shown, number_at, published_at}
use Rattle.segment_run.specs.ShowsSegment.{IsSegment, IsSegmentLater}
use Rattle.segment_run.proofs.SegmentEnded.{headed_is, headed_later, in_update_is, in_update_later, after_update, after_update_is, after_update_later, after_update_header}
use Rattle.segment_run.proofs.SegmentStore.{StepShows, header_stored, stores_none, stores_made, word_step}
use Rattle.segment_run.proofs.SegmentHeader.{header_tells, own_header, magic_of_header}
use Rattle.segment_run.proofs.SegmentLater.{later_same}
use Rattle.segment_views.specs.declared.setup.Setup.{Setup}
use Rattle.segment_views.specs.Views.{DaemonPart, HostPart, SeatView, no_update, point_of, point_after, segment_try_of}
use Rattle.segment_views.specs.Rule.{SharedState, HandFits, ShowsDaemonPart, EntryFits, EntriesFit, MeetsRule}
use Rattle.segment_views.specs.Steps.{KeepsRule, daemon_state, daemon_view, TellsDaemonPart, HasMagic, MayMagic, with_magic, MayHead, with_head, MayOdd, update_begun, MayFill, filled_segment, update_filled, MayEven, update_ended, MayMoveOdd, move_begun, MayMoveEven, move_ended, stored}
use Rattle.segment_views.proofs.Lists.{begins_self, entries-snoc, entries_at, segment_try-snoc, page_try-snoc}
use Rattle.segment_views.proofs.Frames.{Grows, seats_after, seen_grows, segment_try_grows, word_else, word_here, world_else}

-- what all stores of the daemon have in common: what it owns becomes this, which the words show
own_step : (c : Setup) (a : SharedState) (words : List ℕ) (views : List SeatView) (id : ℕ) (v : SeatView) (i n found : ℕ) (daemon_part : SeatView → DaemonPart)
    → MeetsRule c a words views → get_elem? views id ≡ some v → v.is_daemon ≡ true → i < 10
    → ShowsDaemonPart c (daemon_part v) (slice_set words i n) → IsSegmentLater v.daemon_part.segment (daemon_part v).segment → EntriesFit c a.host_part (daemon_part v).segment.history → (0 < (daemon_part v).hand.stores → EntryFits c a.host_part (daemon_part v).hand.publication)
    → MeetsRule c (record a { daemon_part = daemon_part v }) (slice_set words i n) (slice_set views id (daemon_view daemon_part i a v found n))
own_step c a words views id v i n found daemon_part kept at is near shows later published in_hand =
    let b : SharedState = record a { daemon_part = daemon_part v } in
    let w : SeatView = daemon_view daemon_part i a v found n in
    let fits = kept.seats id v at in
    let mine = fits.daemon is in
    let grows : Grows a b = record {
      known = kept.segment.shows.is.known;
      after = shows.shows.is.known;
      later = subst (λ (x : DaemonPart). IsSegmentLater x.segment (daemon_part v).segment) mine.1 later;
      rows = omega arith;
      pages = begins_self _;
      page_point = omega arith;
    } in
    record {
      segment = shows;
      host_part = world_else c a.host_part words i n near kept.host_part;
      published = published;
      in_hand = in_hand;
      seats = seats_after c a b words views id v w kept at
          record { grows = grows; some = λ h. h; host = refl; daemon = refl; host_part = inr refl; daemon_part = inl is }
          record {
            setup = fits.setup;
            host = fits.host;
            daemon = λ _. (mine.0, refl, mine.2);
            seen = seen_grows a b v.seen grows fits.seen;
            taught = seen_grows a b v.taught grows fits.taught;
            segment_try = rw (segment_try-snoc _ v.steps (stored i n (point_of (daemon_part v).segment))) (segment_try_grows a b (segment_try_of v) grows fits.segment_try);
            page_try = rw (page_try-snoc _ v.steps (stored i n (point_of (daemon_part v).segment))) fits.page_try;
          };
    }

-- what the daemon owns is shown, and its entries fit
pub record Own (c : Setup) (host_part : HostPart) (words : List ℕ) (s : DaemonPart) : Type 0 where
  pub shows : ShowsDaemonPart c s words
  pub published : EntriesFit c host_part s.segment.history
  pub in_hand : 0 < s.hand.stores → EntryFits c host_part s.hand.publication

own : (c : Setup) (a : SharedState) (words : List ℕ) (views : List SeatView) (id : ℕ) (v : SeatView) → MeetsRule c a words views → get_elem? views id ≡ some v → v.is_daemon ≡ true → Own c a.host_part words v.daemon_part
own c a words views id v kept at is =
    subst (λ (x : DaemonPart). Own c a.host_part words x) (sym ((kept.seats id v at).daemon is).1) (record { shows = kept.segment; published = kept.published; in_hand = kept.in_hand })

-- the data words stay by a store in word 0 or 1
good_below : (words : List ℕ) (i n : ℕ) → i < 2 → AreGoodWords words → AreGoodWords (slice_set words i n)
good_below words i n low good j lo hi = subst (λ (x : ℕ). IsGoodWord j x) (sym (word_else words i n j (λ e. absurd (omega arith)))) (good j lo hi)

-- no update is in hand
pub none_fits : (segment : SegmentRun) → HandFits segment no_update
none_fits segment = record { storing = λ on. absurd (omega arith); moving = λ m. absurd (cc m) }

the_magic : (c : Setup) (s : DaemonPart) (words : List ℕ) → ShowsDaemonPart c s words → HasMagic s → slice_index words 0 ≡ MAGIC
the_magic c s words shows (inl stored_magic) = shows.stored_magic stored_magic
the_magic c s words shows (inr headed_) = magic_of_header s.segment words shows.shows headed_

writes_magic : (c : Setup) (s : DaemonPart) (words : List ℕ) → ShowsDaemonPart c s words → s.segment.is_writing ≡ true → slice_index words 0 ≡ MAGIC
writes_magic c s words shows writes = magic_of_header s.segment words shows.shows (λ zero. (let calm = (shows.shows.is.none zero).1 in absurd (cc (calm, writes))))

known_magic : (c : Setup) (s : DaemonPart) (words : List ℕ) → ShowsDaemonPart c s words → s.segment.base < s.segment.position → slice_index words 0 ≡ MAGIC
known_magic c s words shows above = magic_of_header s.segment words shows.shows (λ zero. (let none = (shows.shows.is.none zero).0 in absurd (omega (arith, none, above))))

-- ---- the point

-- the layout's own header tells its number
own_told : (layout : Layout) (n : ℕ) → generation_in (word1_of layout n) ≡ n
own_told layout n = header_tells layout (word1_of layout n) n (own_header layout n)

point_kept : (point word value : ℕ) → word ≢ 1 → point ≡ point_after point word value
point_kept point word value other = let test : (word == 1) ≡ false = grind (arith, nat_tests) in rw test refl

point_same : (point number value : ℕ) → generation_in value ≡ number → number % 2 ≡ point % 2 → point ≡ point_after point 1 value
point_same point number value tells same = let test : (generation_in value % 2 == point % 2) ≡ true = grind (arith, nat_tests) in rw test refl

point_raised : (point number value : ℕ) → generation_in value ≡ number → number % 2 ≢ point % 2 → point + 1 ≡ point_after point 1 value
point_raised point number value tells other = let test : (generation_in value % 2 == point % 2) ≡ false = grind (arith, nat_tests) in rw test refl

-- the header over what stands there
head_point : (segment : SegmentRun) (value : ℕ) → value ≡ word1_of segment.layout (number_shown segment) → point_of segment ≡ point_after (point_of segment) 1 value
head_point segment value is =
    let even = generation_at-even (period_of segment.layout) segment.position in
    point_same (point_of segment) (number_shown segment) value (ap generation_in is ∙ own_told segment.layout (number_shown segment)) (omega (arith, even))

-- an odd number
odd_point_by : (layout : Layout) (position : ℕ) (writes : Bool) (value : ℕ) → value ≡ word1_of layout (generation_at (period_of layout) position + 1) → 2 * position + 1 ≡ point_after (2 * position + flag_of writes) 1 value
odd_point_by layout position true value is =
    let even = generation_at-even (period_of layout) position in
    point_same (2 * position + 1) (generation_at (period_of layout) position + 1) value (ap generation_in is ∙ own_told layout (generation_at (period_of layout) position + 1)) (omega (arith, even))
odd_point_by layout position false value is =
    let even = generation_at-even (period_of layout) position in
    let none : 2 * position + 0 ≡ 2 * position = omega arith in
    ap (λ (n : ℕ). n + 1) (sym none)
    ∙ point_raised (2 * position + 0) (generation_at (period_of layout) position + 1) value (ap generation_in is ∙ own_told layout (generation_at (period_of layout) position + 1)) (λ same. absurd (omega (arith, even, same)))

-- an even number in an update
even_point : (segment : SegmentRun) (value : ℕ) → segment.is_writing ≡ true → value ≡ word1_of segment.layout (number_at segment (segment.position + 1)) → 2 * (segment.position + 1) + 0 ≡ point_after (point_of segment) 1 value
even_point segment value writes is =
    let even = generation_at-even (period_of segment.layout) (segment.position + 1) in
    let on : flag_of segment.is_writing ≡ 1 = ap flag_of writes in
    let next : 2 * (segment.position + 1) + 0 ≡ point_of segment + 1 = omega (arith, on) in
    next ∙ point_raised (point_of segment) (number_at segment (segment.position + 1)) value (ap generation_in is ∙ own_told segment.layout (number_at segment (segment.position + 1))) (λ same. absurd (omega (arith, even, same, on)))

-- ---- a store in word 1

-- a number that is stored for this view, with the segment's own layout
own_number : (c : Setup) (s : DaemonPart) (words : List ℕ) (v : SeatView) (n number : ℕ) → ShowsDaemonPart c s words → v.setup ≡ c → n ≡ word1_of v.setup.layout number → n ≡ word1_of s.segment.layout number
own_number c s words v n number shows fix value = value ∙ ap (λ (l : Layout). word1_of l number) (ap (λ (x : Setup). x.layout) fix ∙ sym shows.layout)

-- the word of the next even number is the header of the segment that is published so
even_header : (segment : SegmentRun) (e : Publication) (begun : List Begun) (n : ℕ) → segment.is_headed ≡ true → n ≡ word1_of segment.layout (number_at segment (segment.position + 1)) → n ≡ header_shown (after_update segment e begun)
even_header segment e begun n headed_ value = value ∙ sym (after_update_header segment e begun headed_)

-- what a store of this header makes: the daemon's new part is shown by the words, and the data words keep what they show
pub record StoresHeader (c : Setup) (host_part : HostPart) (words : List ℕ) (n : ℕ) (old new : DaemonPart) : Type 0 where
  pub shows : ShowsDaemonPart c old words
  pub magic : slice_index words 0 ≡ MAGIC
  pub is : IsSegment new.segment
  pub later : IsSegmentLater old.segment new.segment
  pub header : n ≡ header_shown new.segment
  pub data_words : (word : ℕ) → 2 ≤ word → word < 10 → last_store old.segment.image old.segment.begun word ≡ last_store new.segment.image new.segment.begun word
  pub hand : HandFits new.segment new.hand
  pub sane : new.segment.base < new.segment.position → AreGoodWords words
  pub published : EntriesFit c host_part new.segment.history
  pub in_hand : 0 < new.hand.stores → EntryFits c host_part new.hand.publication
  pub point : point_of new.segment ≡ point_after (point_of old.segment) 1 n

header_step : (c : Setup) (a : SharedState) (words : List ℕ) (views : List SeatView) (id : ℕ) (v : SeatView) (n : ℕ) (daemon_part : SeatView → DaemonPart) → MeetsRule c a words views → get_elem? views id ≡ some v → v.is_daemon ≡ true
    → StoresHeader c a.host_part words n v.daemon_part (daemon_part v)
    → MeetsRule c (record a { daemon_part = daemon_part v }) (slice_set words 1 n) (slice_set views id (daemon_view daemon_part 1 a v (slice_index words 1) n))
    × TellsDaemonPart daemon_part 1 v (slice_index words 1) n (daemon_view daemon_part 1 a v (slice_index words 1) n)
header_step c a words views id v n daemon_part kept at is h =
    let step = header_stored v.daemon_part.segment (daemon_part v).segment words n h.shows.shows h.magic h.is h.later h.header h.data_words in (
      own_step c a words views id v 1 n (slice_index words 1) daemon_part kept at is (omega arith)
          record {
            shows = step.shows;
            layout = h.later.layout ∙ h.shows.layout;
            base = h.later.base ∙ h.shows.base;
            stored_magic = λ m. step.magic;
            hand = h.hand;
            sane = λ known. good_below words 1 n (omega arith) (h.sane known);
          }
          h.later h.published h.in_hand,
      record { view = refl; is = h.is; later = h.later; point = h.point; header = inl (sym h.header) },
    )

-- ---- the opening

pub magic_law : KeepsRule 0 MayMagic (daemon_state with_magic) (daemon_view with_magic 0) (TellsDaemonPart with_magic 0)
magic_law c a words views id v n kept at may =
    let o = own c a words views id v kept at may.0 in
    let s = o.shows in
    let wide = s.shows.wide in (
      own_step c a words views id v 0 n (slice_index words 0) with_magic kept at may.0 (omega arith)
          record {
            shows = record {
              is = s.shows.is;
              wide = length-set words 0 n ∙ wide;
              magic = inl (word_here words 0 n (omega (arith, wide)) ∙ may.1);
              header = word_else words 0 n 1 (λ e. absurd (omega arith)) ∙ s.shows.header;
              data_words = λ word low high. word_else words 0 n word (λ e. absurd (omega arith)) ∙ s.shows.data_words word low high;
            };
            layout = s.layout;
            base = s.base;
            stored_magic = λ m. word_here words 0 n (omega (arith, wide)) ∙ may.1;
            hand = record { storing = s.hand.storing; moving = s.hand.moving };
            sane = λ known. good_below words 0 n (omega arith) (s.sane known);
          }
          (later_same v.daemon_part.segment) o.published o.in_hand,
      record { view = refl; is = s.shows.is; later = later_same v.daemon_part.segment; point = point_kept (point_of v.daemon_part.segment) 0 n (λ e. absurd (omega arith)); header = inr refl },
    )

pub head_law : KeepsRule 1 MayHead (daemon_state with_head) (daemon_view with_head 1) (TellsDaemonPart with_head 1)
head_law c a words views id v n kept at may =
    let o = own c a words views id v kept at may.0 in
    let value = own_number c v.daemon_part words v n (number_shown v.daemon_part.segment) o.shows ((kept.seats id v at).daemon may.0).2 may.3 in
    header_step c a words views id v n with_head kept at may.0
    record {
      shows = o.shows;
      magic = the_magic c v.daemon_part words o.shows may.1;
      is = headed_is v.daemon_part.segment o.shows.shows.is;
      later = headed_later v.daemon_part.segment may.2;
      header = value;
      data_words = λ word low high. refl;
      hand = none_fits (headed v.daemon_part.segment);
      sane = o.shows.sane;
      published = o.published;
      in_hand = λ on. absurd (omega arith);
      point = head_point v.daemon_part.segment n value;
    }

-- ---- a publication

pub odd_law : (e : Publication) → KeepsRule 1 (MayOdd e) (daemon_state (update_begun e)) (daemon_view (update_begun e) 1) (TellsDaemonPart (update_begun e) 1)
odd_law e c a words views id v n kept at may =
    let fits = kept.seats id v at in
    let fix = (fits.daemon may.0).2 in
    let o = own c a words views id v kept at may.0 in
    let begun : List Begun = record { rec = e.rec; stores = 1 } ∷ v.daemon_part.segment.begun in
    let value = own_number c v.daemon_part words v n (number_at v.daemon_part.segment v.daemon_part.segment.position + 1) o.shows fix may.2 in
    header_step c a words views id v n (update_begun e) kept at may.0
    record {
      shows = o.shows;
      magic = the_magic c v.daemon_part words o.shows may.1;
      is = in_update_is v.daemon_part.segment (record { rec = e.rec; stores = 1 } ∷ v.daemon_part.segment.begun) o.shows.shows.is;
      later = in_update_later v.daemon_part.segment (record { rec = e.rec; stores = 1 } ∷ v.daemon_part.segment.begun);
      header = value;
      data_words = λ word low high. stores_none v.daemon_part.segment.image e.rec v.daemon_part.segment.begun word low;
      hand = record {
        storing = λ on. record { writes = refl; headed = refl; few = omega arith; older = v.daemon_part.segment.begun; begun = refl; bounds = may.3 };
        moving = λ m. absurd (cc m);
      };
      sane = o.shows.sane;
      published = o.published;
      in_hand = λ on. record {
        rows = le_trans may.4 fits.seen.rows;
        page = le_trans (subst (λ (x : Setup). 2 * page_number_of (count_of x.page) e.sequence ≤ v.seen.page_point) fix may.5) fits.seen.page_point;
      };
      point = odd_point_by v.daemon_part.segment.layout v.daemon_part.segment.position v.daemon_part.segment.is_writing n value;
    }

pub fill_law : (i : ℕ) → 2 ≤ i → i < 10 → KeepsRule i (MayFill i) (daemon_state (update_filled i)) (daemon_view (update_filled i) i) (TellsDaemonPart (update_filled i) i)
fill_law i lo hi c a words views id v n kept at may =
    let o = own c a words views id v kept at may.0 in
    let s = o.shows in
    let wide = s.shows.wide in
    let h = s.hand.storing may.1 in
    let made : ℕ = v.daemon_part.hand.stores in
    let stage = may.2 in
    let magic = writes_magic c v.daemon_part words s h.writes in
    let rec : RecordFields = v.daemon_part.hand.publication.rec in
    let step0 = word_step v.daemon_part.segment v.daemon_part.hand.publication v.daemon_part.hand.stores words h.older s.shows magic h.writes h.begun may.1 (omega arith) in
    let step : StepShows v.daemon_part.segment (filled_segment v.daemon_part.segment) words (slice_set words i n) =
    subst (λ (x : ℕ × ℕ). StepShows v.daemon_part.segment (filled_segment v.daemon_part.segment) words (slice_set words x.0 x.1)) (λ j. (stage j, (ap (slice_index (record_words 0 v.daemon_part.hand.publication.rec)) stage ∙ sym may.3) j))
    step0 in (
      own_step c a words views id v i n (slice_index words i) (update_filled i) kept at may.0 hi
          record {
            shows = step.shows;
            layout = s.layout;
            base = s.base;
            stored_magic = λ m. step.magic;
            hand = record {
              storing = λ on. record { writes = h.writes; headed = h.headed; few = hi; older = h.older; begun = ap one_store_more h.begun ∙ ap (λ (k : ℕ). record { rec = rec; stores = k } ∷ h.older) stage; bounds = h.bounds };
              moving = λ m. absurd (cc m);
            };
            sane = λ known j lo' hi'. ⊎_elim
                (λ (e : j ≡ i). subst (λ (x : ℕ). IsGoodWord x (slice_index (slice_set words i n) x)) (sym e)
                (subst (λ x. IsGoodWord i x) (sym (word_here words i n (omega (arith, wide)) ∙ may.3)) (record_words_good 0 rec h.bounds i lo hi)))
                (λ (ne : j ≢ i). subst (λ x. IsGoodWord j x) (sym (word_else words i n j ne)) (s.sane known j lo' hi'))
                (cases_eq j i);
          }
          step.later o.published (λ on. o.in_hand may.1),
      record { view = refl; is = step.shows.is; later = step.later; point = point_kept (point_of v.daemon_part.segment) i n (λ e. absurd (omega arith)); header = inr refl },
    )

pub even_law : KeepsRule 1 MayEven (daemon_state update_ended) (daemon_view update_ended 1) (TellsDaemonPart update_ended 1)
even_law c a words views id v n kept at may =
    let o = own c a words views id v kept at may.0 in
    let s = o.shows in
    let nine = may.1 in
    let h = s.hand.storing (omega arith) in
    let begun : v.daemon_part.segment.begun ≡ record { rec = v.daemon_part.hand.publication.rec; stores = 9 } ∷ h.older = h.begun ∙ ap (λ (k : ℕ). record { rec = v.daemon_part.hand.publication.rec; stores = k } ∷ h.older) nine in
    let holds : (word : ℕ) → 2 ≤ word → word < 10 → last_store v.daemon_part.segment.image (one_store_more v.daemon_part.segment.begun) word ≡ slice_index (record_words 0 v.daemon_part.hand.publication.rec) word = λ word low high.
    ap (λ (b : List Begun). last_store v.daemon_part.segment.image (one_store_more b) word) begun ∙ stores_made v.daemon_part.segment.image v.daemon_part.hand.publication.rec h.older (9 + 1) word (omega arith) in
    let was : (word : ℕ) → 2 ≤ word → word < 10 → last_store v.daemon_part.segment.image v.daemon_part.segment.begun word ≡ slice_index (record_words 0 v.daemon_part.hand.publication.rec) word = λ word low high.
    ap (λ (b : List Begun). last_store v.daemon_part.segment.image b word) begun ∙ stores_made v.daemon_part.segment.image v.daemon_part.hand.publication.rec h.older 9 word (omega arith) in
    let value = own_number c v.daemon_part words v n (number_at v.daemon_part.segment (v.daemon_part.segment.position + 1)) s ((kept.seats id v at).daemon may.0).2 may.2 in
    header_step c a words views id v n update_ended kept at may.0
    record {
      shows = s;
      magic = writes_magic c v.daemon_part words s h.writes;
      is = after_update_is v.daemon_part.segment v.daemon_part.hand.publication (one_store_more v.daemon_part.segment.begun) s.shows.is h.headed h.bounds holds;
      later = after_update_later v.daemon_part.segment v.daemon_part.hand.publication (one_store_more v.daemon_part.segment.begun);
      header = even_header v.daemon_part.segment v.daemon_part.hand.publication (one_store_more v.daemon_part.segment.begun) n h.headed value;
      data_words = λ word low high. was word low high ∙ sym (holds word low high);
      hand = none_fits (update_ended v).segment;
      sane = λ known j lo hi. subst (λ x. IsGoodWord j x) (sym (s.shows.data_words j lo hi ∙ was j lo hi)) (record_words_good 0 v.daemon_part.hand.publication.rec h.bounds j lo hi);
      published = entries-snoc c a.host_part v.daemon_part.segment.history v.daemon_part.hand.publication o.published (o.in_hand (omega arith));
      in_hand = λ on. absurd (omega arith);
      point = even_point v.daemon_part.segment n h.writes value;
    }

-- ---- the move

pub move_odd_law : KeepsRule 1 MayMoveOdd (daemon_state move_begun) (daemon_view move_begun 1) (TellsDaemonPart move_begun 1)
move_odd_law c a words views id v n kept at may =
    let o = own c a words views id v kept at may.0 in
    let s = o.shows in
    let value = own_number c v.daemon_part words v n (number_at v.daemon_part.segment v.daemon_part.segment.position + 1) s ((kept.seats id v at).daemon may.0).2 may.3 in
    header_step c a words views id v n move_begun kept at may.0
    record {
      shows = s;
      magic = known_magic c v.daemon_part words s may.2;
      is = in_update_is v.daemon_part.segment v.daemon_part.segment.begun s.shows.is;
      later = in_update_later v.daemon_part.segment v.daemon_part.segment.begun;
      header = value;
      data_words = λ word low high. refl;
      hand = record {
        storing = λ on. absurd (omega arith);
        moving = λ m. record { known = may.2; writes = refl; headed = refl; holds = s.shows.is.stands may.1 may.2 };
      };
      sane = s.sane;
      published = o.published;
      in_hand = λ on. absurd (omega arith);
      point = odd_point_by v.daemon_part.segment.layout v.daemon_part.segment.position v.daemon_part.segment.is_writing n value;
    }

pub move_even_law : KeepsRule 1 MayMoveEven (daemon_state move_ended) (daemon_view move_ended 1) (TellsDaemonPart move_ended 1)
move_even_law c a words views id v n kept at may =
    let o = own c a words views id v kept at may.0 in
    let s = o.shows in
    let h = s.hand.moving may.1 in
    let above = h.known in
    let known = s.shows.is.known in
    let bounds = s.shows.is.records v.daemon_part.segment.position above (omega arith) in
    let value = own_number c v.daemon_part words v n (number_at v.daemon_part.segment (v.daemon_part.segment.position + 1)) s ((kept.seats id v at).daemon may.0).2 may.2 in
    header_step c a words views id v n move_ended kept at may.0
    record {
      shows = s;
      magic = writes_magic c v.daemon_part words s h.writes;
      is = after_update_is v.daemon_part.segment (published_at v.daemon_part.segment v.daemon_part.segment.position) v.daemon_part.segment.begun s.shows.is h.headed bounds h.holds;
      later = after_update_later v.daemon_part.segment (published_at v.daemon_part.segment v.daemon_part.segment.position) v.daemon_part.segment.begun;
      header = even_header v.daemon_part.segment (published_at v.daemon_part.segment v.daemon_part.segment.position) v.daemon_part.segment.begun n h.headed value;
      data_words = λ word low high. refl;
      hand = none_fits (moved_once v.daemon_part.segment);
      sane = λ _. s.sane above;
      published = entries-snoc c a.host_part v.daemon_part.segment.history (published_at v.daemon_part.segment v.daemon_part.segment.position) o.published
          (entries_at c a.host_part v.daemon_part.segment.history (v.daemon_part.segment.position - v.daemon_part.segment.base - 1) o.published (omega arith));
      in_hand = λ on. absurd (omega arith);
      point = even_point v.daemon_part.segment n h.writes value;
    }
