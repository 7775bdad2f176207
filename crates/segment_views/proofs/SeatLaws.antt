-- The first seat, splits and joins.
use Rattle.std.proofs.Common.{◌≡◌, ◌≢◌, ℕ, zero, suc, ◌+◌, ◌-◌, ◌*◌, ◌<◌, ◌≤◌, ⊎_elim, List, [], ◌∷◌, ◌++◌, length, refl, sym, ap, ◌∙◌, subst, arith, true, Option, Some, None}
use Rattle.std.specs.Prelude.{slice_index, slice_set, is_some, IfSome}
use Rattle.std.proofs.Math.ListN.{length-set}
use mathlib.Core.Option.{some, some-ne-none, some-injective}
use lib.ListN.{get_elem?}
use Rattle.atomic_table.proofs.Lists.{at_set}
use Rattle.generation_word.specs.declared.layout.Layout.{Layout}
use Rattle.segment_layout.specs.declared.start.Start.{Start}
use Rattle.segment_layout.specs.declared.start.Start.TheVariants.{Fresh, Kept as Held, Torn}
use Rattle.segment_layout.proofs.Admitted.{image_of-start}
use Rattle.segment_layout.specs.Words.{AreGoodWords, IsGoodWord}
use Rattle.vmclock_page.specs.Host.{count_of}
use Rattle.vmclock_page.specs.Counting.{page_number_of}
use Rattle.vmclock_page.specs.Words.{word_with_count}
use Rattle.vmclock_page.specs.Host.{constants_of, raised}
use Rattle.vmclock_page.specs.HostRows.{StartsEven}
use Rattle.segment_run.specs.SegmentRun.{SegmentRun, segment_by}
use Rattle.segment_run.proofs.SegmentStart.{Holds, admitted_holds, segment_start_shows}
use Rattle.segment_views.specs.declared.setup.Setup.{Setup}
use Rattle.segment_views.specs.Views.{DaemonPart, HostPart, Seen, SeatView, nothing_seen, first_segment, point_of}
use Rattle.segment_views.specs.Rule.{SharedState, SeenFits, EntriesFit, ShowsHostPart, ViewFits, MeetsRule, count_word_at}
use Rattle.segment_views.specs.Steps.{KeepsRule, MayLoad, same_state}
use Rattle.segment_views.specs.Seats.{all_of, part, pages_at_first, first_host_part, first_daemon_part, opener, opening_state, page_word, Opens, KeepsSplit, IsHost, IsDaemon, host_to, daemon_to, state_stays, without_host, without_daemon, whole_view, part_of, daemon_part, taught_by, spent, KeepsJoin, told_view, TellsTaught}
use Rattle.segment_views.proofs.Lists.{begins_self, begins_nil, at_end}
use Rattle.segment_views.proofs.DaemonLaws.{none_fits}
use Rattle.segment_views.proofs.LoadLaws.{load_step, tries_nothing, looks_at_nothing}

knows_nothing : (segment : SegmentRun) (w : HostPart) → SeenFits segment w nothing_seen
knows_nothing segment w = record { history = begins_nil _; point = omega arith; rows = omega arith; pages = begins_nil _; page_point = omega arith }

knows_all : (s : DaemonPart) (w : HostPart) → SeenFits s.segment w (all_of s w)
knows_all s w = record { history = begins_self _; point = omega arith; rows = omega arith; pages = begins_self _; page_point = omega arith }

in_range : {A : Type 0} (l : List A) (i : ℕ) (a : A) → get_elem? l i ≡ some a → i < length l
in_range [] i a e = absurd (some-ne-none a (sym e))
in_range (x ∷ xs) zero a e = omega arith
in_range (x ∷ xs) (suc i) a e = let h = in_range xs i a e in omega arith

-- the views after a split: what is asked of the old ones and of the new one
split_seats : (c : Setup) (a b : SharedState) (words : List ℕ) (views : List SeatView) (id : ℕ) (l r : SeatView) → MeetsRule c a words views → b.daemon_part ≡ a.daemon_part → b.host_part ≡ a.host_part
    → ((j : ℕ) (u : SeatView) → get_elem? views j ≡ some u → j < length views → j ≢ id → ViewFits c b j u) → ViewFits c b id l → ViewFits c b (length views) r
    → MeetsRule c b words (slice_set views id l ++ r ∷ [])
split_seats c a b words views id l r kept seg host_part others left right = record {
  segment = rw seg kept.segment;
  host_part = rw host_part kept.host_part;
  published = rw (seg, host_part) kept.published;
  in_hand = rw (seg, host_part) kept.in_hand;
  seats = λ j u at. ⊎_elim
      (λ old. ⊎_elim
      (λ t. subst (λ (z : ℕ × SeatView). ViewFits c b z.0 z.1) (λ i. (sym t.0 i, t.1 i)) left)
      (λ t. others j u t.1 (in_range views j u t.1) t.0)
      (at_set views id j l u old))
      (λ new. subst (λ (z : ℕ × SeatView). ViewFits c b z.0 z.1) (λ i. (sym (new.1 ∙ length-set views id l) i, new.0 i)) right)
      (at_end (slice_set views id l) r u j at);
}

pub host_split : KeepsSplit IsHost host_to without_host without_daemon
host_split c a words views id v kept at may =
    let b : SharedState = host_to a (length views) in
    let h = kept.seats id v at in
    split_seats c a b words views id (without_host v) (without_daemon v) kept refl refl
    (λ j u there lt ne. let g = kept.seats j u there in record {
      setup = g.setup;
      host = λ is. absurd (ne ((g.host is).0 ∙ sym (h.host may).0));
      daemon = g.daemon;
      seen = g.seen;
      taught = g.taught;
      segment_try = g.segment_try;
      page_try = g.page_try;
    })
    record { setup = h.setup; host = λ is. absurd (cc is); daemon = h.daemon; seen = h.seen; taught = h.taught; segment_try = h.segment_try; page_try = h.page_try }
    record { setup = h.setup; host = λ is. (refl, (h.host may).1, (h.host may).2); daemon = λ is. absurd (cc is); seen = h.seen; taught = h.taught; segment_try = h.segment_try; page_try = h.page_try }

pub daemon_split : KeepsSplit IsDaemon daemon_to without_daemon without_host
daemon_split c a words views id v kept at may =
    let b : SharedState = daemon_to a (length views) in
    let h = kept.seats id v at in
    split_seats c a b words views id (without_daemon v) (without_host v) kept refl refl
    (λ j u there lt ne. let g = kept.seats j u there in record {
      setup = g.setup;
      host = g.host;
      daemon = λ is. absurd (ne ((g.daemon is).0 ∙ sym (h.daemon may).0));
      seen = g.seen;
      taught = g.taught;
      segment_try = g.segment_try;
      page_try = g.page_try;
    })
    record { setup = h.setup; host = h.host; daemon = λ is. absurd (cc is); seen = h.seen; taught = h.taught; segment_try = h.segment_try; page_try = h.page_try }
    record { setup = h.setup; host = λ is. absurd (cc is); daemon = λ is. (refl, (h.daemon may).1, (h.daemon may).2); seen = h.seen; taught = h.taught; segment_try = h.segment_try; page_try = h.page_try }

-- a part fits wherever it stands, if what it has seen does
part_fits : (c : Setup) (a : SharedState) (id : ℕ) (g : Setup) (s : Seen) → g ≡ c → SeenFits a.daemon_part.segment a.host_part s → ViewFits c a id (part g s)
part_fits c a id g s fix h = record {
  setup = λ _. fix;
  host = λ is. absurd (cc is);
  daemon = λ is. absurd (cc is);
  seen = h;
  taught = knows_nothing a.daemon_part.segment a.host_part;
  segment_try = tries_nothing a.daemon_part.segment;
  page_try = looks_at_nothing a.host_part;
}

pub part_split : KeepsSplit (λ v. v.seated ≡ true) state_stays whole_view part_of
part_split c a words views id v kept at may =
    let h = kept.seats id v at in
    split_seats c a a words views id v (part_of v) kept refl refl (λ j u there lt ne. kept.seats j u there) h (part_fits c a (length views) v.setup v.seen (h.setup may) h.seen)

pub daemon_part_split : KeepsSplit IsDaemon state_stays whole_view daemon_part
daemon_part_split c a words views id v kept at may =
    let h = kept.seats id v at in
    let mine = h.daemon may in
    let s : Seen = record v.seen { history = v.daemon_part.segment.history; point = point_of v.daemon_part.segment } in
    split_seats c a a words views id v (daemon_part v) kept refl refl (λ j u there lt ne. kept.seats j u there) h
    (part_fits c a (length views) v.setup s mine.2
    record { history = rw mine.1 (begins_self _); point = rw mine.1 (omega arith); rows = h.seen.rows; pages = h.seen.pages; page_point = h.seen.page_point })

spent_fits : (c : Setup) (a : SharedState) (id : ℕ) → ViewFits c a id spent
spent_fits c a id = record {
  setup = λ is. absurd (cc is);
  host = λ is. absurd (cc is);
  daemon = λ is. absurd (cc is);
  seen = knows_nothing a.daemon_part.segment a.host_part;
  taught = knows_nothing a.daemon_part.segment a.host_part;
  segment_try = tries_nothing a.daemon_part.segment;
  page_try = looks_at_nothing a.host_part;
}

pub join_law : KeepsJoin taught_by spent
join_law c a words views id v other w kept at ne there =
    let h = kept.seats id v at in
    let both : SeatView = taught_by v w in
    let away : get_elem? views other ≡ some w = ⊎_elim (λ t. absurd (ne t.0)) (λ t. t.1) (at_set views id other both w there) in
    let g = kept.seats other w away in
    let both_fits : ViewFits c a id both = record { setup = h.setup; host = h.host; daemon = h.daemon; seen = h.seen; taught = g.seen; segment_try = h.segment_try; page_try = h.page_try } in
    record {
      segment = kept.segment;
      host_part = kept.host_part;
      published = kept.published;
      in_hand = kept.in_hand;
      seats = λ j u e. ⊎_elim
          (λ t. subst (λ (x : SeatView). ViewFits c a j x) t.1 (spent_fits c a j))
          (λ t. ⊎_elim (λ s. subst (λ (z : ℕ × SeatView). ViewFits c a z.0 z.1) (λ i. (sym s.0 i, s.1 i)) both_fits) (λ s. kept.seats j u s.1) (at_set views id j both u t.1))
          (at_set (slice_set views id both) other j spent u e);
    }

pub tell_law : KeepsRule 0 MayLoad same_state told_view TellsTaught
tell_law c a words views id v n kept at may =
    let h = kept.seats id v at in (
      load_step c a words views id v v 0 n kept at may.0 refl refl refl refl refl refl refl h.seen h.segment_try h.page_try,
      record {
        view = refl;
        daemon = λ d. let m = h.daemon d in rw m.1 (h.taught.history, h.taught.point);
        host = λ o. let m = h.host o in rw m.1 (h.taught.rows, h.taught.pages, h.taught.page_point);
      },
    )

-- ---- the first seat

start_layout : (layout : Layout) (image : List ℕ) (sequence : ℕ) (start : Start) → (segment_by layout image sequence start).layout ≡ layout
start_layout layout image sequence Fresh = refl
start_layout layout image sequence (Torn generation) = refl
start_layout layout image sequence (Held generation rec) = refl

start_sane : (layout : Layout) (image : List ℕ) (sequence : ℕ) (start : Start) → Holds layout image start → (segment_by layout image sequence start).base < (segment_by layout image sequence start).position → AreGoodWords image
start_sane layout image sequence Fresh holds above = absurd (omega (arith, above))
start_sane layout image sequence (Torn generation) holds above = absurd (omega (arith, above))
start_sane layout image sequence (Held generation rec) holds above = holds.1.1.1.1.1

own_number : (s : ℕ) → 2 * page_number_of s s ≤ 0
own_number s = omega arith

start_entries : (c : Setup) (w : HostPart) (image : List ℕ) (start : Start) → 1 ≤ w.rows → EntriesFit c w (segment_by c.layout image (count_of c.page) start).history
start_entries c w image Fresh some_row = tt
start_entries c w image (Torn generation) some_row = tt
start_entries c w image (Held generation rec) some_row = (record { rows = some_row; page = (let none = own_number (count_of c.page) in omega (arith, none)) }, tt)

even_word : (c : Setup) (page : List ℕ) → c.page ≡ Some page → StartsEven page → slice_index page 1 ≡ count_word_at c 0
even_word c page is starts =
    let small = starts.small in
    let same : raised 0 (count_of (Some page)) ≡ count_of (Some page) = omega (arith, small) in
    starts.word ∙ (ap (word_with_count (constants_of (Some page))) (sym same) ∙ ap (λ (p : Option (List ℕ)). word_with_count (constants_of p) (raised 0 (count_of p))) (sym is))

world_by : (c : Setup) (words : List ℕ) (page : Option (List ℕ)) → c.page ≡ page → IfSome page StartsEven → 1 ≤ c.rows → slice_index words 23 ≡ 1 → ((i : ℕ) → i < 13 → slice_index words (i + 10) ≡ page_word page i)
    → ShowsHostPart c (record { rows = 1; pages = pages_at_first page; stores = 0; hand = [] }) words
world_by c words None is starts rows row shown = record {
  clock = row;
  first_row = omega arith;
  few_rows = rows;
  few_pages = omega arith;
  page = λ has. absurd (cc (sym (ap is_some is) ∙ has));
  no_pages = λ none. refl;
  none = λ none i lo hi. let back : i - 10 + 10 ≡ i = omega arith in subst (λ (j : ℕ). slice_index words j ≡ 0) back (shown (i - 10) (omega arith));
}
world_by c words (Some page) is starts rows row shown = record {
  clock = row;
  first_row = omega arith;
  few_rows = rows;
  few_pages = omega arith;
  page = λ has. record {
    first = omega arith;
    sequence = shown 1 (omega arith) ∙ even_word c page is starts;
    stages = omega arith;
    stored = λ i lo hi. absurd (omega arith);
    still = λ z i lo hi. shown i hi;
  };
  no_pages = λ none. absurd (cc (sym (ap is_some is) ∙ none));
  none = λ none. absurd (cc (sym (ap is_some is) ∙ none));
}

first_fits : (c : Setup) → ViewFits c (opening_state c) 0 (opener c)
first_fits c = record {
  setup = λ _. refl;
  host = λ _. (refl, refl, refl);
  daemon = λ _. (refl, refl, refl);
  seen = knows_all (first_daemon_part c) (first_host_part c);
  taught = knows_nothing _ _;
  segment_try = tries_nothing _;
  page_try = looks_at_nothing _;
}

first_seat : (c : Setup) (id : ℕ) (v : SeatView) → get_elem? (opener c ∷ []) id ≡ some v → ViewFits c (opening_state c) id v
first_seat c zero v at = subst (λ (u : SeatView). ViewFits c (opening_state c) 0 u) (some-injective (opener c) v at) (first_fits c)
first_seat c (suc id) v at = absurd (some-ne-none v (sym at))

pub opens : Opens
opens c words is opening =
    let began = image_of-start c.layout c.image is.start is.admitted in
    let held = admitted_holds c.layout c.image is.start is.fits is.admitted in
    record {
      segment = record {
        shows = segment_start_shows c.layout c.image words (count_of c.page) is.start is.ten is.fits is.admitted opening.wide opening.image;
        layout = ap (λ (found : Start). (segment_by c.layout c.image (count_of c.page) found).layout) began ∙ start_layout c.layout c.image (count_of c.page) is.start;
        base = refl;
        stored_magic = λ m. absurd (cc m);
        hand = none_fits (first_segment c);
        sane = λ above j lo hi.
            subst (λ (x : ℕ). IsGoodWord j x) (sym (opening.image j hi))
            (start_sane c.layout c.image (count_of c.page) is.start held.holds
            (subst (λ (found : Start). (segment_by c.layout c.image (count_of c.page) found).base < (segment_by c.layout c.image (count_of c.page) found).position) began above) j lo hi);
      };
      host_part = world_by c words c.page refl is.page is.rows opening.row opening.page;
      published = subst (λ (found : Start). EntriesFit c (first_host_part c) (segment_by c.layout c.image (count_of c.page) found).history) (sym began)
          (start_entries c (first_host_part c) c.image is.start (omega arith));
      in_hand = λ on. absurd (omega arith);
      seats = λ id v at. first_seat c id v at;
    }
