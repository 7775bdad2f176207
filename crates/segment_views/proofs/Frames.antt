-- What stays true of views while the state grows, and of words that a step leaves alone.
use Rattle.std.proofs.Common.{◌≡◌, ◌≢◌, ℕ, ◌+◌, ◌<◌, ◌≤◌, ◌⊎◌, ⊎_elim, List, length, sym, ap, ◌∙◌, subst, le_trans, arith, true}
use Rattle.std.specs.Prelude.{slice_index, slice_set, nat_lt}
use Rattle.std.proofs.lemmas.List.{get_or-set_same, get_or-set_other, length-set}
use mathlib.Core.Option.{some}
use lib.ListN.{get_elem?}
use Rattle.atomic_table.proofs.Lists.{at_set}
use Rattle.segment_layout.specs.declared.publication.Publication.{Publication}
use Rattle.segment_layout.specs.Words.{flag_of, IsGoodWord}
use Rattle.segment_run.specs.SegmentRun.{published_at}
use Rattle.segment_run.specs.ShowsSegment.{IsSegmentLater}
use Rattle.segment_run.proofs.SegmentLater.{later_same, published_later, segment_keeps}
use Rattle.segment_views.specs.declared.setup.Setup.{Setup}
use Rattle.segment_views.specs.Views.{Begins, DaemonPart, HostPart, Seen, SeatView, SegmentTry, PageTry, point_of, page_point_of, segment_try_of, page_try_of}
use Rattle.segment_views.specs.Rule.{SharedState, AreWordsOf, ShowsDaemonPart, ShowsHostPart, SeenFits, SegmentTryFits, PageTryFits, ViewFits, MeetsRule, last_page}
use Rattle.segment_views.proofs.Lists.{begins_self, begins_trans, begins_length, begins_whole, flag_most, flag_calm, stores_flag}

-- ---- words

pub word_else : (words : List ℕ) (i n j : ℕ) → j ≢ i → slice_index (slice_set words i n) j ≡ slice_index words j
word_else words i n j ne = get_or-set_other words i j n 0 ne

pub word_here : (words : List ℕ) (i n : ℕ) → i < length words → slice_index (slice_set words i n) i ≡ n
word_here words i n lt = get_or-set_same words i n 0 lt

-- a store past the segment's words
pub owned_else : (c : Setup) (s : DaemonPart) (words : List ℕ) (i n : ℕ) → 10 ≤ i → ShowsDaemonPart c s words → ShowsDaemonPart c s (slice_set words i n)
owned_else c s words i n far shows = record {
  shows = segment_keeps s.segment words (slice_set words i n) shows.shows (record { same = λ word low. word_else words i n word (λ e. absurd (omega arith)) }) (length-set words i n);
  layout = shows.layout;
  base = shows.base;
  stored_magic = λ m. word_else words i n 0 (λ e. absurd (omega arith)) ∙ shows.stored_magic m;
  hand = shows.hand;
  sane = λ known j lo hi. subst (λ (x : ℕ). IsGoodWord j x) (sym (word_else words i n j (λ e. absurd (omega arith)))) (shows.sane known j lo hi);
}

-- a store in the segment's words
pub world_else : (c : Setup) (w : HostPart) (words : List ℕ) (i n : ℕ) → i < 10 → ShowsHostPart c w words → ShowsHostPart c w (slice_set words i n)
world_else c w words i n near shows = record {
  clock = word_else words i n 23 (λ e. absurd (omega arith)) ∙ shows.clock;
  first_row = shows.first_row;
  few_rows = shows.few_rows;
  few_pages = shows.few_pages;
  page = λ is. let p = shows.page is in record {
    first = p.first;
    sequence = word_else words i n 11 (λ e. absurd (omega arith)) ∙ p.sequence;
    stages = p.stages;
    stored = λ j lo on. word_else words i n (j + 10) (λ e. absurd (omega arith)) ∙ p.stored j lo on;
    still = λ z j lo hi. word_else words i n (j + 10) (λ e. absurd (omega arith)) ∙ p.still z j lo hi;
  };
  no_pages = shows.no_pages;
  none = λ is j lo hi. word_else words i n j (λ e. absurd (omega arith)) ∙ shows.none is j lo hi;
}

-- ---- growth

pub record Grows (a b : SharedState) : Type 0 where
  pub known : length a.daemon_part.segment.history + a.daemon_part.segment.base ≡ a.daemon_part.segment.position
  pub after : length b.daemon_part.segment.history + b.daemon_part.segment.base ≡ b.daemon_part.segment.position
  pub later : IsSegmentLater a.daemon_part.segment b.daemon_part.segment
  pub rows : a.host_part.rows ≤ b.host_part.rows
  pub pages : Begins a.host_part.pages b.host_part.pages
  pub page_point : page_point_of a.host_part ≤ page_point_of b.host_part

pub seen_grows : (a b : SharedState) (s : Seen) → Grows a b → SeenFits a.daemon_part.segment a.host_part s → SeenFits b.daemon_part.segment b.host_part s
seen_grows a b s g t = record {
  history = begins_trans _ _ _ t.history (record { rest = g.later.more; whole = sym g.later.history });
  point = le_trans t.point g.later.point;
  rows = le_trans t.rows g.rows;
  pages = begins_trans _ _ _ t.pages g.pages;
  page_point = le_trans t.page_point g.page_point;
}

pub segment_try_grows : (a b : SharedState) (t : SegmentTry) → Grows a b → SegmentTryFits a.daemon_part.segment t → SegmentTryFits b.daemon_part.segment t
segment_try_grows a b t g h = record {
  point = le_trans h.point g.later.point;
  words = λ at calm above.
      let q = h.point in
      let p = g.later.point in
      let base = g.later.base in
      let same : point_of b.daemon_part.segment ≡ point_of a.daemon_part.segment = omega arith in
      let bit = flag_most a.daemon_part.segment.is_writing in
      let off : flag_of b.daemon_part.segment.is_writing ≡ 0 = ap flag_of calm in
      let rest : flag_of a.daemon_part.segment.is_writing ≡ 0 = omega arith in
      let place : b.daemon_part.segment.position ≡ a.daemon_part.segment.position = omega arith in
      let last : published_at b.daemon_part.segment b.daemon_part.segment.position ≡ published_at a.daemon_part.segment a.daemon_part.segment.position =
      ap (published_at b.daemon_part.segment) place ∙ published_later a.daemon_part.segment b.daemon_part.segment a.daemon_part.segment.position g.known g.later (omega arith) (omega arith) in
      subst (λ (p : Publication). AreWordsOf p.rec t.loads) (sym last) (h.words (at ∙ same) (flag_calm a.daemon_part.segment.is_writing rest) (omega arith));
  header = λ at calm some.
      let q = h.point in
      let p = g.later.point in
      let same : point_of b.daemon_part.segment ≡ point_of a.daemon_part.segment = omega arith in
      let bit = flag_most a.daemon_part.segment.is_writing in
      let off : flag_of b.daemon_part.segment.is_writing ≡ 0 = ap flag_of calm in
      let rest : flag_of a.daemon_part.segment.is_writing ≡ 0 = omega arith in
      let place : b.daemon_part.segment.position ≡ a.daemon_part.segment.position = omega arith in
      h.header (at ∙ same) (flag_calm a.daemon_part.segment.is_writing rest) (omega (arith, place, some)) ∙ sym (g.later.header place calm some);
}

page_still : (a b : HostPart) → 0 < length a.pages → Begins a.pages b.pages → page_point_of a ≡ page_point_of b → b.stores ≡ 0 → (a.pages ≡ b.pages) × (a.stores ≡ 0)
page_still a b here g e z =
    let x = flag_most (nat_lt 0 a.stores) in
    let y : flag_of (nat_lt 0 b.stores) ≡ 0 = ap (λ n. flag_of (nat_lt 0 n)) z in
    let le = begins_length a.pages b.pages g in
    let rest : flag_of (nat_lt 0 a.stores) ≡ 0 = omega arith in
    (begins_whole a.pages b.pages g (omega arith), stores_flag a.stores rest)

pub page_try_grows : (a b : SharedState) (t : PageTry) → (0 < length b.host_part.pages → 0 < length a.host_part.pages) → Grows a b → PageTryFits a.host_part t → PageTryFits b.host_part t
page_try_grows a b t before g h = record {
  point = le_trans h.point g.page_point;
  marker = λ here has at z.
      let q = h.point in let p = g.page_point in
      let same : page_point_of a.host_part ≡ page_point_of b.host_part = omega arith in
      let s = page_still a.host_part b.host_part (before here) g.pages same z in
      h.marker (before here) has (at ∙ sym same) s.1 ∙ ap (λ l. slice_index (last_page l) 2) s.0;
}

-- the other seats after a step of the seat id, which alone may change what is its own
pub record Owns (a b : SharedState) (v : SeatView) : Type 0 where
  pub grows : Grows a b
  pub some : 0 < length b.host_part.pages → 0 < length a.host_part.pages
  pub host : b.host ≡ a.host
  pub daemon : b.daemon ≡ a.daemon
  pub host_part : (v.is_host ≡ true) ⊎ (b.host_part ≡ a.host_part)
  pub daemon_part : (v.is_daemon ≡ true) ⊎ (b.daemon_part ≡ a.daemon_part)

other_fits : (c : Setup) (a b : SharedState) (id j : ℕ) (v u : SeatView) → Owns a b v → ViewFits c a id v → ViewFits c a j u → j ≢ id → ViewFits c b j u
other_fits c a b id j v u o fv fu ne = record {
  setup = fu.setup;
  host = λ is. let m = fu.host is in (m.0 ∙ sym o.host, ⊎_elim (λ mine. absurd (ne (m.0 ∙ sym (fv.host mine).0))) (λ e. m.1 ∙ sym e) o.host_part, m.2);
  daemon = λ is. let m = fu.daemon is in (m.0 ∙ sym o.daemon, ⊎_elim (λ mine. absurd (ne (m.0 ∙ sym (fv.daemon mine).0))) (λ e. m.1 ∙ sym e) o.daemon_part, m.2);
  seen = seen_grows a b u.seen o.grows fu.seen;
  taught = seen_grows a b u.taught o.grows fu.taught;
  segment_try = segment_try_grows a b (segment_try_of u) o.grows fu.segment_try;
  page_try = page_try_grows a b (page_try_of u) o.some o.grows fu.page_try;
}

pub seats_after : (c : Setup) (a b : SharedState) (words : List ℕ) (views : List SeatView) (id : ℕ) (v w : SeatView) → MeetsRule c a words views → get_elem? views id ≡ some v → Owns a b v → ViewFits c b id w
    → (j : ℕ) (u : SeatView) → get_elem? (slice_set views id w) j ≡ some u → ViewFits c b j u
seats_after c a b words views id v w kept at owns fits j u there =
    ⊎_elim (λ t. subst (λ (z : ℕ × SeatView). ViewFits c b z.0 z.1) (λ i. (sym t.0 i, t.1 i)) fits)
    (λ t. other_fits c a b id j v u owns (kept.seats id v at) (kept.seats j u t.1) t.0)
    (at_set views id j w u there)

pub grows_self : (c : Setup) (a : SharedState) (words : List ℕ) (views : List SeatView) → MeetsRule c a words views → Grows a a
grows_self c a words views kept = record { known = kept.segment.shows.is.known; after = kept.segment.shows.is.known; later = later_same a.daemon_part.segment; rows = omega arith; pages = begins_self _; page_point = omega arith }
