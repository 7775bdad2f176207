-- The host's steps.
use Rattle.std.proofs.Common.{◌≡◌, ◌≢◌, ℕ, ◌+◌, ◌-◌, ◌*◌, ◌<◌, ◌≤◌, ⊎_elim, inl, inr, List, [], ◌∷◌, ◌++◌, length, length-append, refl, sym, ap, ◌∙◌, subst, le_trans, arith, true}
use Rattle.std.specs.Prelude.{slice_index, slice_set, is_some, nat_lt}
use Rattle.std.proofs.lemmas.Bool.{cases_eq}
use mathlib.Core.Option.{some}
use lib.ListN.{get_elem?}
use Rattle.segment_layout.specs.declared.publication.Publication.{Publication}
use Rattle.segment_layout.specs.Words.{flag_of}
use Rattle.segment_run.proofs.SegmentLater.{later_same}
use Rattle.segment_views.specs.declared.setup.Setup.{Setup}
use Rattle.segment_views.specs.Views.{Begins, HostPart, SeatView, page_point_of, segment_try_of, page_try_of}
use Rattle.segment_views.specs.Rule.{SharedState, ShowsHostPart, EntryFits, MeetsRule, count_word_at}
use Rattle.segment_views.specs.Steps.{KeepsRule, host_state, host_view, TellsHostPart, MayRow, row_done, MayPageOdd, page_begun, MayPageFill, page_filled, MayPageEven, page_done}
use Rattle.segment_views.proofs.Lists.{begins_self, begins_more, stores_on, entries_later, last-page-snoc}
use Rattle.segment_views.proofs.Frames.{Grows, seats_after, seen_grows, segment_try_grows, page_try_grows, word_else, word_here, owned_else}

-- what all steps of the host have in common: the host's part becomes this one, which the words show
host_step : (c : Setup) (a : SharedState) (words : List ℕ) (views : List SeatView) (id : ℕ) (v : SeatView) (i n : ℕ) (host_part : SeatView → HostPart)
    → MeetsRule c a words views → get_elem? views id ≡ some v → v.is_host ≡ true → 10 ≤ i → (0 < length (host_part v).pages → 0 < length v.host_part.pages)
    → ShowsHostPart c (host_part v) (slice_set words i n) → Begins v.host_part.pages (host_part v).pages → page_point_of v.host_part ≤ page_point_of (host_part v) → v.host_part.rows ≤ (host_part v).rows
    → MeetsRule c (record a { host_part = host_part v }) (slice_set words i n) (slice_set views id record v { host_part = host_part v })
host_step c a words views id v i n host_part kept at is far here shows begins le rows =
    let b : SharedState = record a { host_part = host_part v } in
    let w : SeatView = record v { host_part = host_part v } in
    let fits = kept.seats id v at in
    let mine = fits.host is in
    let le' : page_point_of a.host_part ≤ page_point_of (host_part v) = subst (λ (x : HostPart). page_point_of x ≤ page_point_of (host_part v)) mine.1 le in
    let rows' : a.host_part.rows ≤ (host_part v).rows = subst (λ (x : HostPart). x.rows ≤ (host_part v).rows) mine.1 rows in
    let some' : 0 < length (host_part v).pages → 0 < length a.host_part.pages = subst (λ (x : HostPart). 0 < length (host_part v).pages → 0 < length x.pages) mine.1 here in
    let known = kept.segment.shows.is.known in
    let grows : Grows a b = record {
      known = known;
      after = known;
      later = later_same a.daemon_part.segment;
      rows = rows';
      pages = subst (λ (x : HostPart). Begins x.pages (host_part v).pages) mine.1 begins;
      page_point = le';
    } in
    let entry : (e : Publication) → EntryFits c a.host_part e → EntryFits c (host_part v) e = λ e x. record { rows = le_trans x.rows rows'; page = le_trans x.page le' } in
    record {
      segment = owned_else c a.daemon_part words i n far kept.segment;
      host_part = shows;
      published = entries_later c a.host_part (host_part v) a.daemon_part.segment.history entry kept.published;
      in_hand = λ on. entry a.daemon_part.hand.publication (kept.in_hand on);
      seats = seats_after c a b words views id v w kept at
          record { grows = grows; some = some'; host = refl; daemon = refl; host_part = inl is; daemon_part = inr refl }
          record {
            setup = fits.setup;
            host = λ _. (mine.0, refl, mine.2);
            daemon = fits.daemon;
            seen = seen_grows a b v.seen grows fits.seen;
            taught = seen_grows a b v.taught grows fits.taught;
            segment_try = segment_try_grows a b (segment_try_of v) grows fits.segment_try;
            page_try = page_try_grows a b (page_try_of v) some' grows fits.page_try;
          };
    }

-- the host's host's part is shown
own_world : (c : Setup) (a : SharedState) (words : List ℕ) (views : List SeatView) (id : ℕ) (v : SeatView) → MeetsRule c a words views → get_elem? views id ≡ some v → v.is_host ≡ true → ShowsHostPart c v.host_part words
own_world c a words views id v kept at is = subst (λ (x : HostPart). ShowsHostPart c x words) (sym ((kept.seats id v at).host is).1) kept.host_part

pub row_law : KeepsRule 23 MayRow (host_state row_done) (host_view row_done) (TellsHostPart row_done)
row_law c a words views id v n kept at may =
    let len = kept.segment.shows.wide in
    let fix = ((kept.seats id v at).host may.0).2 in
    let s = own_world c a words views id v kept at may.0 in
    let few : v.host_part.rows < c.rows = subst (λ (x : Setup). v.host_part.rows < x.rows) fix may.2 in (
      host_step c a words views id v 23 n row_done kept at may.0 (omega arith) (λ h. h)
          record {
            clock = word_here words 23 n (omega arith) ∙ may.1;
            first_row = omega arith;
            few_rows = omega arith;
            few_pages = s.few_pages;
            page = λ is. let p = s.page is in record {
              first = p.first;
              sequence = word_else words 23 n 11 (λ e. absurd (omega arith)) ∙ p.sequence;
              stages = p.stages;
              stored = λ j lo on. let st = p.stages in word_else words 23 n (j + 10) (λ e. absurd (omega arith)) ∙ p.stored j lo on;
              still = λ z j lo hi. word_else words 23 n (j + 10) (λ e. absurd (omega arith)) ∙ p.still z j lo hi;
            };
            no_pages = s.no_pages;
            none = λ is j lo hi. word_else words 23 n j (λ e. absurd (omega arith)) ∙ s.none is j lo hi;
          }
          (begins_self _) (omega arith) (omega arith),
      refl,
    )

pub page_odd_law : (p : List ℕ) → KeepsRule 11 MayPageOdd (host_state (page_begun p)) (host_view (page_begun p)) (TellsHostPart (page_begun p))
page_odd_law p c a words views id v n kept at may =
    let len = kept.segment.shows.wide in
    let fix = ((kept.seats id v at).host may.0).2 in
    let s = own_world c a words views id v kept at may.0 in
    let has : is_some c.page ≡ true = ap (λ (x : Setup). is_some x.page) (sym fix) ∙ may.1 in
    let g = s.page has in
    let was : flag_of (nat_lt 0 v.host_part.stores) ≡ 0 = ap (λ n. flag_of (nat_lt 0 n)) may.2 in
    let next : page_point_of v.host_part + 1 ≡ page_point_of (page_begun p v) = omega arith in (
      host_step c a words views id v 11 n (page_begun p) kept at may.0 (omega arith) (λ h. h)
          record {
            clock = word_else words 11 n 23 (λ e. absurd (omega arith)) ∙ s.clock;
            first_row = s.first_row;
            few_rows = s.few_rows;
            few_pages = s.few_pages;
            page = λ is. record {
              first = g.first;
              sequence = word_here words 11 n (omega arith) ∙ (may.3 ∙ (ap (λ (x : Setup). count_word_at x (page_point_of v.host_part + 1)) fix ∙ ap (count_word_at c) next));
              stages = omega arith;
              stored = λ j lo on. absurd (omega arith);
              still = λ z. absurd (omega arith);
            };
            no_pages = λ is. absurd (cc (is, has));
            none = λ is. absurd (cc (is, has));
          }
          (begins_self _) (omega arith) (omega arith),
      refl,
    )

pub page_fill_law : (i : ℕ) → 2 ≤ i → i < 13 → KeepsRule (i + 10) (MayPageFill i) (host_state (page_filled i)) (host_view (page_filled i)) (TellsHostPart (page_filled i))
page_fill_law i lo hi c a words views id v n kept at may =
    let len = kept.segment.shows.wide in
    let fix = ((kept.seats id v at).host may.0).2 in
    let s = own_world c a words views id v kept at may.0 in
    let has : is_some c.page ≡ true = ap (λ (x : Setup). is_some x.page) (sym fix) ∙ may.1 in
    let g = s.page has in
    let stage = may.2 in
    let on : flag_of (nat_lt 0 i) ≡ 1 = stores_on i (omega arith) in
    let was : flag_of (nat_lt 0 v.host_part.stores) ≡ 1 = stores_on v.host_part.stores (omega arith) in
    let same : page_point_of v.host_part ≡ page_point_of (page_filled i v) = ap (λ x. 2 * (length v.host_part.pages - 1) + x) (was ∙ sym on) in (
      host_step c a words views id v (i + 10) n (page_filled i) kept at may.0 (omega arith) (λ h. h)
          record {
            clock = word_else words (i + 10) n 23 (λ e. absurd (omega arith)) ∙ s.clock;
            first_row = s.first_row;
            few_rows = s.few_rows;
            few_pages = s.few_pages;
            page = λ is. record {
              first = g.first;
              sequence = word_else words (i + 10) n 11 (λ e. absurd (omega arith)) ∙ (g.sequence ∙ ap (count_word_at c) same);
              stages = hi;
              stored = λ j lo' on'. ⊎_elim
                  (λ (e : j ≡ i). subst (λ (x : ℕ). slice_index (slice_set words (i + 10) n) (x + 10) ≡ slice_index v.host_part.hand x) (sym e) (word_here words (i + 10) n (omega arith) ∙ may.3))
                  (λ (ne : j ≢ i). word_else words (i + 10) n (j + 10) (λ e. ne (omega arith)) ∙ g.stored j lo' (omega arith))
                  (cases_eq j i);
              still = λ z. absurd (omega arith);
            };
            no_pages = λ is. absurd (cc (is, has));
            none = λ is. absurd (cc (is, has));
          }
          (begins_self _) (omega arith) (omega arith),
      refl,
    )

pub page_even_law : KeepsRule 11 MayPageEven (host_state page_done) (host_view page_done) (TellsHostPart page_done)
page_even_law c a words views id v n kept at may =
    let len = kept.segment.shows.wide in
    let fix = ((kept.seats id v at).host may.0).2 in
    let s = own_world c a words views id v kept at may.0 in
    let has : is_some c.page ≡ true = ap (λ (x : Setup). is_some x.page) (sym fix) ∙ may.1 in
    let g = s.page has in
    let stage = may.2 in
    let few = may.3 in
    let here = g.first in
    let was : flag_of (nat_lt 0 v.host_part.stores) ≡ 1 = stores_on v.host_part.stores (omega arith) in
    let more : length (v.host_part.pages ++ v.host_part.hand ∷ []) ≡ length v.host_part.pages + 1 = length-append v.host_part.pages (v.host_part.hand ∷ []) in
    let next : 2 * length v.host_part.pages ≡ page_point_of (page_done v) = omega arith in (
      host_step c a words views id v 11 n page_done kept at may.0 (omega arith) (λ _. here)
          record {
            clock = word_else words 11 n 23 (λ e. absurd (omega arith)) ∙ s.clock;
            first_row = s.first_row;
            few_rows = s.few_rows;
            few_pages = omega arith;
            page = λ is. record {
              first = omega arith;
              sequence = word_here words 11 n (omega arith) ∙ (may.4 ∙ (ap (λ (x : Setup). count_word_at x (2 * length v.host_part.pages)) fix ∙ ap (count_word_at c) next));
              stages = omega arith;
              stored = λ j lo on. absurd (omega arith);
              still = λ z j lo hi. word_else words 11 n (j + 10) (λ e. absurd (omega arith)) ∙ (g.stored j lo (omega arith) ∙ ap (λ x. slice_index x j) (sym (last-page-snoc v.host_part.pages v.host_part.hand)));
            };
            no_pages = λ is. absurd (cc (is, has));
            none = λ is. absurd (cc (is, has));
          }
          (begins_more _ _) (omega arith) (omega arith),
      refl,
    )
