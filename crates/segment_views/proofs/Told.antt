-- What each load tells, as what every load leaves and adds.
use Rattle.std.proofs.Common.{◌≡◌, ◌≢◌, ℕ, ◌-◌, ◌/◌, ◌<◌, length, Bool, true, List, refl, sym, ap, ◌∙◌, subst, ne_eqb, arith}
use Rattle.std.specs.Prelude.{◌==◌, ◌&&◌}
use Rattle.segment_views.specs.Views.{Begins, Seen, SeatView, DaemonPart, point_of, base_of}
use Rattle.segment_views.specs.Steps.{loaded, touched, segment_try_at, page_try_at, ShowsPoint, IsWholeRead, IsSteady, IsWholePageRead, TellsFront, TellsPage, TellsClock, TellsDaemonPart}
use Rattle.segment_views.specs.Shown.{When, Moves, StandsPage, StandsRow, IsRowAfter, IsPageAfter, AddsLoad, AddsStore}
use Rattle.segment_views.proofs.Lists.{begins_self}

-- another word
stays : (i word n shown old new : ℕ) (S : ℕ → ℕ → Type 0) → word ≢ i → new ≡ old → Moves i S (loaded word n shown) old new
stays i word n shown old new S ne e = record { load = λ is. absurd (cc (sym (ap (λ b. b && true) (ne_eqb word i ne)) ∙ is)); other = λ _. e }

not_here : (i word : ℕ) (P : Type 0) → word ≢ i → When (word == i) P
not_here i word P ne = subst (λ (b : Bool). When b P) (sym (ne_eqb word i ne)) tt

begins_same : {A : Type 0} (xs ys : List A) → ys ≡ xs → Begins xs ys
begins_same xs ys e = subst (λ l. Begins xs l) (sym e) (begins_self xs)

-- a load after which the seat has seen this
loads_as : (first : Bool) (i n shown : ℕ) (v w : SeatView) (s : Seen) → w ≡ record (touched first (loaded i n shown) v) { seen = s }
    → Begins v.seen.history s.history → Begins v.seen.pages s.pages → When (i == 1) (IsWholeRead v.setup s.history (segment_try_at first v) n shown) → When (i == 1) (IsSteady (segment_try_at first v) n shown) → When (i == 11) (IsWholePageRead v.setup s.pages (page_try_at first v) n shown)
    → Moves 1 (ShowsPoint v.setup) (loaded i n shown) v.seen.point s.point → Moves 11 (StandsPage v.setup) (loaded i n shown) v.seen.page_point s.page_point → Moves 23 StandsRow (loaded i n shown) v.seen.rows s.rows
    → When (i == 1) (shown / 2 - base_of v.setup ≡ length s.history) → When (i == 23) ((k : ℕ) → k < length v.seen.history → IsRowAfter v.seen.history k shown)
    → When (i == 11) ((k : ℕ) → k < length v.seen.history → IsPageAfter v.setup v.seen.history k shown) → (v.is_daemon ≡ true → When (i == 1) (shown ≡ point_of v.daemon_part.segment))
    → AddsLoad first i n v w
loads_as first i n shown v w s is history pages sound steady page_sound points page_points rows place row_after page_after own =
    subst (λ (x : SeatView). AddsLoad first i n v x) (sym is)
    (record {
      shown = shown;
      seated = refl;
      setup = refl;
      is_host = refl;
      is_daemon = refl;
      daemon_part = refl;
      calls = refl;
      before = refl;
      steps = refl;
      history = history;
      pages = pages;
      sound = sound;
      steady = steady;
      page_sound = page_sound;
      points = points;
      page_points = page_points;
      rows = rows;
      place = place;
      row_after = row_after;
      page_after = page_after;
      own = own;
    })

pub front_loads : (first : Bool) (n : ℕ) (v w : SeatView) → TellsFront first v n n w → AddsLoad first 1 n v w
front_loads first n v w t =
    loads_as first 1 n t.point v w record v.seen { history = t.history; point = t.point } t.view t.begins (begins_self _) t.whole t.steady tt
    record { load = λ _. ((t.stands, λ even some. front_known (t.known even some)), t.later, refl); other = λ is. absurd (cc is) }
    (stays 11 1 n t.point _ _ (StandsPage v.setup) (λ e. absurd (omega arith)) refl)
    (stays 23 1 n t.point _ _ StandsRow (λ e. absurd (omega arith)) refl)
    (let at = t.place in omega (arith, at)) tt tt
    (λ d. (t.own d).0)
  where
    front_known : 0 < length t.history → base_of v.setup < t.point / 2
    front_known some = let at = t.place in omega (arith, at, some)

pub page_loads : (first : Bool) (n : ℕ) (v w : SeatView) → TellsPage first v n n w → AddsLoad first 11 n v w
page_loads first n v w t =
    loads_as first 11 n t.point v w record v.seen { pages = t.pages; page_point = t.point } t.view (begins_self _) t.begins tt tt t.whole
    (stays 1 11 n t.point _ _ (ShowsPoint v.setup) (λ e. absurd (omega arith)) refl)
    record { load = λ _. (t.stands, t.later, refl); other = λ is. absurd (cc is) }
    (stays 23 11 n t.point _ _ StandsRow (λ e. absurd (omega arith)) refl)
    tt tt (λ k low. (low, t.known k low))
    (λ d. tt)

pub clock_loads : (first : Bool) (n : ℕ) (v w : SeatView) → TellsClock first v n n w → AddsLoad first 23 n v w
clock_loads first n v w t =
    loads_as first 23 n n v w record v.seen { rows = n } t.view (begins_self _) (begins_self _) tt tt tt
    (stays 1 23 n n _ _ (ShowsPoint v.setup) (λ e. absurd (omega arith)) refl)
    (stays 11 23 n n _ _ (StandsPage v.setup) (λ e. absurd (omega arith)) refl)
    record { load = λ _. (refl, t.later, refl); other = λ is. absurd (cc is) }
    tt (λ k low. (low, t.known k low)) tt
    (λ d. tt)

pub plain_loads : (first : Bool) (i n : ℕ) (v w : SeatView) → i ≢ 1 → i ≢ 11 → i ≢ 23 → w ≡ touched first (loaded i n 0) v → AddsLoad first i n v w
plain_loads first i n v w ne np nc is =
    loads_as first i n 0 v w v.seen is (begins_self _) (begins_self _) (not_here 1 i (IsWholeRead v.setup v.seen.history (segment_try_at first v) n 0) ne) (not_here 1 i (IsSteady (segment_try_at first v) n 0) ne) (not_here 11 i (IsWholePageRead v.setup v.seen.pages (page_try_at first v) n 0) np)
    (stays 1 i n 0 _ _ (ShowsPoint v.setup) ne refl)
    (stays 11 i n 0 _ _ (StandsPage v.setup) np refl)
    (stays 23 i n 0 _ _ StandsRow nc refl)
    (not_here 1 i _ ne) (not_here 23 i _ nc) (not_here 11 i _ np)
    (λ d. not_here 1 i (0 ≡ point_of v.daemon_part.segment) ne)

-- what each store of the daemon tells, as what every store leaves and adds
pub daemon_stores : (daemon_part : SeatView → DaemonPart) (i n : ℕ) (v w : SeatView) → TellsDaemonPart daemon_part i v n n w → AddsStore i n v w
daemon_stores daemon_part i n v w t =
    subst (λ (x : SeatView). AddsStore i n v x) (sym t.view)
    (record { seated = refl; setup = refl; is_daemon = refl; seen = refl; calls = refl; before = refl; steps = refl; is = t.is; later = t.later; point = t.point; header = t.header })
