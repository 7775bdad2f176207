-- No poll after the base marks, since its mark would have to be absorbed by a later base.
use Rattle.std.proofs.Common.{◌≡◌, ℕ, Bool, true, false, not, ◌&&◌, ◌||◌, ◌==◌, if◌then◌else◌, List, [], ◌∷◌, Option, Some, None, is_some, refl, ap, sym, ◌∙◌, inl, inr, arith, true≢false}
use Rattle.std.proofs.lemmas.Bool.{cases_Bool, not-false}
use Rattle.std.proofs.lemmas.Bool.Decides.{nat_tests}
use Rattle.candm_codec.specs.declared.tracking.RefTime.{RefTime}
use Rattle.segment_layout.specs.Record.{RecordFields}
use Rattle.segment_layout.specs.declared.start.Start.{Start}
use Rattle.segment_layout.specs.declared.start.Start.TheVariants.{Fresh, Kept, Torn}
use Rattle.status_machine.specs.declared.poll.Poll.{Poll}
use Rattle.status_machine.specs.Poll.{reference_of, has_other_time, base_of_poll, is_good}
use Rattle.status_machine.specs.Incarnation.{Incarnation, is_other, marks, one_later, since_mark, guard_of, is_absorbed, is_unabsorbed, is_disrupted, base_at, start_base}
use Rattle.status_machine.specs.Step.{MarkersFit}
use Rattle.status_machine.specs.BaseMarker.{start_marker, is_synchronized, base_marker, StartFits, BaseKeepsMarker, CalmStart}
use Rattle.status_machine.proofs.LookBack.{absorbs, absorbed_none, is_absorbed-append}

and_first : (a b : Bool) → (a && b) ≡ true → a ≡ true
and_first true b t = refl
and_first false b t = t

absorbs_good : (guard : Option RefTime) (poll : Poll) → absorbs guard poll ≡ true → is_good poll ≡ true
unfolding absorbs
absorbs_good None poll t = absurd (true≢false (sym t))
absorbs_good (Some guard) poll t = and_first (is_good poll) (has_other_time guard (reference_of poll.heard)) t

or_first : (a b : Bool) → (a || b) ≡ true → b ≡ false → a ≡ true
or_first true b t f = refl
or_first false b t f = absurd (true≢false (sym t ∙ f))

not_true : (b : Bool) → (b ≡ true → false ≡ true) → b ≡ false
not_true true h = absurd (true≢false (sym (h refl)))
not_true false h = refl

-- a poll that isn't good absorbs nothing
earlier_absorbed : (s : Option (List Poll)) (p : Poll) → is_unabsorbed (one_later s p) ≡ false → is_good p ≡ false → is_unabsorbed s ≡ false
earlier_absorbed None p u g = refl
earlier_absorbed (Some ps) p u g =
    ap not (or_first (is_absorbed ps) (absorbs (guard_of ps) p) (sym (is_absorbed-append ps p) ∙ not-false _ u)
    (not_true _ (λ t. sym g ∙ absorbs_good (guard_of ps) p t)))

abbrev pub marker_before : Start → List Poll → Option ℕ
marker_before start [] = start_marker start
marker_before start (q ∷ past) = q.marker

same_number : (held x : ℕ) → not (held == x) ≡ false → held ≡ x
same_number held x f = grind (arith, nat_tests, f)

same_as_held : (held marker : Option ℕ) (m : Bool) → is_some marker ≡ is_some held → ((x : ℕ) → marker ≡ Some x → m ≡ is_other held x) → m ≡ false → marker ≡ held
same_as_held None None m s h f = refl
same_as_held (Some y) None m s h f = absurd (true≢false (sym s))
same_as_held None (Some x) m s h f = absurd (true≢false s)
same_as_held (Some y) (Some x) m s h f = ap Some (sym (same_number y x (sym (h x refl) ∙ f)))

kept_other : (support : Bool) (marker x : ℕ) → is_some (if support then Some marker else None) ≡ true → (not support || not (marker == x)) ≡ is_other (if support then Some marker else None) x
kept_other true marker x is = refl
kept_other false marker x is = absurd (true≢false (sym is))

kept_same : (generation : ℕ) (rec : RecordFields) (marker : Option ℕ) → is_some marker ≡ is_some (start_marker (Kept generation rec)) → marks (Kept generation rec) [] marker ≡ false
    → marker ≡ start_marker (Kept generation rec)
kept_same generation rec None s f = same_as_held (start_marker (Kept generation rec)) None false s (λ x e. absurd (true≢false (ap is_some (sym e)))) refl
kept_same generation rec (Some x) s f =
    same_as_held (start_marker (Kept generation rec)) (Some x) (marks (Kept generation rec) [] (Some x)) s
    (λ y e. ap (marks (Kept generation rec) []) e ∙ kept_other rec.support rec.marker y (sym s)) f

module _ (from : Incarnation) where
  unmarked_by : (start : Start) (number : ℕ) (p : Poll) → is_some p.marker ≡ is_some (start_marker start) → is_some (start_base start number) ≡ true → marks start [] p.marker ≡ false
      → p.marker ≡ start_marker start
  unmarked_by Fresh number p s b f = absurd (true≢false (sym b))
  unmarked_by (Torn generation) number p s b f = absurd (true≢false (sym b))
  unmarked_by (Kept generation rec) number p s b f = kept_same generation rec p.marker s f

  unmarked_same : (past : List Poll) (p : Poll) → is_some p.marker ≡ is_some (marker_before from.start past) → is_some (base_at from past) ≡ true
      → marks from.start past p.marker ≡ false → p.marker ≡ marker_before from.start past
  unmarked_same (q ∷ past) p s b f = same_as_held q.marker p.marker (marks from.start (q ∷ past) p.marker) s (λ x e. ap (marks from.start (q ∷ past)) e) f
  unmarked_same [] p s b f = unmarked_by from.start from.base p s b f

  kept_fits : (support : Bool) (marker : ℕ) → is_some (if support then Some marker else None) ≡ support
  kept_fits true marker = refl
  kept_fits false marker = refl

  start_fits : (start : Start) (number : ℕ) → StartFits from.support start → is_some (start_base start number) ≡ true → is_some (start_marker start) ≡ from.support
  start_fits Fresh number fits b = absurd (true≢false (sym b))
  start_fits (Torn generation) number fits b = absurd (true≢false (sym b))
  start_fits (Kept generation rec) number fits b = kept_fits rec.support rec.marker ∙ fits

  before_fits : (past : List Poll) → StartFits from.support from.start → MarkersFit from.support past → is_some (base_at from past) ≡ true → is_some (marker_before from.start past) ≡ from.support
  before_fits (q ∷ past) fits markers b = markers.0
  before_fits [] fits markers b = start_fits from.start from.base fits b

marking_disrupts : (start : Start) (past : List Poll) (p : Poll) → marks start past p.marker ≡ true → is_disrupted start (p ∷ past) ≡ true
marking_disrupts start past p t = rw t (ap not (absorbed_none (reference_of p.heard)))

unmarked_later : (start : Start) (past : List Poll) (p : Poll) → marks start past p.marker ≡ false → is_disrupted start (p ∷ past) ≡ is_unabsorbed (one_later (since_mark start past) p)
unmarked_later start past p f = rw f refl

not_good : (d g : Bool) → d ≡ false → (not d && g) ≡ false → g ≡ false
not_good false g e f = f
not_good true g e f = absurd (true≢false e)

abbrev pub Held : Incarnation → List Poll → Type 0
Held from past = is_disrupted from.start past ≡ false → is_some (base_at from past) ≡ true → marker_before from.start past ≡ base_marker from.start past

one_poll : (from : Incarnation) (past : List Poll) (p : Poll) → StartFits from.support from.start → MarkersFit from.support (p ∷ past) → Held from past → Held from (p ∷ past)
one_poll from past p fits markers held calm based =
    elim (cases_Bool (is_synchronized from.start p past)) [
      | inl t ↦ sym (ap (λ b. if b then p.marker else base_marker from.start past) t)
      | inr f ↦
          (let based_before : is_some (base_at from past) ≡ true = sym (ap (λ b. is_some (if b then base_of_poll p else base_at from past)) f) ∙ based in
          elim (cases_Bool (marks from.start past p.marker)) [
            | inl marking ↦ absurd (true≢false (sym (marking_disrupts from.start past p marking) ∙ calm))
            | inr quiet ↦
                (unmarked_same from past p (markers.0 ∙ sym (before_fits from past fits markers.1 based_before)) based_before quiet
                ∙ (held (earlier_absorbed (since_mark from.start past) p (sym (unmarked_later from.start past p quiet) ∙ calm) (not_good (is_disrupted from.start (p ∷ past)) (is_good p) calm f)) based_before
                ∙ sym (ap (λ b. if b then p.marker else base_marker from.start past) f)))
          ])
    ]

all_polls : (from : Incarnation) (past : List Poll) → StartFits from.support from.start → MarkersFit from.support past → Held from past
all_polls from [] fits markers = λ calm based. refl
all_polls from (p ∷ past) fits markers = one_poll from past p fits markers (all_polls from past fits markers.1)

pub base_keeps_marker : BaseKeepsMarker
base_keeps_marker from poll past fits markers calm based = all_polls from (poll ∷ past) fits markers calm based

calm_before : (start : Start) (past : List Poll) (p : Poll) → is_synchronized start p past ≡ false → is_disrupted start (p ∷ past) ≡ false → is_disrupted start past ≡ false
calm_before start past p f calm =
    elim (cases_Bool (marks start past p.marker)) [
      | inl marking ↦ absurd (true≢false (sym (marking_disrupts start past p marking) ∙ calm))
      | inr quiet ↦ earlier_absorbed (since_mark start past) p (sym (unmarked_later start past p quiet) ∙ calm) (not_good (is_disrupted start (p ∷ past)) (is_good p) calm f)
    ]

pub calm_start : CalmStart
calm_start start [] none calm = calm
calm_start start (p ∷ past) none calm = calm_start start past none.1 (calm_before start past p none.0 calm)
