-- One step of the daemon keeps what looking back over the polls gives.
use Rattle.std.proofs.Common.{◌≡◌, ℕ, Bool, true, false, not, ◌&&◌, ◌||◌, ◌==◌, if◌then◌else◌, List, [], ◌∷◌, ◌++◌, Option, Some, None, is_some, refl, ap, sym, ◌∙◌, arith}
use Rattle.std.specs.List.{list_any}
use Rattle.std.proofs.lemmas.List.Folds.{list_any-append}
use Rattle.candm_codec.specs.declared.tracking.RefTime.{RefTime}
use Rattle.segment_layout.specs.Record.{RecordFields}
use Rattle.segment_layout.specs.declared.start.Start.{Start}
use Rattle.segment_layout.specs.declared.start.Start.TheVariants.{Fresh, Kept, Torn}
use Rattle.status_machine.specs.declared.daemon.Daemon.{Daemon}
use Rattle.status_machine.specs.declared.mode.Mode.{Mode}
use Rattle.status_machine.specs.declared.mode.Mode.TheVariants.{Clear, MustMark, Disrupted}
use Rattle.status_machine.specs.declared.poll.Poll.{Poll}
use Rattle.status_machine.specs.Poll.{reference_of, is_good}
use Rattle.status_machine.specs.Incarnation.{Incarnation, is_other, first_marks, marks, start_since_mark, one_later, since_mark, first_of, guard_of, is_good_other, absorbed_by, is_absorbed, is_unabsorbed, is_disrupted, record_at}
use Rattle.status_machine.specs.Step.{mode_is_disrupted, mode_marks, is_marked, unmarked_next, mode_next, mode_after_poll, held_next, daemon_step, record_of, start_held, mode_since, start_mode, daemon_begun, held_after, mode_after, MarkersFit, ShowsPast}

first_of-assoc : (a b c : Option RefTime) → first_of (first_of a b) c ≡ first_of a (first_of b c)
first_of-assoc None b c = refl
first_of-assoc (Some x) b c = refl

first_of-None : (a : Option RefTime) → first_of a None ≡ a
first_of-None None = refl
first_of-None (Some x) = refl

guard_of-append : (ps : List Poll) (p : Poll) → guard_of (ps ++ p ∷ []) ≡ first_of (guard_of ps) (reference_of p.heard)
guard_of-append [] p = first_of-None (reference_of p.heard)
guard_of-append (q ∷ ps) p =
    ap (first_of (reference_of q.heard)) (guard_of-append ps p)
    ∙ sym (first_of-assoc (reference_of q.heard) (guard_of ps) (reference_of p.heard))

-- whether a poll absorbs the mark whose guard is given
unfoldable pub absorbs : Option RefTime → Poll → Bool
absorbs None p = false
absorbs (Some guard) p = is_good_other guard p

or_false : (a b : Bool) → (a || (b || false)) ≡ (a || b)
or_false true b = refl
or_false false true = refl
or_false false false = refl

one_more : (f : Poll → Bool) (ps : List Poll) (p : Poll) → list_any f (ps ++ p ∷ []) ≡ (list_any f ps || f p)
one_more f ps p = grind (arith, list_any-append, or_false)

absorbed_by-append : (r : Option RefTime) (ps : List Poll) (p : Poll) (b c : Bool) → b ≡ (c || absorbs (guard_of ps) p) →
    absorbed_by r (ps ++ p ∷ []) b ≡ (absorbed_by r ps c || absorbs (first_of r (guard_of ps)) p)
unfolding absorbs
absorbed_by-append None ps p b c h = h
absorbed_by-append (Some g) ps p b c h = one_more (λ (q : Poll). is_good_other g q) ps p

pub absorbed_none : (r : Option RefTime) → absorbed_by r [] false ≡ false
absorbed_none None = refl
absorbed_none (Some g) = refl

pub is_absorbed-append : (ps : List Poll) (p : Poll) → is_absorbed (ps ++ p ∷ []) ≡ (is_absorbed ps || absorbs (guard_of ps) p)
unfolding absorbs
is_absorbed-append [] p = absorbed_none (reference_of p.heard)
is_absorbed-append (q ∷ ps) p = absorbed_by-append (reference_of q.heard) ps p _ _ (is_absorbed-append ps p)

-- the mode of a mark that is absorbed or not, under its guard
absorb_mode : Bool → Option RefTime → Mode
absorb_mode absorbed guard = if absorbed then Clear else Disrupted guard

absorb_mode-step : (a : Bool) (g : Option RefTime) (p : Poll) →
    absorb_mode (a || absorbs g p) (first_of g (reference_of p.heard)) ≡ unmarked_next (absorb_mode a g) (is_good p) (reference_of p.heard)
unfolding absorb_mode absorbs
absorb_mode-step true g p = refl
absorb_mode-step false None p = refl
absorb_mode-step false (Some g) p = refl

unmarked_next-mode_since : (s : Option (List Poll)) (p : Poll) →
    mode_since (one_later s p) ≡ unmarked_next (mode_since s) (is_good p) (reference_of p.heard)
unfolding absorb_mode
unmarked_next-mode_since None p = refl
unmarked_next-mode_since (Some ps) p =
    rw (is_absorbed-append ps p, guard_of-append ps p) (absorb_mode-step (is_absorbed ps) (guard_of ps) p)

mode_since-marking : (p : Poll) → mode_since (Some (p ∷ [])) ≡ Disrupted (reference_of p.heard)
mode_since-marking p = rw (absorbed_none (reference_of p.heard), first_of-None (reference_of p.heard)) refl

absorbed_marks : (a : Bool) (g : Option RefTime) (held : Option ℕ) (x : ℕ) → mode_marks (if a then Clear else Disrupted g) held x ≡ is_other held x
absorbed_marks true g held x = refl
absorbed_marks false g held x = refl

-- a mark makes no later poll mark by itself
mode_since_marks : (s : Option (List Poll)) (held : Option ℕ) (x : ℕ) → mode_marks (mode_since s) held x ≡ is_other held x
mode_since_marks None held x = refl
mode_since_marks (Some ps) held x = absorbed_marks (is_absorbed ps) (guard_of ps) held x

kept_marks : (support : Bool) (marker : ℕ) (s : Option (List Poll)) (x : ℕ) →
    mode_marks (if not support then MustMark else mode_since s) (if support then Some marker else None) x ≡ (not support || not (marker == x))
kept_marks true marker s x = mode_since_marks s (Some marker) x
kept_marks false marker s x = refl

start_marks : (start : Start) (x : ℕ) → mode_marks (start_mode true start) (start_held true start) x ≡ first_marks start x
start_marks Fresh x = refl
start_marks (Torn generation) x = refl
start_marks (Kept generation rec) x = kept_marks rec.support rec.marker (start_since_mark (Kept generation rec)) x

is_marked-start : (support : Bool) (start : Start) (marker : Option ℕ) → is_some marker ≡ support →
    is_marked (start_mode support start) (start_held support start) marker ≡ marks start [] marker
is_marked-start support start None s = refl
is_marked-start true start (Some x) s = start_marks start x
is_marked-start false start (Some x) s = cc

-- a poll marks by what is held exactly where it marks by looking back
is_marked-shown : (from : Incarnation) (past : List Poll) (marker : Option ℕ) → is_some marker ≡ from.support →
    is_marked (mode_after from past) (held_after from past) marker ≡ marks from.start past marker
is_marked-shown from [] marker s = is_marked-start from.support from.start marker s
is_marked-shown from (q ∷ past) None s = refl
is_marked-shown from (q ∷ past) (Some x) s = mode_since_marks (since_mark from.start (q ∷ past)) q.marker x

marks_kept : Bool → ℕ → Option ℕ → Bool
marks_kept support marker None = false
marks_kept support marker (Some x) = not support || not (marker == x)

-- a daemon that must mark marks at its first poll
no_mark_owed : (support kept : Bool) (m : ℕ) (marker : Option ℕ) (mode : Mode) → is_some marker ≡ support → marks_kept kept m marker ≡ false →
    (if support && not kept then MustMark else mode) ≡ mode
unfolding marks_kept
no_mark_owed false kept m marker mode s h = refl
no_mark_owed true true m marker mode s h = refl
no_mark_owed true false m (Some x) mode s h = cc
no_mark_owed true false m None mode s h = cc

marks_kept-is : (generation : ℕ) (rec : RecordFields) (marker : Option ℕ) → marks (Kept generation rec) [] marker ≡ marks_kept rec.support rec.marker marker
unfolding marks_kept
marks_kept-is generation rec None = refl
marks_kept-is generation rec (Some x) = refl

torn_start : (support good : Bool) (reference : Option RefTime) → Clear ≡ unmarked_next (if support then MustMark else Clear) good reference
torn_start true good reference = refl
torn_start false good reference = refl

unmarked_start : (start : Start) (p : Poll) (support : Bool) → is_some p.marker ≡ support → marks start [] p.marker ≡ false →
    mode_since (one_later (start_since_mark start) p) ≡ unmarked_next (start_mode support start) (is_good p) (reference_of p.heard)
unmarked_start Fresh p support s m = refl
unmarked_start (Torn generation) p support s m = torn_start support (is_good p) (reference_of p.heard)
unmarked_start (Kept generation rec) p support s m =
    unmarked_next-mode_since (start_since_mark (Kept generation rec)) p
    ∙ ap (λ (mode : Mode). unmarked_next mode (is_good p) (reference_of p.heard))
    (sym (no_mark_owed support rec.support rec.marker p.marker _ s (sym (marks_kept-is generation rec p.marker) ∙ m)))

unmarked : (from : Incarnation) (past : List Poll) (p : Poll) → is_some p.marker ≡ from.support → marks from.start past p.marker ≡ false →
    mode_since (one_later (since_mark from.start past) p) ≡ unmarked_next (mode_after from past) (is_good p) (reference_of p.heard)
unmarked from [] p s m = unmarked_start from.start p from.support s m
unmarked from (q ∷ past) p s m = unmarked_next-mode_since (since_mark from.start (q ∷ past)) p

mode_by_mark : (marked : Bool) (s : Option (List Poll)) (p : Poll) (mode : Mode) →
    (marked ≡ false → mode_since (one_later s p) ≡ unmarked_next mode (is_good p) (reference_of p.heard)) →
    mode_since (if marked then Some (p ∷ []) else one_later s p) ≡ mode_next marked mode (is_good p) (reference_of p.heard)
mode_by_mark true s p mode h = mode_since-marking p
mode_by_mark false s p mode h = h refl

-- the mode after one more poll
mode_after-step : (from : Incarnation) (past : List Poll) (p : Poll) → is_some p.marker ≡ from.support →
    mode_after from (p ∷ past)
    ≡ mode_next (is_marked (mode_after from past) (held_after from past) p.marker) (mode_after from past) (is_good p) (reference_of p.heard)
mode_after-step from past p s =
    rw (is_marked-shown from past p.marker s)
    (mode_by_mark (marks from.start past p.marker) (since_mark from.start past) p (mode_after from past) (unmarked from past p s))

disrupted_by : (a : Bool) (g : Option RefTime) → mode_is_disrupted (if a then Clear else Disrupted g) ≡ not a
disrupted_by true g = refl
disrupted_by false g = refl

mode_is_disrupted-mode_since : (s : Option (List Poll)) → mode_is_disrupted (mode_since s) ≡ is_unabsorbed s
mode_is_disrupted-mode_since None = refl
mode_is_disrupted-mode_since (Some ps) = disrupted_by (is_absorbed ps) (guard_of ps)

none_held : (support : Bool) (start : Start) → false ≡ support → start_held support start ≡ None
none_held false Fresh h = refl
none_held false (Torn generation) h = refl
none_held false (Kept generation rec) h = refl
none_held true start h = cc

none_of : (marker : Option ℕ) (support : Bool) → is_some marker ≡ support → false ≡ support → marker ≡ None
none_of None support s h = refl
none_of (Some x) true s h = cc
none_of (Some x) false s h = cc

none_after : (from : Incarnation) (past : List Poll) → MarkersFit from.support past → false ≡ from.support → held_after from past ≡ None
none_after from [] fit h = none_held from.support from.start h
none_after from (q ∷ past) fit h = none_of q.marker from.support fit.0 h

held_after-step : (from : Incarnation) (past : List Poll) (marker : Option ℕ) → is_some marker ≡ from.support → MarkersFit from.support past →
    held_next (held_after from past) marker ≡ marker
held_after-step from past None s fit = none_after from past fit s
held_after-step from past (Some x) s fit = refl

-- one poll leads from where the past leads to where it leads with the poll
pub ShowsPast-step : (from : Incarnation) (past : List Poll) (daemon : Daemon) (p : Poll) → is_some p.marker ≡ daemon.support →
    ShowsPast from past daemon → ShowsPast from (p ∷ past) (daemon_step daemon p)
ShowsPast-step from past daemon p s h =
    let fits : is_some p.marker ≡ from.support = s ∙ h.same_support in
    let mode_is : mode_after_poll daemon p ≡ mode_after from (p ∷ past) =
    rw (h.mode, h.held) (sym (mode_after-step from past p fits)) in
    let disrupted_is : mode_is_disrupted (mode_after_poll daemon p) ≡ is_disrupted from.start (p ∷ past) =
    ap mode_is_disrupted mode_is ∙ mode_is_disrupted-mode_since (since_mark from.start (p ∷ past)) in
    record {
      same_drift = h.same_drift;
      same_support = h.same_support;
      markers_fit = (fits, h.markers_fit);
      held = rw h.held (held_after-step from past p.marker fits h.markers_fit);
      base = rw (disrupted_is, h.base) refl;
      mode = mode_is;
    }

-- the record that a daemon gives is that of looking back
pub record_of-shown : (from : Incarnation) (past : List Poll) (daemon : Daemon) (p : Poll) → ShowsPast from (p ∷ past) daemon →
    record_of daemon p ≡ record_at from p past
record_of-shown from past daemon p h =
    let disrupted_is : mode_is_disrupted daemon.mode ≡ is_disrupted from.start (p ∷ past) =
    ap mode_is_disrupted h.mode ∙ mode_is_disrupted-mode_since (since_mark from.start (p ∷ past)) in
    rw (disrupted_is, h.base, h.held, h.same_drift, h.same_support) refl

-- an incarnation begins where its start leads
pub ShowsPast-begun : (from : Incarnation) → ShowsPast from [] (daemon_begun from)
ShowsPast-begun from = record { same_drift = refl; same_support = refl; markers_fit = tt; held = refl; base = refl; mode = refl }
