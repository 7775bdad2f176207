-- The recursion over the past finds the last mark.
use Rattle.std.proofs.Common.{◌≡◌, ◌⊎◌, false, List, [], ◌∷◌, ◌++◌, Option, Some, None, refl, ap, sym, ◌∙◌, append_assoc, append-nil, inl, inr}
use Rattle.std.proofs.lemmas.Bool.{cases_Bool}
use Rattle.status_machine.specs.declared.poll.Poll.{Poll}
use Rattle.segment_layout.specs.declared.start.Start.{Start}
use Rattle.status_machine.specs.Incarnation.{marks, since_mark, start_since_mark, one_later}
use Rattle.status_machine.specs.LastMark.{in_order, NoneMarks, IsSinceLastMark, all_later, SinceMarkIsLast}

all_later-nil : (s : Option (List Poll)) → s ≡ all_later s []
all_later-nil None = refl
all_later-nil (Some polls) = ap Some (sym (append-nil polls))

all_later-more : (s : Option (List Poll)) (polls : List Poll) (p : Poll) → one_later (all_later s polls) p ≡ all_later s (polls ++ p ∷ [])
all_later-more None polls p = refl
all_later-more (Some earlier) polls p = ap Some (append_assoc earlier polls (p ∷ []))

abbrev pub Found : Start → List Poll → Type 0
Found start past =
    ((polls : List Poll) × (since_mark start past ≡ Some polls) × IsSinceLastMark start past polls)
    ⊎ (NoneMarks start past [] × (since_mark start past ≡ all_later (start_since_mark start) (in_order past)))

later : (start : Start) (p : Poll) (past : List Poll) → marks start past p.marker ≡ false → Found start past → Found start (p ∷ past)
later start p past quiet (inl f) =
    let l = f.2 in
    inl (
      f.0 ++ p ∷ [],
      rw quiet (ap (λ (s : Option (List Poll)). one_later s p) f.1),
      record {
        mark = l.mark;
        after = p ∷ l.after;
        before = l.before;
        split = ap (λ (ps : List Poll). p ∷ ps) l.split;
        marking = l.marking;
        last = (rw (← l.split) quiet, l.last);
        from_it = ap (λ (ps : List Poll). ps ++ p ∷ []) l.from_it;
      },
    )
later start p past quiet (inr n) =
    inr (
      (rw append-nil quiet, n.0),
      rw quiet (ap (λ (s : Option (List Poll)). one_later s p) n.1 ∙ all_later-more (start_since_mark start) (in_order past) p),
    )

pub since_mark_is_last : SinceMarkIsLast
since_mark_is_last start [] = inr (tt, all_later-nil (start_since_mark start))
since_mark_is_last start (p ∷ past) =
    elim (cases_Bool (marks start past p.marker)) [
      | inl marking ↦
          inl (
            p ∷ [],
            rw marking refl,
            record { mark = p; after = []; before = past; split = refl; marking = marking; last = tt; from_it = refl },
          )
      | inr quiet ↦ later start p past quiet (since_mark_is_last start past)
    ]
