-- One host row more in the table of positions.
use Rattle.std.proofs.Common.{◌≡◌, ℕ, zero, suc, ◌+◌, ◌<◌, List, [], ◌∷◌, ◌++◌, length, length-append, take, slice_index_or, refl, sym, ap, ◌∙◌, subst, arith, inl, inr}
use Rattle.std.proofs.lemmas.Bool.{cases_eq, eq-eqb, ne_eqb}
use Rattle.std.proofs.lemmas.List.{get_or_push, get_or_append_left, take_all}
use Rattle.clock_gate.specs.Trace.{IsHostOf, clock_numbers}
use Rattle.clock_gate.specs.declared.trace.HostRow.{HostRow}
use Rattle.clock_gate.specs.declared.trace.HostRow.TheVariants.{Clock, Page, Disrupt}
use Rattle.promise_judge.specs.Positions.{position_from, position_of}
use Rattle.promise_judge.specs.Shown.{ArePositions}
use Rattle.promise_judge.specs.Telling.{clock_at}
use Rattle.promise_judge.proofs.Places.{Numbered, clocks, clocks_are, numbered_by}

one_more : (n : ℕ) → 1 + n ≡ n + 1
one_more n = omega arith

abbrev number_of : HostRow → ℕ
number_of (Clock n) = n
number_of (Page w) = 0
number_of Disrupt = 0

-- the number and the position of a clock row
here_is : (host : List HostRow) (at k i m : ℕ) → Numbered k host → i < length host → slice_index_or host i (Clock 0) ≡ Clock m →
    (m ≡ k + clocks (take i host)) × (position_from at host m ≡ at + i)
here_is [] at k i m num lt is = absurd (omega arith)
here_is (Page w ∷ host) at k zero m num lt is = (let no : 0 ≡ 1 = ap (λ (r : HostRow). clocks (r ∷ [])) is in absurd (omega (arith, no)))
here_is (Disrupt ∷ host) at k zero m num lt is = (let no : 0 ≡ 1 = ap (λ (r : HostRow). clocks (r ∷ [])) is in absurd (omega (arith, no)))
here_is (Clock n ∷ host) at k zero m num lt is =
    let same : n ≡ m = ap number_of is in
    let first = num.0 in
    (omega arith, rw (eq-eqb n m same) (omega arith))
here_is (Page w ∷ host) at k (suc i) m num lt is =
    let rest = here_is host (at + 1) k i m num (omega arith) is in (rest.0, (let place = rest.1 in omega arith))
here_is (Disrupt ∷ host) at k (suc i) m num lt is =
    let rest = here_is host (at + 1) k i m num (omega arith) is in (rest.0, (let place = rest.1 in omega arith))
here_is (Clock n ∷ host) at k (suc i) m num lt is =
    let first = num.0 in
    let rest = here_is host (at + 1) (k + 1) i m num.1 (omega arith) is in
    let number = rest.0 in
    let place = rest.1 in
    (omega arith, rw (ne_eqb n m (λ e. omega arith)) (omega arith))

-- the clock rows among one host row more
clocks_next : (host : List HostRow) (i : ℕ) → i < length host → clocks (take (suc i) host) ≡ clocks (slice_index_or host i (Clock 0) ∷ []) + clocks (take i host)
clocks_next [] i lt = absurd (omega arith)
clocks_next (Page w ∷ host) zero lt = refl
clocks_next (Disrupt ∷ host) zero lt = refl
clocks_next (Clock n ∷ host) zero lt = refl
clocks_next (Page w ∷ host) (suc i) lt = clocks_next host i (omega arith)
clocks_next (Disrupt ∷ host) (suc i) lt = clocks_next host i (omega arith)
clocks_next (Clock n ∷ host) (suc i) lt = let rest = clocks_next host i (omega arith) in omega arith

clock_at_is : (host : List HostRow) (done : ℕ) → clock_at host done ≡ clocks (take done host)
clock_at_is host done = clocks_are (take done host)

places_other : (host : List HostRow) (done : ℕ) (items : List ℕ) → done < length host → clocks (slice_index_or host done (Clock 0) ∷ []) ≡ 0 →
    ArePositions host (clocks (take done host)) items → ArePositions host (clocks (take (done + 1) host)) items
places_other host done items lt none are =
    let next = clocks_next host done lt in
    let same : clocks (take done host) ≡ clocks (take (suc done) host) = omega arith in
    let as_sum : suc done ≡ done + 1 = omega arith in
    subst (λ (n : ℕ). ArePositions host n items) (same ∙ ap (λ (k : ℕ). clocks (take k host)) as_sum) are

places_clock : (host : List HostRow) (done m : ℕ) (items : List ℕ) → Numbered 1 host → done < length host → slice_index_or host done (Clock 0) ≡ Clock m →
    ArePositions host (clocks (take done host)) items → ArePositions host (clocks (take (done + 1) host)) (items ++ (done + 1) ∷ [])
places_clock host done m items num lt is are =
    let next = clocks_next host done lt in
    let one : clocks (slice_index_or host done (Clock 0) ∷ []) ≡ 1 = ap (λ (r : HostRow). clocks (r ∷ [])) is in
    let more : clocks (take (suc done) host) ≡ clocks (take done host) + 1 = omega arith in
    let here = here_is host 1 1 done m num lt is in
    let as_sum : suc done ≡ done + 1 = omega arith in
    let sized = are.sized in
    subst (λ (n : ℕ). ArePositions host n (items ++ (done + 1) ∷ [])) (sym more ∙ ap (λ (k : ℕ). clocks (take k host)) as_sum) (record {
      sized = length-append items ((done + 1) ∷ []) ∙ ap (λ n. n + 1) sized;
      position = λ n low le.
          elim (cases_eq n m) [
            | inl same ↦
                (let number = here.0 in
                let at_end : length items ≡ n = omega arith in
                get_or_push items (done + 1) 0 n at_end ∙ (let place = here.1 in let back : position_of host n ≡ done + 1 = ap (position_of host) same ∙ (place ∙ one_more done) in sym back))
            | inr other ↦ (let number = here.0 in get_or_append_left items ((done + 1) ∷ []) 0 n (omega arith) ∙ are.position n low (omega arith))
          ];
    })

-- the same of the clock rows that a lawful host has come to
pub positions_other : (host : List HostRow) (done : ℕ) (items : List ℕ) → done < length host → clocks (slice_index_or host done (Clock 0) ∷ []) ≡ 0 →
    ArePositions host (clock_at host done) items → ArePositions host (clock_at host (done + 1)) items
positions_other host done items lt none are =
    subst (λ (n : ℕ). ArePositions host n items) (sym (clock_at_is host (done + 1)))
    (places_other host done items lt none (subst (λ (n : ℕ). ArePositions host n items) (clock_at_is host done) are))

pub positions_clock : (host : List HostRow) (count done m : ℕ) (items : List ℕ) → IsHostOf count host → done < length host → slice_index_or host done (Clock 0) ≡ Clock m →
    ArePositions host (clock_at host done) items → ArePositions host (clock_at host (done + 1)) (items ++ (done + 1) ∷ [])
positions_clock host count done m items lawful lt is are =
    subst (λ (n : ℕ). ArePositions host n (items ++ (done + 1) ∷ [])) (sym (clock_at_is host (done + 1)))
    (places_clock host done m items (numbered_by host 1 count lawful.numbered) lt is (subst (λ (n : ℕ). ArePositions host n items) (clock_at_is host done) are))

pub positions_begin : (host : List HostRow) → ArePositions host (clock_at host 0) (0 ∷ [])
unfolding clock_numbers
positions_begin host = record { sized = refl; position = λ n low le. absurd (omega arith) }

pub positions_end : (host : List HostRow) (done : ℕ) (items : List ℕ) → done ≡ length host → ArePositions host (clock_at host done) items → ArePositions host (length (clock_numbers host)) items
positions_end host done items is are = subst (λ (rows : List HostRow). ArePositions host (length (clock_numbers rows)) items) (take_all done host (omega arith)) are
