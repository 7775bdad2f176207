-- How often a party stands in an order.
use Rattle.std.proofs.Common.{◌≡◌, ℕ, ◌+◌, true, List, [], ◌∷◌, ◌++◌, refl, arith}
use Rattle.std.specs.Prelude.{if◌then◌else◌}
use Rattle.std.proofs.lemmas.Bool.Decides.{nat_tests}
use Rattle.std.proofs.lemmas.List.Sums.{sum_by-cons, sum_by_push}
use Rattle.clock_gate.specs.declared.trace.Party.{Party}
use Rattle.clock_gate.specs.declared.trace.Party.TheVariants.{Host, Daemon, Client}
use Rattle.clock_gate.specs.Trace.{same_party, times}

pub same_itself : (who : Party) → same_party who who ≡ true
same_itself Host = refl
same_itself Daemon = refl
same_itself (Client number) = grind (arith, nat_tests)

pub itself_counts : (who : Party) → ◌≡◌ {A = ℕ} (if same_party who who then 1 else 0) 1
itself_counts who = rw (same_itself who) refl

pub times_cons : (who first : Party) (order : List Party) → times who (first ∷ order) ≡ (if same_party who first then 1 else 0) + times who order
unfolding times
times_cons who first order = sum_by-cons (λ (p : Party). if same_party who p then 1 else 0) first order

pub times_none : (who : Party) → times who [] ≡ 0
unfolding times
times_none who = refl

pub times_push : (who last : Party) (order : List Party) → times who (order ++ last ∷ []) ≡ times who order + (if same_party who last then 1 else 0)
unfolding times
times_push who last order = sum_by_push (λ (p : Party). if same_party who p then 1 else 0) order last
