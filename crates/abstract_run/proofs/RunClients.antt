-- A client in the list of clients, after one of them is set.
use Rattle.std.proofs.Common.{◌≡◌, ◌≢◌, ℕ, zero, suc, ◌-◌, List, [], ◌∷◌, Some, refl, sym, ap, ◌∙◌, arith}
use Rattle.std.specs.Prelude.{slice_get, slice_set}
use Rattle.abstract_run.specs.Run.{client_at}
use Rattle.abstract_run.specs.ClientRun.{ClientRun}

set_same : (clients : List ClientRun) (place : ℕ) (old new : ClientRun) → slice_get clients place ≡ Some old → slice_get (slice_set clients place new) place ≡ Some new
set_same [] place old new at = absurd (cc at)
set_same (client ∷ clients) zero old new at = refl
set_same (client ∷ clients) (suc place) old new at = set_same clients place old new at

set_other : (clients : List ClientRun) (place other : ℕ) (new : ClientRun) → other ≢ place → slice_get (slice_set clients place new) other ≡ slice_get clients other
set_other [] place other new differs = refl
set_other (client ∷ clients) zero zero new differs = absurd (differs refl)
set_other (client ∷ clients) zero (suc other) new differs = refl
set_other (client ∷ clients) (suc place) zero new differs = refl
set_other (client ∷ clients) (suc place) (suc other) new differs = set_other clients place other new (λ same. differs (ap suc same))

-- another client stays
pub other_at : (clients : List ClientRun) (client place : ℕ) (new : ClientRun) → suc place ≢ client → client_at (slice_set clients (suc place - 1) new) client ≡ client_at clients client
other_at clients zero place new differs = refl
other_at clients (suc other) place new differs =
    set_other clients (suc place - 1) other new (λ same. let one_less : suc place - 1 ≡ place = omega arith in differs (ap suc (sym (same ∙ one_less))))

-- and the one that is set is there
pub same_at : (clients : List ClientRun) (place : ℕ) (old new : ClientRun) → slice_get clients place ≡ Some old → client_at (slice_set clients (suc place - 1) new) (suc place) ≡ Some new
same_at clients place old new at =
    let one_less : suc place - 1 ≡ place = omega arith in
    ap (λ (n : ℕ). slice_get (slice_set clients n new) place) one_less ∙ set_same clients place old new at
