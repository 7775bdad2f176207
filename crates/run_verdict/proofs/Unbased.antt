-- The fault of a claim without a base.
use Rattle.std.proofs.Common.{◌≡◌, ◌≤◌, ◌<◌, true, false, nat_le, Some, refl, arith}
use Rattle.std.specs.Prelude.{◌==◌}
use Rattle.std.proofs.lemmas.Bool.Decides.{nat_tests}
use Rattle.clock_gate.specs.declared.trace.Trace.{Trace}
use Rattle.generation_word.specs.Layout.{period_of}
use Rattle.promise_judge.specs.declared.claim.Claim.{Claim}
use Rattle.promise_judge.specs.declared.fault.Why.TheVariants.{Wrap, Image}
use Rattle.promise_judge.specs.Promises.{broken_promise_of}

pub wraps : (trace : Trace) (claim : Claim) → period_of trace.layout ≤ claim.inside → broken_promise_of trace claim ≡ Some (record { why = Wrap; at = claim.inside })
unfolding broken_promise_of
wraps trace claim many = let test : nat_le (period_of trace.layout) claim.inside ≡ true = grind (arith, nat_tests, many) in rw test refl

pub is_of_the_image : (trace : Trace) (claim : Claim) → claim.base ≡ 0 → claim.inside < period_of trace.layout → broken_promise_of trace claim ≡ Some (record { why = Image; at = 0 })
unfolding broken_promise_of
is_of_the_image trace claim none few =
    let test : nat_le (period_of trace.layout) claim.inside ≡ false = grind (arith, nat_tests, few) in
    let based : (claim.base == 0) ≡ true = grind (arith, nat_tests, none) in
    rw (test, based) refl
