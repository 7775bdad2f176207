-- The numbers of word 1 have 32 bits.
use Rattle.std.proofs.Common.{◌≡◌, inl, inr, ℕ, ◌+◌, ◌*◌, ◌^◌, ◌<◌, arith, subst}
use Rattle.generation_word.specs.declared.layout.Layout.{Layout}
use Rattle.generation_word.specs.declared.layout.Layout.TheVariants.{Two, Three}
use Rattle.generation_word.specs.Layout.{period_of}
use Rattle.lawful_report.specs.Points.{HasNumber}
use Rattle.lawful_report.specs.Calls.{FailsAt}
use Rattle.lawful_report.proofs.PointLaws.{round_of}

pub period_some : (layout : Layout) → 0 < period_of layout
period_some Two = omega arith
period_some Three = omega arith

pub period_most : (layout : Layout) → 2 * period_of layout + 1 < 2 ^ 32
period_most Two = omega arith
period_most Three = omega arith

pub number_small : (layout : Layout) (number point : ℕ) → HasNumber (period_of layout) number point → number < 2 ^ 32
number_small layout number point has = elim (round_of (period_of layout) number point (period_some layout) has) [
  | inl first ↦ omega (arith, first.0, first.1)
  | inr round ↦ omega (arith, round.high, period_most layout)
]

-- so have those of failing tries
pub failing_small : (layout : Layout) (from until first last point : ℕ) → FailsAt (period_of layout) from until first last point → (first < 2 ^ 32) × (last < 2 ^ 32)
failing_small layout from until first last point (inl odd) =
    let small : first < 2 ^ 32 = number_small layout first point odd.least.has in
    (small, subst (λ (n : ℕ). n < 2 ^ 32) (let same : first ≡ last = omega (arith, odd.same) in same) small)
failing_small layout from until first last point (inr change) = (number_small layout first change.at change.least_first.has, number_small layout last point change.least_last.has)
