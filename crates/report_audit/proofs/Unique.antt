-- The least is one.
use Rattle.std.proofs.Common.{◌≡◌, ℕ, arith}
use Rattle.lawful_report.specs.Points.{IsLeast}
use Rattle.report_audit.specs.Leasts.{NoneHas}

pub one_least : (from last : ℕ) (Has : ℕ → Type 0) (a b : ℕ) → IsLeast from last Has a → IsLeast from last Has b → a ≡ b
one_least from last Has a b x y = omega (arith, x.none_less b y.not_before y.has, y.none_less a x.not_before x.has)

-- where there is none, no least is
pub none_least : (from last : ℕ) (Has : ℕ → Type 0) (a : ℕ) → NoneHas from last Has → IsLeast from last Has a → ⊥
none_least from last Has a none x = none a x.not_before x.not_past x.has
