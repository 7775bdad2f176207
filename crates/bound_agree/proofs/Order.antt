-- Comparisons of whole numbers, each as its test answers it.
use Rattle.std.proofs.Common.{◌≡◌, Bool, true, false, sym, ◌∙◌, arith, ℤ, ◌≤ℤ◌, ◌<ℤ◌, int_le}
use Rattle.std.proofs.lemmas.Int.{ints}
use Rattle.std.proofs.lemmas.Bool.{false≢true}
use Rattle.std.specs.Ordering.{int_cmp}
use Rattle.std.specs.declared.cmp.Ordering.TheVariants.{Less, Equal, Greater}

pub int_le-false : (k x : ℤ) → x <ℤ k → int_le k x ≡ false
int_le-false k x h = grind (arith, ints)

pub int_le-true : (k x : ℤ) → k ≤ℤ x → int_le k x ≡ true
int_le-true k x h = grind (arith, ints)

pub cmp-less : (a b : ℤ) → a <ℤ b → int_cmp a b ≡ Less
cmp-less a b h = grind (arith, ints)

pub cmp-greater : (a b : ℤ) → b <ℤ a → int_cmp a b ≡ Greater
cmp-greater a b h = grind (arith, ints)

pub cmp-equal : (a b : ℤ) → a ≡ b → int_cmp a b ≡ Equal
cmp-equal a b h = grind (arith, ints)

pub less-cmp : (a b : ℤ) → int_cmp a b ≡ Less → a <ℤ b
less-cmp a b h = grind (arith, ints)

-- a test has one answer
pub clash : {P : Type 0} (b : Bool) → b ≡ true → b ≡ false → P
clash b t f = absurd (false≢true (sym f ∙ t))
