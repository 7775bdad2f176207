-- A stamp's nanoseconds give its fields back. This is proved, not assumed: the model of `Stamp` cites it, and what a
-- model cites stands in `specs`.
use Rattle.std.specs.Prelude.{◌≡◌, ℤ, pos, negsuc, ℕ, ◌+◌, ◌-◌, ◌*◌, ◌<◌, ◌+ℤ◌, ◌*ℤ◌, refl}
use Rattle.std.proofs.Common.{arith, ap}
use Rattle.std.proofs.lemmas.Int.{ints}
use Rattle.std.proofs.lemmas.Nat.{div-mul-add, mod-mul-add}
use Rattle.clock_gate.specs.Stamp.{whole_seconds, rest_nanos}
use Rattle.clock_gate.specs.declared.stamp.Stamp.TheInside.{Inside}

below_zero : (s n : ℕ) → n < 1000000000 → negsuc s *ℤ pos 1000000000 +ℤ pos n ≡ negsuc (s * 1000000000 + (999999999 - n))
below_zero s n h = omega (arith, ints)

whole_seconds-back : (s : ℤ) (n : ℕ) → n < 1000000000 → whole_seconds (s *ℤ pos 1000000000 +ℤ pos n) ≡ s
whole_seconds-back (pos s) n h = ap pos (div-mul-add s 1000000000 n h)
whole_seconds-back (negsuc s) n h = rw (below_zero s n h) (ap negsuc (div-mul-add s 1000000000 (999999999 - n) (omega arith)))

rest_nanos-back : (s : ℤ) (n : ℕ) → n < 1000000000 → rest_nanos (s *ℤ pos 1000000000 +ℤ pos n) ≡ n
rest_nanos-back (pos s) n h = mod-mul-add s 1000000000 n h
rest_nanos-back (negsuc s) n h = rw (below_zero s n h) (rw (mod-mul-add s 1000000000 (999999999 - n) (omega arith)) (omega arith))

pub rebuilt : (a : Inside) → a.nsec < 1000000000
    → record { sec = whole_seconds (a.sec *ℤ pos 1000000000 +ℤ pos a.nsec); nsec = rest_nanos (a.sec *ℤ pos 1000000000 +ℤ pos a.nsec) } ≡ a
rebuilt a h = rw (whole_seconds-back a.sec a.nsec h, rest_nanos-back a.sec a.nsec h) refl
