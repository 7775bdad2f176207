-- What a clock at UTC shows is the instant's date and time, and there is one such.
use Rattle.std.proofs.Common.{◌≡◌, sym, ◌∙◌, ap, arith, ℤ, pos, ◌+ℤ◌}
use Rattle.std.specs.Int.{int_div_euclid}
use Rattle.jiff.specs.Types.{DateTime}
use Rattle.jiff.specs.Words.{epoch_day, time_nanos, civil_nanos}
use Rattle.jiff.proofs.Family.{epoch_day-civil_nanos, civil_nanos-parts, time_nanos_bound, same_datetime}
use Rattle.jiff.proofs.SpanFacts.{signed_arith}
use Rattle.civil_time.specs.Civil.{IsDateTimeOf, day_nanos, utc_text}

pub is_civil : (n : ℤ) (d : DateTime) → civil_nanos d ≡ n → IsDateTimeOf n d
is_civil n d e = record {
  day = epoch_day-civil_nanos d ∙ ap (λ (z : ℤ). int_div_euclid z day_nanos) e;
  rest = omega (arith, signed_arith, civil_nanos-parts d, time_nanos_bound d.time);
}

pub same_civil : (n : ℤ) (a b : DateTime) → IsDateTimeOf n a → IsDateTimeOf n b → a ≡ b
same_civil n a b x y =
    let time : time_nanos a.time ≡ time_nanos b.time = omega (arith, signed_arith, x.rest, y.rest) in
    let day : epoch_day a.date ≡ epoch_day b.date = x.day ∙ sym y.day in
    same_datetime a b (omega (arith, signed_arith, civil_nanos-parts a, civil_nanos-parts b))

pub shows_civil : (n at : ℤ) (s : ℤ) (d : DateTime) → civil_nanos d ≡ at +ℤ s → at ≡ n → s ≡ pos 0 → IsDateTimeOf n d
shows_civil n at s d e f g = is_civil n d (omega (arith, signed_arith))

pub same_text : (n : ℤ) (a b : DateTime) → IsDateTimeOf n a → IsDateTimeOf n b → utc_text a ≡ utc_text b
same_text n a b x y = ap utc_text (same_civil n a b x y)
