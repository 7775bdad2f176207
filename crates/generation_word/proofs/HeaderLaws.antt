-- The laws of header words.
use Rattle.std.proofs.Common.{◌≡◌, ◌≢◌, ℕ, ◌+◌, ◌*◌, ◌/◌, ◌%◌, ◌^◌, ◌<◌, ◌≤◌, Bool, true, false, ap, refl, arith}
use Rattle.std.specs.Prelude.{◌==◌, if◌then◌else◌}
use Rattle.generation_word.specs.Layout.{version_of, period_of}
use Rattle.generation_word.specs.Header.{word1_of, header_of}
use Rattle.generation_word.specs.declared.header.TheConstants.{LOW_HALF_THREE}
use Rattle.generation_word.specs.declared.layout.Layout.{Layout}
use Rattle.generation_word.specs.declared.layout.Layout.TheVariants.{Two, Three}

pub header_of-word1_of : (layout : Layout) (g : ℕ) → g ≤ 2 * period_of layout + 1 → header_of (word1_of layout g) ≡ (80, version_of layout, g)
header_of-word1_of Two g h =
    let low : (80 + 2 * 2 ^ 32 + g * 2 ^ 48) % 2 ^ 32 ≡ 80 = omega arith in
    let version : (80 + 2 * 2 ^ 32 + g * 2 ^ 48) / 2 ^ 32 % 2 ^ 16 ≡ 2 = omega arith in
    let number : (80 + 2 * 2 ^ 32 + g * 2 ^ 48) / 2 ^ 48 ≡ g = omega arith in
    rw (low, version, number) refl
header_of-word1_of Three g h =
    let low : (LOW_HALF_THREE + g * 2 ^ 32) % 2 ^ 32 ≡ LOW_HALF_THREE = omega arith in
    let number : (LOW_HALF_THREE + g * 2 ^ 32) / 2 ^ 32 ≡ g = omega arith in
    rw (low, number) refl

abbrev parts_of : Bool → ℕ → ℕ × ℕ × ℕ
parts_of b word = if b then (80, 3, word / 2 ^ 32) else (word % 2 ^ 32, word / 2 ^ 32 % 2 ^ 16, word / 2 ^ 48)

parts_two : (b : Bool) (word g : ℕ) → word < 2 ^ 64 → parts_of b word ≡ (80, 2, g) → (g < 2 ^ 16) × (word ≡ word1_of Two g)
parts_two true word g h e = let version : ◌≡◌ {A = ℕ} 3 2 = ap (λ (x : ℕ × ℕ × ℕ). x.1) e in absurd (omega arith)
parts_two false word g h e =
    let size : word % 2 ^ 32 ≡ 80 = ap (λ (x : ℕ × ℕ × ℕ). x.0) e in
    let version : word / 2 ^ 32 % 2 ^ 16 ≡ 2 = ap (λ (x : ℕ × ℕ × ℕ). x.1) e in
    let number : word / 2 ^ 48 ≡ g = ap (λ (x : ℕ × ℕ × ℕ). x.2) e in
    (omega arith, omega arith)

pub made_two : (word g : ℕ) → word < 2 ^ 64 → header_of word ≡ (80, 2, g) → (g < 2 ^ 16) × (word ≡ word1_of Two g)
made_two word g h e = parts_two (word % 2 ^ 32 == LOW_HALF_THREE) word g h e

pub made_three : (word : ℕ) → word % 2 ^ 32 ≡ LOW_HALF_THREE → word ≡ word1_of Three (word / 2 ^ 32)
made_three word e = omega arith

pub one_number : (layout : Layout) (g h : ℕ) → word1_of layout g ≡ word1_of layout h → g ≡ h
one_number Two g h e = omega arith
one_number Three g h e = omega arith

pub apart : (g h : ℕ) → word1_of Two g ≢ word1_of Three h
apart g h = λ e. absurd (omega arith)
