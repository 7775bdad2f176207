-- Two lines with one text, at the head of a report, say the same.
use Rattle.std.proofs.Common.{◌≡◌, ℕ, suc, ℤ, pos, negsuc, false, ◌^◌, ◌<◌, List, ◌∷◌, ◌++◌, length, drop, append_assoc, refl, sym, ap, ◌∙◌, arith, rules}
use Rattle.std.specs.Prelude.{codes, slice_index}
use Rattle.std.specs.Fmt.{decimal, signed_decimal}
use Rattle.std.specs.Char.{is_ascii_digit}
use Rattle.clock_gate.specs.declared.clock_status.ClockStatus.{ClockStatus}
use Rattle.clock_gate.specs.declared.clock_status.ClockStatus.TheVariants.{Unknown, Synchronized, FreeRunning, Disrupted}
use Rattle.clock_gate.specs.ClockStatus.{name_of}
use Rattle.interval_now.specs.declared.answers.Interval.{Interval}
use Rattle.lawful_report.specs.Lines.{interval_text, time_text, time_place}
use Rattle.interval_now.specs.declared.answers.Timed.{Timed}
use Rattle.report_audit.specs.Numbers.{from_digit}
use Rattle.report_audit.proofs.Numbers.{same_number, begins_with_digit}

-- a size that a number of 64 bits has
abbrev pub IsSmall : ℤ → Type 0
IsSmall (pos n) = n < 2 ^ 64
IsSmall (negsuc n) = suc n < 2 ^ 64

no_sign : (m n c : ℕ) (x y : List ℕ) → m < 2 ^ 64 → n < 2 ^ 64 → decimal m ++ x ≡ 45 ∷ (decimal n ++ (c ∷ y)) → ⊥
no_sign m n c x y small_m small_n same =
    let one : decimal m ++ x ≡ decimal n ++ (c ∷ y) = sym (begins_with_digit m x small_m) ∙ (ap from_digit same ∙ begins_with_digit n (c ∷ y) small_n) in
    let lengths : suc (length (decimal n ++ (c ∷ y))) ≡ length (decimal n ++ (c ∷ y)) = ap length (sym same ∙ one) in
    omega (arith, lengths)

pub same_signed : (a b : ℤ) (byte : ℕ) (x y : List ℕ) → is_ascii_digit byte ≡ false → IsSmall a → IsSmall b → signed_decimal a ++ (byte ∷ x) ≡ signed_decimal b ++ (byte ∷ y) → (a ≡ b) × (x ≡ y)
same_signed (pos m) (pos n) byte x y plain small_m small_n same =
    let is = same_number m n byte byte x y small_m small_n plain plain same in (ap pos is.0, ap (λ (l : List ℕ). drop 1 l) is.1)
same_signed (pos m) (negsuc n) byte x y plain small_m small_n same = absurd (no_sign m (suc n) byte (byte ∷ x) y small_m small_n same)
same_signed (negsuc m) (pos n) byte x y plain small_m small_n same = absurd (no_sign n (suc m) byte (byte ∷ y) x small_n small_m (sym same))
same_signed (negsuc m) (negsuc n) byte x y plain small_m small_n same =
    let is = same_number (suc m) (suc n) byte byte x y small_m small_n plain plain (ap (λ (l : List ℕ). drop 1 l) same) in
    let one : m ≡ n = omega (arith, is.0) in
    let below : ℕ → ℤ = λ k. negsuc k in
    (ap below one, ap (λ (l : List ℕ). drop 1 l) is.1)

pub same_status : (a b : ClockStatus) (x y : List ℕ) → name_of a ++ (44 ∷ x) ≡ name_of b ++ (44 ∷ y) → (a ≡ b) × (x ≡ y)
unfolding name_of
same_status Unknown Unknown x y same = (refl, ap (λ (l : List ℕ). drop 8 l) same)
same_status Synchronized Synchronized x y same = (refl, ap (λ (l : List ℕ). drop 13 l) same)
same_status FreeRunning FreeRunning x y same = (refl, ap (λ (l : List ℕ). drop 12 l) same)
same_status Disrupted Disrupted x y same = (refl, ap (λ (l : List ℕ). drop 10 l) same)
same_status a b x y same = absurd (let heads = ap (λ (l : List ℕ). slice_index l 0) same in omega (arith, heads))

-- an interval's ends have 64 bits
pub record EndsAreSmall (i : Interval) : Type 0 where
  pub first : IsSmall i.earliest
  pub last : IsSmall i.latest

interval_spread : (i : Interval) (x : List ℕ) → interval_text i ++ x ≡ name_of i.status ++ (44 ∷ (signed_decimal i.earliest ++ (44 ∷ (signed_decimal i.latest ++ (10 ∷ x)))))
unfolding interval_text
interval_spread i x = simp append_assoc refl

one_interval : (i j : Interval) → i.earliest ≡ j.earliest → i.latest ≡ j.latest → i.status ≡ j.status → i ≡ j
one_interval i j earliest latest status = search rules

pub same_interval_text : (i j : Interval) (x y : List ℕ) → EndsAreSmall i → EndsAreSmall j → interval_text i ++ x ≡ interval_text j ++ y → (i ≡ j) × (x ≡ y)
same_interval_text i j x y small_i small_j same =
    let spread = sym (interval_spread i x) ∙ (same ∙ interval_spread j y) in
    let status = same_status i.status j.status (signed_decimal i.earliest ++ (44 ∷ (signed_decimal i.latest ++ (10 ∷ x)))) (signed_decimal j.earliest ++ (44 ∷ (signed_decimal j.latest ++ (10 ∷ y)))) spread in
    let earliest = same_signed i.earliest j.earliest 44 (signed_decimal i.latest ++ (10 ∷ x)) (signed_decimal j.latest ++ (10 ∷ y)) refl small_i.first small_j.first status.1 in
    let latest = same_signed i.latest j.latest 10 x y refl small_i.last small_j.last earliest.1 in
    (one_interval i j earliest.0 latest.0 status.0, latest.1)

-- the numbers of an answer Time have 64 bits
pub record TimeIsSmall (page : ℕ) (t : Timed) : Type 0 where
  pub generation : t.generation < 2 ^ 64
  pub row : t.row < 2 ^ 64
  pub page_is : page < 2 ^ 64
  pub ends : EndsAreSmall t.interval

-- two answers Time say the same, but for the sequence count, which isn't printed
pub record SaySame (page other : ℕ) (t u : Timed) : Type 0 where
  pub generation : t.generation ≡ u.generation
  pub row : t.row ≡ u.row
  pub pages : page ≡ other
  pub interval : t.interval ≡ u.interval

time_spread : (page : ℕ) (t : Timed) (x : List ℕ) → time_text page t ++ x ≡ codes "time," ++ (decimal t.generation ++ (44 ∷ (decimal t.row ++ (44 ∷ (decimal page ++ (44 ∷ (interval_text t.interval ++ x)))))))
unfolding time_text time_place
time_spread page t x = simp append_assoc refl

pub same_time : (page other : ℕ) (t u : Timed) (x y : List ℕ) → TimeIsSmall page t → TimeIsSmall other u → time_text page t ++ x ≡ time_text other u ++ y → SaySame page other t u × (x ≡ y)
same_time page other t u x y small_t small_u same =
    let spread = ap (λ (l : List ℕ). drop 5 l) (sym (time_spread page t x) ∙ (same ∙ time_spread other u y)) in
    let generation = same_number t.generation u.generation 44 44 (decimal t.row ++ (44 ∷ (decimal page ++ (44 ∷ (interval_text t.interval ++ x))))) (decimal u.row ++ (44 ∷ (decimal other ++ (44 ∷ (interval_text u.interval ++ y))))) small_t.generation small_u.generation refl refl spread in
    let row = same_number t.row u.row 44 44 (decimal page ++ (44 ∷ (interval_text t.interval ++ x))) (decimal other ++ (44 ∷ (interval_text u.interval ++ y))) small_t.row small_u.row refl refl (ap (λ (l : List ℕ). drop 1 l) generation.1) in
    let pages = same_number page other 44 44 (interval_text t.interval ++ x) (interval_text u.interval ++ y) small_t.page_is small_u.page_is refl refl (ap (λ (l : List ℕ). drop 1 l) row.1) in
    let interval = same_interval_text t.interval u.interval x y small_t.ends small_u.ends (ap (λ (l : List ℕ). drop 1 l) pages.1) in
    (record { generation = generation.0; row = row.0; pages = pages.0; interval = interval.0 }, interval.1)
