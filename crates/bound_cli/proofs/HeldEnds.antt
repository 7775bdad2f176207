-- A text that ends with the line of premises that held has it as its last line: the line of premises that failed ends with a digit.
use Rattle.std.proofs.Common.{◌≡◌, ℕ, zero, suc, ◌+◌, ◌/◌, ◌%◌, ◌<◌, ◌==◌, nat_lt, Bool, true, false, List, [], ◌∷◌, ◌++◌, length, get_or, codes, decimal, if◌then◌else◌, refl, sym, ap, ◌∙◌, arith, append_assoc, length-append}
use Rattle.std.proofs.Math.Seq.{get_or-append_seam}
use Rattle.std.specs.Fmt.{digit_glyph, digits, digits_onto}
use Rattle.promise_judge.specs.declared.fault.Why.{Why}
use Rattle.run_promises.specs.declared.premises.Premises.{Premises}
use Rattle.run_promises.specs.declared.premises.Premises.TheVariants.{Held, Failed}
use Rattle.bound_cli.specs.Premises.{failed_at, failed_call, held_line, name_of, premises_line}

-- a text whose last characters are this one and a line feed
abbrev pub EndsIn : ℕ → List ℕ → Type 0
EndsIn byte text = (front : List ℕ) × (text ≡ front ++ byte ∷ 10 ∷ [])

-- they are the same in one text
same_end : (a b : ℕ) (text : List ℕ) → EndsIn a text → EndsIn b text → a ≡ b
same_end a b text (one, is) (other, also) =
    let both : one ++ a ∷ 10 ∷ [] ≡ other ++ b ∷ 10 ∷ [] = sym is ∙ also in
    let long : length one ≡ length other = omega (arith, ap length both, length-append one (a ∷ 10 ∷ []), length-append other (b ∷ 10 ∷ [])) in
    sym (get_or-append_seam one a (10 ∷ []) 0)
    ∙ ap (λ (bytes : List ℕ). get_or bytes (length one) 0) both
    ∙ ap (λ (n : ℕ). get_or (other ++ b ∷ 10 ∷ []) n 0) long
    ∙ get_or-append_seam other b (10 ∷ []) 0

-- one digit more, or no more digits
one_more : (glyph : ℕ) (after more : List ℕ) → ((front : List ℕ) × (more ≡ front ++ glyph ∷ after)) → (last : Bool) → (front : List ℕ) × ((if last then glyph ∷ after else more) ≡ front ++ after)
one_more glyph after more rest true = (glyph ∷ [], refl)
one_more glyph after more rest false = (rest.0 ++ glyph ∷ [], rest.1 ∙ sym (append_assoc rest.0 (glyph ∷ []) after))

-- digits stand before what follows them
digits_before : (k n : ℕ) (after : List ℕ) → (front : List ℕ) × (digits_onto k 10 false n after ≡ front ++ after)
digits_before zero n after = ([], refl)
digits_before (suc k) n after =
    let glyph = digit_glyph false (n % 10) in
    one_more glyph after (digits_onto k 10 false (n / 10) (glyph ∷ after)) (digits_before k (n / 10) (glyph ∷ after)) (n / 10 == 0)

-- the last digit of a number
last_or : (glyph : ℕ) (more : List ℕ) → ((front : List ℕ) × (more ≡ front ++ glyph ∷ [])) → (last : Bool) → (front : List ℕ) × ((if last then glyph ∷ [] else more) ≡ front ++ glyph ∷ [])
last_or glyph more rest true = ([], refl)
last_or glyph more rest false = rest

last_digit : (n : ℕ) → (front : List ℕ) × (decimal n ≡ front ++ digit_glyph false (n % 10) ∷ [])
unfolding digits
last_digit n =
    let glyph = digit_glyph false (n % 10) in
    last_or glyph (digits_onto 63 10 false (n / 10) (glyph ∷ [])) (digits_before 63 (n / 10) (glyph ∷ [])) (n / 10 == 0)

-- is below the letter d
digit_below : (n : ℕ) → digit_glyph false (n % 10) < 100
digit_below n = by (nat_lt (n % 10) 10) refl
  where
    by : (test : Bool) → nat_lt (n % 10) 10 ≡ test → (if test then 48 + n % 10 else 87 + n % 10) < 100
    by true is = omega arith
    by false is = omega arith

after : (byte : ℕ) (first rest : List ℕ) → EndsIn byte rest → EndsIn byte (first ++ rest)
after byte first rest (front, is) = (first ++ front, ap (λ (text : List ℕ). first ++ text) is ∙ sym (append_assoc first front (byte ∷ 10 ∷ [])))

failed_ends : (client call : ℕ) (why : Why) (at : ℕ) → EndsIn (digit_glyph false (at % 10)) (premises_line (Failed client call why at))
unfolding failed_at
failed_ends client call why at =
    let digit = last_digit at in
    let number : EndsIn (digit_glyph false (at % 10)) (decimal at ++ codes "\n") =
    (digit.0, ap (λ (text : List ℕ). text ++ codes "\n") digit.1 ∙ append_assoc digit.0 (digit_glyph false (at % 10) ∷ []) (codes "\n")) in
    after _ (failed_call client call) _ (after _ (name_of why) _ (after _ (codes ",") _ number))

held_ends : EndsIn 100 held_line
unfolding held_line
held_ends = (codes "premises,hel", refl)

-- so premises held where a text ends with their line, and with the line that says so
pub held_by_end : (premises : Premises) (before front : List ℕ) → before ++ premises_line premises ≡ front ++ held_line → premises ≡ Held
held_by_end Held before front is = refl
held_by_end (Failed client call why at) before front is =
    let digit : EndsIn (digit_glyph false (at % 10)) (front ++ held_line) = (
      (after _ before _ (failed_ends client call why at)).0,
      sym is ∙ (after _ before _ (failed_ends client call why at)).1,
    ) in
    let same : digit_glyph false (at % 10) ≡ 100 = same_end _ 100 (front ++ held_line) digit (after 100 front held_line held_ends) in
    absurd (omega (arith, same, digit_below at))
