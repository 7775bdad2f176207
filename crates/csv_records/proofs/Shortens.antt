-- Each record that is read leaves a shorter text, so that a text has no more records than bytes.
use Rattle.std.proofs.Common.{◌≡◌, ◌≤◌, ◌<◌, ◌+◌, ℕ, zero, suc, Bool, true, false, cond, List, [], ◌∷◌, ◌++◌, length, Option, Some, None, refl, sym, ap, arith}
use Rattle.std.specs.Prelude.{◌&&◌, ◌==◌}
use Rattle.csv.specs.Machine.{Read, next_record, step, in_field, start_record, is_end, ends_at_end, fields_after, field_after, after_end, ends_with, is_byte}
use Rattle.csv.specs.Reading.{default_config, records_from, records_next}
use Rattle.csv.specs.declared.parser.Config.{Config}
use Rattle.csv.specs.declared.parser.State.{State}
use Rattle.csv.specs.declared.parser.State.TheVariants as st
use Rattle.csv.specs.declared.parser.Action.{Action}
use Rattle.csv.specs.declared.parser.Terminator.{Terminator}
use Rattle.csv.specs.declared.parser.Terminator.TheVariants as term
use Rattle.csv_records.specs.Records.{records_left}

-- a step that ends a record leaves a state in which the text may end
abbrev Rests : State × Action → Type 0
Rests p = is_end p.1 ≡ true → ends_at_end p.0 ≡ false

rests_if : (b : Bool) (p q : State × Action) → Rests p → Rests q → Rests (cond b p q)
rests_if true p q hp hq = hp
rests_if false p q hp hq = hq

after_end_rests : (t : Terminator) (c : ℕ) → ends_at_end (after_end t c) ≡ false
after_end_rests term.CRLF c = by (c == 13)
  where
    by : (b : Bool) → ends_at_end (cond b st.AfterCr st.StartRecord) ≡ false
    by true = refl
    by false = refl
after_end_rests (term.Any t) c = refl

in_field_rests : (cfg : Config) (c : ℕ) → Rests (in_field cfg c)
in_field_rests cfg c = rests_if (c == cfg.delimiter) _ _ (λ e. cc e) (rests_if (ends_with cfg.terminator c) _ _ (λ e. after_end_rests cfg.terminator c) (λ e. cc e))

start_record_rests : (cfg : Config) (c : ℕ) → Rests (start_record cfg c)
start_record_rests cfg c =
    rests_if (ends_with cfg.terminator c) _ _ (λ _. refl)
    (rests_if (is_byte cfg.comment c) _ _ (λ e. cc e)
    (rests_if (cfg.quoting && (c == cfg.quote)) _ _ (λ e. cc e) (in_field_rests cfg c)))

step_rests : (cfg : Config) (s : State) (c : ℕ) → Rests (step cfg s c)
step_rests cfg st.StartRecord c = start_record_rests cfg c
step_rests cfg st.StartField c = rests_if (cfg.quoting && (c == cfg.quote)) _ _ (λ e. cc e) (in_field_rests cfg c)
step_rests cfg st.InField c = in_field_rests cfg c
step_rests cfg st.InQuoted c = rests_if (cfg.quoting && (c == cfg.quote)) _ _ (λ e. cc e) (rests_if (cfg.quoting && is_byte cfg.escape c) _ _ (λ e. cc e) (λ e. cc e))
step_rests cfg st.InEscape c = λ e. cc e
step_rests cfg st.AfterQuote c = rests_if (cfg.quoting && cfg.double_quote && (c == cfg.quote)) _ _ (λ e. cc e) (in_field_rests cfg c)
step_rests cfg st.InComment c = rests_if (c == 10) _ _ (λ _. refl) (λ e. cc e)
step_rests cfg st.AfterCr c = rests_if (c == 10) _ _ (λ _. refl) (start_record_rests cfg c)

-- what the read of a record leaves of the text xs
record Leaves (xs : List ℕ) (p : Read) : Type 0 where
  between : ends_at_end p.1 ≡ false
  most : length p.2 ≤ length xs
  fewer : 0 < length xs → length p.2 < length xs

some_same : {A : Type 0} (x y : A) → Some x ≡ Some y → x ≡ y
some_same x y e = cc e

leaves : (cfg : Config) (s : State) (fields : List (List ℕ)) (field xs : List ℕ) (p : Read) → next_record cfg s fields field xs ≡ Some p → Leaves xs p
unfolding next_record
leaves cfg s fields field [] p e = by (ends_at_end s) e
  where
    by : (b : Bool) → cond b (Some (fields ++ (field ∷ []), st.StartRecord, [])) None ≡ Some p → Leaves [] p
    by true e = rw (sym (some_same _ _ e)) (record { between = refl; most = omega arith; fewer = λ lt. lt })
    by false e = absurd cc
leaves cfg s fields field (c ∷ xs) p e = by (is_end (step cfg s c).1) refl e (leaves cfg (step cfg s c).0 (fields_after (step cfg s c).1 fields field) (field_after (step cfg s c).1 c field) xs p)
  where
    by : (b : Bool) → is_end (step cfg s c).1 ≡ b
        → cond b (Some (fields_after (step cfg s c).1 fields field, (step cfg s c).0, xs)) (next_record cfg (step cfg s c).0 (fields_after (step cfg s c).1 fields field) (field_after (step cfg s c).1 c field) xs) ≡ Some p
        → (next_record cfg (step cfg s c).0 (fields_after (step cfg s c).1 fields field) (field_after (step cfg s c).1 c field) xs ≡ Some p → Leaves xs p)
        → Leaves (c ∷ xs) p
    by true is e more = rw (sym (some_same _ _ e)) (record { between = step_rests cfg s c is; most = omega arith; fewer = λ lt. omega arith })
    by false is e more =
        let on = more e in
        let most = on.most in
        record { between = on.between; most = omega (arith, most); fewer = λ lt. omega (arith, most) }

-- between two records, an empty text has no record
has_bytes : (cfg : Config) (s : State) (xs : List ℕ) (p : Read) → ends_at_end s ≡ false → next_record cfg s [] [] xs ≡ Some p → 0 < length xs
unfolding next_record
has_bytes cfg s [] p r e = absurd (cc (rw r at e))
has_bytes cfg s (c ∷ xs) p r e = omega arith

-- between two records, the read of one leaves a shorter text, again between two records
pub shortens : (cfg : Config) (s : State) (xs : List ℕ) (p : Read) → ends_at_end s ≡ false → next_record cfg s [] [] xs ≡ Some p
    → (ends_at_end p.1 ≡ false) × (length p.2 < length xs)
shortens cfg s xs p r e = let after = leaves cfg s [] [] xs p e in (after.between, after.fewer (has_bytes cfg s xs p r e))

-- any number of turns above the length gives the same records
pub enough : (cfg : Config) (n m : ℕ) (s : State) (xs : List ℕ) → ends_at_end s ≡ false → length xs < n → length xs < m → records_from cfg n s xs ≡ records_from cfg m s xs
unfolding records_from
enough cfg zero m s xs r a b = absurd (omega (arith, a))
enough cfg (suc n) zero s xs r a b = absurd (omega (arith, b))
enough cfg (suc n) (suc m) s xs r a b = by (next_record cfg s [] [] xs) refl (λ p e. let after = shortens cfg s xs p r e in enough cfg n m p.1 p.2 after.0 (omega (arith, after.1, a)) (omega (arith, after.1, b)))
  where
    by : (o : Option Read) → next_record cfg s [] [] xs ≡ o
        → ((p : Read) → next_record cfg s [] [] xs ≡ Some p → records_from cfg n p.1 p.2 ≡ records_from cfg m p.1 p.2)
        → records_next (records_from cfg n) o ≡ records_next (records_from cfg m) o
    by None is more = refl
    by (Some p) is more = ap (λ (rs : List (List (List ℕ))). p.0 ∷ rs) (more p is)

-- a text has no more records than bytes
pub length-records_from : (cfg : Config) (n : ℕ) (s : State) (xs : List ℕ) → ends_at_end s ≡ false → length (records_from cfg n s xs) ≤ length xs
unfolding records_from
length-records_from cfg zero s xs r = omega arith
length-records_from cfg (suc n) s xs r = by (next_record cfg s [] [] xs) (λ p e. let after = shortens cfg s xs p r e in let most = length-records_from cfg n p.1 p.2 after.0 in omega (arith, most, after.1))
  where
    by : (o : Option Read) → ((p : Read) → o ≡ Some p → length (records_from cfg n p.1 p.2) + 1 ≤ length xs) → length (records_next (records_from cfg n) o) ≤ length xs
    by None more = omega arith
    by (Some p) more = let most = more p refl in omega (arith, most)

-- no record is left
pub records_left-none : (s : State) (xs : List ℕ) → next_record default_config s [] [] xs ≡ None → records_left s xs ≡ []
unfolding records_from records_left
records_left-none s xs e = let one : length xs + 1 ≡ suc (length xs) = omega arith in rw (one, e) refl

-- the next record, and those after it
pub records_left-some : (s : State) (xs : List ℕ) (p : Read) → ends_at_end s ≡ false → next_record default_config s [] [] xs ≡ Some p → records_left s xs ≡ p.0 ∷ records_left p.1 p.2
unfolding records_from records_left
records_left-some s xs p r e =
    let after = shortens default_config s xs p r e in
    let one : length xs + 1 ≡ suc (length xs) = omega arith in
    let same = enough default_config (length xs) (length p.2 + 1) p.1 p.2 after.0 after.1 (omega arith) in
    rw (one, e) (ap (λ (rs : List (List (List ℕ))). p.0 ∷ rs) same)
