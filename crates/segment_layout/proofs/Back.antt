-- The words of a record are good words, and read back they are the record; good words are those of what they stand for.
use Rattle.std.proofs.Common.{◌≡◌, ℕ, zero, suc, ◌+◌, ◌*◌, ◌/◌, ◌%◌, ◌^◌, ◌<◌, ◌≤◌, Bool, true, false, List, [], ◌∷◌, length, drop, subst, ℤ, pos, negsuc, ◌≤ℤ◌, refl, sym, ap, ◌∙◌, arith}
use Rattle.std.specs.Prelude.{slice_index, unsigned_abs, ◌==◌}
use Rattle.std.proofs.lemmas.Int.{ints}
use Rattle.std.proofs.lemmas.Bool.Decides.{nat_tests}
use Rattle.std.proofs.lemmas.Nat.{div-add-mod'}
use Rattle.clock_gate.specs.declared.clock_status.ClockStatus.{ClockStatus}
use Rattle.clock_gate.specs.declared.clock_status.ClockStatus.TheVariants.{Unknown, Synchronized, FreeRunning, Disrupted}
use Rattle.clock_gate.specs.ClockStatus.{code_of}
use Rattle.segment_layout.specs.Record.{RecordFields, KeepsBounds}
use Rattle.segment_layout.specs.Words.{seconds_of, nanos_of, drift_and_status, flag_of, data_words, record_words, IsGoodWord, AreGoodWords, moment_of, status_with, fields_of_words}

-- ---- a record's words are good

pub good_as_of_seconds : (word : ℕ) → word ≤ 4000000000 → IsGoodWord 2 word
good_as_of_seconds word h = grind arith

pub good_as_of_nanos : (word : ℕ) → word < 1000000000 → IsGoodWord 3 word
good_as_of_nanos word h = grind arith

pub good_void_after_seconds : (word : ℕ) → word ≤ 4000001000 → IsGoodWord 4 word
good_void_after_seconds word h = grind arith

pub good_void_after_nanos : (word : ℕ) → word < 1000000000 → IsGoodWord 5 word
good_void_after_nanos word h = grind arith

pub good_bound : (word : ℕ) → word ≤ 2 ^ 62 → IsGoodWord 6 word
good_bound word h = grind arith

pub good_marker : (word : ℕ) → IsGoodWord 7 word
good_marker word = grind arith

pub good_drift_and_status : (word : ℕ) → word % 2 ^ 32 ≤ 1000000000 → word / 2 ^ 32 ≤ 3 → IsGoodWord 8 word
good_drift_and_status word h k = grind arith

pub good_flag : (word : ℕ) → word ≤ 1 → IsGoodWord 9 word
good_flag word h = grind arith

-- words are good ones, number by number
pub are_good_words : (words : List ℕ) → IsGoodWord 2 (slice_index words 2) → IsGoodWord 3 (slice_index words 3) → IsGoodWord 4 (slice_index words 4) → IsGoodWord 5 (slice_index words 5) → IsGoodWord 6 (slice_index words 6) → IsGoodWord 7 (slice_index words 7) → IsGoodWord 8 (slice_index words 8) → IsGoodWord 9 (slice_index words 9) → AreGoodWords words
are_good_words words g2 g3 g4 g5 g6 g7 g8 g9 zero low high = absurd (omega arith)
are_good_words words g2 g3 g4 g5 g6 g7 g8 g9 (suc zero) low high = absurd (omega arith)
are_good_words words g2 g3 g4 g5 g6 g7 g8 g9 (suc (suc zero)) low high = g2
are_good_words words g2 g3 g4 g5 g6 g7 g8 g9 (suc (suc (suc zero))) low high = g3
are_good_words words g2 g3 g4 g5 g6 g7 g8 g9 (suc (suc (suc (suc zero)))) low high = g4
are_good_words words g2 g3 g4 g5 g6 g7 g8 g9 (suc (suc (suc (suc (suc zero))))) low high = g5
are_good_words words g2 g3 g4 g5 g6 g7 g8 g9 (suc (suc (suc (suc (suc (suc zero)))))) low high = g6
are_good_words words g2 g3 g4 g5 g6 g7 g8 g9 (suc (suc (suc (suc (suc (suc (suc zero))))))) low high = g7
are_good_words words g2 g3 g4 g5 g6 g7 g8 g9 (suc (suc (suc (suc (suc (suc (suc (suc zero)))))))) low high = g8
are_good_words words g2 g3 g4 g5 g6 g7 g8 g9 (suc (suc (suc (suc (suc (suc (suc (suc (suc zero))))))))) low high = g9
are_good_words words g2 g3 g4 g5 g6 g7 g8 g9 (suc (suc (suc (suc (suc (suc (suc (suc (suc (suc index)))))))))) low high = absurd (omega arith)

seconds_most : (moment : ℤ) (most : ℕ) → pos 0 ≤ℤ moment → moment ≤ℤ pos (most * 1000000000 + 999999999) → seconds_of moment ≤ most
seconds_most (pos n) most low high = omega (arith, ints)
seconds_most (negsuc n) most low high = absurd (omega (arith, ints))

bound_most : (bound : ℤ) → pos 0 ≤ℤ bound → bound ≤ℤ pos (2 ^ 62) → unsigned_abs bound ≤ 2 ^ 62
bound_most (pos n) low high = omega (arith, ints)
bound_most (negsuc n) low high = absurd (omega (arith, ints))

code_most : (status : ClockStatus) → unsigned_abs (code_of status) ≤ 3
code_most Unknown = omega arith
code_most Synchronized = omega arith
code_most FreeRunning = omega arith
code_most Disrupted = omega arith

flag_most : (support : Bool) → flag_of support ≤ 1
flag_most true = omega arith
flag_most false = omega arith

-- ---- read back

moment_of-back : (moment : ℤ) → pos 0 ≤ℤ moment → moment_of (seconds_of moment) (nanos_of moment) ≡ moment
moment_of-back (pos n) h = ap pos (div-add-mod' n 1000000000)
moment_of-back (negsuc n) h = absurd (omega (arith, ints))

bound-back : (bound : ℤ) → pos 0 ≤ℤ bound → pos (unsigned_abs bound) ≡ bound
bound-back (pos n) h = refl
bound-back (negsuc n) h = absurd (omega (arith, ints))

drift-back : (drift : ℕ) (status : ClockStatus) → drift ≤ 1000000000 → drift_and_status drift status % 2 ^ 32 ≡ drift
drift-back drift status h = omega arith

code-back : (drift code : ℕ) → drift ≤ 1000000000 → (drift + code * 2 ^ 32) / 2 ^ 32 ≡ code
code-back drift code h = omega arith

status_with-back : (status : ClockStatus) → status_with (unsigned_abs (code_of status)) ≡ status
status_with-back Unknown = refl
status_with-back Synchronized = refl
status_with-back FreeRunning = refl
status_with-back Disrupted = refl

support-back : (support : Bool) → (flag_of support == 1) ≡ support
support-back true = refl
support-back false = refl

pub fields_of_words-data_words : (first header : ℕ) (rec : RecordFields) → KeepsBounds rec.as_of rec.void_after rec.bound rec.drift → fields_of_words (first ∷ header ∷ data_words rec) ≡ rec
fields_of_words-data_words first header rec bounds =
    rw (moment_of-back rec.as_of bounds.as_of_low, moment_of-back rec.void_after bounds.void_after_low, bound-back rec.bound bounds.bound_low, drift-back rec.drift rec.status bounds.drift_high, code-back rec.drift (unsigned_abs (code_of rec.status)) bounds.drift_high, status_with-back rec.status, support-back rec.support) refl

pub record_words_good : (header : ℕ) (rec : RecordFields) → KeepsBounds rec.as_of rec.void_after rec.bound rec.drift → AreGoodWords (record_words header rec)
record_words_good header rec bounds =
    are_good_words (record_words header rec)
    (good_as_of_seconds _ (seconds_most rec.as_of 4000000000 bounds.as_of_low bounds.as_of_high))
    (good_as_of_nanos _ (omega arith))
    (good_void_after_seconds _ (seconds_most rec.void_after 4000001000 bounds.void_after_low bounds.void_after_high))
    (good_void_after_nanos _ (omega arith))
    (good_bound _ (bound_most rec.bound bounds.bound_low bounds.bound_high))
    (good_marker rec.marker)
    (good_drift_and_status _ (rw (drift-back rec.drift rec.status bounds.drift_high) bounds.drift_high) (rw (code-back rec.drift (unsigned_abs (code_of rec.status)) bounds.drift_high) (code_most rec.status)))
    (good_flag _ (flag_most rec.support))

-- what good words say of themselves again

front_two : (words : List ℕ) → length words ≡ 10 → words ≡ slice_index words 0 ∷ slice_index words 1 ∷ drop 2 words
front_two [] len = absurd (omega arith)
front_two (first ∷ []) len = absurd (omega arith)
front_two (first ∷ header ∷ words) len = refl

pub fields_of_words-only : (words : List ℕ) (rec : RecordFields) → length words ≡ 10 → KeepsBounds rec.as_of rec.void_after rec.bound rec.drift → drop 2 words ≡ data_words rec → fields_of_words words ≡ rec
fields_of_words-only words rec len bounds same =
    ap fields_of_words (front_two words len)
    ∙ ap (λ (ws : List ℕ). fields_of_words (slice_index words 0 ∷ slice_index words 1 ∷ ws)) same
    ∙ fields_of_words-data_words (slice_index words 0) (slice_index words 1) rec bounds

seconds_of-moment_of : (seconds nanos : ℕ) → nanos < 1000000000 → seconds_of (moment_of seconds nanos) ≡ seconds
seconds_of-moment_of seconds nanos h = omega arith

nanos_of-moment_of : (seconds nanos : ℕ) → nanos < 1000000000 → nanos_of (moment_of seconds nanos) ≡ nanos
nanos_of-moment_of seconds nanos h = omega arith

code_of-status_with : (code : ℕ) → code ≤ 3 → unsigned_abs (code_of (status_with code)) ≡ code
code_of-status_with zero h = refl
code_of-status_with (suc zero) h = refl
code_of-status_with (suc (suc zero)) h = refl
code_of-status_with (suc (suc (suc zero))) h = refl
code_of-status_with (suc (suc (suc (suc code)))) h = absurd (omega arith)

drift_and_status-again : (word : ℕ) → word / 2 ^ 32 ≤ 3 → drift_and_status (word % 2 ^ 32) (status_with (word / 2 ^ 32)) ≡ word
drift_and_status-again word h = rw (code_of-status_with (word / 2 ^ 32) h) (omega arith)

flag_of-again : (word : ℕ) → word ≤ 1 → flag_of (word == 1) ≡ word
flag_of-again word h = grind (arith, nat_tests)

data_words-again : (w0 w1 w2 w3 w4 w5 w6 w7 w8 w9 : ℕ) → IsGoodWord 3 w3 → IsGoodWord 5 w5 → IsGoodWord 8 w8 → IsGoodWord 9 w9
    → drop 2 (w0 ∷ w1 ∷ w2 ∷ w3 ∷ w4 ∷ w5 ∷ w6 ∷ w7 ∷ w8 ∷ w9 ∷ []) ≡ data_words (fields_of_words (w0 ∷ w1 ∷ w2 ∷ w3 ∷ w4 ∷ w5 ∷ w6 ∷ w7 ∷ w8 ∷ w9 ∷ []))
data_words-again w0 w1 w2 w3 w4 w5 w6 w7 w8 w9 g3 g5 g8 g9 =
    rw (seconds_of-moment_of w2 w3 (g3.as_of_nanos refl), nanos_of-moment_of w2 w3 (g3.as_of_nanos refl), seconds_of-moment_of w4 w5 (g5.void_after_nanos refl), nanos_of-moment_of w4 w5 (g5.void_after_nanos refl), drift_and_status-again w8 (g8.status refl), flag_of-again w9 (g9.flag refl)) refl

ten_words : (words : List ℕ) → length words ≡ 10 → words ≡ slice_index words 0 ∷ slice_index words 1 ∷ slice_index words 2 ∷ slice_index words 3 ∷ slice_index words 4 ∷ slice_index words 5 ∷ slice_index words 6 ∷ slice_index words 7 ∷ slice_index words 8 ∷ slice_index words 9 ∷ []
ten_words [] len = absurd (omega arith)
ten_words (w0 ∷ []) len = absurd (omega arith)
ten_words (w0 ∷ w1 ∷ []) len = absurd (omega arith)
ten_words (w0 ∷ w1 ∷ w2 ∷ []) len = absurd (omega arith)
ten_words (w0 ∷ w1 ∷ w2 ∷ w3 ∷ []) len = absurd (omega arith)
ten_words (w0 ∷ w1 ∷ w2 ∷ w3 ∷ w4 ∷ []) len = absurd (omega arith)
ten_words (w0 ∷ w1 ∷ w2 ∷ w3 ∷ w4 ∷ w5 ∷ []) len = absurd (omega arith)
ten_words (w0 ∷ w1 ∷ w2 ∷ w3 ∷ w4 ∷ w5 ∷ w6 ∷ []) len = absurd (omega arith)
ten_words (w0 ∷ w1 ∷ w2 ∷ w3 ∷ w4 ∷ w5 ∷ w6 ∷ w7 ∷ []) len = absurd (omega arith)
ten_words (w0 ∷ w1 ∷ w2 ∷ w3 ∷ w4 ∷ w5 ∷ w6 ∷ w7 ∷ w8 ∷ []) len = absurd (omega arith)
ten_words (w0 ∷ w1 ∷ w2 ∷ w3 ∷ w4 ∷ w5 ∷ w6 ∷ w7 ∷ w8 ∷ w9 ∷ []) len = refl
ten_words (w0 ∷ w1 ∷ w2 ∷ w3 ∷ w4 ∷ w5 ∷ w6 ∷ w7 ∷ w8 ∷ w9 ∷ more ∷ words) len = absurd (omega arith)

pub data_words-fields_of_words : (words : List ℕ) → length words ≡ 10 → AreGoodWords words → drop 2 words ≡ data_words (fields_of_words words)
data_words-fields_of_words words len good =
    subst (λ (ws : List ℕ). drop 2 ws ≡ data_words (fields_of_words ws)) (sym (ten_words words len))
    (data_words-again (slice_index words 0) (slice_index words 1) _ _ _ _ _ _ _ _ (good 3 (omega arith) (omega arith)) (good 5 (omega arith) (omega arith)) (good 8 (omega arith) (omega arith)) (good 9 (omega arith) (omega arith)))
