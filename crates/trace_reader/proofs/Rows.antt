-- The rows of the clock and of the host, after one line more.
use Rattle.std.proofs.Common.{◌≡◌, ◌∙◌, ◌<◌, ◌≤◌, ◌+◌, ℕ, zero, suc, List, [], ◌∷◌, ◌++◌, length, take, None, refl, sym, ap, arith}
use Rattle.std.specs.Prelude.{All}
use Rattle.std.specs.List.{range_with_len}
use Rattle.std.proofs.lemmas.List.{append-nil}
use Rattle.std.proofs.lemmas.List.Elements.{All-append, All-cons, All-nil, All-head, filter_map-append}
use Rattle.clock_gate.specs.Trace.{NeverFalls, clock_number, clock_numbers}
use Rattle.clock_gate.specs.declared.clock_row.ClockRow.{ClockRow}
use Rattle.clock_gate.specs.declared.trace.HostRow.{HostRow}
use Rattle.clock_gate.specs.declared.trace.HostRow.TheVariants as hosts
use Rattle.trace_reader.specs.Checks.{last_mono}

-- one item
pub All-one : {X : Type 0} (P : X → Type 0) (x : X) → P x → All P (x ∷ [])
All-one P x h = All-cons P x [] h (All-nil P)

-- one item more
pub All-more : {X : Type 0} (P : X → Type 0) (xs : List X) (x : X) → All P xs → P x → All P (xs ++ x ∷ [])
All-more P xs x all h = All-append P xs (x ∷ []) all (All-one P x h)

-- the last of rows that never fall is at or above a time that each of them is
below_last : (mono : ℕ) (rows : List ClockRow) → NeverFalls rows → All (λ (later : ClockRow). mono ≤ later.mono) rows → mono ≤ last_mono rows mono
unfolding NeverFalls last_mono
below_last mono [] falls all = omega arith
below_last mono (row ∷ rest) falls all =
    let first : mono ≤ row.mono = All-head (λ (later : ClockRow). mono ≤ later.mono) row rest all in
    let more = below_last row.mono rest falls.1 falls.0 in
    omega (arith, first, more)

pub never_falls_more : (least : ℕ) (rows : List ClockRow) (row : ClockRow) → NeverFalls rows → last_mono rows least ≤ row.mono → NeverFalls (rows ++ row ∷ [])
unfolding NeverFalls last_mono
never_falls_more least [] row falls le = (All-nil (λ (later : ClockRow). row.mono ≤ later.mono), tt)
never_falls_more least (first ∷ rest) row falls le =
    let last = below_last first.mono rest falls.1 falls.0 in
    (All-more (λ (later : ClockRow). first.mono ≤ later.mono) rest row falls.0 (omega (arith, last, le)), never_falls_more first.mono rest row falls.1 le)

-- the host's rows where the clock has so many
pub record IsHostSoFar (clocks : ℕ) (host : List HostRow) : Type 0 where
  pub numbered : clock_numbers host ≡ range_with_len 1 clocks
  pub bare : clocks ≡ 0 → host ≡ []
  pub begins : 0 < clocks → take 1 host ≡ hosts.Clock 1 ∷ []

range_more : (a n : ℕ) → range_with_len a (suc n) ≡ range_with_len a n ++ (a + n) ∷ []
range_more a zero = rw (zero_more a) refl
  where
    zero_more : (a : ℕ) → a + 0 ≡ a
    zero_more a = omega arith
range_more a (suc n) =
    let same : a + 1 + n ≡ a + suc n = omega arith in
    ap (λ (xs : List ℕ). a ∷ xs) (range_more (a + 1) n ∙ ap (λ (x : ℕ). range_with_len (a + 1) n ++ x ∷ []) same)

one_to : (n : ℕ) → range_with_len 1 (n + 1) ≡ range_with_len 1 n ++ (n + 1) ∷ []
one_to n =
    let up : n + 1 ≡ suc n = omega arith in
    let last : 1 + n ≡ n + 1 = omega arith in
    ap (λ (k : ℕ). range_with_len 1 k) up ∙ range_more 1 n ∙ ap (λ (k : ℕ). range_with_len 1 n ++ k ∷ []) last

take_more : (host : List HostRow) (row first : HostRow) → take 1 host ≡ first ∷ [] → take 1 (host ++ row ∷ []) ≡ first ∷ []
take_more [] row first e = absurd cc
take_more (x ∷ rest) row first e = e

numbers_more : (host : List HostRow) (row : HostRow) → clock_numbers (host ++ row ∷ []) ≡ clock_numbers host ++ clock_numbers (row ∷ [])
unfolding clock_numbers
numbers_more host row = filter_map-append clock_number host (row ∷ [])

-- a row of the clock
pub host_clock : (clocks : ℕ) (host : List HostRow) → IsHostSoFar clocks host → IsHostSoFar (clocks + 1) (host ++ hosts.Clock (clocks + 1) ∷ [])
unfolding clock_numbers
host_clock clocks host was = record {
  numbered = numbers_more host (hosts.Clock (clocks + 1)) ∙ ap (λ (xs : List ℕ). xs ++ (clocks + 1) ∷ []) was.numbered ∙ sym (one_to clocks);
  bare = λ none. absurd (omega (arith, none));
  begins = λ some. by clocks was;
}
  where
    by : (clocks : ℕ) → IsHostSoFar clocks host → take 1 (host ++ hosts.Clock (clocks + 1) ∷ []) ≡ hosts.Clock 1 ∷ []
    by zero was = rw (was.bare refl) refl
    by (suc n) was = take_more host (hosts.Clock (suc n + 1)) (hosts.Clock 1) (was.begins (omega arith))

-- another row, after the first of the clock
pub host_other : (clocks : ℕ) (host : List HostRow) (row : HostRow) → clock_number row ≡ None → 0 < clocks → IsHostSoFar clocks host → IsHostSoFar clocks (host ++ row ∷ [])
unfolding clock_numbers
host_other clocks host row other some was = record {
  numbered = numbers_more host row ∙ rw (none_in row other, append-nil (clock_numbers host)) was.numbered;
  bare = λ none. absurd (omega (arith, none, some));
  begins = λ _. take_more host row (hosts.Clock 1) (was.begins some);
}
  where
    none_in : (row : HostRow) → clock_number row ≡ None → clock_numbers (row ∷ []) ≡ []
    none_in (hosts.Clock n) other = absurd cc
    none_in (hosts.Page words) other = refl
    none_in hosts.Disrupt other = refl

-- there are rows of the host where there are some of the clock
pub host_some : (clocks : ℕ) (host : List HostRow) → IsHostSoFar clocks host → 0 < clocks → 0 < length host
host_some clocks [] was some = absurd (let e = was.begins some in cc e)
host_some clocks (row ∷ rest) was some = omega arith
