-- The numbers that a day draws. This project's own.
use Rattle.std.specs.Prelude.{ℕ, zero, suc, ◌+◌, ◌*◌, ◌/◌, ◌%◌, ◌^◌, List, [], ◌++◌}

-- the number after this one, by a linear congruence modulo 2^64
unfoldable pub next_number : ℕ → ℕ
next_number x = (6364136223846793005 * x + 1442695040888963407) % 2 ^ 64

-- the draw after this number: the upper 31 bits of the next one
unfoldable pub draw_of : ℕ → ℕ
draw_of x = next_number x / 2 ^ 33

-- the draw after that one
abbrev pub second_draw_of : ℕ → ℕ
second_draw_of x = draw_of (next_number x)

-- the number after two draws
abbrev pub after_two : ℕ → ℕ
after_two x = next_number (next_number x)

-- the number after so many rounds of two draws
unfoldable pub after_rounds : ℕ → ℕ → ℕ
after_rounds x zero = x
after_rounds x (suc left) = after_rounds (after_two x) left

-- what so many rounds give, one after the other, from round k on, where round k gives `given k x` and draws twice after
-- the number x
unfoldable pub rounds : {X : Type 0} → (ℕ → ℕ → List X) → ℕ → ℕ → ℕ → List X
rounds given x k zero = []
rounds given x k (suc left) = given k x ++ rounds given (after_two x) (k + 1) left

-- what so many seconds have, one after the other, from second k on, where second k has `given k`
unfoldable pub seconds : {X : Type 0} → (ℕ → List X) → ℕ → ℕ → List X
seconds given k zero = []
seconds given k (suc left) = given k ++ seconds given (k + 1) left
