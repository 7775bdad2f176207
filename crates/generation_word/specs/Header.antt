-- Word 1 of a segment: its size, version and generation in one word (ClockBound's PROTOCOL; layout 3 is this project's).
use Rattle.std.specs.Prelude.{ℕ, ◌+◌, ◌*◌, ◌/◌, ◌%◌, ◌^◌, ◌==◌, if◌then◌else◌}
use Rattle.generation_word.specs.declared.header.TheConstants.{LOW_HALF_THREE}
use Rattle.generation_word.specs.declared.layout.Layout.{Layout}
use Rattle.generation_word.specs.declared.layout.Layout.TheVariants.{Two, Three}

-- the header with a generation: 32 bits of size, 16 of version and 16 of generation, or 16, 16 and 32
abbrev pub word1_of : Layout → ℕ → ℕ
word1_of Two generation = 80 + 2 * 2 ^ 32 + generation * 2 ^ 48
word1_of Three generation = LOW_HALF_THREE + generation * 2 ^ 32

-- what a header tells: size, version and generation
abbrev pub header_of : ℕ → ℕ × ℕ × ℕ
header_of word =
    if word % 2 ^ 32 == LOW_HALF_THREE then (80, 3, word / 2 ^ 32)
    else (word % 2 ^ 32, word / 2 ^ 32 % 2 ^ 16, word / 2 ^ 48)

-- the generation that a header tells
abbrev pub generation_in : ℕ → ℕ
generation_in word = (header_of word).2
