-- Pages counted by their sequence counts, which rise by 2 from page to page, modulo 2^32.
use Rattle.std.specs.Prelude.{ℕ, ◌+◌, ◌-◌, ◌*◌, ◌/◌, ◌%◌, ◌^◌}

-- the sequence count of the page with this number, where page 0 has the count `start`
abbrev pub count_of_page : ℕ → ℕ → ℕ
count_of_page start page = (start + 2 * page) % 2 ^ 32

-- half of the way from `start` to `sequence` modulo 2^32, rounded down
abbrev pub page_number_of : ℕ → ℕ → ℕ
page_number_of start sequence = (sequence + 2 ^ 32 - start) % 2 ^ 32 / 2
