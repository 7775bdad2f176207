-- The counts of a report, part by part, and that they stay small.
use Rattle.std.specs.Prelude.{ℕ, ◌+◌, ◌≤◌, List, [], ◌∷◌, length}
use Rattle.interval_now.specs.declared.answers.Answer.{Answer}
use Rattle.lawful_report.specs.declared.counts.Counts.{Counts}
use Rattle.lawful_report.specs.Lawful.{one_answer}

-- how many answers these clients have
abbrev pub answers_in : List (List Answer) → ℕ
answers_in [] = 0
answers_in (answers ∷ later) = length answers + answers_in later

-- with the answers of one client
abbrev pub answers_counted : Counts → List Answer → Counts
answers_counted counts [] = counts
answers_counted counts (answer ∷ later) = answers_counted (one_answer answer counts) later

-- and with those of each of these
abbrev pub clients_counted : Counts → List (List Answer) → Counts
clients_counted counts [] = counts
clients_counted counts (answers ∷ later) = clients_counted (answers_counted counts answers) later

-- each count is at most this number
pub record AreUpTo (most : ℕ) (c : Counts) : Type 0 where
  pub publications : c.publications ≤ most
  pub answers : c.answers ≤ most
  pub times : c.times ≤ most
  pub unknown : c.unknown ≤ most
  pub synchronized : c.synchronized ≤ most
  pub free_running : c.free_running ≤ most
  pub disrupted : c.disrupted ≤ most
