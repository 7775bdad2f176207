use Rattle.std.proofs.Common.{◌≡◌, ◌+◌, ℕ, drop}
use Rattle.live_report.specs.Counted.{AreUpTo, answers_counted}
use Rattle.live_report.proofs.counts.answers_counted.Given as goal

abbrev pub invariant-answers : goal.invariant-answers
invariant-answers l =
    (answers_counted l.counts (drop l.answer-index l.answers) ≡ answers_counted l.fn.counts l.answers) × ((most : ℕ) → AreUpTo most l.fn.counts → AreUpTo (most + l.answer-index) l.counts)
