use Rattle.std.proofs.Common.{ℕ, ◌<◌, ◌^◌, length, ◌≡◌}
use Rattle.std.specs.Prelude.{slice_index}
use Rattle.abstract_run.proofs.trace_types.words_fit.Given as goal

abbrev pub invariant-words : goal.invariant-words
invariant-words l = (length l.words ≡ 13) × ((place : ℕ) → place < l.place → slice_index l.words place < 2 ^ 64)
