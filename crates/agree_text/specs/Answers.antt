-- The lines of the output (this project's format), byte for byte. Each ends with a line feed.
use Rattle.std.specs.Prelude.{ℕ, List, [], ◌++◌, Option, Some, None, ℤ, codes, decimal}
use Rattle.std.specs.Fmt.{signed_decimal}
use Rattle.std.specs.List.{flat_map}
use Rattle.bound_agree.specs.Board.{agreement_of, missed_by, spans_of}
use Rattle.bound_agree.specs.Span.{SpanEnds}

unfoldable pub header_line : List ℕ
header_line = codes "agree-report,1\n"

-- the two ends of a run
unfoldable pub run_text : SpanEnds → List ℕ
run_text run = codes "," ++ (signed_decimal run.earliest ++ (codes "," ++ signed_decimal run.latest))

unfoldable pub runs_text : List SpanEnds → List ℕ
runs_text runs = flat_map run_text runs

-- the number of spans
unfoldable pub count_text : ℕ → List ℕ
count_text count = codes "agree," ++ decimal count

-- `agree,N` and the two ends of each run
unfoldable pub agree_line : ℕ → List SpanEnds → List ℕ
agree_line count runs = (count_text count ++ runs_text runs) ++ codes "\n"

-- `misses,M`
unfoldable pub misses_line : ℕ → List ℕ
misses_line misses = codes "misses," ++ (decimal misses ++ codes "\n")

abbrev pub truth_text : List (Option SpanEnds) → Option ℤ → List ℕ
truth_text spans None = []
truth_text spans (Some truth) = misses_line (missed_by spans truth)

-- what is written of a question to a board with these spans
unfoldable pub answer_text : List (Option SpanEnds) → ℕ → Option ℤ → List ℕ
answer_text spans most_false truth = agree_line (spans_of spans) (agreement_of spans most_false) ++ truth_text spans truth
