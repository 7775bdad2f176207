-- What the lines so far come to, and which line may follow them.
use Rattle.std.specs.Prelude.{ℕ, ◌+◌, ◌-◌, ◌==◌, Bool, true, false, ◌&&◌, ◌||◌, not, nat_le, List, [], ◌∷◌, ◌++◌, length, set, Option, Some, None, if◌then◌else◌}
use Rattle.std.specs.List.{count_by}
use Rattle.csv_records.specs.declared.reason.Reason.{Reason}
use Rattle.csv_records.specs.declared.reason.Reason.TheVariants as reasons
use Rattle.bound_agree.specs.Board.{no_spans}
use Rattle.bound_agree.specs.Span.{SpanEnds}
use Rattle.agree_text.specs.declared.limits.TheConstants.{MOST_ASKS, MOST_RECORDS}
use Rattle.agree_text.specs.declared.line.Line.{Line}
use Rattle.agree_text.specs.declared.line.Line.TheVariants.{Header, Set, Drop, Ask}
use Rattle.agree_text.specs.Answers.{answer_text, header_line}

-- the spans after a line
abbrev pub changed : List (Option SpanEnds) → Line → List (Option SpanEnds)
changed spans Header = spans
changed spans (Set server span) = set spans (server - 1) (Some span)
changed spans (Drop server) = set spans (server - 1) None
changed spans (Ask most_false truth) = spans

-- what is written of a line, by the spans before it
abbrev pub written : List (Option SpanEnds) → Line → List ℕ
written spans Header = []
written spans (Set server span) = []
written spans (Drop server) = []
written spans (Ask most_false truth) = answer_text spans most_false truth

abbrev pub is_ask : Line → Bool
is_ask Header = false
is_ask (Set server span) = false
is_ask (Drop server) = false
is_ask (Ask most_false truth) = true

-- the spans after some lines
unfoldable pub spans_after : List (Option SpanEnds) → List Line → List (Option SpanEnds)
spans_after spans [] = spans
spans_after spans (line ∷ lines) = spans_after (changed spans line) lines

-- what is written of some lines, each by the spans as they are there
unfoldable pub written_of : List (Option SpanEnds) → List Line → List ℕ
written_of spans [] = []
written_of spans (line ∷ lines) = written spans line ++ written_of (changed spans line) lines

-- what some lines come to: the spans, the output, and how many lines and how many questions they are
pub record SessionFields : Type 0 where
  pub spans : List (Option SpanEnds)
  pub text : List ℕ
  pub lines : ℕ
  pub asks : ℕ

abbrev pub session_of : List Line → SessionFields
session_of front = record {
  spans = spans_after no_spans front;
  text = header_line ++ written_of no_spans front;
  lines = length front;
  asks = count_by is_ask front;
}

-- and with one line more
abbrev pub taken : SessionFields → Line → SessionFields
taken session line = record {
  spans = changed session.spans line;
  text = session.text ++ written session.spans line;
  lines = session.lines + 1;
  asks = session.asks + (if is_ask line then 1 else 0);
}

-- the first line isn't the header, or a later one is
abbrev pub breaks_order : SessionFields → Line → Bool
breaks_order session Header = not (session.lines == 0)
breaks_order session (Set server span) = session.lines == 0
breaks_order session (Drop server) = session.lines == 0
breaks_order session (Ask most_false truth) = session.lines == 0

-- there are as many lines after the header as may be, or as many questions
abbrev pub passes_limit : SessionFields → Line → Bool
passes_limit session line = nat_le (MOST_RECORDS + 1) session.lines || (is_ask line && nat_le MOST_ASKS session.asks)

-- why the line may not follow these
abbrev pub fault_of : SessionFields → Line → Option Reason
fault_of session line =
    if breaks_order session line then Some reasons.Order
    else if passes_limit session line then Some reasons.Limit else None
