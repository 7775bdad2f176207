-- One line more, and the end of a text.
use Rattle.std.proofs.Common.{◌≡◌, ◌∙◌, ℕ, ◌+◌, List, [], ◌∷◌, ◌++◌, ◌==◌, true, false, Ok, Err, Option, cond, refl, sym, ap, append_assoc, length-append, arith}
use Rattle.std.specs.List.{count_by}
use Rattle.std.proofs.lemmas.List.{append-nil}
use Rattle.std.proofs.lemmas.List.Sums.{sum_by-append, sum_by-cons}
use Rattle.csv_records.specs.declared.reason.Reason.TheVariants.{Kind}
use Rattle.csv_records.proofs.Reading.{GoesOn}
use Rattle.bound_agree.specs.Board.{no_spans}
use Rattle.bound_agree.specs.Span.{SpanEnds}
use Rattle.agree_text.specs.declared.line.Line.{Line}
use Rattle.agree_text.specs.Agreement.{ends, grammar}
use Rattle.agree_text.specs.Answers.{header_line}
use Rattle.agree_text.specs.Session.{SessionFields, changed, is_ask, session_of, spans_after, taken, written, written_of}

spans_more : (spans : List (Option SpanEnds)) (front : List Line) (line : Line) → spans_after spans (front ++ line ∷ []) ≡ changed (spans_after spans front) line
unfolding spans_after
spans_more spans [] line = refl
spans_more spans (first ∷ front) line = spans_more (changed spans first) front line

written_more : (spans : List (Option SpanEnds)) (front : List Line) (line : Line) → written_of spans (front ++ line ∷ []) ≡ written_of spans front ++ written (spans_after spans front) line
unfolding spans_after written_of
written_more spans [] line = append-nil (written spans line)
written_more spans (first ∷ front) line =
    ap (λ (ys : List ℕ). written spans first ++ ys) (written_more (changed spans first) front line)
    ∙ sym (append_assoc (written spans first) (written_of (changed spans first) front) (written (spans_after (changed spans first) front) line))

asks_more : (front : List Line) (line : Line) → count_by is_ask (front ++ line ∷ []) ≡ count_by is_ask front + cond (is_ask line) 1 0
asks_more front line =
    let one = λ (l : Line). cond {A = ℕ} (is_ask l) 1 0 in
    omega (arith, sum_by-append one front (line ∷ []), sum_by-cons one line [])

-- what the lines come to with one more
session_more : (front : List Line) (line : Line) → session_of (front ++ line ∷ []) ≡ taken (session_of front) line
session_more front line =
    rw (
      spans_more no_spans front line,
      written_more no_spans front line,
      asks_more front line,
      length-append front (line ∷ []),
      ← append_assoc header_line (written_of no_spans front) (written (spans_after no_spans front) line),
    ) refl

pub goes_on : GoesOn grammar taken (λ session. session.lines)
goes_on = record { more = session_more; counted = λ front. refl }

pub ends_well : (session : SessionFields) → (session.lines == 0) ≡ false → ends session ≡ Ok session
ends_well session some = rw some refl

pub ends_empty : (session : SessionFields) → (session.lines == 0) ≡ true → ends session ≡ Err (record { line = 1; reason = Kind })
ends_empty session none = rw none refl
