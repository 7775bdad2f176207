-- The text of lines, line by line.
use Rattle.std.proofs.Common.{◌≡◌, ◌+◌, ◌<◌, ◌++◌, ℕ, List, [], ◌∷◌, drop, get_or, length, refl, sym, ap, append-nil, append_assoc, ◌∙◌}
use Rattle.std.specs.Prelude.{Result, Ok, Err, OnOk}
use Rattle.std.proofs.lemmas.List.{drop_more}
use Rattle.std.proofs.lemmas.List.Concat.{flat_map-append}
use Rattle.clock_gate.specs.declared.trace.Trace.{Trace}
use Rattle.lawful_report.specs.declared.counts.Counts.{Counts}
use Rattle.lawful_report.specs.declared.printed.Printed.{Printed}
use Rattle.lawful_report.specs.Lines.{line_text}
use Rattle.lawful_report.specs.Lawful.{text_of_lines}
use Rattle.live_report.specs.declared.line.Line.{Line}
use Rattle.live_report.specs.LiveReport.{line_printed, position_after_line, lines_printed, line_counted, lines_counted}

pub text_none : text_of_lines [] ≡ []
unfolding text_of_lines
text_none = refl

pub text_one : (line : Printed) → text_of_lines (line ∷ []) ≡ line_text line
unfolding text_of_lines
text_one line = append-nil (line_text line)

pub text_more : (line : Printed) (lines : List Printed) → text_of_lines (line ∷ lines) ≡ line_text line ++ text_of_lines lines
unfolding text_of_lines
text_more line lines = refl

pub text_append : (xs ys : List Printed) → text_of_lines (xs ++ ys) ≡ text_of_lines xs ++ text_of_lines ys
unfolding text_of_lines
text_append xs ys = flat_map-append line_text xs ys

-- nothing is printed
pub text_kept : (text : List ℕ) → text ≡ text ++ text_of_lines []
text_kept text = sym (append-nil text) ∙ ap (λ (l : List ℕ). text ++ l) (sym text_none)

-- a line, and then these
pub text_then : {T E : Type 0} (said : Result T E) (before middle after : List ℕ) (line : Printed) (lines : List Printed)
    → middle ≡ before ++ line_text line → OnOk said (after ≡ middle ++ text_of_lines lines) → OnOk said (after ≡ before ++ text_of_lines (line ∷ lines))
text_then (Err e) before middle after line lines one more = tt
text_then (Ok x) before middle after line lines one more =
    more ∙ ap (λ (l : List ℕ). l ++ text_of_lines lines) one ∙ append_assoc before (line_text line) (text_of_lines lines)
    ∙ ap (λ (l : List ℕ). before ++ l) (sym (text_more line lines))

-- a line, then these, and one more
pub text_whole : (none one more all : List ℕ) (header total : Printed) (lines : List Printed)
    → none ≡ [] → one ≡ none ++ line_text header → more ≡ one ++ text_of_lines lines → all ≡ more ++ line_text total
    → all ≡ text_of_lines (header ∷ (lines ++ total ∷ []))
text_whole none one more all header total lines is_none is_one is_more is_all =
    let first : one ≡ line_text header = is_one ∙ ap (λ (l : List ℕ). l ++ line_text header) is_none in
    let rest : text_of_lines (lines ++ total ∷ []) ≡ text_of_lines lines ++ line_text total =
    text_append lines (total ∷ []) ∙ ap (λ (l : List ℕ). text_of_lines lines ++ l) (text_one total) in
    is_all ∙ ap (λ (l : List ℕ). l ++ line_text total) (is_more ∙ ap (λ (l : List ℕ). l ++ text_of_lines lines) first)
    ∙ append_assoc (line_text header) (text_of_lines lines) (line_text total)
    ∙ sym (text_more header (lines ++ total ∷ []) ∙ ap (λ (l : List ℕ). line_text header ++ l) rest)

-- the lines from a place on begin with what that one prints
pub printed_more : (trace : Trace) (position : ℕ) (lines : List Line) (place : ℕ) (d : Line) → place < length lines
    → text_of_lines (lines_printed trace position (drop place lines))
    ≡ text_of_lines (line_printed trace position (get_or lines place d)) ++ text_of_lines (lines_printed trace (position_after_line position (get_or lines place d)) (drop (place + 1) lines))
printed_more trace position lines place d before =
    ap (λ (rest : List Line). text_of_lines (lines_printed trace position rest)) (drop_more lines place d before)
    ∙ text_append (line_printed trace position (get_or lines place d)) (lines_printed trace (position_after_line position (get_or lines place d)) (drop (place + 1) lines))

-- and so do their counts
pub counted_more : (counts : Counts) (lines : List Line) (place : ℕ) (d : Line) → place < length lines
    → lines_counted counts (drop place lines) ≡ lines_counted (line_counted counts (get_or lines place d)) (drop (place + 1) lines)
counted_more counts lines place d before = ap (λ (rest : List Line). lines_counted counts rest) (drop_more lines place d before)
