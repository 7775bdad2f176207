-- The report's parts: the daemon's lines, and the answers of each client.
use Rattle.std.proofs.Common.{◌≡◌, ℕ, suc, ◌+◌, ◌<◌, ◌≤◌, List, [], ◌∷◌, ◌++◌, drop, get_or, length, length-append, refl, sym, ap, ◌∙◌, append_assoc, arith}
use Rattle.std.specs.List.{range_with_len}
use Rattle.std.proofs.lemmas.List.{drop_more}
use Rattle.clock_gate.specs.declared.trace.Trace.{Trace}
use Rattle.interval_now.specs.declared.answers.Answer.{Answer}
use Rattle.lawful_report.specs.declared.counts.Counts.{Counts}
use Rattle.lawful_report.specs.declared.printed.Printed.{Printed}
use Rattle.lawful_report.specs.declared.printed.Printed.TheVariants as printed
use Rattle.lawful_report.specs.Lawful.{no_counts, text_of_lines}
use Rattle.live_report.specs.declared.line.Line.{Line}
use Rattle.live_report.specs.declared.line.Line.TheVariants as lines
use Rattle.live_report.specs.ClientCalls.{answer_lines, client_lines}
use Rattle.live_report.specs.Counted.{AreUpTo, answers_counted, answers_in, clients_counted}
use Rattle.live_report.specs.LiveReport.{lines_printed, line_counted, lines_counted, page_told}
use Rattle.live_report.proofs.ReportLines.{text_append}
use Rattle.live_report.proofs.ReportText.{counted_append, position_after_lines, printed_append}

-- ---- the counts

-- a smaller bound is a bound
pub up_to_more : (low high : ℕ) (c : Counts) → low ≤ high → AreUpTo low c → AreUpTo high c
up_to_more low high c within are = record {
  publications = omega (arith, within, are.publications);
  answers = omega (arith, within, are.answers);
  times = omega (arith, within, are.times);
  unknown = omega (arith, within, are.unknown);
  synchronized = omega (arith, within, are.synchronized);
  free_running = omega (arith, within, are.free_running);
  disrupted = omega (arith, within, are.disrupted);
}

-- the lines of a client's answers count as the answers do
answers_as_lines : (counts : Counts) (client number : ℕ) (answers : List Answer) → lines_counted counts (answer_lines client number answers) ≡ answers_counted counts answers
answers_as_lines counts client number [] = refl
answers_as_lines counts client number (answer ∷ answers) = answers_as_lines (line_counted counts (lines.Answered client number answer)) client (number + 1) answers

-- and so do those of all clients
pub clients_as_lines : (counts : Counts) (number : ℕ) (answers : List (List Answer)) → lines_counted counts (client_lines (range_with_len number (length answers)) answers) ≡ clients_counted counts answers
clients_as_lines counts number [] = refl
clients_as_lines counts number (mine ∷ answers) =
    counted_append counts (answer_lines number 1 mine) (client_lines (range_with_len (number + 1) (length answers)) answers)
    ∙ (ap (λ (c : Counts). lines_counted c (client_lines (range_with_len (number + 1) (length answers)) answers)) (answers_as_lines counts number 1 mine)
    ∙ clients_as_lines (answers_counted counts mine) (number + 1) answers)

-- ---- how many

lines_of_one : (client number : ℕ) (answers : List Answer) → length (answer_lines client number answers) ≡ length answers
lines_of_one client number [] = refl
lines_of_one client number (answer ∷ answers) = ap suc (lines_of_one client (number + 1) answers)

-- there are as many lines as answers
pub as_many_lines : (number : ℕ) (answers : List (List Answer)) → length (client_lines (range_with_len number (length answers)) answers) ≡ answers_in answers
as_many_lines number [] = refl
as_many_lines number (mine ∷ answers) =
    let both = length-append (answer_lines number 1 mine) (client_lines (range_with_len (number + 1) (length answers)) answers) in
    let one = lines_of_one number 1 mine in
    let rest = as_many_lines (number + 1) answers in
    omega (arith, both, one, rest)

-- the answers of these clients from a place on begin with those of the one that stands there
pub answers_in_more : (answers : List (List Answer)) (place : ℕ) (d : List Answer) → place < length answers → answers_in (drop place answers) ≡ length (get_or answers place d) + answers_in (drop (place + 1) answers)
answers_in_more answers place d before = ap answers_in (drop_more answers place d before)

-- ---- the text

answers_then : (trace : Trace) (position client number : ℕ) (answers : List Answer) (more : List Line)
    → lines_printed trace position (answer_lines client number answers ++ more) ≡ lines_printed trace position (answer_lines client number answers) ++ lines_printed trace position more
answers_then trace position client number [] more = refl
answers_then trace position client number (answer ∷ answers) more = ap (λ (l : List Printed). printed.Answered client number (page_told trace answer) answer ∷ l) (answers_then trace position client (number + 1) answers more)

-- the text of a client's lines, and then that of the others'
pub text_of_clients : (trace : Trace) (position client : ℕ) (mine : List Answer) (clients : List ℕ) (answers : List (List Answer))
    → text_of_lines (lines_printed trace position (client_lines (client ∷ clients) (mine ∷ answers))) ≡ text_of_lines (lines_printed trace position (answer_lines client 1 mine)) ++ text_of_lines (lines_printed trace position (client_lines clients answers))
text_of_clients trace position client mine clients answers =
    ap text_of_lines (answers_then trace position client 1 mine (client_lines clients answers))
    ∙ text_append (lines_printed trace position (answer_lines client 1 mine)) (lines_printed trace position (client_lines clients answers))

-- the lines of a run: first the text of the daemon's, then that of the clients'
pub text_parts : (trace : Trace) (position : ℕ) (daemon : List Line) (answers : List (List Answer)) (before middle after : List ℕ)
    → middle ≡ before ++ text_of_lines (lines_printed trace position daemon)
    → ((p : ℕ) → after ≡ middle ++ text_of_lines (lines_printed trace p (client_lines (range_with_len 1 (length answers)) answers)))
    → after ≡ before ++ text_of_lines (lines_printed trace position (daemon ++ client_lines (range_with_len 1 (length answers)) answers))
text_parts trace position daemon answers before middle after first then_ =
    let theirs = client_lines (range_with_len 1 (length answers)) answers in
    let next = position_after_lines trace position daemon in
    then_ next ∙ ap (λ (l : List ℕ). l ++ text_of_lines (lines_printed trace next theirs)) first
    ∙ append_assoc before (text_of_lines (lines_printed trace position daemon)) (text_of_lines (lines_printed trace next theirs))
    ∙ ap (λ (l : List ℕ). before ++ l) (sym (ap text_of_lines (printed_append trace position daemon theirs) ∙ text_append (lines_printed trace position daemon) (lines_printed trace next theirs)))

-- and their counts
pub counted_parts : (daemon : List Line) (answers : List (List Answer)) → lines_counted no_counts (daemon ++ client_lines (range_with_len 1 (length answers)) answers) ≡ clients_counted (lines_counted no_counts daemon) answers
counted_parts daemon answers =
    counted_append no_counts daemon (client_lines (range_with_len 1 (length answers)) answers) ∙ clients_as_lines (lines_counted no_counts daemon) 1 answers
