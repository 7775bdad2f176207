-- The report of a run's lines is that of the daemon's lines and of what the calls said.
use Rattle.std.proofs.Common.{◌≡◌, ℕ, ◌+◌, List, [], ◌∷◌, ◌++◌, map, refl, sym, ap, ◌∙◌, append_assoc}
use Rattle.clock_gate.specs.declared.trace.Trace.{Trace}
use Rattle.interval_now.specs.declared.answers.Answer.{Answer}
use Rattle.lawful_report.specs.declared.counts.Counts.{Counts}
use Rattle.lawful_report.specs.declared.printed.Printed.{Printed}
use Rattle.lawful_report.specs.declared.printed.Printed.TheVariants as printed
use Rattle.lawful_report.specs.Lawful.{no_counts, counts_list}
use Rattle.lawful_report.specs.Composed.{answered_lines, lines_of_clients, counts_said, counts_all}
use Rattle.live_report.specs.declared.line.Line.{Line}
use Rattle.live_report.specs.declared.line.Line.TheVariants as lines
use Rattle.live_report.specs.ClientCalls.{answer_lines, client_lines}
use Rattle.live_report.specs.LiveReport.{line_printed, position_after_line, lines_printed, position_first, line_counted, lines_counted, report_lines}
use Rattle.live_report.proofs.ClientsShown.{said_of}

-- there are answers for each client and for no other
abbrev pub Matches : List ℕ → List (List Answer) → Type 0
Matches [] [] = Unit {0}
Matches [] (said ∷ answers) = ⊥
Matches (client ∷ clients) [] = ⊥
Matches (client ∷ clients) (said ∷ answers) = Matches clients answers

pub counted_append : (counts : Counts) (xs ys : List Line) → lines_counted counts (xs ++ ys) ≡ lines_counted (lines_counted counts xs) ys
counted_append counts [] ys = refl
counted_append counts (x ∷ xs) ys = counted_append (line_counted counts x) xs ys

module _ (trace : Trace) where
  -- the position after these lines
  abbrev pub position_after_lines : ℕ → List Line → ℕ
  position_after_lines position [] = position
  position_after_lines position (line ∷ later) = position_after_lines (position_after_line position line) later

  pub printed_append : (position : ℕ) (xs ys : List Line) → lines_printed trace position (xs ++ ys) ≡ lines_printed trace position xs ++ lines_printed trace (position_after_lines position xs) ys
  printed_append position [] ys = refl
  printed_append position (x ∷ xs) ys =
      ap (λ (l : List Printed). line_printed trace position x ++ l) (printed_append (position_after_line position x) xs ys)
      ∙ sym (append_assoc (line_printed trace position x) (lines_printed trace (position_after_line position x) xs) (lines_printed trace (position_after_lines (position_after_line position x) xs) ys))

  -- the lines of one client
  answers_printed : (position client number : ℕ) (answers : List Answer) (more : List Line) → lines_printed trace position (answer_lines client number answers ++ more) ≡ answered_lines client number (map (said_of trace) answers) ++ lines_printed trace position more
  answers_printed position client number [] more = refl
  answers_printed position client number (answer ∷ answers) more = ap (λ (l : List Printed). printed.Answered client number (said_of trace answer).page answer ∷ l) (answers_printed position client (number + 1) answers more)

  clients_printed : (position : ℕ) (clients : List ℕ) (answers : List (List Answer)) → lines_printed trace position (client_lines clients answers) ≡ lines_of_clients clients (map (map (said_of trace)) answers)
  clients_printed position [] answers = refl
  clients_printed position (client ∷ clients) [] = refl
  clients_printed position (client ∷ clients) (said ∷ answers) =
      answers_printed position client 1 said (client_lines clients answers)
      ∙ ap (λ (l : List Printed). answered_lines client 1 (map (said_of trace) said) ++ l) (clients_printed position clients answers)

  answers_counted : (counts : Counts) (client number : ℕ) (answers : List Answer) → lines_counted counts (answer_lines client number answers) ≡ counts_said counts (map (said_of trace) answers)
  answers_counted counts client number [] = refl
  answers_counted counts client number (answer ∷ answers) = answers_counted (line_counted counts (lines.Answered client number answer)) client (number + 1) answers

  clients_counted : (counts : Counts) (clients : List ℕ) (answers : List (List Answer)) → Matches clients answers → lines_counted counts (client_lines clients answers) ≡ counts_all counts (map (map (said_of trace)) answers)
  clients_counted counts [] [] same = refl
  clients_counted counts [] (said ∷ answers) same = absurd same
  clients_counted counts (client ∷ clients) [] same = absurd same
  clients_counted counts (client ∷ clients) (said ∷ answers) same =
      counted_append counts (answer_lines client 1 said) (client_lines clients answers)
      ∙ (ap (λ (c : Counts). lines_counted c (client_lines clients answers)) (answers_counted counts client 1 said)
      ∙ clients_counted (counts_said counts (map (said_of trace) said)) clients answers same)

  -- the whole report
  pub report_is : (daemon : List Line) (clients : List ℕ) (answers : List (List Answer)) → Matches clients answers
      → report_lines trace (daemon ++ client_lines clients answers)
      ≡ (printed.Header ∷ lines_printed trace (position_first trace) daemon) ++ (lines_of_clients clients (map (map (said_of trace)) answers) ++ printed.Total (counts_list (counts_all (lines_counted no_counts daemon) (map (map (said_of trace)) answers))) ∷ [])
  report_is daemon clients answers same =
      let lines_are : lines_printed trace (position_first trace) (daemon ++ client_lines clients answers) ≡ lines_printed trace (position_first trace) daemon ++ lines_of_clients clients (map (map (said_of trace)) answers) =
      printed_append (position_first trace) daemon (client_lines clients answers)
      ∙ ap (λ (l : List Printed). lines_printed trace (position_first trace) daemon ++ l) (clients_printed (position_after_lines (position_first trace) daemon) clients answers) in
      let counts : lines_counted no_counts (daemon ++ client_lines clients answers) ≡ counts_all (lines_counted no_counts daemon) (map (map (said_of trace)) answers) =
      counted_append no_counts daemon (client_lines clients answers) ∙ clients_counted (lines_counted no_counts daemon) clients answers same in
      (λ j. printed.Header ∷ (lines_are j ++ printed.Total (counts_list (counts j)) ∷ []))
      ∙ ap (λ (l : List Printed). printed.Header ∷ l) (append_assoc (lines_printed trace (position_first trace) daemon) (lines_of_clients clients (map (map (said_of trace)) answers)) (printed.Total (counts_list (counts_all (lines_counted no_counts daemon) (map (map (said_of trace)) answers))) ∷ []))
