-- A report of running threads: the daemon's lines, what the calls of each client said, and the counts.
use Rattle.std.specs.Prelude.{ℕ, ◌+◌, ◌==◌, List, [], ◌∷◌, ◌++◌, map, filter}
use Rattle.std.specs.List.{range_with_len}
use Rattle.clock_gate.specs.declared.trace.CallRow.{CallRow}
use Rattle.clock_gate.specs.declared.trace.Trace.{Trace}
use Rattle.lawful_report.specs.declared.printed.Printed.{Printed}
use Rattle.lawful_report.specs.declared.printed.Printed.TheVariants.{Answered, Total}
use Rattle.lawful_report.specs.Course.{Course}
use Rattle.lawful_report.specs.Calls.{seen_first, calls_of}
use Rattle.lawful_report.specs.declared.counts.Counts.{Counts}
use Rattle.lawful_report.specs.Lawful.{counts_list, one_answer, Standing, standing_start, Answering, Follow, IsLawfulReport, text_of_lines}
use Rattle.lawful_report.specs.Showed.{Said, AllShown}

-- the tries of a client's calls
abbrev pub tries_of_client : List CallRow → (client : ℕ) → List ℕ
tries_of_client calls client = map (λ (row : CallRow). row.tries) (filter (λ (row : CallRow). row.client == client) calls)

-- what the calls of these clients said is shown by their loads
abbrev pub ClientsShown : Trace → Course → List ℕ → List (List Said) → Type 0
ClientsShown trace course [] [] = Unit {0}
ClientsShown trace course [] (said ∷ later) = ⊥
ClientsShown trace course (client ∷ clients) [] = ⊥
ClientsShown trace course (client ∷ clients) (said ∷ later) =
    AllShown trace course (seen_first trace) (tries_of_client trace.calls client) said × ClientsShown trace course clients later

-- the lines of a client from the call with this number on
abbrev pub answered_lines : (client number : ℕ) → List Said → List Printed
answered_lines client number [] = []
answered_lines client number (said ∷ later) = Answered client number said.page said.answer ∷ answered_lines client (number + 1) later

-- the lines of these clients
abbrev pub lines_of_clients : List ℕ → List (List Said) → List Printed
lines_of_clients [] said = []
lines_of_clients (client ∷ clients) [] = []
lines_of_clients (client ∷ clients) (said ∷ later) = answered_lines client 1 said ++ lines_of_clients clients later

abbrev pub counts_said : Counts → List Said → Counts
counts_said counts [] = counts
counts_said counts (said ∷ later) = counts_said (one_answer said.answer counts) later

abbrev pub counts_all : Counts → List (List Said) → Counts
counts_all counts [] = counts
counts_all counts (said ∷ later) = counts_all (counts_said counts said) later

-- the daemon's lines have come to this, and the clients are next
abbrev pub clients_next : Trace → Course → Counts → Standing
clients_next trace course counts = record { course = course; counts = counts; due = Answering (seen_first trace) (calls_of trace) }

abbrev pub whole_report : Trace → List Printed → Counts → List (List Said) → List Printed
whole_report trace daemon counts said =
    daemon ++ (lines_of_clients (range_with_len 1 trace.clients) said ++ Total (counts_list (counts_all counts said)) ∷ [])

-- where the daemon's lines follow one another, and the loads of each client show what its calls said, the report is lawful
abbrev pub ThreadsAreLawful : Type 0
ThreadsAreLawful =
    (trace : Trace) (daemon : List Printed) (course : Course) (counts : Counts) (said : List (List Said))
    → Follow trace (standing_start trace) daemon (clients_next trace course counts)
    → ClientsShown trace course (range_with_len 1 trace.clients) said
    → IsLawfulReport trace (text_of_lines (whole_report trace daemon counts said))
