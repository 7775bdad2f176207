-- The daemon's lines, and what the loads of the clients show, make a lawful report.
use Rattle.std.proofs.Common.{◌≡◌, ℕ, false, ◌==◌, ◌+◌, ◌≤◌, List, [], ◌∷◌, ◌++◌, refl, sym, subst, arith}
use Rattle.std.proofs.lemmas.Bool.Decides.{nat_tests}
use Rattle.std.specs.List.{range_with_len, flat_map}
use Rattle.clock_gate.specs.declared.trace.Trace.{Trace}
use Rattle.lawful_report.specs.declared.printed.Printed.{Printed}
use Rattle.lawful_report.specs.declared.printed.Printed.TheVariants.{Total}
use Rattle.lawful_report.specs.Course.{Course}
use Rattle.lawful_report.specs.declared.seen.Seen.{Seen}
use Rattle.lawful_report.specs.declared.call.Call.{Call}
use Rattle.lawful_report.specs.Calls.{seen_first, calls_of_client, numbered_from, MayAnswer}
use Rattle.lawful_report.specs.declared.counts.Counts.{Counts}
use Rattle.lawful_report.specs.Lawful.{counts_list, one_answer, Standing, standing_start, Answering, Finished, Follow, seen_before}
use Rattle.lawful_report.specs.Showed.{Said, RowsRise}
use Rattle.lawful_report.specs.Composed.{tries_of_client, ClientsShown, answered_lines, lines_of_clients, counts_said, counts_all, clients_next, whole_report, ThreadsAreLawful}
use Rattle.lawful_report.proofs.Dominance.{AllMay, all_dominated}
use Rattle.lawful_report.proofs.Rising.{Rises, follow_rises, start_rises}

pub follow_on : (trace : Trace) (xs ys : List Printed) (s middle after : Standing) → Follow trace s xs middle → Follow trace middle ys after → Follow trace s (xs ++ ys) after
follow_on trace [] ys s middle after one two = subst (λ (x : Standing). Follow trace x ys after) (sym one) two
follow_on trace (line ∷ xs) ys s middle after one two = (one.0, one.1, follow_on trace xs ys one.0 middle after one.2 two)

-- the clients' calls are due
abbrev answering : Course → Counts → Seen → List Call → Standing
answering course counts seen calls = record { course = course; counts = counts; due = Answering seen calls }

later_call : (trace : Trace) (seen : Seen) (client number tries : ℕ) → 1 ≤ number → seen_before trace seen (record { client = client; number = number + 1; tries = tries }) ≡ seen
later_call trace seen client number tries some = let other : (number + 1 == 1) ≡ false = grind (arith, nat_tests) in rw other refl

client_follows : (trace : Trace) (course : Course) (client number : ℕ) (tries : List ℕ) (said : List Said) (before seen : Seen) (left : List Call) (counts : Counts)
    → 1 ≤ number → ((t : ℕ) → seen_before trace before (record { client = client; number = number; tries = t }) ≡ seen) → AllMay trace course seen tries said
    → (last : Seen) × Follow trace (answering course counts before (numbered_from client number tries ++ left)) (answered_lines client number said) (answering course (counts_said counts said) last left)
client_follows trace course client number [] [] before seen left counts some is may = (before, refl)
client_follows trace course client number [] (said ∷ later) before seen left counts some is may = absurd may
client_follows trace course client number (t ∷ tries) [] before seen left counts some is may = absurd may
client_follows trace course client number (t ∷ tries) (said ∷ later) before seen left counts some is may =
    let rest : (last : Seen) × Follow trace (answering course (one_answer said.answer counts) may.0 (numbered_from client (number + 1) tries ++ left)) (answered_lines client (number + 1) later) (answering course (counts_said (one_answer said.answer counts) later) last left)
    = client_follows trace course client (number + 1) tries later may.0 may.0 left (one_answer said.answer counts) (omega arith) (λ next. later_call trace may.0 client number next some) may.2 in (
      rest.0,
      (
        answering course (one_answer said.answer counts) may.0 (numbered_from client (number + 1) tries ++ left),
        record { client_is = refl; call_is = refl; seen = may.0; may = subst (λ (x : Seen). MayAnswer trace course t x said.page said.answer may.0) (sym (is t)) may.1; after_is = refl },
        rest.1,
      ),
    )

clients_follow : (trace : Trace) (course : Course) (clients : List ℕ) (said : List (List Said)) (before : Seen) (counts : Counts) → RowsRise course.entries → ClientsShown trace course clients said
    → (last : Seen) × Follow trace (answering course counts before (flat_map (calls_of_client trace.calls) clients)) (lines_of_clients clients said) (answering course (counts_all counts said) last [])
clients_follow trace course [] [] before counts rise shown = (before, refl)
clients_follow trace course [] (said ∷ later) before counts rise shown = absurd shown
clients_follow trace course (client ∷ clients) [] before counts rise shown = absurd shown
clients_follow trace course (client ∷ clients) (said ∷ later) before counts rise shown =
    let start : Seen = seen_first trace in
    let may : AllMay trace course start (tries_of_client trace.calls client) said = all_dominated trace course start start (tries_of_client trace.calls client) said rise (record { point_order = omega arith; row_order = omega arith; page_order = omega arith }) shown.0 in
    let one : (last : Seen) × Follow trace (answering course counts before (calls_of_client trace.calls client ++ flat_map (calls_of_client trace.calls) clients)) (answered_lines client 1 said) (answering course (counts_said counts said) last (flat_map (calls_of_client trace.calls) clients))
    = client_follows trace course client 1 (tries_of_client trace.calls client) said before start (flat_map (calls_of_client trace.calls) clients) counts (omega arith) (λ t. refl) may in
    let rest : (last : Seen) × Follow trace (answering course (counts_said counts said) one.0 (flat_map (calls_of_client trace.calls) clients)) (lines_of_clients clients later) (answering course (counts_all (counts_said counts said) later) last [])
    = clients_follow trace course clients later one.0 (counts_said counts said) rise shown.1 in
    (rest.0, follow_on trace (answered_lines client 1 said) (lines_of_clients clients later) (answering course counts before (flat_map (calls_of_client trace.calls) (client ∷ clients))) (answering course (counts_said counts said) one.0 (flat_map (calls_of_client trace.calls) clients)) (answering course (counts_all (counts_said counts said) later) rest.0 []) one.1 rest.1)

pub threads_are_lawful : ThreadsAreLawful
threads_are_lawful trace daemon course counts said follow shown =
    let rises : Rises (clients_next trace course counts) = follow_rises trace daemon (standing_start trace) (clients_next trace course counts) (start_rises trace) follow in
    let clients : List Printed = lines_of_clients (range_with_len 1 trace.clients) said in
    let all : (last : Seen) × Follow trace (clients_next trace course counts) clients (answering course (counts_all counts said) last [])
    = clients_follow trace course (range_with_len 1 trace.clients) said (seen_first trace) counts rises.0.rise shown in
    let done : Standing = record { course = course; counts = counts_all counts said; due = Finished } in
    let last_line : List Printed = Total (counts_list (counts_all counts said)) ∷ [] in
    let ends : Follow trace (answering course (counts_all counts said) all.0 []) last_line done = (done, (refl, refl), refl) in
    record {
      lines = whole_report trace daemon counts said;
      after = done;
      text = refl;
      follow = follow_on trace daemon (clients ++ last_line) (standing_start trace) (clients_next trace course counts) done follow (follow_on trace clients last_line (clients_next trace course counts) (answering course (counts_all counts said) all.0 []) done all.1 ends);
      finished = refl;
    }
