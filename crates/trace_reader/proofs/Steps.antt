-- One line more.
use Rattle.std.proofs.Common.{◌≡◌, ◌∙◌, List, [], ◌∷◌, ◌++◌, length, Option, Some, None, refl, rules, append_assoc}
use Rattle.std.specs.Prelude.{filter_map}
use Rattle.std.specs.List.{cons_option}
use Rattle.std.proofs.lemmas.List.{length-append}
use Rattle.std.proofs.lemmas.List.Elements.{filter_map-append}
use Rattle.vmclock_page.specs.ClockPage.{ClockPage}
use Rattle.csv_records.specs.Step.{joined}
use Rattle.csv_records.proofs.Reading.{GoesOn}
use Rattle.trace_reader.specs.Facts.{call_at, calls_of, clock_in, clocks_of, drift_in, facts_of, first_in, first_of, gathered, host_at, host_of, image_in, job_at, layout_in, order_of, page_from, page_in, page_next, poll_in, polls_of, schedule_of, tries_in, turn_in}
use Rattle.trace_reader.specs.Grammar.{grammar}
use Rattle.trace_reader.specs.Held.{kept, taken}
use Rattle.trace_reader.specs.declared.line.Line.{Line}

cons_option-joined : {X : Type 0} (o p : Option X) (xs : List X) → cons_option o (joined xs p) ≡ joined (cons_option o xs) p
cons_option-joined None p xs = refl
cons_option-joined (Some x) None xs = refl
cons_option-joined (Some x) (Some y) xs = refl

cons_option-nil : {X : Type 0} (o : Option X) → cons_option o [] ≡ joined [] o
cons_option-nil None = refl
cons_option-nil (Some x) = refl

append-cons_option : {X : Type 0} (xs : List X) (o : Option X) → xs ++ cons_option o [] ≡ joined xs o
append-cons_option xs None = grind rules
append-cons_option xs (Some x) = refl

gathered_more : {X : Type 0} (f : List Line → Line → Option X) (before front : List Line) (line : Line)
    → gathered f before (front ++ line ∷ []) ≡ joined (gathered f before front) (f (before ++ front) line)
unfolding gathered
gathered_more f before [] line = rw (cons_option-nil (f before line)) (grind rules)
gathered_more f before (first ∷ rest) line =
    rw (gathered_more f (before ++ first ∷ []) rest line, append_assoc before (first ∷ []) rest)
    (cons_option-joined (f before first) (f (before ++ first ∷ rest) line) (gathered f (before ++ first ∷ []) rest))

first_of-kept : {X : Type 0} (a b c : Option X) → first_of a (kept b c) ≡ kept (first_of a b) c
first_of-kept None b c = refl
first_of-kept (Some x) b None = refl
first_of-kept (Some x) b (Some y) = refl

first_of-none : {X : Type 0} (o : Option X) → first_of o None ≡ kept None o
first_of-none None = refl
first_of-none (Some x) = refl

first_more : {X : Type 0} (f : Line → Option X) (front : List Line) (line : Line) → first_in f (front ++ line ∷ []) ≡ kept (first_in f front) (f line)
unfolding first_in
first_more f [] line = first_of-none (f line)
first_more f (first ∷ rest) line = rw (first_more f rest line) (first_of-kept (f first) (first_in f rest) (f line))

clocks_more : (front : List Line) (line : Line) → clocks_of (front ++ line ∷ []) ≡ joined (clocks_of front) (clock_in line)
unfolding clocks_of
clocks_more front line = filter_map-append clock_in front (line ∷ []) ∙ append-cons_option (filter_map clock_in front) (clock_in line)

polls_more : (front : List Line) (line : Line) → polls_of (front ++ line ∷ []) ≡ joined (polls_of front) (poll_in line)
unfolding polls_of
polls_more front line = filter_map-append poll_in front (line ∷ []) ∙ append-cons_option (filter_map poll_in front) (poll_in line)

schedule_more : (front : List Line) (line : Line) → schedule_of (front ++ line ∷ []) ≡ joined (schedule_of front) (turn_in line)
unfolding schedule_of
schedule_more front line = filter_map-append turn_in front (line ∷ []) ∙ append-cons_option (filter_map turn_in front) (turn_in line)

host_more : (front : List Line) (line : Line) → host_of (front ++ line ∷ []) ≡ joined (host_of front) (host_at (page_from None front) (length (clocks_of front)) line)
unfolding host_of
host_more front line = gathered_more (λ before. host_at (page_from None before) (length (clocks_of before))) [] front line

order_more : (front : List Line) (line : Line) → order_of (front ++ line ∷ []) ≡ joined (order_of front) (job_at (length (clocks_of front)) line)
unfolding order_of
order_more front line = gathered_more (λ before. job_at (length (clocks_of before))) [] front line

calls_more : (front : List Line) (line : Line) → calls_of (front ++ line ∷ []) ≡ joined (calls_of front) (call_at (first_in tries_in front) line)
unfolding calls_of
calls_more front line = gathered_more (λ before. call_at (first_in tries_in before)) [] front line

page_more : (before : Option ClockPage) (front : List Line) (line : Line) → page_from before (front ++ line ∷ []) ≡ page_next (page_from before front) line
unfolding page_from
page_more before [] line = refl
page_more before (first ∷ rest) line = page_more (page_next before first) rest line

-- the facts of one line more
pub facts_more : (front : List Line) (line : Line) → facts_of (front ++ line ∷ []) ≡ taken (facts_of front) line
facts_more front line =
    rw (
      length-append front (line ∷ []),
      first_more drift_in front line,
      first_more tries_in front line,
      first_more layout_in front line,
      first_more image_in front line,
      first_more page_in front line,
      page_more None front line,
      clocks_more front line,
      host_more front line,
      polls_more front line,
      calls_more front line,
      schedule_more front line,
      order_more front line,
    ) refl

pub goes_on : GoesOn grammar taken (λ facts. facts.count)
goes_on = record { more = facts_more; counted = λ front. refl }
