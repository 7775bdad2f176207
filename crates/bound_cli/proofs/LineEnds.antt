-- A line that tells an interval ends with a line feed, and without it is what comes before the civil times.
use Rattle.std.proofs.Common.{◌≡◌, ℕ, ◌-◌, ◌<◌, List, [], ◌∷◌, ◌++◌, length, take, slice_index, IfSome, refl, sym, ap, ◌∙◌, arith, append_assoc, codes}
use Rattle.std.proofs.Math.Seq.{take-append_seam, get_or-append_seam}
use Rattle.std.proofs.lemmas.List.{length-append}
use Rattle.std.specs.Fmt.{signed_decimal}
use Rattle.clock_gate.specs.ClockStatus.{name_of}
use Rattle.interval_now.specs.declared.answers.Interval.{Interval}
use Rattle.interval_now.specs.declared.answers.Timed.{Timed}
use Rattle.interval_now.specs.declared.answers.Answer.{Answer}
use Rattle.interval_now.specs.declared.answers.Answer.TheVariants as answers
use Rattle.lawful_report.specs.declared.printed.Printed.{Printed}
use Rattle.lawful_report.specs.declared.printed.Printed.TheVariants as lines
use Rattle.lawful_report.specs.Lines.{call_place, time_place, interval_text, time_text, answered_line, line_text}
use Rattle.bound_cli.specs.Civil.{interval_told, interval_in, unended}

-- a text that ends with a line feed
abbrev pub Ends : List ℕ → Type 0
Ends text = (front : List ℕ) × (text ≡ front ++ 10 ∷ [])

after : (first rest : List ℕ) → Ends rest → Ends (first ++ rest)
after first rest (front, is) = (first ++ front, ap (λ (text : List ℕ). first ++ text) is ∙ sym (append_assoc first front (10 ∷ [])))

feed_ends : Ends (codes "\n")
feed_ends = ([], refl)

interval_ends : (i : Interval) → Ends (interval_text i)
unfolding interval_text
interval_ends i =
    after (name_of i.status) _ (after (codes ",") _ (after (signed_decimal i.earliest) _ (after (codes ",") _ (after (signed_decimal i.latest) _ feed_ends))))

time_ends : (client call page : ℕ) (t : Timed) → Ends (answered_line client call page (answers.Time t))
unfolding answered_line time_text
time_ends client call page t = after (call_place client call) _ (after (time_place page t) _ (interval_ends t.interval))

answer_ends : (client call page : ℕ) (answer : Answer) → IfSome (interval_told answer) (λ _. Ends (answered_line client call page answer))
answer_ends client call page (answers.Time t) = time_ends client call page t
answer_ends client call page (answers.Busy tries first last) = tt
answer_ends client call page answers.NotInitialized = tt
answer_ends client call page (answers.PageBusy first last) = tt
answer_ends client call page (answers.Causality causality) = tt

-- a line that tells an interval ends so
pub line_ends : (line : Printed) → IfSome (interval_in line) (λ _. Ends (line_text line))
line_ends lines.Header = tt
line_ends (lines.Opened poll start) = tt
line_ends (lines.Published position page publication) = tt
line_ends (lines.Skipped poll first last) = tt
line_ends (lines.Stopped poll stores) = tt
line_ends (lines.Moved poll position generation) = tt
line_ends (lines.Answered client call page answer) = answer_ends client call page answer
line_ends (lines.Total counts) = tt

-- the last of these is the line feed, and the rest are before it
front_is : (front : List ℕ) → take (length (front ++ 10 ∷ []) - 1) (front ++ 10 ∷ []) ≡ front
front_is front =
    let place : length (front ++ 10 ∷ []) - 1 ≡ length front = omega (arith, length-append front (10 ∷ [])) in
    ap (λ (n : ℕ). take n (front ++ 10 ∷ [])) place ∙ take-append_seam front (10 ∷ [])

-- where the last of all these bytes is taken off, what came before the line and the line without its line feed are left
pub without_feed : (before line all left : List ℕ) → Ends line → all ≡ before ++ line → left ≡ take (length all - 1) all → left ≡ before ++ unended line
without_feed before line all left (front, is) whole taken =
    let ends : all ≡ (before ++ front) ++ 10 ∷ [] =
    whole ∙ (ap (λ (text : List ℕ). before ++ text) is ∙ sym (append_assoc before front (10 ∷ []))) in
    let rest : unended line ≡ front = rw is (front_is front) in
    let left_is : take (length all - 1) all ≡ before ++ front = rw ends (front_is (before ++ front)) in
    taken ∙ left_is ∙ ap (λ (text : List ℕ). before ++ text) (sym rest)
