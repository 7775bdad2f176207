-- The rows of the entries rise along the daemon's lines.
use Rattle.std.proofs.Common.{◌≡◌, inl, inr, ℕ, zero, suc, Bool, true, false, nat_lt, ◌==◌, ◌+◌, ◌-◌, ◌<◌, ◌≤◌, List, [], ◌∷◌, ◌++◌, length, get_or, if◌then◌else◌, Option, Some, None, Result, Ok, Err, refl, sym, ap, subst, ◌∙◌, arith, length-append}
use Rattle.std.proofs.lemmas.List.Sorted.{IsNonDecreasingBy-push, IsNonDecreasingBy-short}
use Rattle.std.proofs.lemmas.List.{get_or_append_left, get_or-append-add}
use Rattle.std.proofs.lemmas.Bool.{cases_lt, and_parts}
use Rattle.std.proofs.lemmas.Bool.Decides.{nat_tests}
use Rattle.clock_gate.specs.declared.trace.Trace.{Trace}
use Rattle.clock_gate.specs.declared.trace.PollRow.{PollRow}
use Rattle.segment_layout.specs.declared.image_fault.ImageFault.{ImageFault}
use Rattle.segment_layout.specs.declared.start.Start.{Start}
use Rattle.segment_layout.specs.declared.start.Start.TheVariants.{Fresh, Kept, Torn}
use Rattle.segment_layout.specs.Image.{image_of}
use Rattle.lawful_report.specs.declared.printed.Printed.{Printed}
use Rattle.lawful_report.specs.declared.printed.Printed.TheVariants.{Header, Opened, Published, Skipped, Stopped, Moved, Answered, Total}
use Rattle.lawful_report.specs.declared.entry.Entry.{Entry}
use Rattle.lawful_report.specs.Course.{Course, Life, course_by, first_entry, last_entry, is_move, poll_at, entry_of, skipped, stopped, published, ended}
use Rattle.lawful_report.specs.declared.counts.Counts.{Counts}
use Rattle.lawful_report.specs.Lawful.{one_publication, Due, Heading, Opening, Moving, Polling, Stopping, Answering, Standing, standing_start, going_on, opening_or_poll, has_stop, FollowsAt, Follow, OpensHere, MovesHere, SkipsHere, StopsHere, PublishesHere, StopsAfter, AnswersHere}
use Rattle.lawful_report.specs.Pages.{page_seen}
use Rattle.lawful_report.specs.declared.seen.Seen.{Seen}
use Rattle.lawful_report.specs.declared.call.Call.{Call}
use Rattle.lawful_report.specs.Calls.{seen_first, calls_of}
use Rattle.lawful_report.specs.Showed.{RowsRise}
use Rattle.segment_layout.specs.declared.publication.Publication.{Publication}
use Rattle.status_machine.specs.declared.poll.Poll.{Poll}
use Rattle.interval_now.specs.declared.answers.Answer.{Answer}

-- the rows rise, and none is past the daemon's; before the first poll has its line that is row 1
pub record Rising (course : Course) : Type 0 where
  pub rise : RowsRise course.entries
  pub kept : (i : ℕ) (d : Entry) → i < length course.entries → (get_or course.entries i d).replied ≤ course.row
  pub begun : 1 ≤ course.row
  pub first : course.polled ≡ 0 → course.row ≡ 1

-- a move comes before the first poll
abbrev MovesFirst : Due → ℕ → Type 0
MovesFirst Moving polled = polled ≡ 0
MovesFirst due polled = Unit {0}

pushed : (entries : List Entry) (entry : Entry) (row : ℕ) → ((i : ℕ) (d : Entry) → i < length entries → (get_or entries i d).replied ≤ row) → entry.replied ≤ row → (i : ℕ) (d : Entry) → i < length (entries ++ entry ∷ []) → (get_or (entries ++ entry ∷ []) i d).replied ≤ row
pushed entries entry row kept last i d lt = elim (cases_lt i (length entries)) [
  | inl before ↦ subst (λ (e : Entry). e.replied ≤ row) (sym (get_or_append_left entries (entry ∷ []) d i before)) (kept i d before)
  | inr at ↦
      let place : i ≡ length entries + 0 = omega (arith, length-append entries (entry ∷ [])) in
      let is : get_or (entries ++ entry ∷ []) i d ≡ entry = ap (λ (n : ℕ). get_or (entries ++ entry ∷ []) n d) place ∙ get_or-append-add entries (entry ∷ []) 0 d in
      subst (λ (e : Entry). e.replied ≤ row) (sym is) last
]

push_rises : (entries : List Entry) (entry : Entry) (row : ℕ) → RowsRise entries → ((i : ℕ) (d : Entry) → i < length entries → (get_or entries i d).replied ≤ row) → row ≤ entry.replied → RowsRise (entries ++ entry ∷ [])
push_rises entries entry row rise kept le = IsNonDecreasingBy-push (λ (e : Entry). e.replied) entries entry rise (λ d some. omega (arith, kept (length entries - 1) d (omega arith)))

none_rise : RowsRise []
none_rise = IsNonDecreasingBy-short (λ (e : Entry). e.replied) [] (omega arith)

one_rises : (entry : Entry) → RowsRise (entry ∷ [])
one_rises entry = IsNonDecreasingBy-short (λ (e : Entry). e.replied) (entry ∷ []) (omega arith)

rising_start : (found : Result Start ImageFault) → Rising (course_by found)
rising_start (Ok Fresh) = record { rise = none_rise; kept = λ i d lt. absurd (omega arith); begun = omega arith; first = λ e. refl }
rising_start (Ok (Torn generation)) = record { rise = none_rise; kept = λ i d lt. absurd (omega arith); begun = omega arith; first = λ e. refl }
rising_start (Err fault) = record { rise = none_rise; kept = λ i d lt. absurd (omega arith); begun = omega arith; first = λ e. refl }
rising_start (Ok (Kept generation rec)) = record { rise = one_rises (first_entry rec); kept = kept; begun = omega arith; first = λ e. refl }
  where
    kept : (i : ℕ) (d : Entry) → i < length (first_entry rec ∷ []) → (get_or (first_entry rec ∷ []) i d).replied ≤ 1
    kept zero d lt = omega arith
    kept (suc i) d lt = absurd (omega arith)

-- what holds of a standing
abbrev pub Rises : Standing → Type 0
Rises standing = Rising standing.course × MovesFirst standing.due standing.course.polled

moves_next : (more : Bool) (life : Option Life) (seen : Seen) (calls : List Call) (polled : ℕ) → MovesFirst (if more then opening_or_poll life else Answering seen calls) polled
moves_next true None seen calls polled = tt
moves_next true (Some life) seen calls polled = tt
moves_next false life seen calls polled = tt

goes_on : (trace : Trace) (counts : Counts) (course : Course) → Rising course → Rises (going_on trace counts course)
goes_on trace counts course rising = (rising, moves_next (nat_lt course.polled (length trace.polls)) course.life (seen_first trace) (calls_of trace) course.polled)

goes_after : (trace : Trace) (counts : Counts) (row : PollRow) (course : Course) (stops : Bool) → Rising course → Rises (if stops then record { course = ended course; counts = counts; due = Stopping } else going_on trace counts course)
goes_after trace counts row course true rising = (record { rise = rising.rise; kept = rising.kept; begun = rising.begun; first = rising.first }, tt)
goes_after trace counts row course false rising = goes_on trace counts course rising

moves_first : (trace : Trace) (course : Course) (moves : Bool) → is_move trace course ≡ moves → MovesFirst (if moves then Moving else Polling) course.polled
moves_first trace course true is = let zero_polled : (course.polled == 0) ≡ true = (and_parts _ _ is).0 in grind (arith, nat_tests)
moves_first trace course false is = tt

opens : (trace : Trace) (s : Standing) (poll : ℕ) (start : Start) (after : Standing) → Rising s.course → OpensHere trace s poll start after → Rises after
opens trace s poll start after rising here =
    subst Rises (sym here.after_is) (
      record { rise = rising.rise; kept = rising.kept; begun = rising.begun; first = rising.first },
      moves_first trace s.course (is_move trace s.course) refl,
    )

moves : (trace : Trace) (s : Standing) (poll position generation : ℕ) (after : Standing) → Rising s.course → s.course.polled ≡ 0 → MovesHere trace s poll position generation after → Rises after
moves trace s poll position generation after rising none here =
    let row : s.course.row ≡ 1 = rising.first none in
    subst Rises (sym here.after_is) (
      record {
        rise = push_rises s.course.entries (first_entry (last_entry s.course).rec) s.course.row rising.rise rising.kept (omega arith);
        kept = pushed s.course.entries (first_entry (last_entry s.course).rec) s.course.row rising.kept (omega arith);
        begun = rising.begun;
        first = rising.first;
      },
      tt,
    )

skips : (trace : Trace) (s : Standing) (poll first last : ℕ) (after : Standing) → Rising s.course → SkipsHere trace s poll first last after → Rises after
skips trace s poll first last after rising here =
    subst Rises (sym here.after_is) (goes_on trace s.counts (skipped s.course (page_seen trace last))
    (record { rise = rising.rise; kept = rising.kept; begun = rising.begun; first = λ none. absurd (omega (arith, none)) }))

stops : (trace : Trace) (s : Standing) (poll stores : ℕ) (after : Standing) → Rising s.course → StopsHere trace s poll stores after → Rises after
stops trace s poll stores after rising here =
    subst Rises (sym here.after_is) (goes_on trace s.counts (stopped s.course stores)
    (record { rise = rising.rise; kept = rising.kept; begun = rising.begun; first = λ none. absurd (omega (arith, none)) }))

publishes : (trace : Trace) (s : Standing) (position page : ℕ) (p : Publication) (after : Standing) → Rising s.course → PublishesHere trace s position page p after → Rises after
publishes trace s position page p after rising here =
    let poll : Poll = poll_at trace s.course p.asked page here.row in
    let entry : Entry = entry_of here.life poll p.replied page in
    let later : s.course.row ≤ p.replied = omega (arith, here.is.asked, here.is.replied) in
    subst Rises (sym here.after_is) (goes_after trace (one_publication s.counts) here.row (published s.course here.life poll p.replied page) (has_stop here.row.stop 10)
    (record {
      rise = push_rises s.course.entries entry s.course.row rising.rise rising.kept later;
      kept = pushed s.course.entries entry p.replied (λ i d lt. omega (arith, rising.kept i d lt, later)) (omega arith);
      begun = omega (arith, rising.begun, later);
      first = λ none. absurd (omega (arith, none));
    }))

stops_after : (trace : Trace) (s : Standing) (poll stores : ℕ) (after : Standing) → Rising s.course → StopsAfter trace s poll stores after → Rises after
stops_after trace s poll stores after rising here = subst Rises (sym here.after_is) (goes_on trace s.counts s.course rising)

answers : (trace : Trace) (s : Standing) (seen : Seen) (due : Call) (left : List Call) (client call page : ℕ) (answer : Answer) (after : Standing) → Rising s.course → AnswersHere trace s seen due left client call page answer after → Rises after
answers trace s seen due left client call page answer after rising here = subst Rises (sym here.after_is) (rising, tt)

rises_at : (trace : Trace) (s : Standing) (due : Due) (line : Printed) (after : Standing) → Rising s.course → MovesFirst due s.course.polled → FollowsAt trace s due line after → Rises after
rises_at trace s Heading Header after rising first is = subst Rises (sym is) (goes_on trace s.counts s.course rising)
rises_at trace s Opening (Opened poll start) after rising first is = opens trace s poll start after rising is
rises_at trace s Moving (Moved poll position generation) after rising first is = moves trace s poll position generation after rising first is
rises_at trace s Polling (Skipped poll a b) after rising first is = skips trace s poll a b after rising is
rises_at trace s Polling (Stopped poll stores) after rising first is = stops trace s poll stores after rising is
rises_at trace s Polling (Published position page p) after rising first is = publishes trace s position page p after rising is
rises_at trace s Stopping (Stopped poll stores) after rising first is = stops_after trace s poll stores after rising is
rises_at trace s (Answering seen (due ∷ left)) (Answered client call page answer) after rising first is = answers trace s seen due left client call page answer after rising is
rises_at trace s (Answering seen []) (Total counts) after rising first is = subst Rises (sym is.1) (rising, tt)
rises_at trace s due line after rising first is = absurd is

pub follow_rises : (trace : Trace) (lines : List Printed) (s after : Standing) → Rises s → Follow trace s lines after → Rises after
follow_rises trace [] s after rises is = subst Rises is rises
follow_rises trace (line ∷ lines) s after rises is = follow_rises trace lines is.0 after (rises_at trace s s.due line is.0 rises.0 rises.1 is.1) is.2

pub start_rises : (trace : Trace) → Rises (standing_start trace)
start_rises trace = (rising_start (image_of trace.layout trace.image), tt)
