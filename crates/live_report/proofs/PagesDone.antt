-- The pages of the entries are pages of the trace, along the daemon's lines.
use Rattle.std.proofs.Common.{◌≡◌, ℕ, zero, suc, Bool, true, false, ◌+◌, ◌<◌, ◌≤◌, List, [], ◌∷◌, ◌++◌, length, get_or, sym, ap, subst, ◌∙◌, arith, length-append, inl, inr}
use Rattle.std.specs.Prelude.{Result, Ok, Err, if◌then◌else◌}
use Rattle.std.proofs.lemmas.List.{get_or_append_left, get_or-append-add}
use Rattle.std.proofs.lemmas.Bool.{cases_lt}
use Rattle.clock_gate.specs.declared.trace.Trace.{Trace}
use Rattle.segment_layout.specs.declared.image_fault.ImageFault.{ImageFault}
use Rattle.segment_layout.specs.declared.start.Start.{Start}
use Rattle.segment_layout.specs.declared.start.Start.TheVariants.{Fresh, Kept, Torn}
use Rattle.segment_layout.specs.Image.{image_of}
use Rattle.lawful_report.specs.declared.entry.Entry.{Entry}
use Rattle.lawful_report.specs.declared.printed.Printed.{Printed}
use Rattle.lawful_report.specs.declared.printed.Printed.TheVariants.{Header, Opened, Published, Skipped, Stopped, Moved, Answered, Total}
use Rattle.lawful_report.specs.Pages.{last_page}
use Rattle.lawful_report.specs.Course.{Course, course_by, first_entry, last_entry, poll_at, entry_of, published, ended}
use Rattle.lawful_report.specs.Lawful.{Due, Heading, Opening, Moving, Polling, Stopping, Answering, Standing, standing_start, going_on, one_publication, has_stop, FollowsAt, Follow}

-- no entry is of a later page than the last one
abbrev pub PagesDone : Trace → List Entry → Type 0
PagesDone trace entries = (i : ℕ) (d : Entry) → i < length entries → (get_or entries i d).page ≤ last_page trace

pushed : (trace : Trace) (entries : List Entry) (entry : Entry) → PagesDone trace entries → entry.page ≤ last_page trace → PagesDone trace (entries ++ entry ∷ [])
pushed trace entries entry done last i d lt = elim (cases_lt i (length entries)) [
  | inl before ↦ subst (λ (e : Entry). e.page ≤ last_page trace) (sym (get_or_append_left entries (entry ∷ []) d i before)) (done i d before)
  | inr at ↦
      let late = at in
      let long = length-append entries (entry ∷ []) in
      let place : i ≡ length entries + 0 = omega (arith, late, lt, long) in
      let is : get_or (entries ++ entry ∷ []) i d ≡ entry = ap (λ (n : ℕ). get_or (entries ++ entry ∷ []) n d) place ∙ get_or-append-add entries (entry ∷ []) 0 d in
      subst (λ (e : Entry). e.page ≤ last_page trace) (sym is) last
]

start_by : (trace : Trace) (found : Result Start ImageFault) → PagesDone trace (course_by found).entries
start_by trace (Ok Fresh) i d lt = absurd (omega (arith, lt))
start_by trace (Ok (Torn generation)) i d lt = absurd (omega (arith, lt))
start_by trace (Err fault) i d lt = absurd (omega (arith, lt))
start_by trace (Ok (Kept generation rec)) zero d lt = omega arith
start_by trace (Ok (Kept generation rec)) (suc i) d lt = absurd (omega (arith, lt))

abbrev Done : Trace → Standing → Type 0
Done trace standing = PagesDone trace standing.course.entries

after_by : (trace : Trace) (one : Standing) (two : Standing) (b : Bool) → Done trace one → Done trace two → Done trace (if b then one else two)
after_by trace one two true a b = a
after_by trace one two false a b = b

done_at : (trace : Trace) (s : Standing) (due : Due) (line : Printed) (after : Standing) → Done trace s → FollowsAt trace s due line after → Done trace after
done_at trace s Heading Header after done is = subst (Done trace) (sym is) done
done_at trace s Opening (Opened poll start) after done is = subst (Done trace) (sym is.after_is) done
done_at trace s Moving (Moved poll position generation) after done is =
    subst (Done trace) (sym is.after_is) (pushed trace s.course.entries (first_entry (last_entry s.course).rec) done (omega arith))
done_at trace s Polling (Skipped poll a b) after done is = subst (Done trace) (sym is.after_is) done
done_at trace s Polling (Stopped poll stores) after done is = subst (Done trace) (sym is.after_is) done
done_at trace s Polling (Published position page p) after done is =
    let course : Course = published s.course is.life (poll_at trace s.course p.asked page is.row) p.replied page in
    let more : PagesDone trace course.entries = pushed trace s.course.entries (entry_of is.life (poll_at trace s.course p.asked page is.row) p.replied page) done is.is.page_done in
    subst (Done trace) (sym is.after_is) (after_by trace (record { course = ended course; counts = one_publication s.counts; due = Stopping }) (going_on trace (one_publication s.counts) course) (has_stop is.row.stop 10) more more)
done_at trace s Stopping (Stopped poll stores) after done is = subst (Done trace) (sym is.after_is) done
done_at trace s (Answering seen (due ∷ left)) (Answered client call page answer) after done is = subst (Done trace) (sym is.after_is) done
done_at trace s (Answering seen []) (Total counts) after done is = subst (Done trace) (sym is.1) done
done_at trace s due line after done is = absurd is

follow_done : (trace : Trace) (lines : List Printed) (s after : Standing) → Done trace s → Follow trace s lines after → Done trace after
follow_done trace [] s after done is = subst (Done trace) is done
follow_done trace (line ∷ lines) s after done is = follow_done trace lines is.0 after (done_at trace s s.due line is.0 done is.1) is.2

pub pages_done : (trace : Trace) (lines : List Printed) (after : Standing) → Follow trace (standing_start trace) lines after → PagesDone trace after.course.entries
pages_done trace lines after is = follow_done trace lines (standing_start trace) after (start_by trace (image_of trace.layout trace.image)) is
