-- The steps of an opening: what is in hand after each shows the run's opening, or its end.
use Rattle.std.proofs.Common.{◌≡◌, ℕ, ◌+◌, ◌%◌, ◌≤◌, ◌<◌, Bool, true, false, List, [], ◌∷◌, ◌++◌, Some, None, length, take, refl, ap, sym, ◌∙◌, subst, arith}
use Rattle.std.specs.Prelude.{◌==◌, if◌then◌else◌, slice_index, slice_index_or, is_some, unwrap_or}
use Rattle.std.proofs.lemmas.Bool.Decides.{nat_tests}
use Rattle.std.proofs.lemmas.List.{get_or_past, take_more}
use Rattle.generation_word.specs.declared.layout.Layout.{Layout}
use Rattle.generation_word.specs.declared.layout.Layout.TheVariants.{Two, Three}
use Rattle.generation_word.specs.Header.{generation_in}
use Rattle.clock_gate.specs.declared.act.Act.TheVariants.{End}
use Rattle.clock_gate.specs.declared.limits.TheConstants.{MOST_DRIFT}
use Rattle.clock_gate.specs.declared.trace.Trace.{Trace}
use Rattle.segment_layout.specs.declared.start.Start.{Start}
use Rattle.segment_layout.specs.declared.start.Start.TheVariants.{Fresh, Kept, Torn}
use Rattle.segment_layout.specs.declared.words.TheConstants.{MAGIC}
use Rattle.segment_layout.specs.Image.{generation_of_start, is_old_header}
use Rattle.segment_layout.specs.Record.{RecordFields}
use Rattle.segment_layout.specs.Words.{fields_of_words}
use Rattle.segment_layout.proofs.Back.{fields_of_words-data_words}
use Rattle.status_machine.specs.Step.{daemon_begun}
use Rattle.status_machine.proofs.Fits.{StartFits}
use Rattle.status_machine.proofs.LookBack.{ShowsPast-begun}
use Rattle.segment_run.specs.SegmentRun.{SegmentRun, number_shown, opening_length, opening_effect, headed, opened_update}
use Rattle.segment_run.specs.ShowsSegment.{IsSegment}
use Rattle.segment_run.proofs.SegmentEnded.{KeepsBoundsOf}
use Rattle.segment_run.proofs.SegmentHeader.{number_in_update, number_even, number_positive}
use Rattle.writer_reopen.specs.declared.opening.Opening.{Opening as Opened}
use Rattle.writer_reopen.specs.Opening.{OpenerState, moved_to, opening_steps, opening_for, opening_of, opening_act, opening_given, opening_end}
use Rattle.writer_reopen.proofs.InOrder.{ended_past, end_of_asking}
use Rattle.writer_reopen.proofs.Openings.{steps_no_end, act-of_loaded, answer_at_end}
use Rattle.abstract_run.specs.HostRun.{HostRun}
use Rattle.abstract_run.specs.DaemonRun.{DaemonRun, life_from, is_move, opening_ends}
use Rattle.step_core.specs.declared.hand.Job.{Job}
use Rattle.step_core.specs.SharedDaemon.{DaemonState, opening_by}
use Rattle.step_core.specs.ShowsDaemon.{IsWhere, IsJob, given_after, HasMagicIn}
use Rattle.step_core.proofs.SegmentOpen.{IsInOpening, number_left, steps_are}
use Rattle.writer_reopen.proofs.Found.{steps_for}
use Rattle.step_core.proofs.DaemonFits.{begun_fits}
use Rattle.step_core.proofs.DaemonLeaves.{Leaves}

-- ---- the values of an opening

-- the values that an opening is given, in their order
abbrev pub values_of : (first header : ℕ) → Start → List ℕ
values_of first header start = first ∷ header ∷ given_after start

pub values_long : (first header : ℕ) (start : Start) (old : Bool) → opening_length old start ≤ length (values_of first header start)
values_long first header Fresh old = omega arith
values_long first header (Torn generation) true = omega arith
values_long first header (Torn generation) false = omega arith
values_long first header (Kept generation rec) true = omega arith
values_long first header (Kept generation rec) false = omega arith

steps_long : (layout : Layout) (old : Bool) (start : Start) → length (steps_for layout old start) ≡ opening_length old start
steps_long layout old Fresh = refl
steps_long layout true (Torn generation) = refl
steps_long layout false (Torn generation) = refl
steps_long layout true (Kept generation rec) = refl
steps_long layout false (Kept generation rec) = refl

-- an opening that was given the first so many of these values
abbrev pub opener_at : Layout → List ℕ → (steps : ℕ) → OpenerState
opener_at layout values steps = record { layout = layout; values = take steps values }

-- the step that it wants
pub opener_act : (layout : Layout) (first header : ℕ) (start : Start) (steps : ℕ) → steps ≤ length (values_of first header start)
    → opening_act (opener_at layout (values_of first header start) steps) ≡ slice_index_or (opening_steps layout header) steps End
opener_act layout first header start steps within = sym (act-of_loaded layout (values_of first header start) steps within)

-- one value more
pub opener_given : (layout : Layout) (values : List ℕ) (steps value : ℕ) → steps < length values → value ≡ slice_index values steps
    → opening_given (opener_at layout values steps) value ≡ opener_at layout values (steps + 1)
opener_given layout values steps value within is =
    ap (λ (given : List ℕ). record { layout = layout; values = given })
    (ap (λ (v : ℕ). take steps values ++ v ∷ []) is ∙ sym (take_more values steps 0 within))

-- before its last step it goes on
pub opener_goes_on : (segment : SegmentRun) (first header : ℕ) (start : Start) (old : Bool) (steps : ℕ) → opening_steps segment.layout header ≡ steps_for segment.layout old start → steps < opening_length old start
    → opening_end (opener_at segment.layout (values_of first header start) steps) ≡ None
opener_goes_on segment first header start old steps are few =
    let long : length (opening_steps segment.layout header) ≡ opening_length old start = ap length are ∙ steps_long segment.layout old start in
    let enough = values_long first header start old in
    let act_is = opener_act segment.layout first header start steps (omega (arith, few, enough)) in
    end_of_asking (opening_of segment.layout (take steps (values_of first header start)))
    (λ ended.
    let past : length (opening_steps segment.layout header) ≤ steps = ended_past (opening_steps segment.layout header) steps (steps_no_end segment.layout header) (sym act_is ∙ ended) in
    absurd (omega (arith, few, long, past)))

old_same : (layout : Layout) (header : ℕ) → is_old_header layout header ≡ is_old_header layout header
old_same Two header = refl
old_same Three header = refl

-- what an opening answers
abbrev pub opened_as : (old : Bool) → Start → Opened
opened_as old start = record { start = start; moved = if is_move old start then Some (number_left old start) else None }

found_fresh : (layout : Layout) (first header : ℕ) → generation_in header ≡ 0 → opening_for layout (first ∷ header ∷ 0 ∷ 0 ∷ []) ≡ record { start = Fresh; moved = None }
found_fresh layout first header tells = (let test : (generation_in header == 0) ≡ true = grind (arith, nat_tests) in rw test refl)

found_torn : (layout : Layout) (values : List ℕ) (generation : ℕ) → generation_in (slice_index values 1) ≡ generation → generation % 2 ≡ 1 → opening_for layout values ≡ record { start = Torn generation; moved = None }
found_torn layout values generation tells odd =
    let some : (generation == 0) ≡ false = grind (arith, nat_tests) in
    let test : (generation % 2 == 1) ≡ true = grind (arith, nat_tests) in
    rw (tells, some, test) refl

kept_moved : (old : Bool) (generation : ℕ) (rec : RecordFields) → opened_as old (Kept generation rec) ≡ record { start = Kept generation rec; moved = moved_to old generation }
kept_moved true generation rec = refl
kept_moved false generation rec = refl

found_kept : (layout : Layout) (values : List ℕ) (generation : ℕ) (rec : RecordFields) (old : Bool) → generation_in (slice_index values 1) ≡ generation → 0 < generation → generation % 2 ≡ 0
    → is_old_header layout (slice_index values 1) ≡ old → fields_of_words values ≡ rec → opening_for layout values ≡ opened_as old (Kept generation rec)
found_kept layout values generation rec old tells some even old_is fields =
    let some_number : (generation == 0) ≡ false = grind (arith, nat_tests) in
    let test : (generation % 2 == 1) ≡ false = grind (arith, nat_tests) in
    subst (λ (opening : Opened). opening_for layout values ≡ opening) (sym (kept_moved old generation rec)) (rw (tells, some_number, test, old_is, fields) refl)

-- a record that was found keeps its bounds
pub found_fits : (segment : SegmentRun) (start : Start) (old : Bool) (steps header : ℕ) → IsSegment segment → IsInOpening segment start old steps header → StartFits start
found_fits segment Fresh old steps header seg is = tt
found_fits segment (Torn generation) old steps header seg is = tt
found_fits segment (Kept generation rec) old steps header seg is =
    subst (λ (r : RecordFields). KeepsBoundsOf r) (sym is.stands.1.1.0) (seg.records segment.position is.stands.0 (omega arith))

-- what was found is what an opening answers that was given all its values
answer_is : (segment : SegmentRun) (first header : ℕ) (start : Start) (old : Bool) (steps : ℕ) → IsSegment segment → IsInOpening segment start old steps header
    → opening_for segment.layout (take (opening_length old start) (values_of first header start)) ≡ opened_as old start
answer_is segment first header Fresh old steps seg is = found_fresh segment.layout first header is.tells
answer_is segment first header (Torn generation) true steps seg is =
    let number = number_in_update segment is.stands.0 in
    let even = number_even segment segment.position in
    let same = is.stands.1 in
    found_torn segment.layout (first ∷ header ∷ 0 ∷ []) generation is.tells (omega (arith, number, even, same))
answer_is segment first header (Torn generation) false steps seg is =
    let number = number_in_update segment is.stands.0 in
    let even = number_even segment segment.position in
    let same = is.stands.1 in
    found_torn segment.layout (first ∷ header ∷ []) generation is.tells (omega (arith, number, even, same))
answer_is segment first header (Kept generation rec) true steps seg is =
    let known = is.stands.0 in
    let same = is.stands.1.0 in
    let some = number_positive segment segment.position (omega (arith, known)) in
    let even = number_even segment segment.position in
    found_kept segment.layout (take 12 (values_of first header (Kept generation rec))) generation rec true is.tells (omega (arith, some, same)) (omega (arith, even, same))
    (old_same segment.layout header ∙ sym is.is_old)
    (fields_of_words-data_words first header rec (found_fits segment (Kept generation rec) true steps header seg is))
answer_is segment first header (Kept generation rec) false steps seg is =
    let known = is.stands.0 in
    let same = is.stands.1.0 in
    let some = number_positive segment segment.position (omega (arith, known)) in
    let even = number_even segment segment.position in
    found_kept segment.layout (take 10 (values_of first header (Kept generation rec))) generation rec false is.tells (omega (arith, some, same)) (omega (arith, even, same))
    (old_same segment.layout header ∙ sym is.is_old)
    (fields_of_words-data_words first header rec (found_fits segment (Kept generation rec) false steps header seg is))

-- at its last step it ends
pub opener_ends : (segment : SegmentRun) (first header : ℕ) (start : Start) (old : Bool) (steps : ℕ) → IsSegment segment → IsInOpening segment start old steps header
    → opening_end (opener_at segment.layout (values_of first header start) (opening_length old start)) ≡ Some (opened_as old start)
opener_ends segment first header start old steps seg is =
    let are = steps_are segment start old steps header is in
    let long : length (opening_steps segment.layout header) ≡ opening_length old start = ap length are ∙ steps_long segment.layout old start in
    let act_is = opener_act segment.layout first header start (opening_length old start) (values_long first header start old) in
    answer_at_end (opener_at segment.layout (values_of first header start) (opening_length old start))
    (act_is ∙ get_or_past (opening_steps segment.layout header) (opening_length old start) End (omega (arith, long)))
    ∙ ap Some (answer_is segment first header start old steps seg is)

-- ---- the position in an opening

headed_position : (segment : SegmentRun) (stores : Bool) → (if stores then headed segment else segment).position ≡ segment.position
headed_position segment true = refl
headed_position segment false = refl

kept_position : (segment : SegmentRun) (opens : Bool) → (if opens then opened_update segment else segment).position ≡ segment.position
kept_position segment true = refl
kept_position segment false = refl

pub step_position : (start : Start) (steps : ℕ) (segment : SegmentRun) → steps < 11 → (opening_effect start steps segment).position ≡ segment.position
step_position Fresh steps segment few = headed_position segment (steps == 3)
step_position (Torn generation) steps segment few = headed_position segment (steps == 2)
step_position (Kept generation rec) steps segment few = (let other : (steps == 11) ≡ false = grind (arith, nat_tests) in rw other (kept_position segment (steps == 10)))

pub opening_few : (old : Bool) (start : Start) → opening_length old start ≤ 12
opening_few old Fresh = omega arith
opening_few true (Torn generation) = omega arith
opening_few false (Torn generation) = omega arith
opening_few true (Kept generation rec) = omega arith
opening_few false (Kept generation rec) = omega arith

-- a move ends one more publication
pub last_position : (old : Bool) (start : Start) (steps : ℕ) (segment : SegmentRun) → steps + 1 ≡ opening_length old start
    → (opening_effect start steps segment).position ≡ (if is_move old start then segment.position + 1 else segment.position)
last_position old Fresh steps segment last = headed_position segment (steps == 3)
last_position old (Torn generation) steps segment last = headed_position segment (steps == 2)
last_position true (Kept generation rec) steps segment last = (let at : steps ≡ 11 = omega (arith, last) in rw at refl)
last_position false (Kept generation rec) steps segment last = step_position (Kept generation rec) steps segment (omega (arith, last))

-- the number that stands after an opening
pub left_by : (old : Bool) (start : Start) → unwrap_or (if is_move old start then Some (number_left old start) else None) (generation_of_start start) ≡ number_left old start
left_by old Fresh = refl
left_by old (Torn generation) = refl
left_by true (Kept generation rec) = refl
left_by false (Kept generation rec) = refl

pub magic_at_end : (old : Bool) (start : Start) (steps : ℕ) (words : List ℕ) → steps + 1 ≡ opening_length old start → HasMagicIn start (steps + 1) words → slice_index words 0 ≡ MAGIC
magic_at_end old Fresh steps words last magic = magic (omega (arith, last))
magic_at_end old (Torn generation) steps words last magic = magic
magic_at_end old (Kept generation rec) steps words last magic = magic

-- ---- the end of an opening

-- an opening has ended on a segment, with this number where it moved a record
pub record IsOpenEnd (trace : Trace) (segment : SegmentRun) (run : DaemonRun) (daemon : DaemonState) (job : Job) (start : Start) (moved : Bool) (number : ℕ) : Type 0 where
  pub slow : trace.drift ≤ MOST_DRIFT
  pub fits : StartFits start
  pub job_is : IsJob trace run job
  pub same_polled : daemon.polled ≡ run.polled
  pub same_base : daemon.base ≡ run.base
  pub place : segment.position ≡ (if moved then daemon.position + 1 else daemon.position)
  pub numbered : unwrap_or (if moved then Some number else None) (generation_of_start start) ≡ number_shown segment

begins_where : (trace : Trace) (start : Start) (base : ℕ) → trace.drift ≤ MOST_DRIFT → StartFits start
    → IsWhere trace (life_from trace start base) (daemon_begun (record { start = start; drift = trace.drift; support = is_some trace.page; base = base }))
begins_where trace start base slow fits =
    record {
      past = ShowsPast-begun (record { start = start; drift = trace.drift; support = is_some trace.page; base = base });
      support = refl;
      fits = begun_fits (record { start = start; drift = trace.drift; support = is_some trace.page; base = base }) slow fits;
    }

pub end_leaves : (trace : Trace) (host : HostRun) (segment : SegmentRun) (run : DaemonRun) (daemon : DaemonState) (job : Job) (machine : OpenerState) (start : Start) (moved : Bool) (number : ℕ)
    → IsOpenEnd trace segment run daemon job start moved number
    → Leaves trace host (opening_ends trace segment run start moved) (opening_by trace daemon job machine (Some (record { start = start; moved = if moved then Some number else None })))
end_leaves trace host segment run daemon job machine start true number is =
    record {
      shows = record {
        same_polled = is.same_polled;
        same_base = refl;
        same_position = sym is.place;
        work = (
          is.job_is.stop,
          (
            record {
              order_is = record { layout = refl; number = is.same_polled; heard = is.job_is.heard; stop = is.job_is.stop; tries = refl };
              alive = begins_where trace start 0 is.slow is.fits;
              numbered = is.numbered;
            },
            refl,
          ),
        );
        idle = (begins_where trace start 0 is.slow is.fits, is.numbered);
      };
      told = rw (is.same_polled, ← is.place, is.numbered) refl;
    }
end_leaves trace host segment run daemon job machine start false number is =
    let here : IsWhere trace (life_from trace start run.base) (daemon_begun (record { start = start; drift = trace.drift; support = is_some trace.page; base = daemon.base })) =
    subst (λ (base : ℕ). IsWhere trace (life_from trace start run.base) (daemon_begun (record { start = start; drift = trace.drift; support = is_some trace.page; base = base }))) (sym is.same_base)
    (begins_where trace start run.base is.slow is.fits) in
    record {
      shows = record {
        same_polled = is.same_polled;
        same_base = is.same_base;
        same_position = sym is.place;
        work = (
          is.job_is.stop,
          (
            record {
              order_is = record { layout = refl; number = is.same_polled; heard = is.job_is.heard; stop = is.job_is.stop; tries = refl };
              alive = here;
              numbered = is.numbered;
            },
            refl,
          ),
        );
        idle = (here, is.numbered);
      };
      told = rw is.same_polled refl;
    }
