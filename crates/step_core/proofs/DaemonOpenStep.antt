-- One step of an opening: what is in hand, and the words, show the run after it.
use Rattle.std.proofs.Common.{◌≡◌, ◌≢◌, ℕ, ◌+◌, ◌≤◌, ◌<◌, Bool, true, false, List, [], Option, Some, None, refl, ap, sym, ◌∙◌, subst, arith}
use Rattle.std.specs.Prelude.{◌==◌, if◌then◌else◌, slice_index, slice_index_or}
use Rattle.std.proofs.lemmas.Bool.Decides.{nat_tests}
use Rattle.generation_word.specs.declared.layout.Layout.{Layout}
use Rattle.clock_gate.specs.declared.act.Act.{Act}
use Rattle.clock_gate.specs.declared.act.Act.TheVariants.{End}
use Rattle.clock_gate.specs.declared.limits.TheConstants.{MOST_DRIFT}
use Rattle.clock_gate.specs.declared.trace.Trace.{Trace}
use Rattle.segment_layout.specs.declared.start.Start.{Start}
use Rattle.segment_layout.specs.Image.{is_old_header}
use Rattle.segment_run.specs.SegmentRun.{SegmentRun, opening_length, opening_effect}
use Rattle.segment_run.specs.ShowsSegment.{ShowsSegment, IsSegmentLater}
use Rattle.writer_reopen.specs.declared.opening.Opening.{Opening as Opened}
use Rattle.writer_reopen.specs.Opening.{OpenerState, IsAdmitted, opening_steps, opening_act, opening_given, opening_end}
use Rattle.abstract_run.specs.HostRun.{HostRun}
use Rattle.abstract_run.specs.DaemonRun as run_daemon
use Rattle.abstract_run.specs.DaemonRun.{Opening, DaemonRun, is_move, opening_ends, opening_step}
use Rattle.step_core.specs.declared.hand.Hand.TheVariants as hands
use Rattle.step_core.specs.declared.hand.Job.{Job}
use Rattle.step_core.specs.SharedWords.{after_act, value_of}
use Rattle.step_core.specs.SharedDaemon.{DaemonState, opening_by, opening_with}
use Rattle.step_core.specs.ShowsDaemon.{IsJob, HasMagicIn, HasMagicFor}
use Rattle.step_core.proofs.SegmentOpen.{IsInOpening, OpeningShows, number_left, steps_are}
use Rattle.step_core.proofs.SegmentOpening.{opening_shows}
use Rattle.step_core.proofs.DaemonLeaves.{Leaves, Turned}
use Rattle.step_core.proofs.DaemonOpening.{values_of, values_long, opener_at, opener_act, opener_given, opener_goes_on, opener_ends, opening_few, step_position, last_position, left_by, magic_at_end, found_fits, end_leaves}

-- an opening is in hand after so many steps, on the segment that its next step meets
pub record IsInHand (trace : Trace) (segment : SegmentRun) (run : DaemonRun) (daemon : DaemonState) (job : Job) (start : Start) (old : Bool) (steps first header : ℕ) : Type 0 where
  pub slow : trace.drift ≤ MOST_DRIFT
  pub layout_is : segment.layout ≡ trace.layout
  pub stands : IsInOpening segment start old steps header
  pub admitted : IsAdmitted trace.layout (values_of first header start)
  pub job_is : IsJob trace run job
  pub same_polled : daemon.polled ≡ run.polled
  pub same_base : daemon.base ≡ run.base
  pub same_position : daemon.position ≡ segment.position

-- ---- what follows on a step

goes_leaves : (trace : Trace) (host : HostRun) (segment new : SegmentRun) (words : List ℕ) (run : DaemonRun) (daemon : DaemonState) (job : Job) (start : Start) (old : Bool) (steps first header : ℕ) (act : Act)
    → IsInHand trace segment run daemon job start old steps first header → new ≡ opening_effect start steps segment → OpeningShows segment new start old steps header words act → steps + 1 < opening_length old start
    → Leaves trace host (record { segment = new; daemon = record run { work = Opening start old (steps + 1) }; events = [] })
    (record { daemon = record daemon { hand = hands.Opening (record { machine = opener_at segment.layout (values_of first header start) (steps + 1); job = job }) }; told = [] })
goes_leaves trace host segment new words run daemon job start old steps first header act is new_is step few =
    let next = step.next few in
    let most = opening_few old start in
    record {
      shows = record {
        same_polled = is.same_polled;
        same_base = is.same_base;
        same_position = is.same_position ∙ sym (ap (λ (s : SegmentRun). s.position) new_is ∙ step_position start steps segment (omega (arith, few, most)));
        work = (
          record {
            first = first;
            header = header;
            same_layout = is.layout_is;
            values = refl;
            begun = omega arith;
            few = few;
            is_old = subst (λ (layout : Layout). old ≡ is_old_header layout header) is.layout_is is.stands.is_old;
            tells = is.stands.tells;
            admitted = is.admitted;
            stands = next.stands;
            unchanged = next.unchanged;
            unheaded = next.unheaded;
          },
          record { heard = is.job_is.heard; stop = is.job_is.stop },
        );
        idle = tt;
      };
      told = refl;
    }

ends_leave : (trace : Trace) (host : HostRun) (segment new : SegmentRun) (words : List ℕ) (run : DaemonRun) (daemon : DaemonState) (job : Job) (machine : OpenerState) (start : Start) (old : Bool) (steps first header : ℕ) (act : Act)
    → IsInHand trace segment run daemon job start old steps first header → ShowsSegment segment words → new ≡ opening_effect start steps segment → OpeningShows segment new start old steps header words act → steps + 1 ≡ opening_length old start
    → Leaves trace host (opening_ends trace new run start (is_move old start))
    (opening_by trace daemon job machine (Some (record { start = start; moved = if is_move old start then Some (number_left old start) else None })))
ends_leave trace host segment new words run daemon job machine start old steps first header act is shows new_is step last =
    end_leaves trace host new run daemon job machine start (is_move old start) (number_left old start)
    (record {
      slow = is.slow;
      fits = found_fits segment start old steps header shows.is is.stands;
      job_is = is.job_is;
      same_polled = is.same_polled;
      same_base = is.same_base;
      place = ap (λ (s : SegmentRun). s.position) new_is ∙ last_position old start steps segment last ∙ ap (λ (n : ℕ). if is_move old start then n + 1 else n) (sym is.same_position);
      numbered = left_by old start ∙ sym (step.number last);
    })

by_end : (trace : Trace) (host : HostRun) (segment new : SegmentRun) (words : List ℕ) (run : DaemonRun) (daemon : DaemonState) (job : Job) (start : Start) (old : Bool) (steps first header : ℕ) (act : Act) (ended : Bool)
    → IsInHand trace segment run daemon job start old steps first header → ShowsSegment segment words → new ≡ opening_effect start steps segment → OpeningShows segment new start old steps header words act → (steps + 1 == opening_length old start) ≡ ended
    → Leaves trace host
    (if ended then opening_ends trace new run start (is_move old start) else record { segment = new; daemon = record run { work = Opening start old (steps + 1) }; events = [] })
    (opening_with trace daemon job (opener_at segment.layout (values_of first header start) (steps + 1)))
by_end trace host segment new words run daemon job start old steps first header act true is shows new_is step at_end =
    let last : steps + 1 ≡ opening_length old start = grind (arith, nat_tests) in
    let ends : opening_end (opener_at segment.layout (values_of first header start) (steps + 1)) ≡ Some (record { start = start; moved = if is_move old start then Some (number_left old start) else None }) =
    ap (λ (n : ℕ). opening_end (opener_at segment.layout (values_of first header start) n)) last ∙ opener_ends segment first header start old steps shows.is is.stands in
    subst (λ (found : Option Opened).
    Leaves trace host (opening_ends trace new run start (is_move old start)) (opening_by trace daemon job (opener_at segment.layout (values_of first header start) (steps + 1)) found)) (sym ends)
    (ends_leave trace host segment new words run daemon job (opener_at segment.layout (values_of first header start) (steps + 1)) start old steps first header act is shows new_is step last)
by_end trace host segment new words run daemon job start old steps first header act false is shows new_is step at_end =
    let differs : steps + 1 ≢ opening_length old start = grind (arith, nat_tests) in
    let below = is.stands.few in
    let few : steps + 1 < opening_length old start = omega (arith, differs, below) in
    let goes = opener_goes_on segment first header start old (steps + 1) (steps_are segment start old steps header is.stands) few in
    subst (λ (found : Option Opened).
    Leaves trace host (record { segment = new; daemon = record run { work = Opening start old (steps + 1) }; events = [] }) (opening_by trace daemon job (opener_at segment.layout (values_of first header start) (steps + 1)) found)) (sym goes)
    (goes_leaves trace host segment new words run daemon job start old steps first header act is new_is step few)

-- what follows on a step has the segment after it, and word 0 is the magic as it must be
pub record FollowsOn (new : SegmentRun) (after : List ℕ) (next : run_daemon.DaemonTurn) : Type 0 where
  pub same : next.segment ≡ new
  pub magic : HasMagicFor next.daemon after

follows_by : (trace : Trace) (new : SegmentRun) (run : DaemonRun) (start : Start) (old : Bool) (steps : ℕ) (after : List ℕ) (ended : Bool) → HasMagicIn start (steps + 1) after → (steps + 1 == opening_length old start) ≡ ended
    → FollowsOn new after (if ended then opening_ends trace new run start (is_move old start) else record { segment = new; daemon = record run { work = Opening start old (steps + 1) }; events = [] })
follows_by trace new run start old steps after true magic at_end = record { same = refl; magic = magic_at_end old start steps after (grind (arith, nat_tests)) magic }
follows_by trace new run start old steps after false magic at_end = record { same = refl; magic = magic }

-- ---- a step

in_order_turned : (trace : Trace) (host : HostRun) (segment : SegmentRun) (words : List ℕ) (run : DaemonRun) (daemon : DaemonState) (job : Job) (start : Start) (old : Bool) (steps first header : ℕ)
    → IsInHand trace segment run daemon job start old steps first header → ShowsSegment segment words → HasMagicIn start steps words
    → value_of words (slice_index_or (opening_steps segment.layout header) steps End) ≡ slice_index (values_of first header start) steps
    → Turned trace host segment words (after_act words (slice_index_or (opening_steps segment.layout header) steps End)) (opening_step trace segment run start old steps)
    (opening_with trace daemon job (opening_given (opener_at segment.layout (values_of first header start) steps) (value_of words (slice_index_or (opening_steps segment.layout header) steps End))))
in_order_turned trace host segment words run daemon job start old steps first header is shows magic value_is =
    let step : OpeningShows segment (opening_effect start steps segment) start old steps header words (slice_index_or (opening_steps segment.layout header) steps End) =
    opening_shows segment start old steps header words shows is.stands magic in
    let below = is.stands.few in
    let enough = values_long first header start old in
    let given_is = opener_given segment.layout (values_of first header start) steps (value_of words (slice_index_or (opening_steps segment.layout header) steps End)) (omega (arith, below, enough)) value_is in
    let follows : FollowsOn (opening_effect start steps segment) (after_act words (slice_index_or (opening_steps segment.layout header) steps End)) (opening_step trace segment run start old steps) =
    follows_by trace (opening_effect start steps segment) run start old steps (after_act words (slice_index_or (opening_steps segment.layout header) steps End)) (steps + 1 == opening_length old start) step.magic refl in
    record {
      leaves =
          subst (λ (machine : OpenerState). Leaves trace host (opening_step trace segment run start old steps) (opening_with trace daemon job machine)) (sym given_is)
          (by_end trace host segment (opening_effect start steps segment) words run daemon job start old steps first header (slice_index_or (opening_steps segment.layout header) steps End) (steps + 1 == opening_length old start)
          is shows refl step refl);
      segment_shown = subst (λ (s : SegmentRun). ShowsSegment s (after_act words (slice_index_or (opening_steps segment.layout header) steps End))) (sym follows.same) step.shows;
      later = subst (λ (s : SegmentRun). IsSegmentLater segment s) (sym follows.same) step.later;
      rest = step.rest;
      same_layout = ap (λ (s : SegmentRun). s.layout) follows.same ∙ step.later.layout;
      magic = follows.magic;
    }

-- the step that an opening wants that was given these values
pub opening_act_is : (trace : Trace) (segment : SegmentRun) (start : Start) (old : Bool) (steps first header : ℕ) → segment.layout ≡ trace.layout → steps < opening_length old start
    → opening_act (opener_at trace.layout (values_of first header start) steps) ≡ slice_index_or (opening_steps segment.layout header) steps End
opening_act_is trace segment start old steps first header same few =
    let enough = values_long first header start old in
    ap (λ (layout : Layout). opening_act (opener_at layout (values_of first header start) steps)) (sym same) ∙ opener_act segment.layout first header start steps (omega (arith, few, enough))

-- a step of an opening that was given these values
pub opening_turned : (trace : Trace) (host : HostRun) (segment : SegmentRun) (words : List ℕ) (run : DaemonRun) (daemon : DaemonState) (job : Job) (start : Start) (old : Bool) (steps first header : ℕ)
    → IsInHand trace segment run daemon job start old steps first header → ShowsSegment segment words → HasMagicIn start steps words
    → value_of words (opening_act (opener_at trace.layout (values_of first header start) steps)) ≡ slice_index (values_of first header start) steps
    → Turned trace host segment words (after_act words (opening_act (opener_at trace.layout (values_of first header start) steps))) (opening_step trace segment run start old steps)
    (opening_with trace daemon job (opening_given (opener_at trace.layout (values_of first header start) steps) (value_of words (opening_act (opener_at trace.layout (values_of first header start) steps)))))
opening_turned trace host segment words run daemon job start old steps first header is shows magic value_is =
    let act_at = opening_act_is trace segment start old steps first header is.layout_is is.stands.few in
    subst (λ (act : Act).
    Turned trace host segment words (after_act words act) (opening_step trace segment run start old steps)
    (opening_with trace daemon job (opening_given (opener_at trace.layout (values_of first header start) steps) (value_of words act)))) (sym act_at)
    (subst (λ (layout : Layout).
    Turned trace host segment words (after_act words (slice_index_or (opening_steps segment.layout header) steps End)) (opening_step trace segment run start old steps)
    (opening_with trace daemon job (opening_given (opener_at layout (values_of first header start) steps) (value_of words (slice_index_or (opening_steps segment.layout header) steps End))))) is.layout_is
    (in_order_turned trace host segment words run daemon job start old steps first header is shows magic (ap (value_of words) (sym act_at) ∙ value_is)))
