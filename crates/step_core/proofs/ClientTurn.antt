-- One turn of a client: what its call comes to is what the run's call comes to, and its marks are where the run stood.
use Rattle.std.proofs.Common.{◌≡◌, ℕ, ◌+◌, ◌-◌, ◌≤◌, ◌<◌, Bool, true, false, List, [], ◌∷◌, length, Option, Some, None, is_some, Result, Ok, Err, refl, sym, ◌∙◌, subst, arith}
use Rattle.std.specs.Prelude.{◌==◌, nat_lt, slice_index, if◌then◌else◌}
use Rattle.std.proofs.lemmas.Bool.Decides.{nat_tests}
use Rattle.clock_gate.specs.declared.act.Act.{Act}
use Rattle.clock_gate.specs.declared.clock_row.Reading.{Reading as ClockReading}
use Rattle.clock_gate.specs.declared.trace.Trace.{Trace}
use Rattle.clock_gate.specs.ClockRow.{reading_at}
use Rattle.seqlock.specs.Tries.{SeqlockRead}
use Rattle.vmclock_page.specs.declared.page_seen.PageSeen.{PageSeen}
use Rattle.vmclock_page.specs.Host.{Host, count_of}
use Rattle.vmclock_page.specs.PageRead as page_read
use Rattle.segment_layout.specs.Record.{RecordFields}
use Rattle.segment_run.specs.SegmentRun.{SegmentRun}
use Rattle.segment_run.specs.ShowsSegment.{ShowsSegment}
use Rattle.shm_reader.specs.declared.seen.Seen.{Seen}
use Rattle.shm_reader.specs.SegmentTries as segment_tries
use Rattle.interval_now.specs.declared.answers.Interval.{Interval}
use Rattle.interval_now.specs.declared.answers.Causality.{Causality}
use Rattle.interval_now.specs.declared.answers.Answer.{Answer}
use Rattle.interval_now.specs.declared.stage.Stage.{Stage}
use Rattle.interval_now.specs.declared.stage.Stage.TheVariants as stages
use Rattle.interval_now.specs.Call as calls
use Rattle.interval_now.specs.Call.{Call}
use Rattle.interval_now.specs.Interval.{interval_of}
use Rattle.abstract_run.specs.Run.{answer_events}
use Rattle.abstract_run.specs.HostRun.{HostRun, clocks_at, page_shown, marker_of, sequence_of}
use Rattle.abstract_run.specs.PageReading.{PageReading, PageAfter, Looks, Saw, Missed, page_load, is_marker_next}
use Rattle.abstract_run.specs.DaemonRun.{marked_by}
use Rattle.abstract_run.specs.ClientRun.{SegmentTry, SegmentReading, SegmentAfter, Reads, IsWhole, Unpublished, AllFailed, segment_load, segment_reading, WholeRead, Clocked, CallStage, Reading, Clocking, Paging, CallAfter, Goes, Answers, CallRun, ClientRun}
use Rattle.abstract_run.specs.ClientRun as run_client
use Rattle.abstract_run.specs.Given.{AreRows}
use Rattle.step_core.specs.declared.marks.Marks.{Marks}
use Rattle.step_core.specs.declared.marks.Place.{Place}
use Rattle.step_core.specs.SharedWords.{value_of}
use Rattle.step_core.specs.SharedClient as shared_client
use Rattle.step_core.specs.SharedClient.{ClientState, noted, noted_load, trail_of, client_turned, client_stepped}
use Rattle.step_core.specs.ShowsHost.{ShowsHost, ShowsPageRead}
use Rattle.step_core.specs.ShowsSegment.{ShowsSegmentRead}
use Rattle.step_core.specs.ShowsClient.{IsFirstAt, IsReadAt, IsClockedAt, ShowsStage, ShowsCall, ShowsCallOf, AreTries, ShowsClient}
use Rattle.step_core.proofs.Later.{ShowsSegmentAfter, ShowsPageAfter}
use Rattle.step_core.proofs.SegmentLoad.{word_loaded, segment_act, segment_load_shows}
use Rattle.step_core.proofs.SegmentLater.{segment_read_new}
use Rattle.step_core.proofs.SegmentTrail.{IsTryFrom, IsAfterFrom, segment_load_from}
use Rattle.step_core.proofs.HostKeeps.{page_read_new}
use Rattle.step_core.proofs.PageLoad.{page_word, PageLoads, page_load_shows}

-- what a step of a call leaves in the run, the machine and its marks show: where the call stands, or its answer with its trail
abbrev pub ShowsCallAfter : Trace → HostRun → SegmentRun → (tries : ℕ) → CallAfter → Stage → Marks → Type 0
ShowsCallAfter trace host segment tries (Goes run) machine marks = ShowsStage trace host segment tries run machine marks × (calls.end_at machine ≡ None)
ShowsCallAfter trace host segment tries (Answers answered) machine marks =
    (calls.end_at machine ≡ Some answered.answer) × (trail_of answered.answer marks ≡ answered.trail)

-- ---- the marks of a read of the segment

-- the marks after a load of a read
abbrev AreMarksAfter : SegmentAfter → Marks → Type 0
AreMarksAfter (Reads reading) marks = IsFirstAt reading.try marks
AreMarksAfter (IsWhole whole) marks = IsReadAt whole marks
AreMarksAfter Unpublished marks = Unit {0}
AreMarksAfter (AllFailed first last) marks = Unit {0}

-- a load of a data word leaves the marks
noted_data : (place : Place) (word : ℕ) (marks : Marks) → 2 ≤ word → word < 10 → noted_load place word marks ≡ marks
noted_data place word marks low high =
    let one : (word == 1) ≡ false = grind (arith, nat_tests) in
    let clock : (word == 23) ≡ false = grind (arith, nat_tests) in
    let marker : (word == 12) ≡ false = grind (arith, nat_tests) in
    rw (one, clock, marker) refl

few_by : (seen : ℕ) (below : Bool) → nat_lt seen 8 ≡ below → (if below then 2 + seen else 1) < 10
few_by seen true test = grind (arith, nat_tests)
few_by seen false test = omega arith

pub few_words : (try : Option SegmentTry) → word_loaded try < 10
few_words None = omega arith
few_words (Some try) = few_by (length try.seen) (nat_lt (length try.seen) 8) refl

try_marks : (segment : SegmentRun) (place : Place) (marks : Marks) (before after : Option SegmentTry) → place.position ≡ segment.position → IsFirstAt before marks → IsTryFrom segment before after
    → IsFirstAt after (noted_load place (word_loaded before) marks)
try_marks segment place marks before None here first from = tt
try_marks segment place marks None (Some try) here first from = here ∙ sym from
try_marks segment place marks (Some before) (Some try) here first from =
    let same = noted_data place (word_loaded (Some before)) marks from.1 (few_words (Some before)) in
    rw same (first ∙ sym from.0)

whole_marks : (segment : SegmentRun) (place : Place) (marks : Marks) (try : SegmentTry) (word : ℕ) (whole : WholeRead) → place.position ≡ segment.position → marks.to ≡ try.from → word ≡ 1 → whole.position ≡ try.from
    → whole.inside ≡ segment.position - try.from → IsReadAt whole (noted_load place word marks)
whole_marks segment place marks try word whole here first one position inside =
    subst (λ (n : ℕ). IsReadAt whole (noted_load place n marks)) (sym one)
    (record { position = first ∙ sym position; inside = rw (here, first, inside) refl })

marks_after : (segment : SegmentRun) (place : Place) (marks : Marks) (before : Option SegmentTry) (after : SegmentAfter) → place.position ≡ segment.position → IsFirstAt before marks → IsAfterFrom segment before after
    → AreMarksAfter after (noted_load place (word_loaded before) marks)
marks_after segment place marks before (Reads reading) here first from = try_marks segment place marks before reading.try here first from
marks_after segment place marks None (IsWhole whole) here first from = absurd from
marks_after segment place marks (Some try) (IsWhole whole) here first from =
    whole_marks segment place marks try (word_loaded (Some try)) whole here first from.0 from.1.0 from.1.1
marks_after segment place marks before Unpublished here first from = tt
marks_after segment place marks before (AllFailed first_number last_number) here first from = tt

-- ---- the steps of a call

module _ (trace : Trace) (host : HostRun) (segment : SegmentRun) (tries : ℕ) (support : Bool) where
  -- what a load of the segment leaves
  read_stage : (after : SegmentAfter) (read : SeqlockRead) (marks : Marks) → ShowsSegmentAfter segment tries after read → AreMarksAfter after marks
      → ShowsCallAfter trace host segment tries (run_client.after_segment tries after) (calls.after_segment read (segment_tries.end_of read)) marks
  read_stage (Reads reading) read marks shows are =
      subst (λ (e : Option Seen). ShowsCallAfter trace host segment tries (Goes (Reading reading)) (calls.after_segment read e) marks) (sym shows.1) ((shows.0, are), refl)
  read_stage (IsWhole whole) read marks shows are =
      subst (λ (e : Option Seen). ShowsCallAfter trace host segment tries (Goes (Clocking whole)) (calls.after_segment read e) marks) (sym shows) ((refl, (refl, are)), refl)
  read_stage Unpublished read marks shows are =
      subst (λ (e : Option Seen). ShowsCallAfter trace host segment tries (run_client.after_segment tries Unpublished) (calls.after_segment read e) marks) (sym shows) (refl, refl)
  read_stage (AllFailed first last) read marks shows are =
      subst (λ (e : Option Seen). ShowsCallAfter trace host segment tries (run_client.after_segment tries (AllFailed first last)) (calls.after_segment read e) marks) (sym shows) (refl, refl)

  -- an interval, or a reading before the record
  timed_stage : (clocked : Clocked) (sequence mark_at : ℕ) (marks : Marks) (found : Result Interval Causality) → IsClockedAt clocked mark_at marks
      → ShowsCallAfter trace host segment tries (run_client.timed clocked sequence mark_at found) (stages.Done (calls.timed clocked.read.generation clocked.row sequence found)) marks
  timed_stage clocked sequence mark_at marks (Ok interval) is = (refl, rw (is.read.inside, is.read.position, is.clock, is.marker) refl)
  timed_stage clocked sequence mark_at marks (Err causality) is = (refl, refl)

  -- what the load of the clock leaves
  clock_stage : (page : Option (List ℕ)) (clocked : Clocked) (marks : Marks) → 0 < tries → is_some page ≡ is_some trace.page → IsClockedAt clocked clocked.clock_at marks
      → ShowsCallAfter trace host segment tries (run_client.clock_by trace tries clocked page)
      (calls.after_clock tries (is_some page) clocked.read.generation clocked.read.rec (reading_at trace.clock clocked.row)) marks
  clock_stage None clocked marks some same is =
      timed_stage clocked 0 clocked.clock_at marks (interval_of clocked.read.rec (reading_at trace.clock clocked.row).mono (reading_at trace.clock clocked.row).real None) is
  clock_stage (Some page) clocked marks some same is =
      ((refl, (refl, (refl, (is, (sym same, page_read_new trace.page trace.host host tries some))))), refl)

  -- what a load of the page leaves
  page_stage : (after : PageAfter) (read : SeqlockRead) (clocked : Clocked) (mark_at : ℕ) (marks : Marks) → is_some trace.page ≡ true → ShowsPageAfter trace.page trace.host host tries after read
      → IsClockedAt clocked mark_at marks
      → ShowsCallAfter trace host segment tries (run_client.after_page trace clocked mark_at after)
      (calls.after_page clocked.read.generation clocked.read.rec (reading_at trace.clock clocked.row) read (page_read.end_of read)) marks
  page_stage (Looks reading) read clocked mark_at marks has shows is =
      subst (λ (e : Option PageSeen). ShowsCallAfter trace host segment tries (Goes (Paging clocked reading mark_at))
      (calls.after_page clocked.read.generation clocked.read.rec (reading_at trace.clock clocked.row) read e) marks) (sym shows.1)
      ((refl, (refl, (refl, (is, (has, shows.0))))), refl)
  page_stage (Saw page) read clocked mark_at marks has shows is =
      subst (λ (e : Option PageSeen). ShowsCallAfter trace host segment tries (run_client.after_page trace clocked mark_at (Saw page))
      (calls.after_page clocked.read.generation clocked.read.rec (reading_at trace.clock clocked.row) read e) marks) (sym shows)
      (timed_stage clocked (sequence_of (count_of trace.page) (record { page = page; is_writing = false })) mark_at marks
      (interval_of clocked.read.rec (reading_at trace.clock clocked.row).mono (reading_at trace.clock clocked.row).real (Some (marker_of trace.page trace.host page))) is)
  page_stage (Missed first last) read clocked mark_at marks has shows is =
      subst (λ (e : Option PageSeen). ShowsCallAfter trace host segment tries (run_client.after_page trace clocked mark_at (Missed first last))
      (calls.after_page clocked.read.generation clocked.read.rec (reading_at trace.clock clocked.row) read e) marks) (sym shows) (refl, refl)

  -- the marks after a load of the page
  page_marks : (place : Place) (clocked : Clocked) (mark_at : ℕ) (marks : Marks) (is_marker : Bool) → place.host_at ≡ host.done → IsClockedAt clocked mark_at marks
      → IsClockedAt clocked (marked_by is_marker host.done mark_at) (noted_load place (if is_marker then 12 else 11) marks)
  page_marks place clocked mark_at marks true there is = record { read = record { position = is.read.position; inside = is.read.inside }; clock = is.clock; marker = there }
  page_marks place clocked mark_at marks false there is = is

-- where the run stands
abbrev pub place_at : SegmentRun → HostRun → Place
place_at segment host = record { position = segment.position; host_at = host.done }

-- what is given of the words
pub record StandsAt (trace : Trace) (host : HostRun) (segment : SegmentRun) (words : List ℕ) : Type 0 where
  pub machine : Host
  pub rows : AreRows trace.page (length trace.clock) trace.host
  pub host_is : ShowsHost trace.page trace.host host machine words
  pub segment_is : ShowsSegment segment words

module _ (trace : Trace) (host : HostRun) (segment : SegmentRun) (words : List ℕ) (at : StandsAt trace host segment words) where
  segment_step : (tries : ℕ) (reading : SegmentReading) (read : SeqlockRead) (marks : Marks) → ShowsSegmentRead segment tries reading read → IsFirstAt reading.try marks
      → ShowsCallAfter trace host segment tries (run_client.after_segment tries (segment_load segment reading))
      (calls.stage_given trace.clock tries (is_some trace.page) (stages.Segment read) (value_of words (segment_tries.act_of read)))
      (noted (place_at segment host) (segment_tries.act_of read) marks)
  segment_step tries reading read marks shows first =
      subst (λ (act : Act). ShowsCallAfter trace host segment tries (run_client.after_segment tries (segment_load segment reading))
      (calls.stage_given trace.clock tries (is_some trace.page) (stages.Segment read) (value_of words act)) (noted (place_at segment host) act marks))
      (sym (segment_act segment tries reading read shows))
      (read_stage trace host segment tries (is_some trace.page) (segment_load segment reading) (segment_tries.given read (slice_index words (word_loaded reading.try)))
      (noted_load (place_at segment host) (word_loaded reading.try) marks)
      (segment_load_shows segment words tries reading read at.segment_is shows)
      (marks_after segment (place_at segment host) marks reading.try (segment_load segment reading) refl first (segment_load_from segment reading)))

  clock_step : (tries : ℕ) (whole : WholeRead) (generation : ℕ) (rec : RecordFields) (value : ℕ) (marks : Marks) → 0 < tries → generation ≡ whole.generation → rec ≡ whole.rec → value ≡ clocks_at trace.host host.done
      → IsReadAt whole marks
      → ShowsCallAfter trace host segment tries (run_client.call_step trace host segment tries (Clocking whole))
      (calls.after_clock tries (is_some trace.page) generation rec (reading_at trace.clock value)) (record marks { clock_at = host.done; mark_at = host.done })
  clock_step tries whole generation rec value marks some same_generation same_rec same_value is =
      rw (same_generation, same_rec, same_value)
      (clock_stage trace host segment tries (is_some trace.page) trace.page (record { read = whole; row = clocks_at trace.host host.done; clock_at = host.done })
      (record marks { clock_at = host.done; mark_at = host.done }) some refl
      (record { read = record { position = is.position; inside = is.inside }; clock = refl; marker = refl }))

  page_of : (page : Option (List ℕ)) → trace.page ≡ page → is_some page ≡ true → (words_of : List ℕ) × (trace.page ≡ Some words_of)
  page_of None is has = absurd (cc has)
  page_of (Some page) is has = (page, is)

  pub page_loads : (tries : ℕ) (reading : PageReading) (read : SeqlockRead) → is_some trace.page ≡ true → ShowsPageRead trace.page trace.host host tries reading read
      → PageLoads trace.page trace.host host tries reading read words
  page_loads tries reading read has shows =
      let page = page_of trace.page refl has in
      page_load_shows trace.page page.0 (length trace.clock) trace.host host at.machine words tries reading read page.1 at.rows at.host_is shows

  page_step : (tries : ℕ) (clocked : Clocked) (reading : PageReading) (mark_at generation : ℕ) (rec : RecordFields) (clock : ClockReading) (read : SeqlockRead) (marks : Marks)
      → generation ≡ clocked.read.generation → rec ≡ clocked.read.rec → clock ≡ reading_at trace.clock clocked.row → IsClockedAt clocked mark_at marks → is_some trace.page ≡ true
      → ShowsPageRead trace.page trace.host host tries reading read
      → ShowsCallAfter trace host segment tries (run_client.call_step trace host segment tries (Paging clocked reading mark_at))
      (calls.stage_given trace.clock tries (is_some trace.page) (stages.Page generation rec clock read) (value_of words (page_read.act_of read)))
      (noted (place_at segment host) (page_read.act_of read) marks)
  page_step tries clocked reading mark_at generation rec clock read marks same_generation same_rec same_clock is has shows =
      let loads = page_loads tries reading read has shows in
      rw (same_generation, same_rec, same_clock)
      (subst (λ (act : Act). ShowsCallAfter trace host segment tries (run_client.call_step trace host segment tries (Paging clocked reading mark_at))
      (calls.stage_given trace.clock tries (is_some trace.page) (stages.Page clocked.read.generation clocked.read.rec (reading_at trace.clock clocked.row) read) (value_of words act))
      (noted (place_at segment host) act marks))
      (sym loads.act)
      (page_stage trace host segment tries (is_some trace.page) (page_load (count_of trace.page) (page_shown trace.host host) reading)
      (page_read.given read (slice_index words (page_word reading.try))) clocked (marked_by (is_marker_next reading.try) host.done mark_at)
      (noted_load (place_at segment host) (page_word reading.try) marks) has loads.after
      (page_marks trace host segment tries (is_some trace.page) (place_at segment host) clocked mark_at marks (is_marker_next reading.try) refl is)))

  -- one step of a call, wherever it stands
  stage_step : (tries : ℕ) (run : CallStage) (machine : Stage) (marks : Marks) → 0 < tries → ShowsStage trace host segment tries run machine marks
      → ShowsCallAfter trace host segment tries (run_client.call_step trace host segment tries run)
      (calls.stage_given trace.clock tries (is_some trace.page) machine (value_of words (calls.act_at machine)))
      (noted (place_at segment host) (calls.act_at machine) marks)
  stage_step tries (Reading reading) (stages.Segment read) marks some shows = segment_step tries reading read marks shows.0 shows.1
  stage_step tries (Reading reading) (stages.Clock generation rec) marks some shows = absurd shows
  stage_step tries (Reading reading) (stages.Page generation rec clock read) marks some shows = absurd shows
  stage_step tries (Reading reading) (stages.Done answer) marks some shows = absurd shows
  stage_step tries (Clocking whole) (stages.Segment read) marks some shows = absurd shows
  stage_step tries (Clocking whole) (stages.Clock generation rec) marks some shows =
      clock_step tries whole generation rec (slice_index words 23) marks some shows.0 shows.1.0 at.host_is.clock shows.1.1
  stage_step tries (Clocking whole) (stages.Page generation rec clock read) marks some shows = absurd shows
  stage_step tries (Clocking whole) (stages.Done answer) marks some shows = absurd shows
  stage_step tries (Paging clocked reading mark_at) (stages.Segment read) marks some shows = absurd shows
  stage_step tries (Paging clocked reading mark_at) (stages.Clock generation rec) marks some shows = absurd shows
  stage_step tries (Paging clocked reading mark_at) (stages.Page generation rec clock read) marks some shows =
      page_step tries clocked reading mark_at generation rec clock read marks shows.0 shows.1.0 shows.1.1.0 shows.1.1.1.0 shows.1.1.1.1.0 shows.1.1.1.1.1
  stage_step tries (Paging clocked reading mark_at) (stages.Done answer) marks some shows = absurd shows

-- ---- a client

-- a client after a turn, and what is told of it
pub record ClientTurned (trace : Trace) (host : HostRun) (segment : SegmentRun) (number : ℕ) (next : run_client.ClientTurn) (turn : shared_client.ClientTurn) : Type 0 where
  pub shows : ShowsClient trace host segment number next.client turn.client
  pub told : turn.told ≡ answer_events number next.client.begun next.answered

abbrev state_of : ℕ → List ℕ → ℕ → Option Call → Marks → ClientState
state_of number left begun call marks = record { number = number; left = left; begun = begun; call = call; marks = marks }

abbrev run_of : List ℕ → ℕ → Option CallRun → ClientRun
run_of left begun call = record { left = left; begun = begun; call = call }

module _ (trace : Trace) (host : HostRun) (segment : SegmentRun) (number : ℕ) where
  -- a call goes on, or has its answer
  stepped : (left : List ℕ) (begun : ℕ) (before : Option CallRun) (old : Option Call) (old_marks marks : Marks) (tries : ℕ) (after : CallAfter) (call : Call) → AreTries left → 0 < tries
      → call.tries ≡ tries → call.support ≡ is_some trace.page → ShowsCallAfter trace host segment tries after call.stage marks
      → ClientTurned trace host segment number (run_client.after_step (run_of left begun before) tries after) (shared_client.call_with (state_of number left begun old old_marks) marks call)
  stepped left begun before old old_marks marks tries (Goes stage) call are some same_tries same_support shows =
      subst (λ (e : Option Answer). ClientTurned trace host segment number (run_client.after_step (run_of left begun before) tries (Goes stage))
      (shared_client.call_by (state_of number left begun old old_marks) marks call e)) (sym shows.1)
      (record {
        shows = record {
          same_number = refl;
          tries = are;
          left = refl;
          begun = refl;
          call = record { some_tries = some; same_tries = same_tries; support = same_support; stage = shows.0 };
        };
        told = refl;
      })
  stepped left begun before old old_marks marks tries (Answers answered) call are some same_tries same_support shows =
      subst (λ (e : Option Answer). ClientTurned trace host segment number (run_client.after_step (run_of left begun before) tries (Answers answered))
      (shared_client.call_by (state_of number left begun old old_marks) marks call e)) (sym shows.0)
      (record {
        shows = record { same_number = refl; tries = are; left = refl; begun = refl; call = tt };
        told = rw shows.1 refl;
      })

  module _ (words : List ℕ) (at : StandsAt trace host segment words) where
    -- one step of a call in hand
    call_stepped : (left : List ℕ) (begun : ℕ) (before : Option CallRun) (run : CallRun) (call : Call) (marks : Marks) → AreTries left → ShowsCall trace host segment run call marks
        → ClientTurned trace host segment number (run_client.client_step trace host segment (run_of left begun before) run)
        (client_stepped trace words (place_at segment host) (state_of number left begun (Some call) marks))
    call_stepped left begun before run call marks are shows =
        stepped left begun before (Some call) marks (noted (place_at segment host) (calls.act_of call) marks) run.tries (run_client.call_step trace host segment run.tries run.stage)
        (calls.given trace.clock call (value_of words (calls.act_of call))) are shows.some_tries shows.same_tries shows.support
        (rw (shows.same_tries, shows.support) (stage_step trace host segment words at run.tries run.stage call.stage marks shows.some_tries shows.stage))

    -- a call that begins
    call_begins : (left : List ℕ) (begun : ℕ) (marks : Marks) → AreTries left
        → ClientTurned trace host segment number (run_client.client_begins trace host segment (run_of left begun None) left)
        (client_stepped trace words (place_at segment host) (shared_client.client_takes (is_some trace.page) (state_of number left begun None marks) left))
    call_begins [] begun marks are = record { shows = record { same_number = refl; tries = are; left = refl; begun = refl; call = tt }; told = refl }
    call_begins (tries ∷ left) begun marks are =
        call_stepped left (begun + 1) None (record { tries = tries; stage = Reading (segment_reading tries) }) (calls.started_call tries (is_some trace.page)) marks are.1
        (record { some_tries = are.0; same_tries = refl; support = refl; stage = (segment_read_new segment tries are.0, tt) })

    turned_by : (left : List ℕ) (begun : ℕ) (run : Option CallRun) (call : Option Call) (marks : Marks) → AreTries left → ShowsCallOf trace host segment run call marks
        → ClientTurned trace host segment number (run_client.client_turn trace host segment (run_of left begun run))
        (client_turned trace words (place_at segment host) (state_of number left begun call marks))
    turned_by left begun None None marks are shows = call_begins left begun marks are
    turned_by left begun None (Some call) marks are shows = absurd shows
    turned_by left begun (Some run) None marks are shows = absurd shows
    turned_by left begun (Some run) (Some call) marks are shows = call_stepped left begun (Some run) run call marks are shows

state_is : (trace : Trace) (host : HostRun) (segment : SegmentRun) (number : ℕ) (run : ClientRun) (client : ClientState) → ShowsClient trace host segment number run client
    → state_of number run.left run.begun client.call client.marks ≡ client
state_is trace host segment number run client shows = rw (← shows.same_number, ← shows.left, ← shows.begun) refl

-- one turn of a client
pub client_turn_shows : (trace : Trace) (host : HostRun) (segment : SegmentRun) (words : List ℕ) (number : ℕ) (run : ClientRun) (client : ClientState) → StandsAt trace host segment words
    → ShowsClient trace host segment number run client
    → ClientTurned trace host segment number (run_client.client_turn trace host segment run) (client_turned trace words (place_at segment host) client)
client_turn_shows trace host segment words number run client at shows =
    subst (λ (state : ClientState). ClientTurned trace host segment number (run_client.client_turn trace host segment run) (client_turned trace words (place_at segment host) state))
    (state_is trace host segment number run client shows)
    (turned_by trace host segment number words at run.left run.begun run.call client.call client.marks shows.tries shows.call)
