-- Each turn of a client keeps what its call in hand has seen, and its answer tells it.
use Rattle.std.proofs.Common.{◌≡◌, ◌≢◌, ℕ, ◌+◌, ◌-◌, ◌≤◌, ◌<◌, Bool, true, false, List, [], ◌∷◌, length, Option, Some, None, Result, Ok, Err, refl, arith}
use Rattle.std.specs.Prelude.{◌==◌, ◌||◌, not, nat_le, nat_lt, if◌then◌else◌}
use Rattle.std.proofs.lemmas.Bool.Decides.{nat_tests}
use Rattle.clock_gate.specs.declared.trace.Trace.{Trace}
use Rattle.clock_gate.specs.ClockRow.{row_at}
use Rattle.vmclock_page.specs.Host.{count_of}
use Rattle.segment_run.specs.SegmentRun.{SegmentRun, header_shown, number_shown, number_at}
use Rattle.interval_now.specs.declared.answers.Interval.{Interval}
use Rattle.interval_now.specs.declared.answers.Causality.{Causality}
use Rattle.interval_now.specs.Interval.{interval_of}
use Rattle.abstract_run.specs.declared.event.Event.{Event}
use Rattle.abstract_run.specs.HostRun.{HostRun, clocks_at, page_shown, marker_of, sequence_of}
use Rattle.abstract_run.specs.PageReading.{PageAfter, Looks, Saw, Missed, page_load, is_marker_next}
use Rattle.abstract_run.specs.DaemonRun.{marked_by}
use Rattle.abstract_run.specs.ClientRun as run_client
use Rattle.abstract_run.specs.ClientRun.{SegmentTry, SegmentReading, SegmentAfter, Reads, IsWhole, Unpublished, AllFailed, segment_try_fails, segment_load_by, segment_last_load, segment_load, segment_reading, Clocked, CallStage, Reading, Clocking, Paging, Answered, CallAfter, Goes, Answers, CallRun, ClientRun, ClientTurn}
use Rattle.abstract_run.specs.RunFacts.{made_by, StoodAt, TrailTells}
use Rattle.abstract_run.proofs.SegmentReads.{begun_try, longer_try, whole_read}
use Rattle.abstract_run.proofs.RunFactsPast.{Stands}
use Rattle.abstract_run.proofs.RunFactsDaemon.{Grows}

-- ---- what a call in hand has seen

-- a try in hand began at a position at which something stood
abbrev pub TryFits : (base position : ℕ) → Option SegmentTry → Type 0
TryFits base position None = Unit {0}
TryFits base position (Some try) = (base < try.from) × (try.from ≤ position)

pub record ReadFits (base position : ℕ) (past : List Event) (from inside : ℕ) : Type 0 where
  pub low : base < from
  pub high : from ≤ position
  pub few : inside ≤ made_by past

pub record PagingFits (trace : Trace) (position done : ℕ) (past : List Event) (clocked : Clocked) (mark_at : ℕ) : Type 0 where
  pub high : clocked.read.position ≤ position
  pub few : clocked.read.inside ≤ made_by past
  pub read : clocked.row ≡ clocks_at trace.host clocked.clock_at
  pub loads : clocked.clock_at ≤ mark_at
  pub within : mark_at ≤ done
  pub stood : StoodAt trace past clocked.read.position clocked.clock_at

abbrev pub StageFits : Trace → (base position done : ℕ) → List Event → CallStage → Type 0
StageFits trace base position done past (Reading reading) = TryFits base position reading.try
StageFits trace base position done past (Clocking read) = ReadFits base position past read.position read.inside
StageFits trace base position done past (Paging clocked reading mark_at) = PagingFits trace position done past clocked mark_at

abbrev pub CallFits : Trace → (base position done : ℕ) → List Event → Option CallRun → Type 0
CallFits trace base position done past None = Unit {0}
CallFits trace base position done past (Some call) = StageFits trace base position done past call.stage

-- it stays as more rows of the host are done, and more events come
try_more : (base position later high : ℕ) (try : Option SegmentTry) → later ≡ base → position ≤ high → TryFits base position try → TryFits later high try
try_more base position later high None same rises fits = tt
try_more base position later high (Some try) same rises fits = (let low = fits.0 in omega (arith, low, same), let le = fits.1 in omega (arith, le, rises))

stage_more : (trace : Trace) (base position done : ℕ) (past : List Event) (later high now : ℕ) (more : List Event) (stage : CallStage) → done ≤ now
    → Grows trace base position past later high more → StageFits trace base position done past stage → StageFits trace later high now more stage
stage_more trace base position done past later high now more (Reading reading) le grows fits = try_more base position later high reading.try grows.same grows.rises fits
stage_more trace base position done past later high now more (Clocking read) le grows fits =
    let same = grows.same in
    let rises = grows.rises in
    let made = grows.made in
    let low = fits.low in
    let top = fits.high in
    let few = fits.few in
    record { low = omega (arith, low, same); high = omega (arith, top, rises); few = omega (arith, few, made) }
stage_more trace base position done past later high now more (Paging clocked reading mark_at) le grows fits =
    let rises = grows.rises in
    let made = grows.made in
    let top = fits.high in
    let few = fits.few in
    let within = fits.within in
    record {
      high = omega (arith, top, rises);
      few = omega (arith, few, made);
      read = fits.read;
      loads = fits.loads;
      within = omega (arith, within, le);
      stood = grows.stood clocked.read.position clocked.clock_at fits.high fits.stood;
    }

pub call_more : (trace : Trace) (base position done : ℕ) (past : List Event) (later high now : ℕ) (more : List Event) (call : Option CallRun) → done ≤ now
    → Grows trace base position past later high more → CallFits trace base position done past call → CallFits trace later high now more call
call_more trace base position done past later high now more None le grows fits = tt
call_more trace base position done past later high now more (Some call) le grows fits = stage_more trace base position done past later high now more call.stage le grows fits

-- ---- a step of a call

module _ (trace : Trace) (host : HostRun) (segment : SegmentRun) (past : List Event) (top : host.done ≤ length trace.host)
    (h : Stands trace segment.base segment.position segment.is_writing host.done past) where
  abbrev AfterFits : SegmentAfter → Type 0
  AfterFits (Reads reading) = TryFits segment.base segment.position reading.try
  AfterFits (IsWhole read) = ReadFits segment.base segment.position past read.position read.inside
  AfterFits Unpublished = Unit {0}
  AfterFits (AllFailed first last) = Unit {0}

  fails_by : (left first last : ℕ) (few : Bool) → AfterFits (if few then AllFailed first last else Reads (record { left = left; try = None }))
  fails_by left first last true = tt
  fails_by left first last false = tt

  fails_fit : (reading : SegmentReading) (first last : ℕ) → AfterFits (segment_try_fails reading first last)
  fails_fit reading first last = fails_by (reading.left - 1) first last (nat_le reading.left 1)

  first_fits : (reading : SegmentReading) (writes none : Bool) → segment.is_writing ≡ writes → (segment.position == 0) ≡ none → AfterFits
      (if writes then segment_try_fails reading (number_shown segment) (number_shown segment) else if none then Unpublished else Reads (record reading { try = Some (begun_try segment) }))
  first_fits reading true none on is = fails_fit reading (number_shown segment) (number_shown segment)
  first_fits reading false true off is = tt
  first_fits reading false false off is =
      let some : segment.position ≢ 0 = λ e. (let zero_ : (segment.position == 0) ≡ true = grind (arith, nat_tests, e) in absurd (cc (zero_, is))) in
      (h.readable off some, omega arith)

  last_fits : (reading : SegmentReading) (try : SegmentTry) (fails : Bool) → TryFits segment.base segment.position (Some try) → AfterFits
      (if fails then segment_try_fails reading (number_at segment try.from) (number_shown segment) else IsWhole (whole_read segment try))
  last_fits reading try true fits = fails_fit reading (number_at segment try.from) (number_shown segment)
  last_fits reading try false fits =
      let few = h.few in
      let low = fits.0 in
      record { low = fits.0; high = fits.1; few = omega (arith, few, low) }

  try_fits : (reading : SegmentReading) (try : SegmentTry) (below : Bool) → TryFits segment.base segment.position (Some try) → AfterFits
      (if below then Reads (record reading { try = Some (longer_try segment try) }) else segment_last_load segment reading try)
  try_fits reading try true fits = fits
  try_fits reading try false fits = last_fits reading try (segment.is_writing || not (header_shown segment == try.header)) fits

  load_fits : (reading : SegmentReading) (before : Option SegmentTry) → TryFits segment.base segment.position before → AfterFits (segment_load_by segment reading before)
  load_fits reading None fits = first_fits reading segment.is_writing (segment.position == 0) refl refl
  load_fits reading (Some try) fits = try_fits reading try (nat_lt (length try.seen) 8) fits

  -- what a step leaves
  abbrev StepTells : CallAfter → Type 0
  StepTells (Goes stage) = StageFits trace segment.base segment.position host.done past stage
  StepTells (Answers answered) = TrailTells trace past answered.answer answered.trail

  reading_tells : (tries : ℕ) (after : SegmentAfter) → AfterFits after → StepTells (run_client.after_segment tries after)
  reading_tells tries (Reads reading) fits = fits
  reading_tells tries (IsWhole read) fits = fits
  reading_tells tries Unpublished fits = tt
  reading_tells tries (AllFailed first last) fits = tt

  timed_tells : (clocked : Clocked) (sequence mark_at : ℕ) (found : Result Interval Causality) → PagingFits trace segment.position host.done past clocked mark_at
      → StepTells (run_client.timed clocked sequence mark_at found)
  timed_tells clocked sequence mark_at (Ok interval) fits =
      let within = fits.within in
      record { timed = fits.read; loads = fits.loads; done = omega (arith, within, top); stood = fits.stood; inside = fits.few }
  timed_tells clocked sequence mark_at (Err causality) fits = tt

  ends_tell : (clocked : Clocked) (marker : Option ℕ) (sequence mark_at : ℕ) → PagingFits trace segment.position host.done past clocked mark_at
      → StepTells (run_client.call_ends trace clocked marker sequence mark_at)
  ends_tell clocked marker sequence mark_at fits =
      timed_tells clocked sequence mark_at (interval_of clocked.read.rec (row_at trace.clock clocked.row).mono (row_at trace.clock clocked.row).real marker) fits

  clock_tells : (tries : ℕ) (clocked : Clocked) (page : Option (List ℕ)) → PagingFits trace segment.position host.done past clocked clocked.clock_at
      → StepTells (run_client.clock_by trace tries clocked page)
  clock_tells tries clocked None fits = ends_tell clocked None 0 clocked.clock_at fits
  clock_tells tries clocked (Some page) fits = fits

  page_tells : (clocked : Clocked) (mark_at : ℕ) (after : PageAfter) → PagingFits trace segment.position host.done past clocked mark_at → StepTells (run_client.after_page trace clocked mark_at after)
  page_tells clocked mark_at (Looks reading) fits = fits
  page_tells clocked mark_at (Saw page) fits =
      ends_tell clocked (Some (marker_of trace.page trace.host page)) (sequence_of (count_of trace.page) (record { page = page; is_writing = false })) mark_at fits
  page_tells clocked mark_at (Missed first last) fits = tt

  marked_fits : (clocked : Clocked) (mark_at : ℕ) (is_marker : Bool) → PagingFits trace segment.position host.done past clocked mark_at
      → PagingFits trace segment.position host.done past clocked (marked_by is_marker host.done mark_at)
  marked_fits clocked mark_at true fits =
      let loads = fits.loads in
      let within = fits.within in
      record { high = fits.high; few = fits.few; read = fits.read; loads = omega (arith, loads, within); within = omega arith; stood = fits.stood }
  marked_fits clocked mark_at false fits = fits

  step_tells : (tries : ℕ) (stage : CallStage) → StageFits trace segment.base segment.position host.done past stage → StepTells (run_client.call_step trace host segment tries stage)
  step_tells tries (Reading reading) fits = reading_tells tries (segment_load segment reading) (load_fits reading reading.try fits)
  step_tells tries (Clocking read) fits =
      clock_tells tries (record { read = read; row = clocks_at trace.host host.done; clock_at = host.done }) trace.page
      (record { high = fits.high; few = fits.few; read = refl; loads = omega arith; within = omega arith; stood = h.stood read.position fits.low fits.high })
  step_tells tries (Paging clocked reading mark_at) fits =
      page_tells clocked (marked_by (is_marker_next reading.try) host.done mark_at) (page_load (count_of trace.page) (page_shown trace.host host) reading)
      (marked_fits clocked mark_at (is_marker_next reading.try) fits)

  -- ---- a turn

  abbrev pub AnswerTells : Option Answered → Type 0
  AnswerTells None = Unit {0}
  AnswerTells (Some answered) = TrailTells trace past answered.answer answered.trail

  pub record ClientTells (next : ClientTurn) : Type 0 where
    pub fits : CallFits trace segment.base segment.position host.done past next.client.call
    pub tells : AnswerTells next.answered

  after_tells : (client : ClientRun) (tries : ℕ) (after : CallAfter) → StepTells after → ClientTells (run_client.after_step client tries after)
  after_tells client tries (Goes stage) fits = record { fits = fits; tells = tt }
  after_tells client tries (Answers answered) tells = record { fits = tt; tells = tells }

  begins_tell : (client : ClientRun) (left : List ℕ) → CallFits trace segment.base segment.position host.done past client.call → ClientTells (run_client.client_begins trace host segment client left)
  begins_tell client [] fits = record { fits = fits; tells = tt }
  begins_tell client (tries ∷ left) fits =
      after_tells (record client { left = left; begun = client.begun + 1 }) tries (run_client.call_step trace host segment tries (Reading (segment_reading tries)))
      (step_tells tries (Reading (segment_reading tries)) tt)

  turn_tells : (client : ClientRun) (call : Option CallRun) → CallFits trace segment.base segment.position host.done past client.call
      → CallFits trace segment.base segment.position host.done past call → ClientTells (run_client.client_turn_by trace host segment client call)
  turn_tells client None own fits = begins_tell client client.left own
  turn_tells client (Some call) own fits =
      after_tells client call.tries (run_client.call_step trace host segment call.tries call.stage) (step_tells call.tries call.stage fits)

  pub client_tells : (client : ClientRun) → CallFits trace segment.base segment.position host.done past client.call → ClientTells (run_client.client_turn trace host segment client)
  client_tells client fits = turn_tells client client.call fits fits
