-- What a call in hand has read stays as the run goes on, and its answer's interval is by the publication that made its position.
use Rattle.std.proofs.Common.{◌≡◌, ℕ, zero, suc, ◌+◌, ◌<◌, ◌≤◌, true, false, List, [], ◌∷◌, length, Option, Some, None, is_some, Result, Ok, Err, refl, ap, sym, ◌∙◌, subst, arith, length-append}
use Rattle.std.specs.Prelude.{slice_get, slice_set, map}
use Rattle.generation_word.specs.declared.layout.Layout.{Layout}
use Rattle.generation_word.specs.Layout.{period_of}
use Rattle.generation_word.specs.Numbering.{generation_at}
use Rattle.clock_gate.specs.declared.trace.Trace.{Trace}
use Rattle.clock_gate.specs.ClockRow.{row_at}
use Rattle.vmclock_page.specs.Host.{count_of}
use Rattle.segment_layout.specs.declared.publication.Publication.{Publication}
use Rattle.segment_layout.specs.Record.{RecordFields}
use Rattle.segment_run.specs.SegmentRun.{SegmentRun, published_at}
use Rattle.interval_now.specs.declared.answers.Interval.{Interval}
use Rattle.interval_now.specs.declared.answers.Causality.{Causality}
use Rattle.interval_now.specs.declared.answers.Answer.{Answer}
use Rattle.interval_now.specs.declared.answers.Answer.TheVariants as answers
use Rattle.interval_now.specs.declared.answers.Timed.{Timed}
use Rattle.interval_now.specs.Interval.{interval_of}
use Rattle.abstract_run.specs.declared.event.Event.{Event}
use Rattle.abstract_run.specs.declared.event.Trail.{Trail}
use Rattle.abstract_run.specs.Run.{client_start}
use Rattle.abstract_run.specs.HostRun.{HostRun, clocks_at, pages_at, page_shown, marker_of, sequence_of, marker_at}
use Rattle.abstract_run.specs.PageReading.{PageTry, PageAfter, Looks, Saw, Missed, page_load, is_marker_next}
use Rattle.abstract_run.specs.DaemonRun.{marked_by}
use Rattle.abstract_run.specs.ClientRun as run_client
use Rattle.abstract_run.specs.ClientRun.{SegmentAfter, Reads, IsWhole, Unpublished, AllFailed, segment_load, segment_reading, WholeRead, Clocked, CallStage, Reading, Clocking, Paging, Answered, CallAfter, Goes, Answers, CallRun, ClientRun, ClientTurn}
use Rattle.abstract_run.proofs.AnswerOf.{IsTimeOf, IsAnswer, IsReadOf, StandsIn, PageFits, FitsIn, LeavesOf, step_of}
use Rattle.abstract_run.proofs.RunFactsClient.{CallFits, StageFits}
use Rattle.run_promises.specs.Told.{AnswerTells, IsByPublication}
use Rattle.run_promises.proofs.PageReads.{LookFits, LookAfter, look_later, look_fits}
use Rattle.run_promises.proofs.Segments.{entry_at, IsEntry, AllStand, entry_more, told_stands}
use Rattle.run_promises.proofs.DaemonStates.{Later}

-- ---- what a call in hand has read

-- of the page
abbrev pub PagesIn : Trace → HostRun → CallStage → Type 0
PagesIn trace host (Reading reading) = Unit {0}
PagesIn trace host (Clocking read) = Unit {0}
PagesIn trace host (Paging clocked reading mark_at) = (is_some trace.page ≡ true) × LookFits trace.host host mark_at reading.try

abbrev pub CallStands : Trace → HostRun → SegmentRun → Option CallRun → Type 0
CallStands trace host segment None = Unit {0}
CallStands trace host segment (Some call) = StandsIn trace host segment call.stage × PagesIn trace host call.stage

abbrev pub AllStandIn : Trace → HostRun → SegmentRun → List ClientRun → Type 0
AllStandIn trace host segment [] = Unit {0}
AllStandIn trace host segment (client ∷ clients) = CallStands trace host segment client.call × AllStandIn trace host segment clients

-- ---- at a later host, and in a later segment

module _ (trace : Trace) (old_host host : HostRun) (done : old_host.done ≤ host.done) (pages : pages_at trace.host old_host.done ≤ pages_at trace.host host.done) (segment : SegmentRun) where
  stage_host : (stage : CallStage) → StandsIn trace old_host segment stage → StandsIn trace host segment stage
  stage_host (Reading reading) stands = tt
  stage_host (Clocking read) stands = stands
  stage_host (Paging clocked reading mark_at) stands =
      let marked = stands.0.marked in
      let low = stands.0.pages in
      (record { read = stands.0.read; row = stands.0.row; order = stands.0.order; marked = omega (arith, marked, done); pages = omega (arith, low, pages) }, stands.1)

  pages_host : (stage : CallStage) → PagesIn trace old_host stage → PagesIn trace host stage
  pages_host (Reading reading) is = tt
  pages_host (Clocking read) is = tt
  pages_host (Paging clocked reading mark_at) is = (is.0, look_later trace.host old_host host mark_at reading.try pages is.1)

  call_host : (call : Option CallRun) → CallStands trace old_host segment call → CallStands trace host segment call
  call_host None is = tt
  call_host (Some call) is = (stage_host call.stage is.0, pages_host call.stage is.1)

  pub all_host : (clients : List ClientRun) → AllStandIn trace old_host segment clients → AllStandIn trace host segment clients
  all_host [] is = tt
  all_host (client ∷ clients) is = (call_host client.call is.0, all_host clients is.1)

module _ (trace : Trace) (host : HostRun) (old new : SegmentRun) (later : Later old.layout new.layout old.base new.base old.history new.history)
    (known : length old.history + old.base ≡ old.position) (known_new : length new.history + new.base ≡ new.position) where
  further : old.position ≤ new.position
  further =
      let longer : length new.history ≡ length old.history + length later.more = ap length later.longer ∙ length-append old.history later.more in
      let same = later.same_base in
      omega (arith, longer, known, known_new, same)

  published_later : (position : ℕ) → old.base < position → position ≤ old.position → published_at new position ≡ published_at old position
  published_later position low high =
      ap (λ (base : ℕ). entry_at base new.history position) later.same_base
      ∙ ap (λ (history : List Publication). entry_at old.base history position) later.longer
      ∙ entry_more old.base old.history later.more position low (omega (arith, high, known))

  read_later : (read : WholeRead) → IsReadOf old read → IsReadOf new read
  read_later read is =
      let before = is.before in
      let low = is.known in
      let same = later.same_base in
      let more = further in
      record {
        known = omega (arith, low, same);
        before = omega (arith, before, more);
        generation = is.generation ∙ sym (ap (λ (layout : Layout). generation_at (period_of layout) read.position) later.same_layout);
        whole = λ few.
            is.whole (subst (λ (layout : Layout). read.inside < period_of layout) later.same_layout few)
            ∙ sym (ap (λ (publication : Publication). publication.rec) (published_later read.position is.known (omega (arith, before))));
      }

  stage_later : (stage : CallStage) → StandsIn trace host old stage → StandsIn trace host new stage
  stage_later (Reading reading) stands = tt
  stage_later (Clocking read) stands = read_later read stands
  stage_later (Paging clocked reading mark_at) stands =
      (record { read = read_later clocked.read stands.0.read; row = stands.0.row; order = stands.0.order; marked = stands.0.marked; pages = stands.0.pages }, stands.1)

  call_later : (call : Option CallRun) → CallStands trace host old call → CallStands trace host new call
  call_later None is = tt
  call_later (Some call) is = (stage_later call.stage is.0, is.1)

  pub all_later : (clients : List ClientRun) → AllStandIn trace host old clients → AllStandIn trace host new clients
  all_later [] is = tt
  all_later (client ∷ clients) is = (call_later client.call is.0, all_later clients is.1)

-- ---- one of them, and another in its place

pub one_of : (trace : Trace) (host : HostRun) (segment : SegmentRun) (clients : List ClientRun) (place : ℕ) (client : ClientRun) → slice_get clients place ≡ Some client
    → AllStandIn trace host segment clients → CallStands trace host segment client.call
one_of trace host segment [] place client at is = absurd (cc at)
one_of trace host segment (first ∷ clients) zero client at is = let same : first ≡ client = cc at in subst (λ (c : ClientRun). CallStands trace host segment c.call) same is.0
one_of trace host segment (first ∷ clients) (suc place) client at is = one_of trace host segment clients place client at is.1

pub all_set : (trace : Trace) (host : HostRun) (segment : SegmentRun) (clients : List ClientRun) (place : ℕ) (client : ClientRun)
    → CallStands trace host segment client.call → AllStandIn trace host segment clients → AllStandIn trace host segment (slice_set clients place client)
all_set trace host segment [] place client new is = tt
all_set trace host segment (first ∷ clients) zero client new is = (new, is.1)
all_set trace host segment (first ∷ clients) (suc place) client new is = (is.0, all_set trace host segment clients place client new is.1)

pub none_begun : (trace : Trace) (host : HostRun) (segment : SegmentRun) (numbers : List ℕ) → AllStandIn trace host segment (map (client_start trace.calls) numbers)
none_begun trace host segment [] = tt
none_begun trace host segment (number ∷ numbers) = (tt, none_begun trace host segment numbers)

-- ---- a step of a call

module _ (trace : Trace) (host : HostRun) (segment : SegmentRun) (past : List Event) (layout : segment.layout ≡ trace.layout) (stand : AllStand segment.base segment.history past) where
  abbrev PagesAfter : CallAfter → Type 0
  PagesAfter (Goes stage) = PagesIn trace host stage
  PagesAfter (Answers answered) = Unit {0}

  timed_pages : (clocked : Clocked) (sequence mark_at : ℕ) (found : Result Interval Causality) → PagesAfter (run_client.timed clocked sequence mark_at found)
  timed_pages clocked sequence mark_at (Ok interval) = tt
  timed_pages clocked sequence mark_at (Err causality) = tt

  ends_pages : (clocked : Clocked) (marker : Option ℕ) (sequence mark_at : ℕ) → PagesAfter (run_client.call_ends trace clocked marker sequence mark_at)
  ends_pages clocked marker sequence mark_at =
      timed_pages clocked sequence mark_at (interval_of clocked.read.rec (row_at trace.clock clocked.row).mono (row_at trace.clock clocked.row).real marker)

  reading_pages : (tries : ℕ) (after : SegmentAfter) → PagesAfter (run_client.after_segment tries after)
  reading_pages tries (Reads reading) = tt
  reading_pages tries (IsWhole read) = tt
  reading_pages tries Unpublished = tt
  reading_pages tries (AllFailed first last) = tt

  clock_pages : (tries : ℕ) (clocked : Clocked) (page : Option (List ℕ)) → clocked.clock_at ≡ host.done → trace.page ≡ page → PagesAfter (run_client.clock_by trace tries clocked page)
  clock_pages tries clocked None here none = ends_pages clocked None 0 clocked.clock_at
  clock_pages tries clocked (Some page) here has = (ap is_some has, record { within = rw here (omega arith); fits = tt })

  paging_pages : (clocked : Clocked) (mark_at : ℕ) (after : PageAfter) → is_some trace.page ≡ true → LookAfter trace.host host mark_at after → PagesAfter (run_client.after_page trace clocked mark_at after)
  paging_pages clocked mark_at (Looks reading) has fits = (has, fits)
  paging_pages clocked mark_at (Saw page) has fits =
      ends_pages clocked (Some (marker_of trace.page trace.host page)) (sequence_of (count_of trace.page) (record { page = page; is_writing = false })) mark_at
  paging_pages clocked mark_at (Missed first last) has fits = tt

  step_pages : (tries : ℕ) (stage : CallStage) → PagesIn trace host stage → PagesAfter (run_client.call_step trace host segment tries stage)
  step_pages tries (Reading reading) is = reading_pages tries (segment_load segment reading)
  step_pages tries (Clocking read) is = clock_pages tries (record { read = read; row = clocks_at trace.host host.done; clock_at = host.done }) trace.page refl refl
  step_pages tries (Paging clocked reading mark_at) is =
      paging_pages clocked (marked_by (is_marker_next reading.try) host.done mark_at) (page_load (count_of trace.page) (page_shown trace.host host) reading) is.0
      (look_fits (count_of trace.page) trace.host host reading mark_at is.1)

  page_fits : (mark_at : ℕ) (try : Option PageTry) → LookFits trace.host host mark_at try → PageFits trace host try
  page_fits mark_at None is = tt
  page_fits mark_at (Some try) is = is.fits.0

  fits_in : (stage : CallStage) → StageFits trace segment.base segment.position host.done past stage → PagesIn trace host stage → FitsIn trace host segment stage
  fits_in (Reading reading) fits is = fits_try reading.try fits
    where
      fits_try : (try : Option run_client.SegmentTry) → Rattle.abstract_run.proofs.RunFactsClient.TryFits segment.base segment.position try → Rattle.abstract_run.proofs.AnswerOf.TryFits segment try
      fits_try None fits = tt
      fits_try (Some try) fits = fits
  fits_in (Clocking read) fits is = tt
  fits_in (Paging clocked reading mark_at) fits is = (is.0, page_fits mark_at reading.try is.1)

  -- ---- its answer

  time_tells : (time : Timed) (trail : Trail) → IsTimeOf trace segment time trail → IsByPublication trace past time trail
  time_tells time trail is told found few =
      let entry : IsEntry segment.base segment.history trail.position told.publication = told_stands segment.base segment.history trail.position past told stand found in
      subst (λ (publication : Publication). interval_of publication.rec (row_at trace.clock time.row).mono (row_at trace.clock time.row).real (marker_at trace trail.mark_at) ≡ Ok time.interval)
      entry.is
      (ap (λ (rec : RecordFields). interval_of rec (row_at trace.clock time.row).mono (row_at trace.clock time.row).real (marker_at trace trail.mark_at)) (sym (is.read.1.whole (subst (λ (l : Layout). trail.inside < period_of l) (sym layout) few)))
      ∙ is.read.1.interval)

  answer_tells : (answer : Answer) (trail : Option Trail) → IsAnswer trace segment answer trail → AnswerTells trace past answer trail
  answer_tells (answers.Time time) None is = tt
  answer_tells (answers.Time time) (Some trail) is = time_tells time trail is
  answer_tells (answers.Busy tries first last) trail is = tt
  answer_tells answers.NotInitialized trail is = tt
  answer_tells (answers.PageBusy first last) trail is = tt
  answer_tells (answers.Causality causality) trail is = tt

  -- ---- a turn

  abbrev pub AnsweredTells : Option Answered → Type 0
  AnsweredTells None = Unit {0}
  AnsweredTells (Some answered) = AnswerTells trace past answered.answer answered.trail

  pub record ClientTold (next : ClientTurn) : Type 0 where
    pub stands : CallStands trace host segment next.client.call
    pub tells : AnsweredTells next.answered

  after_told : (client : ClientRun) (tries : ℕ) (after : CallAfter) → LeavesOf trace host segment after → PagesAfter after → ClientTold (run_client.after_step client tries after)
  after_told client tries (Goes stage) leaves pages = record { stands = (leaves, pages); tells = tt }
  after_told client tries (Answers answered) leaves pages = record { stands = tt; tells = answer_tells answered.answer answered.trail leaves }

  step_told : (client : ClientRun) (tries : ℕ) (stage : CallStage) → StageFits trace segment.base segment.position host.done past stage → StandsIn trace host segment stage → PagesIn trace host stage
      → ClientTold (run_client.after_step client tries (run_client.call_step trace host segment tries stage))
  step_told client tries stage fits stands pages =
      after_told client tries (run_client.call_step trace host segment tries stage) (step_of trace host segment tries stage (fits_in stage fits pages) stands) (step_pages tries stage pages)

  begins_told : (client : ClientRun) (left : List ℕ) → CallStands trace host segment client.call → ClientTold (run_client.client_begins trace host segment client left)
  begins_told client [] own = record { stands = own; tells = tt }
  begins_told client (tries ∷ left) own = step_told (record client { left = left; begun = client.begun + 1 }) tries (Reading (segment_reading tries)) tt tt tt

  turn_told : (client : ClientRun) (call : Option CallRun) → CallFits trace segment.base segment.position host.done past call → CallStands trace host segment call → CallStands trace host segment client.call
      → ClientTold (run_client.client_turn_by trace host segment client call)
  turn_told client None fits stands own = begins_told client client.left own
  turn_told client (Some call) fits stands own = step_told client call.tries call.stage fits stands.0 stands.1

  pub client_told : (client : ClientRun) → CallFits trace segment.base segment.position host.done past client.call → CallStands trace host segment client.call
      → ClientTold (run_client.client_turn trace host segment client)
  client_told client fits stands = turn_told client client.call fits stands stands
