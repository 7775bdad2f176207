-- A load fails a try by an open update at first, or by another word 1 at last: so the words show.
use Rattle.std.proofs.Common.{◌≡◌, ℕ, ◌<◌, List, [], ◌∷◌, Option, Some, None, sym, subst, arith, inl, inr}
use Rattle.clock_gate.specs.declared.trace.Trace.{Trace}
use Rattle.segment_run.specs.SegmentRun.{SegmentRun}
use Rattle.segment_run.specs.ShowsSegment.{IsSegment}
use Rattle.interval_now.specs.declared.stage.Stage.{Stage}
use Rattle.interval_now.specs.declared.stage.Stage.TheVariants as stages
use Rattle.interval_now.specs.Call.{Call}
use Rattle.abstract_run.specs.HostRun.{HostRun}
use Rattle.abstract_run.specs.ClientRun.{SegmentTry, SegmentReading, segment_reading, CallStage, Reading, Clocking, Paging, CallRun}
use Rattle.abstract_run.specs.NextLoad.{begun_read, read_at, next_read, IsFailing}
use Rattle.abstract_run.proofs.AnswerLawsLoad.{FailsLoad}
use Rattle.step_core.specs.declared.marks.Marks.{Marks}
use Rattle.step_core.specs.ShowsSegment.{IsSegmentTryOf}
use Rattle.step_core.specs.ShowsClient.{ShowsStage, ShowsCallOf, AreTries}
use Rattle.step_core.proofs.SegmentLoad.{other_in_update}

-- for the read that the next load is for
abbrev pub IsSharp : SegmentRun → Option SegmentReading → Type 0
IsSharp segment next = (reading : SegmentReading) → next ≡ Some reading → FailsLoad segment reading.try → (0 < reading.left) × IsFailing segment reading.try

module _ (trace : Trace) (host : HostRun) (segment : SegmentRun) (seg : IsSegment segment) where
  -- word 1 of an open update is another than a try's first
  try_sharp : (try : Option SegmentTry) (values : List ℕ) → IsSegmentTryOf segment try values → FailsLoad segment try → IsFailing segment try
  try_sharp None values is fails = fails
  try_sharp (Some try) values is fails = (
    let most = is.few in let least = fails.0 in omega (arith, most, least),
    elim fails.1 [
      | inl writes ↦ other_in_update segment try values seg is writes
      | inr other ↦ other
    ],
  )

  reading_is : (one other : SegmentReading) → read_at (Reading one) ≡ Some other → one ≡ other
  reading_is one other same = cc same

  stage_sharp : (tries : ℕ) (run : CallStage) (machine : Stage) (marks : Marks) → ShowsStage trace host segment tries run machine marks → IsSharp segment (read_at run)
  stage_sharp tries (Reading own) (stages.Segment read) marks shows reading same fails =
      let is = reading_is own reading same in
      subst (λ (r : SegmentReading). (0 < r.left) × IsFailing segment r.try) is
      (shows.0.some_left, try_sharp own.try read.values shows.0.try (subst (λ (r : SegmentReading). FailsLoad segment r.try) (sym is) fails))
  stage_sharp tries (Reading own) (stages.Clock generation rec) marks shows reading same fails = absurd shows
  stage_sharp tries (Reading own) (stages.Page generation rec clock read) marks shows reading same fails = absurd shows
  stage_sharp tries (Reading own) (stages.Done answer) marks shows reading same fails = absurd shows
  stage_sharp tries (Clocking whole) machine marks shows reading same fails = absurd (cc same)
  stage_sharp tries (Paging clocked page mark_at) machine marks shows reading same fails = absurd (cc same)

  begun_sharp : (left : List ℕ) → AreTries left → IsSharp segment (begun_read left)
  begun_sharp [] are reading same fails = absurd (cc same)
  begun_sharp (tries ∷ left) are reading same fails =
      let is = reading_is (segment_reading tries) reading same in
      subst (λ (r : SegmentReading). (0 < r.left) × IsFailing segment r.try) is (are.0, subst (λ (r : SegmentReading). FailsLoad segment r.try) (sym is) fails)

  pub call_sharp : (left : List ℕ) (run : Option CallRun) (call : Option Call) (marks : Marks) → AreTries left → ShowsCallOf trace host segment run call marks → IsSharp segment (next_read left run)
  call_sharp left None call marks are shows = begun_sharp left are
  call_sharp left (Some run) None marks are shows = absurd shows
  call_sharp left (Some run) (Some call) marks are shows = stage_sharp run.tries run.stage call.stage marks shows.stage
