-- What a client on the shared words shows of the client in the abstract run.
use Rattle.std.specs.Prelude.{◌≡◌, ℕ, suc, ◌-◌, ◌<◌, true, List, [], ◌∷◌, Option, Some, None, is_some}
use Rattle.clock_gate.specs.declared.trace.Trace.{Trace}
use Rattle.clock_gate.specs.ClockRow.{reading_at}
use Rattle.segment_run.specs.SegmentRun.{SegmentRun}
use Rattle.interval_now.specs.declared.stage.Stage.{Stage}
use Rattle.interval_now.specs.declared.stage.Stage.TheVariants as stages
use Rattle.interval_now.specs.Call.{Call}
use Rattle.abstract_run.specs.HostRun.{HostRun}
use Rattle.abstract_run.specs.ClientRun.{SegmentTry, WholeRead, Clocked, CallStage, Reading, Clocking, Paging, CallRun, ClientRun}
use Rattle.step_core.specs.declared.marks.Marks.{Marks}
use Rattle.step_core.specs.SharedClient.{ClientState}
use Rattle.step_core.specs.ShowsHost.{ShowsPageRead}
use Rattle.step_core.specs.ShowsSegment.{ShowsSegmentRead}

-- the last load of the header was the first of the try in hand
abbrev pub IsFirstAt : Option SegmentTry → Marks → Type 0
IsFirstAt None marks = Unit {0}
IsFirstAt (Some try) marks = marks.to ≡ try.from

-- the marks of the read that succeeded
pub record IsReadAt (read : WholeRead) (marks : Marks) : Type 0 where
  pub position : marks.from ≡ read.position
  pub inside : marks.to - marks.from ≡ read.inside

pub record IsClockedAt (clocked : Clocked) (mark_at : ℕ) (marks : Marks) : Type 0 where
  pub read : IsReadAt clocked.read marks
  pub clock : marks.clock_at ≡ clocked.clock_at
  pub marker : marks.mark_at ≡ mark_at

-- a stage of the call machine shows the stage of the call
abbrev pub ShowsStage : Trace → HostRun → SegmentRun → (tries : ℕ) → CallStage → Stage → Marks → Type 0
ShowsStage trace host segment tries (Reading reading) (stages.Segment read) marks =
    ShowsSegmentRead segment tries reading read × IsFirstAt reading.try marks
ShowsStage trace host segment tries (Clocking whole) (stages.Clock generation rec) marks =
    (generation ≡ whole.generation) × ((rec ≡ whole.rec) × IsReadAt whole marks)
ShowsStage trace host segment tries (Paging clocked reading mark_at) (stages.Page generation rec clock read) marks =
    (generation ≡ clocked.read.generation) × ((rec ≡ clocked.read.rec) × ((clock ≡ reading_at trace.clock clocked.row)
    × (IsClockedAt clocked mark_at marks × ((is_some trace.page ≡ true) × ShowsPageRead trace.page trace.host host tries reading read))))
ShowsStage trace host segment tries run machine marks = ⊥

pub record ShowsCall (trace : Trace) (host : HostRun) (segment : SegmentRun) (run : CallRun) (call : Call) (marks : Marks) : Type 0 where
  pub some_tries : 0 < run.tries
  pub same_tries : call.tries ≡ run.tries
  pub support : call.support ≡ is_some trace.page
  pub stage : ShowsStage trace host segment run.tries run.stage call.stage marks

abbrev pub ShowsCallOf : Trace → HostRun → SegmentRun → Option CallRun → Option Call → Marks → Type 0
ShowsCallOf trace host segment None None marks = Unit {0}
ShowsCallOf trace host segment (Some run) (Some call) marks = ShowsCall trace host segment run call marks
ShowsCallOf trace host segment run call marks = ⊥

-- the tries of each call that is left
abbrev pub AreTries : List ℕ → Type 0
AreTries [] = Unit {0}
AreTries (tries ∷ left) = (0 < tries) × AreTries left

-- a client with this number
pub record ShowsClient (trace : Trace) (host : HostRun) (segment : SegmentRun) (number : ℕ) (run : ClientRun) (client : ClientState) : Type 0 where
  pub same_number : client.number ≡ number
  pub tries : AreTries run.left
  pub left : client.left ≡ run.left
  pub begun : client.begun ≡ run.begun
  pub call : ShowsCallOf trace host segment run.call client.call client.marks

-- the same of each client, in order, the first with this number
abbrev pub ShowsClients : Trace → HostRun → SegmentRun → (number : ℕ) → List ClientRun → List ClientState → Type 0
ShowsClients trace host segment number [] [] = Unit {0}
ShowsClients trace host segment number (run ∷ runs) (client ∷ clients) =
    ShowsClient trace host segment number run client × ShowsClients trace host segment (suc number) runs clients
ShowsClients trace host segment number runs clients = ⊥
