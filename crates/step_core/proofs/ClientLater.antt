-- What the clients show stays at a later host and a later segment; one of them in the list, another in its place, and all of them
-- at the start.
use Rattle.std.proofs.Common.{◌≡◌, ℕ, zero, suc, ◌+◌, ◌<◌, Bool, true, false, List, [], ◌∷◌, Option, Some, None, refl, subst, arith}
use Rattle.std.specs.Prelude.{◌==◌, slice_get, slice_set, map, filter, cond, All}
use Rattle.std.specs.List.{range_with_len}
use Rattle.std.proofs.lemmas.List.Elements.{All-head, All-tail}
use Rattle.clock_gate.specs.declared.trace.CallRow.{CallRow}
use Rattle.clock_gate.specs.declared.trace.Trace.{Trace}
use Rattle.clock_gate.specs.Trace.{IsCallRow}
use Rattle.segment_run.specs.SegmentRun.{SegmentRun}
use Rattle.segment_run.specs.ShowsSegment.{IsSegment, IsSegmentLater}
use Rattle.interval_now.specs.declared.stage.Stage.{Stage}
use Rattle.interval_now.specs.declared.stage.Stage.TheVariants as stages
use Rattle.interval_now.specs.Call.{Call}
use Rattle.abstract_run.specs.Run.{tries_for}
use Rattle.abstract_run.specs.Run as run_start
use Rattle.abstract_run.specs.HostRun.{HostRun}
use Rattle.abstract_run.specs.ClientRun.{CallStage, Reading, Clocking, Paging, CallRun, ClientRun}
use Rattle.step_core.specs.declared.marks.Marks.{Marks}
use Rattle.step_core.specs.SharedClient.{ClientState}
use Rattle.step_core.specs.SharedClient as shared_client
use Rattle.step_core.specs.ShowsClient.{ShowsStage, ShowsCallOf, AreTries, ShowsClient, ShowsClients}
use Rattle.step_core.proofs.Later.{IsHostLater}
use Rattle.step_core.proofs.SegmentLater.{segment_read_later}
use Rattle.step_core.proofs.HostKeeps.{page_read_later}

-- ---- later

module _ (trace : Trace) (old_host new_host : HostRun) (old new : SegmentRun) (later_host : IsHostLater trace.host old_host new_host) (later : IsSegmentLater old new) (is : IsSegment old) where
  stage_later : (tries : ℕ) (run : CallStage) (machine : Stage) (marks : Marks) → ShowsStage trace old_host old tries run machine marks → ShowsStage trace new_host new tries run machine marks
  stage_later tries (Reading reading) (stages.Segment read) marks shows = (segment_read_later old new tries reading read is later shows.0, shows.1)
  stage_later tries (Reading reading) (stages.Clock generation rec) marks shows = absurd shows
  stage_later tries (Reading reading) (stages.Page generation rec clock read) marks shows = absurd shows
  stage_later tries (Reading reading) (stages.Done answer) marks shows = absurd shows
  stage_later tries (Clocking whole) (stages.Segment read) marks shows = absurd shows
  stage_later tries (Clocking whole) (stages.Clock generation rec) marks shows = shows
  stage_later tries (Clocking whole) (stages.Page generation rec clock read) marks shows = absurd shows
  stage_later tries (Clocking whole) (stages.Done answer) marks shows = absurd shows
  stage_later tries (Paging clocked reading mark_at) (stages.Segment read) marks shows = absurd shows
  stage_later tries (Paging clocked reading mark_at) (stages.Clock generation rec) marks shows = absurd shows
  stage_later tries (Paging clocked reading mark_at) (stages.Page generation rec clock read) marks shows =
      (shows.0, (shows.1.0, (shows.1.1.0, (shows.1.1.1.0, (shows.1.1.1.1.0, page_read_later trace.page trace.host old_host new_host tries reading read later_host shows.1.1.1.1.1)))))
  stage_later tries (Paging clocked reading mark_at) (stages.Done answer) marks shows = absurd shows

  call_later : (run : Option CallRun) (call : Option Call) (marks : Marks) → ShowsCallOf trace old_host old run call marks → ShowsCallOf trace new_host new run call marks
  call_later None None marks shows = tt
  call_later None (Some call) marks shows = absurd shows
  call_later (Some run) None marks shows = absurd shows
  call_later (Some run) (Some call) marks shows =
      record { some_tries = shows.some_tries; same_tries = shows.same_tries; support = shows.support; stage = stage_later run.tries run.stage call.stage marks shows.stage }

  -- what a client shows stays at a later host and a later segment
  pub client_later : (number : ℕ) (run : ClientRun) (client : ClientState) → ShowsClient trace old_host old number run client → ShowsClient trace new_host new number run client
  client_later number run client shows =
      record {
        same_number = shows.same_number;
        tries = shows.tries;
        left = shows.left;
        begun = shows.begun;
        call = call_later run.call client.call client.marks shows.call;
      }

  pub clients_later : (number : ℕ) (runs : List ClientRun) (clients : List ClientState) → ShowsClients trace old_host old number runs clients → ShowsClients trace new_host new number runs clients
  clients_later number [] [] shows = tt
  clients_later number [] (client ∷ clients) shows = absurd shows
  clients_later number (run ∷ runs) [] shows = absurd shows
  clients_later number (run ∷ runs) (client ∷ clients) shows = (client_later number run client shows.0, clients_later (suc number) runs clients shows.1)

-- ---- one of them

module _ (trace : Trace) (host : HostRun) (segment : SegmentRun) where
  -- a client shows a client, or neither is there
  abbrev pub ShowsClientOf : (number : ℕ) → Option ClientRun → Option ClientState → Type 0
  ShowsClientOf number None None = Unit {0}
  ShowsClientOf number None (Some client) = ⊥
  ShowsClientOf number (Some run) None = ⊥
  ShowsClientOf number (Some run) (Some client) = ShowsClient trace host segment number run client

  -- the client at a place in both lists
  pub clients_get : (number : ℕ) (runs : List ClientRun) (clients : List ClientState) (place : ℕ) → ShowsClients trace host segment number runs clients
      → ShowsClientOf (number + place) (slice_get runs place) (slice_get clients place)
  clients_get number [] [] place shows = tt
  clients_get number [] (client ∷ clients) place shows = absurd shows
  clients_get number (run ∷ runs) [] place shows = absurd shows
  clients_get number (run ∷ runs) (client ∷ clients) zero shows =
      let same : number ≡ number + 0 = omega arith in
      subst (λ (n : ℕ). ShowsClient trace host segment n run client) same shows.0
  clients_get number (run ∷ runs) (client ∷ clients) (suc place) shows =
      let same : suc number + place ≡ number + suc place = omega arith in
      subst (λ (n : ℕ). ShowsClientOf n (slice_get runs place) (slice_get clients place)) same (clients_get (suc number) runs clients place shows.1)

  -- another in its place
  pub clients_set : (number : ℕ) (runs : List ClientRun) (clients : List ClientState) (place : ℕ) (run : ClientRun) (client : ClientState) → ShowsClients trace host segment number runs clients
      → ShowsClient trace host segment (number + place) run client → ShowsClients trace host segment number (slice_set runs place run) (slice_set clients place client)
  clients_set number [] [] place run client shows one = tt
  clients_set number [] (other ∷ clients) place run client shows one = absurd shows
  clients_set number (other ∷ runs) [] place run client shows one = absurd shows
  clients_set number (other ∷ runs) (another ∷ clients) zero run client shows one =
      let same : number + 0 ≡ number = omega arith in
      (subst (λ (n : ℕ). ShowsClient trace host segment n run client) same one, shows.1)
  clients_set number (other ∷ runs) (another ∷ clients) (suc place) run client shows one =
      let same : number + suc place ≡ suc number + place = omega arith in
      (shows.0, clients_set (suc number) runs clients place run client shows.1 (subst (λ (n : ℕ). ShowsClient trace host segment n run client) same one))

-- ---- the start

tries_by : (row : CallRow) (left : List CallRow) (is_its : Bool) → 0 < row.tries → AreTries (map (λ (row : CallRow). row.tries) left) → AreTries (map (λ (row : CallRow). row.tries) (cond is_its (row ∷ left) left))
tries_by row left true some are = (some, are)
tries_by row left false some are = are

-- each call of a lawful trace has tries
pub some_tries : (calls : List CallRow) (client : ℕ) → All IsCallRow calls → AreTries (tries_for calls client)
some_tries [] client all = tt
some_tries (row ∷ calls) client all =
    let some = (All-head IsCallRow row calls all).tries.0 in
    tries_by row (filter (λ (row : CallRow). row.client == client) calls) (row.client == client) (omega (arith, some)) (some_tries calls client (All-tail IsCallRow row calls all))

module _ (trace : Trace) (host : HostRun) (segment : SegmentRun) (calls : List CallRow) (all : All IsCallRow calls) where
  pub clients_start : (number clients : ℕ) → ShowsClients trace host segment number (map (run_start.client_start calls) (range_with_len number clients)) (map (shared_client.client_start calls) (range_with_len number clients))
  clients_start number zero = tt
  clients_start number (suc clients) =
      let next : number + 1 ≡ suc number = omega arith in (
        record { same_number = refl; tries = some_tries calls number all; left = refl; begun = refl; call = tt },
        subst (λ (n : ℕ). ShowsClients trace host segment n (map (run_start.client_start calls) (range_with_len (number + 1) clients)) (map (shared_client.client_start calls) (range_with_len (number + 1) clients)))
            next (clients_start (number + 1) clients),
      )
