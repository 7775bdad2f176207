-- What a turn of the daemon leaves, and facts of the daemon that do not depend on its work.
use Rattle.std.proofs.Common.{◌≡◌, ℕ, List, Option, Some, None, refl, sym, ◌∙◌}
use Rattle.std.specs.Prelude.{slice_index}
use Rattle.clock_gate.specs.declared.trace.Trace.{Trace}
use Rattle.segment_layout.specs.declared.start.Start.TheVariants.{Fresh, Kept, Torn}
use Rattle.segment_layout.specs.declared.words.TheConstants.{MAGIC}
use Rattle.segment_run.specs.SegmentRun.{SegmentRun, number_shown}
use Rattle.segment_run.specs.ShowsSegment.{ShowsSegment, IsSegmentLater, KeepsRest}
use Rattle.writer_reopen.specs.declared.order.Order.{Order}
use Rattle.abstract_run.specs.HostRun.{HostRun}
use Rattle.abstract_run.specs.DaemonRun as run_daemon
use Rattle.abstract_run.specs.DaemonRun.{Life, Work, Resting, Opening, Asking, Looking, Taking, Writing, DaemonRun}
use Rattle.step_core.specs.declared.hand.Resumed.{Resumed}
use Rattle.step_core.specs.SharedDaemon as shared_daemon
use Rattle.step_core.specs.ShowsDaemon.{IsAlive, ShowsResumed, IsOrder, HasMagicWhile, HasMagicFor, ShowsDaemon}

-- the run's turn and the turn over words come to the same, beside the words
pub record Leaves (trace : Trace) (host : HostRun) (next : run_daemon.DaemonTurn) (turn : shared_daemon.DaemonTurn) : Type 0 where
  pub shows : ShowsDaemon trace host next.segment next.daemon turn.daemon
  pub told : turn.told ≡ next.events

-- and the words after it show the segment
pub record Turned (trace : Trace) (host : HostRun) (segment : SegmentRun) (words after : List ℕ) (next : run_daemon.DaemonTurn) (turn : shared_daemon.DaemonTurn) : Type 0 where
  pub leaves : Leaves trace host next turn
  pub segment_shown : ShowsSegment next.segment after
  pub later : IsSegmentLater segment next.segment
  pub rest : KeepsRest words after
  pub same_layout : next.segment.layout ≡ segment.layout
  pub magic : HasMagicFor next.daemon after

-- where word 0 is the magic it is so for any work
pub magic_while : (work : Work) (life : Option Life) (words : List ℕ) → slice_index words 0 ≡ MAGIC → HasMagicWhile work life words
magic_while (Opening Fresh old steps) life words magic = λ past. magic
magic_while (Opening (Torn generation) old steps) life words magic = magic
magic_while (Opening (Kept generation rec) old steps) life words magic = magic
magic_while Resting None words magic = tt
magic_while Resting (Some life) words magic = magic
magic_while Asking None words magic = tt
magic_while Asking (Some life) words magic = magic
magic_while (Looking row reading marked_at) None words magic = tt
magic_while (Looking row reading marked_at) (Some life) words magic = magic
magic_while (Taking asked) None words magic = tt
magic_while (Taking asked) (Some life) words magic = magic
magic_while (Writing storing) None words magic = tt
magic_while (Writing storing) (Some life) words magic = magic

-- a daemon that lives stands by itself between two polls
pub resumed_is : (trace : Trace) (segment : SegmentRun) (life : Option Life) (resumed : Resumed) → IsAlive trace life resumed.daemon → resumed.generation ≡ number_shown segment
    → ShowsResumed trace segment life (Some resumed)
resumed_is trace segment None resumed alive number = absurd alive
resumed_is trace segment (Some life) resumed alive number = (alive, number)

-- what the machine was begun with depends on the number of the poll alone
pub order_same : (trace : Trace) (old new : DaemonRun) (order : Order) → new.polled ≡ old.polled → IsOrder trace old order → IsOrder trace new order
order_same trace old new order same is =
    record {
      layout = is.layout;
      number = is.number ∙ sym same;
      heard = is.heard ∙ rw same refl;
      stop = is.stop ∙ rw same refl;
      tries = is.tries;
    }
