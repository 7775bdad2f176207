-- What the run over 24 words shows of the abstract run: the words, each machine in hand, and the events.
use Rattle.std.specs.Prelude.{◌≡◌, ◌<◌, ◌^◌, length, slice_index}
use Rattle.clock_gate.specs.declared.trace.Trace.{Trace}
use Rattle.clock_gate.specs.Trace.{IsLawfulTrace}
use Rattle.segment_run.specs.ShowsSegment.{ShowsSegment}
use Rattle.abstract_run.specs.Run.{Run}
use Rattle.abstract_run.specs.Given.{AreRows}
use Rattle.step_core.specs.Shared.{Shared}
use Rattle.step_core.specs.ShowsHost.{ShowsHost}
use Rattle.step_core.specs.ShowsClient.{ShowsClients}
use Rattle.step_core.specs.ShowsDaemon.{HasMagicFor, ShowsDaemon}

pub record Shows (trace : Trace) (run : Run) (w : Shared) : Type 0 where
  pub lawful : IsLawfulTrace trace
  pub same_trace : w.trace ≡ trace
  pub rows : AreRows trace.page (length trace.clock) trace.host
  pub host : ShowsHost trace.page trace.host run.host w.host.machine w.words
  pub same_host : w.host.done ≡ run.host.done
  pub segment : ShowsSegment run.segment w.words
  pub same_layout : run.segment.layout ≡ trace.layout
  pub fits : slice_index run.segment.image 1 < 2 ^ 64
  pub daemon : ShowsDaemon trace run.host run.segment run.daemon w.daemon
  pub magic : HasMagicFor run.daemon w.words
  pub clients : ShowsClients trace run.host run.segment 1 run.clients w.clients
  pub same_events : w.events ≡ run.events
