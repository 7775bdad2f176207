use Rattle.std.proofs.Common.{rules, ◌≡◌, drop, refl, ap, ◌∙◌}
use Rattle.segment_views.specs.Views.{SeatView}
use Rattle.live_report.specs.LiveRun.{part_after_rows, host_first, setup_of}
use Rattle.live_run.specs.Publishing.{place_of}
use Rattle.live_report.proofs.Clients.{clients_within}
use Rattle.live_run.proofs.Dealing.{worked_off}
use Rattle.live_run.proofs.run.run_in.Goals as goal

pub dealt-workers-requires-clause-clients : goal.dealt-workers-requires-clause-clients
dealt-workers-requires-clause-clients g c = let within = clients_within c.args.trace.now c.requires.trace.can.lawful in (c.requires.room.all_plans, within.0, within.1)

pub gather-requires-clause-off : goal.gather-requires-clause-off
gather-requires-clause-off g c = worked_off c.args.table.now c.args.trace.now c.dealt-workers.result.items c.all_run-host.result.1.0.items c.dealt-workers.ensures.dealt c.all_run-host.ensures.done

pub gather-requires-clause-gathering : goal.gather-requires-clause-gathering
gather-requires-clause-gathering g c =
    let trace = c.args.trace.now in
    let published = c.all_run-host.ensures.published in
    let first : c.args.host.view ≡ host_first (setup_of trace) = c.requires.host.1 ∙ ap host_first c.requires.setup in
    record {
      lawful = c.requires.trace.can.lawful;
      host_table = c.all_run-host.ensures.host ∙ c.requires.host.0;
      daemon_table = published.publishes.of_table;
      host = c.all_run-host.ensures.rows ∙ ap (λ (v : SeatView). record v { host_part = part_after_rows (drop 1 trace.host) v.host_part }) first;
      last = place_of c.all_run-host.result.1.1;
      daemon = refl;
      calls = published.publishes.calls;
      polled = published.all;
      none = c.requires.room.no_seats;
      no_answers = c.requires.room.no_answers;
      answer_places = c.requires.room.answers;
      places = search rules;
    }

pub dealt-workers-requires-clause-idle : goal.dealt-workers-requires-clause-idle
dealt-workers-requires-clause-idle g c = c.requires.room.idle c.args.table.now c.args.trace.now.clock
