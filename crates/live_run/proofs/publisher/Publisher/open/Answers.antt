use Rattle.std.proofs.Common.{◌≡◌, ◌+◌, List, Some, refl, sym, ap, ◌∙◌, subst, arith}
use Rattle.std.specs.Prelude.{is_some}
use Rattle.status_machine.specs.declared.daemon.Daemon.{Daemon}
use Rattle.status_machine.specs.Step.{daemon_begun}
use Rattle.live_report.specs.declared.line.Line.{Line}
use Rattle.live_report.specs.DaemonCalls.{DaemonPlace, OpensNext, CallsNext, DaemonCalls, place_first}
use Rattle.live_report.specs.LiveRun.{setup_of}
use Rattle.live_report.proofs.Chains.{daemon_more}
use Rattle.live_run.specs.Publishing.{place_of}
use Rattle.live_run.proofs.publisher.Publisher.open.Goals as goal

pub returns-clause-publishes : goal.returns-clause-publishes
returns-clause-publishes c =
    let old = c.args.self.now in
    let trace = c.args.trace.now in
    let was = c.requires.publishes in
    let opening = c.reopen-opening.result in
    let e = c.reopen-opening.ensures in
    let value = c.resume.ensures.value in
    let drift : c.resume.result.drift ≡ trace.drift = ap (λ (d : Daemon). d.drift) value in
    let few = c.requires.lawful.drift in
    let support : c.resume.result.support ≡ is_some trace.page = ap (λ (d : Daemon). d.support) value ∙ c.is_some.ensures in
    let after : DaemonPlace = record { view = c.reopen-opening.new.self.view; polled = old.polled; daemon = Some c.resume.result; base = c.base_opened-base.result } in
    let opens : OpensNext trace (place_of old) (old.polled + 1) opening.start opening.moved after = record {
      stopped = c.requires.stopped;
      due = c.requires.due;
      poll_is = refl;
      reopens = e.reopens;
      polled_after = refl;
      daemon_after = ap (λ (d : Daemon). Some d) (value ∙ (λ i. daemon_begun (record { start = opening.start; drift = trace.drift; support = c.is_some.ensures i; base = c.base_opened-base.ensures i })));
      base_after = c.base_opened-base.ensures;
    } in
    let next : CallsNext trace (place_of old) c.opened_line-line.result after = subst (λ (l : Line). CallsNext trace (place_of old) l after) (sym c.opened_line-line.ensures) opens in
    record {
      of_table = e.table ∙ was.of_table;
      of_setup = e.reopens.setup ∙ was.of_setup;
      running = record { is_open = e.open; support = support; fits = record { drift = omega (arith, drift, few); base = c.resume.ensures.base } };
      calls = subst (λ (l : List Line). DaemonCalls trace (place_first (setup_of trace)) l after) (sym c.say.ensures.items)
          (daemon_more trace (place_first (setup_of trace)) old.lines.items (place_of old) c.opened_line-line.result after was.calls next);
    }
