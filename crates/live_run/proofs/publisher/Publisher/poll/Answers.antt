use Rattle.std.proofs.Common.{rules, ◌≡◌, ◌+◌, ◌++◌, ◌∷◌, [], ℕ, List, slice_get, sym, ap, ◌∙◌, subst}
use Rattle.std.specs.Prelude.{IfSome, Option}
use Rattle.feed_queue.specs.declared.feed.Feed.{Feed}
use Rattle.feed_queue.proofs.Feeds.{numbered}
use Rattle.status_machine.specs.declared.daemon.Daemon.{Daemon}
use Rattle.status_machine.specs.declared.heard.Heard.{Heard}
use Rattle.status_machine.specs.Poll.{heard_of}
use Rattle.segment_rule.specs.Polls.{Polls, order_for}
use Rattle.live_report.specs.declared.line.Line.{Line}
use Rattle.live_report.specs.DaemonCalls.{DaemonPlace, PollsNext, CallsNext, DaemonCalls, place_first, goes_on, base_left}
use Rattle.live_report.specs.LiveRun.{setup_of}
use Rattle.live_report.proofs.Chains.{daemon_more}
use Rattle.live_run.specs.Publishing.{place_of, CanPoll}
use Rattle.live_run.proofs.DaemonLines.{poll_of, poll_within, stop_few}
use Rattle.live_run.proofs.publisher.Publisher.poll.Goals as goal

pub start-requires-clause-due : goal.start-requires-clause-due
start-requires-clause-due c = poll_within c.args.trace.now.polls c.args.self.now.polled c.args.feed.now c.requires.next

pub step-polled-requires-clause-stop : goal.step-polled-requires-clause-stop
step-polled-requires-clause-stop c = stop_few c.args.trace.now c.args.self.now.polled c.args.feed.now c.requires.lawful c.requires.next

pub returns-clause-polled : goal.returns-clause-polled
returns-clause-polled c = numbered c.args.trace.now.polls c.args.self.now.polled c.args.feed.now c.requires.next

pub returns-clause-publishes : goal.returns-clause-publishes
returns-clause-publishes c =
    let trace = c.args.trace.now in
    let feed = c.args.feed.now in
    let begun = c.start.new.self in
    let was = c.start.ensures.publishes in
    let of = poll_of trace.polls c.args.self.now.polled feed c.requires.next in
    let e = c.step-polled.ensures in
    let daemon = c.in-Some.daemon in
    let polled = c.step-polled.result in
    let stop : feed.stop ≡ of.row.stop = ap (λ (f : Feed). f.stop) of.feed in
    let heard : feed.heard ≡ heard_of of.row.reply = ap (λ (f : Feed). f.heard) of.feed in
    let number : feed.number ≡ begun.polled + 1 = numbered trace.polls c.args.self.now.polled feed c.requires.next ∙ ap (λ (n : ℕ). n + 1) (sym c.start.ensures.same) in
    let after : DaemonPlace = record { view = c.step-polled.new.self.seat.view; polled = feed.number; daemon = c.goes_on-self.result; base = c.base_left-self.result } in
    let polls : PollsNext trace (place_of begun) feed.number polled after = record {
      daemon = daemon;
      goes = search rules;
      row = of.row;
      row_is = ap (slice_get trace.polls) c.start.ensures.same ∙ of.row_is;
      poll_is = number;
      polls = subst (λ (x : Heard × Option ℕ). Polls trace.clock (order_for begun.seat.view daemon feed.number x.0 x.1 trace.tries) begun.seat.view polled c.step-polled.new.self.seat.view) (λ i. (heard i, stop i)) e.polls;
      polled_after = number;
      daemon_after = c.goes_on-self.ensures ∙ ap (λ (s : Option ℕ). goes_on s daemon polled) stop;
      base_after = c.base_left-self.ensures ∙ ap (λ (n : ℕ). base_left n polled) e.same.1;
    } in
    let next : CallsNext trace (place_of begun) c.polled_line-line.result after = subst (λ (l : Line). CallsNext trace (place_of begun) l after) (sym c.polled_line-line.ensures) polls in
    let lines : c.say.new.lines.items ≡ begun.lines.items ++ c.polled_line-line.result ∷ [] = search rules in
    record {
      of_table = e.table ∙ was.of_table;
      of_setup = e.polls.setup ∙ was.of_setup;
      running = subst (λ (o : Option Daemon). IfSome o (CanPoll trace c.step-polled.new.self.seat)) (sym c.goes_on-self.ensures) e.running;
      calls = subst (λ (l : List Line). DaemonCalls trace (place_first (setup_of trace)) l after) (sym lines)
          (daemon_more trace (place_first (setup_of trace)) begun.lines.items (place_of begun) c.polled_line-line.result after was.calls next);
    }
