use Rattle.std.proofs.Common.{◌≡◌, ◌+◌, ◌*◌, ◌≤◌, vec_len, vec_capacity}
use Rattle.live_run.specs.Publishing.{Publishes}
use Rattle.live_run.proofs.feeding.publish.Given as goal

abbrev pub invariant-polls : goal.invariant-polls
invariant-polls g l = record {
  queue : l.output.queue ≡ l.queue;
  polls : l.output.polls ≡ l.trace.polls;
  taken : l.output.count ≡ l.done;
  polled : l.publisher.polled ≡ l.done;
  publishes : Publishes l.trace l.table l.publisher;
  lines : vec_len l.publisher.lines ≤ vec_len l.fn.publisher.lines + 2 * l.done;
  room : vec_capacity l.publisher.lines ≡ vec_capacity l.fn.publisher.lines;
}
