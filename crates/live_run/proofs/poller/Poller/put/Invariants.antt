use Rattle.std.proofs.Common.{◌≡◌}
use Rattle.feed_queue.specs.Feeds.{IsNext}
use Rattle.live_run.proofs.poller.Poller.put.Given as goal

abbrev pub invariant-putting : goal.invariant-putting
invariant-putting g l = record {
  queue : l.self.input.queue ≡ l.queue;
  same : l.self.queue ≡ l.fn.self.queue;
  polls : l.self.polls ≡ l.fn.self.polls;
  input : l.self.input ≡ l.fn.self.input;
  next : IsNext l.self.input.polls l.self.input.count l.feed;
}
