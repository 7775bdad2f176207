use Rattle.std.proofs.Common.{◌≡◌}
use Rattle.feed_queue.proofs.tests.eight_feeds_fit_and_the_ninth_comes_back.Given as goal

abbrev pub invariant-puts : goal.invariant-puts
invariant-puts g l = (l.input.queue ≡ l.initial.input.queue) × (l.output.queue ≡ l.initial.output.queue) × (l.input.polls ≡ l.initial.input.polls)
