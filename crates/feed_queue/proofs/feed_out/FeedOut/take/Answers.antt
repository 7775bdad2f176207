use Rattle.std.proofs.Common.{rules}
use Rattle.feed_queue.proofs.Moves.{takes, seen_by_taker}
use Rattle.feed_queue.proofs.feed_out.FeedOut.take.Goals as goal

pub pop_as-requires-clause-rule : goal.pop_as-requires-clause-rule
pop_as-requires-clause-rule g c = (takes _ _ (search rules) (search rules), seen_by_taker _ _ (search rules))
