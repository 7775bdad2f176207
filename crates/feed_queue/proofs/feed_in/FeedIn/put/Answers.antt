use Rattle.std.proofs.Common.{rules}
use Rattle.feed_queue.proofs.Moves.{puts, seen_by_putter}
use Rattle.feed_queue.proofs.feed_in.FeedIn.put.Goals as goal

pub push_as-requires-clause-rule : goal.push_as-requires-clause-rule
push_as-requires-clause-rule g c = (puts _ _ _ _ (search rules) (search rules) (search rules), seen_by_putter _ _ (search rules))
