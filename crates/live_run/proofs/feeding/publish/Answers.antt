use Rattle.std.proofs.Common.{refl, arith}
use Rattle.live_run.proofs.feeding.publish.Goals as goal

pub polls-init : goal.polls-init
polls-init g c = record {
  queue = c.requires.queue;
  polls = c.requires.fresh.0;
  taken = c.requires.fresh.1;
  polled = c.requires.begins.none;
  publishes = c.requires.begins.publishes;
  lines = omega arith;
  room = refl;
}
