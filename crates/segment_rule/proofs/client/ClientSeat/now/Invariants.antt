use Rattle.std.proofs.Common.{◌≡◌, true, false}
use Rattle.interval_now.specs.Call.{Agrees}
use Rattle.segment_views.specs.Steps.{calls_of}
use Rattle.segment_rule.specs.Calls.{IsSameSeat}
use Rattle.segment_rule.proofs.client.ClientSeat.now.Given as goal

abbrev pub invariant-calling : goal.invariant-calling
invariant-calling l = record {
  same : IsSameSeat l.fn.self l.self;
  hand : l.self.in_hand ≡ true;
  tries : l.self.tries ≡ l.fn.tries;
  reading : Agrees l.clock l.self.reading;
  fresh : l.self.begun ≡ false → l.self.view ≡ l.fn.self.view;
  begun : l.self.begun ≡ true → l.self.view.calls ≡ calls_of l.fn.self.view;
  before : l.self.begun ≡ true → l.self.view.before ≡ l.fn.self.view.seen;
}

abbrev pub decreases-calling : goal.decreases-calling
decreases-calling l = l.self.left
