use Rattle.std.proofs.Common.{◌∙◌, ap}
use Rattle.interval_now.specs.Call.{after_segment}
use Rattle.interval_now.proofs.now.follow_segment.Goals as goal

pub returns-clause-value : goal.returns-clause-value
returns-clause-value c = c.after_segment.ensures.value c.args.reader.now ∙ ap (after_segment c.args.reader.now) c.in-Some.ensures.value
