use Rattle.std.proofs.Common.{◌∙◌, ap}
use Rattle.interval_now.specs.Call.{after_page}
use Rattle.interval_now.proofs.now.follow_page.Goals as goal

pub returns-clause-value : goal.returns-clause-value
returns-clause-value c = c.after_page.ensures.value c.args.reader.now ∙ ap (after_page c.args.generation c.args.rec.now c.args.reading c.args.reader.now) c.in-Some.ensures.value
