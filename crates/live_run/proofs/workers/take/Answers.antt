use Rattle.std.proofs.Common.{rules}
use Rattle.live_run.proofs.Dealing.{take_stacked}
use Rattle.live_run.proofs.workers.take.Goals as goal

pub returns-clause-stacked : goal.returns-clause-stacked
returns-clause-stacked c = λ client clients on. take_stacked c.args.place c.len.result c.args.workers.now.items c.index_mut.result.now (record { clients = c.pop.new.self }) client clients c.pop.result (search rules) (search rules) (search rules) c.pop.ensures.value c.pop.ensures.rest on
