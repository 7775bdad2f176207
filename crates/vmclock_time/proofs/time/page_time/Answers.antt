use Rattle.vmclock_time.proofs.Ends as ends
use Rattle.vmclock_time.proofs.time.page_time.Goals as goal

pub returns-clause-fault : goal.returns-clause-fault
returns-clause-fault c = ends.fault_of_answer c.args.page.now c.args.reading c.interval.result c.interval.ensures

pub returns-clause-accepted : goal.returns-clause-accepted
returns-clause-accepted c = ends.accepted_by_answer c.args.page.now c.args.reading c.interval.result c.interval.ensures

pub returns-clause-interval : goal.returns-clause-interval
returns-clause-interval c = ends.interval_of_answer c.args.page.now c.args.reading c.interval.result c.interval.ensures
