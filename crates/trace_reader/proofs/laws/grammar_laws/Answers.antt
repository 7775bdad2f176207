use Rattle.trace_reader.proofs.Lawful.{traces_are_runnable}
use Rattle.trace_reader.proofs.Spelled.{faults_are_first, traces_say}
use Rattle.trace_reader.proofs.laws.grammar_laws.Goals as goal

pub returns : goal.returns
returns c = record { faults = faults_are_first; traces = traces_say; runnable = traces_are_runnable }
