use Rattle.std.proofs.Common.{◌≡◌, ℕ, List, Option, Some, Bor, rules}
use Rattle.std.specs.Prelude.{slice_get}
use Rattle.clock_gate.specs.declared.trace.PollRow.{PollRow}
use Rattle.lawful_report.specs.declared.counts.Counts.{Counts}
use Rattle.lawful_report.specs.Course.{Course}
use Rattle.lawful_report.specs.Lawful.{Polling}
use Rattle.report_audit.specs.NextLine.{Holds, NextFound, NoSkip, at}
use Rattle.report_audit.proofs.AuditorSteps.{ok_map}
use Rattle.report_audit.proofs.auditor.Auditor.unskipped.Goals as goal

pub returns-in-Some-stop : goal.returns-in-Some-stop
returns-in-Some-stop c =
    let is : slice_get c.args.trace.now.polls c.args.self.now.progress.polled ≡ Some c.in-Some.row.now = search rules in
    let stop : c.in-Some.row.now.stop ≡ Some c.in-Some-stop.stores = search rules in
    ok_map (λ (found : Option (Bor (List ℕ))). (course : Course) (counts : Counts) (row : PollRow) → Holds course counts c.args.self.now → slice_get c.args.trace.now.polls c.args.self.now.progress.polled ≡ Some row → row.stop ≡ Some c.in-Some-stop.stores → NoSkip c.args.trace.now course c.args.text.now → NextFound c.args.trace.now c.args.known.now (at course counts Polling) c.args.text.now found c.stopped.new.self)
    (λ found. (course : Course) (counts : Counts) → Holds course counts c.args.self.now → NoSkip c.args.trace.now course c.args.text.now → NextFound c.args.trace.now c.args.known.now (at course counts Polling) c.args.text.now found c.stopped.new.self)
    c.stopped.result (λ found all course counts holds no_skip. all course counts c.in-Some.row.now holds is stop no_skip) c.stopped.ensures
