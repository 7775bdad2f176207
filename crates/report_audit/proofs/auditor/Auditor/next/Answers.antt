use Rattle.std.proofs.Common.{ℕ, List, drop, Option, Bor}
use Rattle.lawful_report.specs.Lawful.{Heading, Opening, Moving, Polling, Stopping, Answering}
use Rattle.lawful_report.specs.Course.{Course}
use Rattle.lawful_report.specs.declared.counts.Counts.{Counts}
use Rattle.report_audit.specs.NextLine.{Holds, NextFound, at}
use Rattle.report_audit.specs.declared.due.Due.TheVariants as dues
use Rattle.report_audit.specs.declared.known.Known.{Known}
use Rattle.report_audit.proofs.AuditorSteps.{ok_map}
use Rattle.report_audit.proofs.DueKinds.{due_shown, ok_at}
use Rattle.report_audit.proofs.auditor.Auditor.next.Goals as goal

pub returns-in-Heading : goal.returns-in-Heading
returns-in-Heading c = ok_at c.args.trace.now c.args.known.now c.args.text.now c.args.self.now c.heading.new.self Heading c.heading.result (λ standing shows. due_shown c.args.known.now standing.due c.args.self.now.due dues.Heading c.in-Heading.is shows.due_is) c.heading.ensures

pub returns-in-Opening : goal.returns-in-Opening
returns-in-Opening c = ok_at c.args.trace.now c.args.known.now c.args.text.now c.args.self.now c.opening.new.self Opening c.opening.result (λ standing shows. due_shown c.args.known.now standing.due c.args.self.now.due dues.Opening c.in-Opening.is shows.due_is)
    (ok_map (λ (found : Option (Bor (List ℕ))). (known : Known) (course : Course) (counts : Counts) → Holds course counts c.args.self.now → NextFound c.args.trace.now known (at course counts Opening) c.args.text.now found c.opening.new.self)
    (λ found. (course : Course) (counts : Counts) → Holds course counts c.args.self.now → NextFound c.args.trace.now c.args.known.now (at course counts Opening) c.args.text.now found c.opening.new.self) c.opening.result (λ found all. all c.args.known.now) c.opening.ensures)

pub returns-in-Moving : goal.returns-in-Moving
returns-in-Moving c = ok_at c.args.trace.now c.args.known.now c.args.text.now c.args.self.now c.moving.new.self Moving c.moving.result (λ standing shows. due_shown c.args.known.now standing.due c.args.self.now.due dues.Moving c.in-Moving.is shows.due_is)
    (ok_map (λ (found : Option (Bor (List ℕ))). (known : Known) (course : Course) (counts : Counts) → Holds course counts c.args.self.now → NextFound c.args.trace.now known (at course counts Moving) c.args.text.now found c.moving.new.self)
    (λ found. (course : Course) (counts : Counts) → Holds course counts c.args.self.now → NextFound c.args.trace.now c.args.known.now (at course counts Moving) c.args.text.now found c.moving.new.self) c.moving.result (λ found all. all c.args.known.now) c.moving.ensures)

pub returns-in-Polling : goal.returns-in-Polling
returns-in-Polling c = ok_at c.args.trace.now c.args.known.now c.args.text.now c.args.self.now c.polling.new.self Polling c.polling.result (λ standing shows. due_shown c.args.known.now standing.due c.args.self.now.due dues.Polling c.in-Polling.is shows.due_is) c.polling.ensures

pub returns-in-Stopping : goal.returns-in-Stopping
returns-in-Stopping c = ok_at c.args.trace.now c.args.known.now c.args.text.now c.args.self.now c.stopping.new.self Stopping c.stopping.result (λ standing shows. due_shown c.args.known.now standing.due c.args.self.now.due dues.Stopping c.in-Stopping.is shows.due_is) c.stopping.ensures

pub returns-in-Answering : goal.returns-in-Answering
returns-in-Answering c = ok_at c.args.trace.now c.args.known.now c.args.text.now c.args.self.now c.answering.new.self (Answering c.in-Answering.seen (drop c.in-Answering.place c.args.known.now.calls)) c.answering.result (λ standing shows. due_shown c.args.known.now standing.due c.args.self.now.due (dues.Answering c.in-Answering.seen c.in-Answering.place) c.in-Answering.is shows.due_is) c.answering.ensures
