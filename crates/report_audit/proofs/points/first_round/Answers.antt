use Rattle.lawful_report.proofs.PointLaws.{number_of_round, least_round}
use Rattle.report_audit.proofs.points.first_round.Goals as goal

pub returns-clause-has : goal.returns-clause-has
returns-clause-has c = number_of_round c.args.period c.args.number c.rounds_up-rounds.result c.requires.low c.requires.high

pub returns-clause-least : goal.returns-clause-least
returns-clause-least c n le is = least_round c.args.period c.args.number c.args.from c.rounds_up-rounds.result n c.requires.some c.requires.low c.if-from-number.false c.rounds_up-rounds.ensures le is
