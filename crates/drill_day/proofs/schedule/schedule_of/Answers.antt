use Rattle.std.proofs.Common.{◌≡◌, ◌+◌, ◌-◌, ◌++◌, [], refl, arith}
use Rattle.drill_day.specs.Day.{lines_of, schedule_of}
use Rattle.drill_day.specs.Seconds.{turns_in}
use Rattle.drill_day.specs.Draws.{rounds}
use Rattle.drill_day.proofs.Rounds.{rounds_end, rounds_start, rounds_step}
use Rattle.drill_day.proofs.schedule.schedule_of.Goals as goal

pub lines-init : goal.lines-init
unfolding schedule_of
lines-init c =
    let count : c.lines_of-count.result - 0 ≡ lines_of c.args.seed c.args.polls = omega (arith, c.lines_of-count.ensures.exact) in
    let whole : schedule_of c.args.seed c.args.polls ≡ [] ++ rounds turns_in c.after_rounds-x.result 1 (lines_of c.args.seed c.args.polls) = rw c.after_rounds-x.ensures refl in
    rounds_start turns_in [] c.in_ok-turns.turns.items (schedule_of c.args.seed c.args.polls) c.after_rounds-x.result 1 (c.lines_of-count.result - 0) (lines_of c.args.seed c.args.polls) c.in_ok-turns.ensures.items whole count

pub lines-preserved : goal.lines-preserved
lines-preserved c =
    let more : c.push.new.self.items ≡ c.lines.turns.items ++ turns_in (c.lines._line + 1) c.lines.x = cc (c.in_ok-push.ensures.items, c.turn_of.ensures, c.draw_of.ensures, c.second_draw_of.ensures) in
    rounds_step turns_in c.lines.turns.items c.push.new.self.items (schedule_of c.args.seed c.args.polls) c.lines.x c.after_two-x.result (c.lines._line + 1) (c.lines_of-count.result - c.lines._line) (c.lines_of-count.result - (c.lines._line + 1))
    more c.after_two-x.ensures (omega arith) c.lines.invariant

pub returns : goal.returns
returns c = rounds_end turns_in c.lines.turns.items (schedule_of c.args.seed c.args.polls) c.lines.x (c.lines._line + 1) (c.lines_of-count.result - c.lines._line) (omega arith) c.lines.invariant
