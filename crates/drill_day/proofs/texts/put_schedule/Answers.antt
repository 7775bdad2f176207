use Rattle.std.proofs.Common.{◌≡◌, ◌+◌, ◌-◌, ◌++◌, refl, arith}
use Rattle.std.specs.Prelude.{vec_items}
use Rattle.drill_day.specs.Day.{lines_of}
use Rattle.drill_day.specs.Draws.{rounds}
use Rattle.drill_day.specs.Text.{schedule_text, turn_line}
use Rattle.drill_day.proofs.Rounds.{rounds_end, rounds_start, rounds_step}
use Rattle.drill_day.proofs.texts.put_schedule.Goals as goal

pub lines-init : goal.lines-init
unfolding schedule_text
lines-init c =
    let whole : vec_items c.args.text.now ++ schedule_text c.args.seed c.args.polls ≡ vec_items c.args.text.now ++ rounds turn_line c.after_rounds-x.result 1 (lines_of c.args.seed c.args.polls) = rw c.after_rounds-x.ensures refl in
    rounds_start turn_line (vec_items c.args.text.now) (vec_items c.args.text.now) (vec_items c.args.text.now ++ schedule_text c.args.seed c.args.polls) c.after_rounds-x.result 1 (lines_of c.args.seed c.args.polls - 0) (lines_of c.args.seed c.args.polls) refl whole (omega arith)

pub lines-preserved : goal.lines-preserved
lines-preserved c =
    let more : vec_items c.put_turn.new.text ≡ vec_items c.lines.text ++ turn_line (c.lines._line + 1) c.lines.x = cc (c.in_ok-put_turn.ensures, c.turn_of.ensures, c.draw_of.ensures, c.second_draw_of.ensures) in
    rounds_step turn_line (vec_items c.lines.text) (vec_items c.put_turn.new.text) (vec_items c.args.text.now ++ schedule_text c.args.seed c.args.polls) c.lines.x c.after_two-x.result (c.lines._line + 1) (lines_of c.args.seed c.args.polls - c.lines._line) (lines_of c.args.seed c.args.polls - (c.lines._line + 1))
    more c.after_two-x.ensures (let count = c.lines_of-count.ensures.exact in omega arith) c.lines.invariant

pub returns : goal.returns
returns c =
    rounds_end turn_line (vec_items c.lines.text) (vec_items c.args.text.now ++ schedule_text c.args.seed c.args.polls) c.lines.x (c.lines._line + 1) (lines_of c.args.seed c.args.polls - c.lines._line)
    (let count = c.lines_of-count.ensures.exact in omega arith) c.lines.invariant
