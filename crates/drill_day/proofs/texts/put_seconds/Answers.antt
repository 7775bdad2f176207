use Rattle.std.proofs.Common.{◌≡◌, ◌+◌, ◌-◌, ◌++◌, refl, arith}
use Rattle.std.specs.Prelude.{vec_items}
use Rattle.drill_day.specs.Seconds.{middle_of, stop_second}
use Rattle.drill_day.specs.Text.{second_text, seconds_text}
use Rattle.drill_day.proofs.Rounds.{rounds_end, rounds_start, rounds_step}
use Rattle.drill_day.proofs.texts.put_seconds.Goals as goal

pub seconds-init : goal.seconds-init
unfolding seconds_text
seconds-init c =
    rounds_start (second_text (middle_of c.args.polls) (stop_second c.args.polls)) (vec_items c.args.text.now) (vec_items c.args.text.now)
    (vec_items c.args.text.now ++ seconds_text c.args.seed c.args.polls) c.args.seed 1 (c.args.polls + 1 - 1) c.args.polls refl refl (omega arith)

pub seconds-preserved : goal.seconds-preserved
seconds-preserved c =
    let more : vec_items c.put_second.new.text ≡ vec_items c.seconds.text ++ second_text (middle_of c.args.polls) (stop_second c.args.polls) c.seconds.k c.seconds.x =
    cc (c.in_ok-put_second.ensures, c.middle_of-middle.ensures, c.stop_second-stopped.ensures) in
    rounds_step (second_text (middle_of c.args.polls) (stop_second c.args.polls)) (vec_items c.seconds.text) (vec_items c.put_second.new.text)
    (vec_items c.args.text.now ++ seconds_text c.args.seed c.args.polls) c.seconds.x c.after_two-x.result c.seconds.k (c.args.polls + 1 - c.seconds.k) (c.args.polls + 1 - (c.seconds.k + 1))
    more c.after_two-x.ensures (omega arith) c.seconds.invariant

pub returns : goal.returns
returns c =
    rounds_end (second_text (middle_of c.args.polls) (stop_second c.args.polls)) (vec_items c.seconds.text)
    (vec_items c.args.text.now ++ seconds_text c.args.seed c.args.polls) c.seconds.x c.seconds.k (c.args.polls + 1 - c.seconds.k) (omega arith) c.seconds.invariant
