use Rattle.std.proofs.Common.{rules, ◌≡◌, ℕ, refl, ap, ◌∙◌, subst}
use Rattle.segment_views.specs.Steps.{MayLoad, same_state}
use Rattle.segment_views.specs.Views.{SeatView}
use Rattle.segment_views.specs.Seats.{taught_by, spent, told_view, TellsTaught}
use Rattle.segment_views.proofs.SeatLaws.{join_law, tell_law}
use Rattle.segment_rule.specs.Settled.{HasLearned}
use Rattle.segment_rule.proofs.Allowed.{joins, loads}
use Rattle.segment_rule.proofs.settle.learn.Goals as goal

-- what the load tells, of the seat that was joined
learned : (v other w joined : SeatView) (found : ℕ) → joined ≡ taught_by v other → TellsTaught joined found found w → HasLearned v other w
learned v other w joined found is told =
    let same : TellsTaught (taught_by v other) found found w = subst (λ (x : SeatView). TellsTaught x found found w) is told in
    record { view = same.view; daemon = same.daemon; host = same.host }

pub join_seat-requires : goal.join_seat-requires
join_seat-requires c =
    (search rules, search rules, search rules, search rules, joins c.table.inside.table.shared.key taught_by spent _ _ _ _ join_law)

pub load-requires : goal.load-requires
load-requires c =
    let joined = c.join_seat.ensures in
    (search rules, search rules, loads c.table.inside.table.shared.key 0 MayLoad same_state told_view TellsTaught _ _ _ tell_law (λ n. (refl, ap (λ m. m.0.seated) joined.2 ∙ c.requires.seated)))

pub returns-clause-learned : goal.returns-clause-learned
returns-clause-learned c =
    let joined = c.join_seat.ensures in
    let told = c.load.ensures.2 in
    learned _ _ _ _ _ (ap (λ m. m.0) joined.2) told.1
