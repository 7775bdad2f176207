use Rattle.std.proofs.Common.{rules}
use Rattle.segment_views.specs.Seats.{IsSeated, state_stays, whole_view, part_of}
use Rattle.segment_views.proofs.SeatLaws.{part_split}
use Rattle.segment_rule.proofs.Allowed.{splits}
use Rattle.segment_rule.proofs.client.ClientSeat.part.Goals as goal

pub split_seat-requires : goal.split_seat-requires
split_seat-requires c =
    let inv = c.self.invariant in
    (search rules, search rules, splits c.table.inside.table.shared.key IsSeated state_stays whole_view part_of _ _ part_split inv.1)
