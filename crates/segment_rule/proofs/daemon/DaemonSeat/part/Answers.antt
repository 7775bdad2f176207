use Rattle.std.proofs.Common.{rules}
use Rattle.segment_views.specs.Seats.{IsDaemon, state_stays, whole_view, daemon_part}
use Rattle.segment_views.proofs.SeatLaws.{daemon_part_split}
use Rattle.segment_rule.proofs.Allowed.{splits}
use Rattle.segment_rule.proofs.daemon.DaemonSeat.part.Goals as goal

pub split_seat-requires : goal.split_seat-requires
split_seat-requires c =
    let inv = c.self.invariant in
    (search rules, search rules, splits c.table.inside.table.shared.key IsDaemon state_stays whole_view daemon_part _ _ daemon_part_split inv.1)
