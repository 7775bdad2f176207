use Rattle.segment_views.proofs.DaemonLaws.{magic_law, head_law, odd_law, fill_law, even_law, move_odd_law, move_even_law}
use Rattle.segment_views.proofs.laws.daemon_steps.Goals as goal

pub returns : goal.returns
returns c = record { magic = magic_law; head = head_law; odd = odd_law; fill = fill_law; even = even_law; move_odd = move_odd_law; move_even = move_even_law }
