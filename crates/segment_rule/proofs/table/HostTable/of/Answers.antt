use Rattle.std.proofs.Common.{rules, sym, subst, ◌∙◌}
use Rattle.vmclock_page.specs.Host.{Host}
use Rattle.segment_rule.specs.Hosts.{IsBetweenRows}
use Rattle.segment_views.specs.Seats.{opening_state, IsHost, IsDaemon, host_to, daemon_to, without_host, without_daemon}
use Rattle.segment_views.proofs.SeatLaws.{opens, host_split, daemon_split}
use Rattle.segment_rule.proofs.Allowed.{splits}
use Rattle.segment_rule.proofs.Opening.{part_opener}
use Rattle.segment_rule.proofs.Hosting.{first_rests}
use Rattle.segment_rule.proofs.table.HostTable.of.Goals as goal

pub of_words-requires : goal.of_words-requires
of_words-requires c = let made = c.opening-words.ensures in
    (opening_state c.args.setup.now, opens c.args.setup.now c.opening-words.result c.requires.setup (record { wide = made.len; image = made.image; page = λ i lt. made.page i lt ∙ c.page_words-page.ensures.words i lt; row = made.row }))

pub split_seat-host-requires : goal.split_seat-host-requires
split_seat-host-requires c = let made = c.in_ok-table.ensures in
    (search rules, search rules, splits c.in_ok-table.table.shared.key IsHost host_to without_host without_daemon _ _ host_split (search rules))

pub split_seat-daemon-requires : goal.split_seat-daemon-requires
split_seat-daemon-requires c = let made = c.in_ok-table.ensures in let cut = c.split_seat-host.ensures in
    (search rules, search rules, splits c.in_ok-table.table.shared.key IsDaemon daemon_to without_daemon without_host _ _ daemon_split (search rules))

pub resting-requires-2-clause-owned : goal.resting-requires-2-clause-owned
resting-requires-2-clause-owned c = let made = c.opening-words.ensures in
    part_opener c.args.setup.now c.opening-words.result _ c.requires.setup (record { wide = made.len; image = made.image; page = λ i lt. made.page i lt ∙ c.page_words-page.ensures.words i lt; row = made.row }) (search rules)

pub resting-requires-clause-between : goal.resting-requires-clause-between
resting-requires-clause-between c = subst (λ (m : Host). IsBetweenRows m c.split_seat-host.result.me.0) (sym c.requires.machine) (first_rests c.args.setup.now c.split_seat-host.result.me.0 (search rules) c.requires.setup.page)
