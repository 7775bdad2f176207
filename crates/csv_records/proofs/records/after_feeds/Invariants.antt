use Rattle.std.proofs.Common.{◌≡◌, length}
use Rattle.csv.specs.Reading.{default_config, records}
use Rattle.csv_records.proofs.records.after_feeds.Given as goal

abbrev pub invariant-feeds : goal.invariant-feeds
invariant-feeds l = records default_config l.rest ≡ records default_config l.text

abbrev pub decreases-feeds : goal.decreases-feeds
decreases-feeds l = length l.rest
