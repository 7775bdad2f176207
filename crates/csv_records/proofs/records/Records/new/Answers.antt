use Rattle.std.proofs.Common.{◌≡◌, ◌∙◌}
use Rattle.csv_records.specs.Records.{records_ahead, records_of}
use Rattle.csv_records.proofs.Ahead.{length-records_of, records_ahead-new}
use Rattle.csv_records.proofs.Lines.{records_of-rows}
use Rattle.csv_records.proofs.records.Records.new.Goals as goal

pub returns : goal.returns
returns c =
    let from = c.from_reader-reader.ensures in
    let all : records_ahead c.from_reader-reader.result ≡ records_of c.args.bytes.now =
    records_ahead-new c.without_feeds.result.now c.from_reader-reader.result from.source from.state ∙ c.without_feeds.ensures in
    record { all = all; most = rw all (length-records_of c.args.bytes.now); plain = λ plain. all ∙ records_of-rows c.args.bytes.now plain }
