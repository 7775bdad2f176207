use Rattle.std.specs.Prelude.{IsOk}
use Rattle.std.proofs.lemmas.Result.{IfOk-weaker}
use Rattle.clock_gate.specs.Trace.{IsLawfulTrace}
use Rattle.clock_gate.specs.declared.trace.Trace.{Trace}
use Rattle.segment_layout.specs.Image.{image_of}
use Rattle.vmclock_page.specs.Rows.{ArePageRows, IsStartPage}
use Rattle.trace_reader.specs.Laws.{IsRunnable}
use Rattle.trace_reader.proofs.Lawful.{answers_kept}
use Rattle.trace_reader.proofs.reader.read_trace.Goals as goal

pub returns-clause-lawful : goal.returns-clause-lawful
returns-clause-lawful c =
    IfOk-weaker c.read_records.result IsRunnable IsLawfulTrace (λ trace h. h.lawful) (answers_kept c.args.bytes.now c.read_records.result c.read_records.ensures)

pub returns-clause-image : goal.returns-clause-image
returns-clause-image c =
    IfOk-weaker c.read_records.result IsRunnable (λ (trace : Trace). IsOk (image_of trace.layout trace.image)) (λ trace h. h.image)
    (answers_kept c.args.bytes.now c.read_records.result c.read_records.ensures)

pub returns-clause-page : goal.returns-clause-page
returns-clause-page c =
    IfOk-weaker c.read_records.result IsRunnable (λ (trace : Trace). IsStartPage trace.page) (λ trace h. h.page)
    (answers_kept c.args.bytes.now c.read_records.result c.read_records.ensures)

pub returns-clause-rows : goal.returns-clause-rows
returns-clause-rows c =
    IfOk-weaker c.read_records.result IsRunnable (λ (trace : Trace). ArePageRows trace.page trace.host) (λ trace h. h.rows)
    (answers_kept c.args.bytes.now c.read_records.result c.read_records.ensures)
