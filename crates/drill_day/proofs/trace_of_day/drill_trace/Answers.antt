use Rattle.std.proofs.Common.{sym, subst}
use Rattle.std.specs.Prelude.{IsOk}
use Rattle.clock_gate.specs.Trace.{IsLawfulTrace}
use Rattle.clock_gate.specs.declared.trace.Trace.{Trace}
use Rattle.segment_layout.specs.Image.{image_of}
use Rattle.vmclock_page.specs.Rows.{ArePageRows, IsStartPage}
use Rattle.drill_day.proofs.Lawful.{day_image, day_lawful, day_rows, start_is_page}
use Rattle.drill_day.proofs.trace_of_day.drill_trace.Goals as goal

pub returns-in-Ok-clause-lawful : goal.returns-in-Ok-clause-lawful
returns-in-Ok-clause-lawful c = subst IsLawfulTrace (sym c.in-Ok.ensures) (day_lawful c.args.seed c.args.polls c.requires.few c.requires.many)

pub returns-in-Ok-clause-image : goal.returns-in-Ok-clause-image
returns-in-Ok-clause-image c = subst (λ (trace : Trace). IsOk (image_of trace.layout trace.image)) (sym c.in-Ok.ensures) day_image

pub returns-in-Ok-clause-page : goal.returns-in-Ok-clause-page
returns-in-Ok-clause-page c = subst (λ (trace : Trace). IsStartPage trace.page) (sym c.in-Ok.ensures) start_is_page

pub returns-in-Ok-clause-rows : goal.returns-in-Ok-clause-rows
returns-in-Ok-clause-rows c = subst (λ (trace : Trace). ArePageRows trace.page trace.host) (sym c.in-Ok.ensures) (day_rows c.args.polls)
