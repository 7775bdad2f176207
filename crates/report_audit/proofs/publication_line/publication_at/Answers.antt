use Rattle.std.proofs.Common.{ℕ, ◌+◌, ◌/◌, List, ◌++◌, length, arith, rules, refl, ap, sym, subst, ◌∙◌}
use Rattle.clock_gate.specs.declared.clock_row.ClockRow.{ClockRow}
use Rattle.lawful_report.specs.declared.entry.Entry.{Entry}
use Rattle.report_audit.specs.FoundLines.{RowsFit, Polled, Publishes}
use Rattle.report_audit.proofs.PublicationReads.{publication_reads, one_publication, published_found}
use Rattle.report_audit.proofs.publication_line.publication_at.Goals as goal

pub returns-in_default : goal.returns-in_default
returns-in_default c course life row shows past heard position page p later is begins =
    let reads = publication_reads c.args.trace.now course life row (length c.args.trace.now.clock) c.args.known.now.pages.most position page p c.args.text.now later
    (omega (arith, shows.point_is, c.requires.point)) (omega (arith, shows.polled, c.requires.polled)) refl c.requires.rows c.requires.knows.pages.most_is c.requires.knows.most is begins in
    c.in_default.ensures.large (omega (arith, reads.reads.asked_is, reads.asked_small)) (omega (arith, reads.reads.page_is, reads.page_small)) (omega (arith, reads.reads.replied_is, reads.replied_small))

pub returns-then-not-rows_fit : goal.returns-then-not-rows_fit
returns-then-not-rows_fit c course life row shows past heard position page p later is begins =
    let reads = publication_reads c.args.trace.now course life row (length c.as_slice-clock.result.now) c.args.known.now.pages.most position page p c.args.text.now later
    (omega (arith, shows.point_is, c.requires.point)) (omega (arith, shows.polled, c.requires.polled)) (ap (λ (rows : List ClockRow). length rows) (sym c.as_slice-clock.ensures)) c.requires.rows c.requires.knows.pages.most_is c.requires.knows.most is begins in
    let place : RowsFit c.args.progress.now.row c.args.progress.now.page (length c.as_slice-clock.result.now) c.args.known.now.pages.most c.in-Some.asked c.in-Some.page c.in-Some.replied = rw (c.in-Some.ensures.found.0 ∙ reads.reads.asked_is, c.in-Some.ensures.found.1 ∙ reads.reads.page_is, c.in-Some.ensures.found.2 ∙ reads.reads.replied_is, sym shows.row_is, sym shows.page_is) reads.place in
    search (rules, place)

pub returns-in-Some-after_line : goal.returns-in-Some-after_line
returns-in-Some-after_line c course life row shows past heard =
    let polled : Polled c.args.trace.now course life row c.in-Some.asked c.in-Some.page c.poll_at-rec.result.0 c.poll_at-rec.result.1 c.poll_at-rec.new.daemon = c.poll_at-rec.ensures.polled c.args.trace.now course life row c.in-Some.page (record {
      clock_is = sym c.as_slice-clock.ensures;
      number_is = ap (λ (n : ℕ). n + 1) shows.polled;
      heard_is = heard;
      marker_is = c.requires.knows.markers c.in-Some.page ∙ sym (c.copied-marker.ensures ∙ c.get.ensures);
      shows = past;
    }) in
    let place : RowsFit c.args.progress.now.row c.args.progress.now.page (length c.as_slice-clock.result.now) c.args.known.now.pages.most c.in-Some.asked c.in-Some.page c.in-Some.replied = search rules in
    subst (λ (e : Entry). Publishes c.args.trace.now course life row c.args.text.now e c.poll_at-rec.new.daemon c.in-Some-after_line.later.now) (sym c.entry_told-entry.ensures)
    (published_found c.args.trace.now course life row c.args.progress.now c.poll_at-rec.new.daemon (length c.as_slice-clock.result.now) c.args.known.now.pages.most (c.args.progress.now.point / 2 + 1) c.in-Some.page (c.args.progress.now.polled + 1) c.generation.result c.in-Some.asked c.in-Some.replied c.poll_at-rec.result.1 c.poll_at-rec.result.0 c.args.text.now c.in-Some-after_line.later.now
    shows (ap (λ (rows : List ClockRow). length rows) (sym c.as_slice-clock.ensures)) c.requires.knows.pages.most_is place polled c.poll_at-rec.ensures.base refl refl c.generation.ensures.value
    (rw (c.in-Some-after_line.is, c.line_told-line.ensures) at c.after_line.ensures.found))

pub returns-in-None : goal.returns-in-None
returns-in-None c course life row shows past heard position page p later is begins =
    let polled : Polled c.args.trace.now course life row c.in-Some.asked c.in-Some.page c.poll_at-rec.result.0 c.poll_at-rec.result.1 c.poll_at-rec.new.daemon = c.poll_at-rec.ensures.polled c.args.trace.now course life row c.in-Some.page (record {
      clock_is = sym c.as_slice-clock.ensures;
      number_is = ap (λ (n : ℕ). n + 1) shows.polled;
      heard_is = heard;
      marker_is = c.requires.knows.markers c.in-Some.page ∙ sym (c.copied-marker.ensures ∙ c.get.ensures);
      shows = past;
    }) in
    let reads = publication_reads c.args.trace.now course life row (length c.as_slice-clock.result.now) c.args.known.now.pages.most position page p c.args.text.now later
    (omega (arith, shows.point_is, c.requires.point)) (omega (arith, shows.polled, c.requires.polled)) (ap (λ (rows : List ClockRow). length rows) (sym c.as_slice-clock.ensures)) c.requires.rows c.requires.knows.pages.most_is c.requires.knows.most is begins in
    let line = one_publication c.args.trace.now course life row c.args.progress.now c.poll_at-rec.new.daemon position (c.args.progress.now.point / 2 + 1) page c.in-Some.page (c.args.progress.now.polled + 1) c.generation.result c.in-Some.asked c.in-Some.replied c.poll_at-rec.result.1 c.poll_at-rec.result.0 p
    shows is polled (c.in-Some.ensures.found.0 ∙ reads.reads.asked_is) (c.in-Some.ensures.found.1 ∙ reads.reads.page_is) (c.in-Some.ensures.found.2 ∙ reads.reads.replied_is) refl refl c.generation.ensures.value in
    (rw (c.in-None.is, c.line_told-line.ensures) at c.after_line.ensures.other) later (begins ∙ ap (λ (l : List ℕ). l ++ later) line)
