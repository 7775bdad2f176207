use Rattle.std.proofs.Common.{◌≡◌, ℕ, ◌≤◌, List, length, slice_index, arith, rules, refl, ap, sym, subst, ◌∙◌}
use Rattle.clock_gate.specs.declared.clock_row.ClockRow.{ClockRow}
use Rattle.report_audit.specs.FoundLines.{PlaceFits, TimeFits}
use Rattle.report_audit.specs.Numbers.{numbers_in}
use Rattle.report_audit.proofs.AnswerKinds.{no_time}
use Rattle.report_audit.proofs.TimeReads.{time_reads, time_found}
use Rattle.report_audit.proofs.time_answer.time_answer.Goals as goal

pub returns-in_default : goal.returns-in_default
returns-in_default c course shows = no_time c.args.trace.now course c.args.call c.args.seen c.args.text.now (λ page t after later time begins.
    let is = time_reads c.args.trace.now course c.args.call c.args.seen after (length c.args.trace.now.clock) c.args.known.now.pages.most page t c.args.text.now later (search rules) (search rules) refl c.requires.rows c.requires.knows.pages.most_is c.requires.knows.most time begins in
    let generation : slice_index (numbers_in 5 c.args.text.now) 2 ≡ t.generation = is.reads.generation_is in
    let row : slice_index (numbers_in 5 c.args.text.now) 3 ≡ t.row = is.reads.row_is in
    let place : slice_index (numbers_in 5 c.args.text.now) 4 ≡ page = is.reads.page_is in
    (rw c.requires.numbers at c.in_default.ensures.large) (omega (arith, generation, is.generation_small)) (omega (arith, row, is.row_small)) (omega (arith, place, is.page_small)))

pub returns-then-not-place_fits : goal.returns-then-not-place_fits
returns-then-not-place_fits c course shows = no_time c.args.trace.now course c.args.call c.args.seen c.args.text.now (λ page t after later time begins.
    let is = time_reads c.args.trace.now course c.args.call c.args.seen after (length c.as_slice-clock.result.now) c.args.known.now.pages.most page t c.args.text.now later (search rules) (search rules) (ap (λ (rows : List ClockRow). length rows) (sym c.as_slice-clock.ensures)) c.requires.rows c.requires.knows.pages.most_is c.requires.knows.most time begins in
    let three = rw c.requires.numbers at c.in-Some.ensures.found in
    let place : PlaceFits c.args.seen (length c.as_slice-clock.result.now) c.args.known.now.pages.most c.in-Some.generation c.in-Some.row c.in-Some.page = rw (three.0 ∙ is.reads.generation_is, three.1 ∙ is.reads.row_is, three.2 ∙ is.reads.page_is) is.place in
    search (rules, place))

pub returns-in-Some-found : goal.returns-in-Some-found
returns-in-Some-found c course shows =
    let told = rw c.in-Some-found.is at (c.in_ok-found.ensures course shows) in
    let place : PlaceFits c.args.seen (length c.as_slice-clock.result.now) c.args.known.now.pages.most c.in-Some.generation c.in-Some.row c.in-Some.page = search rules in
    record {
      page = c.in-Some.page;
      may = time_found c.args.trace.now course c.args.call c.args.seen (length c.as_slice-clock.result.now) c.args.known.now.pages.most c.in-Some.generation c.in-Some.row c.in-Some.page c.in-Some-found.point c.args.progress.now.point c.in-Some-found.interval c.args.text.now c.in-Some-found.later.now
          shows.point_is (ap (λ (rows : List ClockRow). length rows) (sym c.as_slice-clock.ensures)) c.requires.knows.pages.most_is place told.0 told.1.0 told.1.1;
      begins = told.1.1;
    }

pub returns-in-None : goal.returns-in-None
returns-in-None c course shows = no_time c.args.trace.now course c.args.call c.args.seen c.args.text.now (λ page t after later time begins.
    let is = time_reads c.args.trace.now course c.args.call c.args.seen after (length c.as_slice-clock.result.now) c.args.known.now.pages.most page t c.args.text.now later (search rules) (search rules) (ap (λ (rows : List ClockRow). length rows) (sym c.as_slice-clock.ensures)) c.requires.rows c.requires.knows.pages.most_is c.requires.knows.most time begins in
    let told = rw c.in-None.is at (c.in_ok-found.ensures course shows) in
    let three = rw c.requires.numbers at c.in-Some.ensures.found in
    let fits : TimeFits c.args.trace.now course c.args.call.client c.args.call.number c.in-Some.generation c.in-Some.row c.in-Some.page c.args.text.now after.point =
    rw (three.0 ∙ is.reads.generation_is, three.1 ∙ is.reads.row_is, three.2 ∙ is.reads.page_is) is.fits in
    told after.point time.least.not_before (subst (λ (n : ℕ). after.point ≤ n) shows.point_is time.least.not_past) fits)
