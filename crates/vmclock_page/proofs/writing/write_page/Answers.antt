use Rattle.std.proofs.Common.{◌≡◌, ◌∙◌, refl, sym, length, arith}
use Rattle.std.proofs.lemmas.List.{take_all}
use Rattle.vmclock_page.specs.Page.{page_text}
use Rattle.vmclock_page.proofs.Back.{pads_back, stands, read_back}
use Rattle.vmclock_page.proofs.writing.write_page.Goals as goal

pub returns-clause-kept : goal.returns-clause-kept
returns-clause-kept c = record {
  header = c.put_header.ensures.fits;
  status = c.put_status.ensures.fits;
  counter = c.put_counter.ensures.fits;
  time = c.put_time.ensures.fits;
}

pub returns-clause-text : goal.returns-clause-text
unfolding page_text
returns-clause-text c =
    let whole : length c.put_time.new.out ≡ 104 = omega arith in
    sym (take_all 104 c.put_time.new.out (omega arith))
    ∙ c.put_time.ensures.text
    ∙ rw (c.put_counter.ensures.text, c.put_status.ensures.text, c.put_header.ensures.text) refl

pub returns-clause-stands : goal.returns-clause-stands
returns-clause-stands c = rw (returns-clause-text c) (stands c.args.page.now (returns-clause-kept c))

pub returns-clause-back : goal.returns-clause-back
returns-clause-back c = rw (returns-clause-text c) (read_back c.args.page.now (returns-clause-kept c))

pub returns-clause-pads : goal.returns-clause-pads
returns-clause-pads c = rw (returns-clause-text c) (pads_back c.args.page.now)
