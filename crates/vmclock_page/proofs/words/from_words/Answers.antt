use Rattle.std.proofs.Common.{◌∙◌, ap}
use Rattle.vmclock_page.specs.Page.{page_of}
use Rattle.vmclock_page.specs.Words.{bytes_of_words}
use Rattle.vmclock_page.proofs.Agree.{page_of-words, each_byte}
use Rattle.vmclock_page.proofs.Found.{words_found, count_found, even_found}
use Rattle.vmclock_page.proofs.words.from_words.Goals as goal

pub returns-clause-words : goal.returns-clause-words
returns-clause-words c =
    let found = rw c.write_u64_into.ensures at c.read_page.ensures.found in
    words_found c.args.words.now (record { all = c.told-words; fit = c.fits-words }) c.read_page.result found

pub returns-clause-count : goal.returns-clause-count
returns-clause-count c =
    let found = rw c.write_u64_into.ensures at c.read_page.ensures.found in
    count_found c.args.words.now (record { all = c.told-words; fit = c.fits-words }) c.read_page.result found

pub returns-clause-even : goal.returns-clause-even
returns-clause-even c =
    let found = rw c.write_u64_into.ensures at c.read_page.ensures.found in
    even_found c.args.words.now (record { all = c.told-words; fit = c.fits-words }) c.read_page.result found

pub returns-clause-same : goal.returns-clause-same
returns-clause-same c = λ bytes are long is.
    c.read_page.ensures.exact
    ∙ ap page_of (c.write_u64_into.ensures ∙ ap bytes_of_words is)
    ∙ page_of-words bytes (each_byte bytes are) long
