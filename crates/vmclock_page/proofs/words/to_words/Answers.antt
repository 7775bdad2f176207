use Rattle.std.proofs.Common.{◌∙◌, sym, ap}
use Rattle.vmclock_page.specs.Words.{page_words, constant_half}
use Rattle.vmclock_page.proofs.Laws.{constant_half-fits, count_in_word-word_with_count}
use Rattle.vmclock_page.proofs.WordLemmas.{words_of-fields}
use Rattle.vmclock_page.proofs.words.to_words.Goals as goal

pub returns-clause-words : goal.returns-clause-words
returns-clause-words c =
    c.words_in.ensures.text
    ∙ words_of-fields c.write_page.result c.write_page.ensures.stands.magic c.write_page.ensures.stands.version
    ∙ rw c.write_page.ensures.pads (ap (page_words 0) (sym c.write_page.ensures.stands.fields))

pub returns-clause-count : goal.returns-clause-count
returns-clause-count c =
    let small = constant_half-fits c.args.page.now c.write_page.ensures.kept.header in
    rw (returns-clause-words c) (count_in_word-word_with_count (constant_half c.args.page.now) c.args.page.now.seq_count small)
