use Rattle.std.proofs.Common.{rules, ◌≡◌, sym, ap, ◌∙◌}
use Rattle.segment_layout.specs.Words.{data_words, fields_of_words}
use Rattle.segment_layout.proofs.Back.{data_words-fields_of_words, fields_of_words-only}
use Rattle.segment_layout.proofs.words.from_words.Goals as goal

pub returns-clause-words : goal.returns-clause-words
returns-clause-words c =
    let value : c.unwrap.result ≡ fields_of_words c.args.words.now = search rules in
    data_words-fields_of_words c.args.words.now (search rules) c.requires ∙ ap data_words (sym value)

pub returns-clause-only : goal.returns-clause-only
returns-clause-only c = λ rec bounds same.
    let value : c.unwrap.result ≡ fields_of_words c.args.words.now = search rules in
    value ∙ fields_of_words-only c.args.words.now rec (search rules) bounds same
