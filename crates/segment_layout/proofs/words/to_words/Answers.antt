use Rattle.std.proofs.Common.{sym, subst, ap, ◌∙◌}
use Rattle.segment_layout.specs.declared.words.TheConstants.{MAGIC}
use Rattle.segment_layout.specs.Words.{AreGoodWords, fields_of_words}
use Rattle.segment_layout.proofs.Back.{record_words_good, fields_of_words-data_words}
use Rattle.segment_layout.proofs.words.to_words.Goals as goal

pub returns-clause-good : goal.returns-clause-good
returns-clause-good c = subst AreGoodWords (sym c.words_under.ensures.words) (record_words_good c.word1.result c.args.rec.now c.words_under.ensures.bounds)

pub returns-clause-back : goal.returns-clause-back
returns-clause-back c = ap fields_of_words c.words_under.ensures.words ∙ fields_of_words-data_words MAGIC c.word1.result c.args.rec.now c.words_under.ensures.bounds
