use Rattle.std.proofs.Common.{rules, sym, ◌∙◌}
use Rattle.segment_layout.proofs.Admitted.{good_from_tests, image_of-only, image_of-fault}
use Rattle.segment_layout.proofs.image.admit.Goals as goal

pub from_words-requires : goal.from_words-requires
from_words-requires c = good_from_tests c.args.words.now (search rules)

pub returns-in-Some-clause-only : goal.returns-in-Some-clause-only
returns-in-Some-clause-only c = λ start holds.
    sym (image_of-fault c.args.layout c.args.words.now c.in_ok-generation.generation c.in-Some.fault (search rules) (search rules) (search rules) (search rules) (search rules) (search rules))
    ∙ image_of-only c.args.layout c.args.words.now start (search rules) holds
