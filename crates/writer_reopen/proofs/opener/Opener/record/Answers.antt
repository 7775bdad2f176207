use Rattle.std.proofs.Common.{◌∙◌, ap, sym, subst, arith}
use Rattle.segment_layout.specs.Words.{AreGoodWords, fields_of_words}
use Rattle.writer_reopen.proofs.Openings.{fields_of_ten, ten_copied}
use Rattle.writer_reopen.proofs.opener.Opener.record.Goals as goal

pub from_words-requires : goal.from_words-requires
from_words-requires c =
    let told = c.self.told in
    let most = c.self.invariant.0 in
    subst AreGoodWords (ten_copied c.args.self.now c.self.inside.layout c.self.inside.values c.self.inside.given c.copy_from_slice.new.self c.self.view_is (omega arith) c.requires.asked c.copy_from_slice.ensures.after) c.requires.good

pub returns : goal.returns
returns c =
    let told = c.self.told in
    let most = c.self.invariant.0 in
    c.from_words.ensures.value
    ∙ ap fields_of_words (sym (ten_copied c.args.self.now c.self.inside.layout c.self.inside.values c.self.inside.given c.copy_from_slice.new.self c.self.view_is (omega arith) c.requires.asked c.copy_from_slice.ensures.after))
    ∙ fields_of_ten c.args.self.now.values
