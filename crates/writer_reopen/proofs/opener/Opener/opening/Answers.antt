use Rattle.std.proofs.Common.{◌≤◌, length, take, subst, ap, ◌∙◌}
use Rattle.segment_layout.specs.Words.{AreGoodWords}
use Rattle.writer_reopen.specs.Opening.{OpenerState, opening_act}
use Rattle.writer_reopen.proofs.Openings.{kept_end}
use Rattle.writer_reopen.proofs.opener.Opener.opening.Goals as goal

both : (c : goal.Else-generation-eq1) → (10 ≤ length c.args.self.now.values) × AreGoodWords (take 10 c.args.self.now.values)
both c =
    subst (λ (s : OpenerState). (10 ≤ length s.values) × AreGoodWords (take 10 s.values)) c.self.view_is
    (kept_end c.self.inside.layout c.self.inside.values c.self.inside.given c.split_word1-generation.result c.self.told c.self.invariant.0 c.self.invariant.1
    (ap opening_act c.self.view_is ∙ c.requires) c.split_word1-generation.ensures c.if-generation-eq0.false c.if-generation-eq1.false)

pub record-requires-clause-asked : goal.record-requires-clause-asked
record-requires-clause-asked c = (both c).0

pub record-requires-clause-good : goal.record-requires-clause-good
record-requires-clause-good c = (both c).1
