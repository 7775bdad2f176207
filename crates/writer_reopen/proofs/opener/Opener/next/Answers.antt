use Rattle.std.proofs.Common.{◌∙◌, ap, arith}
use Rattle.writer_reopen.specs.Opening.{opening_act}
use Rattle.writer_reopen.proofs.Openings.{act-of_loaded}
use Rattle.writer_reopen.proofs.opener.Opener.next.Goals as goal

pub returns-clause-act : goal.returns-clause-act
returns-clause-act c =
    let told = c.self.told in
    let most = c.self.invariant.0 in
    c.act_at.ensures ∙ act-of_loaded c.self.inside.layout c.self.inside.values c.self.inside.given (omega arith) ∙ ap opening_act c.self.view_is
