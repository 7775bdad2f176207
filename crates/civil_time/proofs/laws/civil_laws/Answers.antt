use Rattle.std.proofs.Common.{sym, ◌∙◌}
use Rattle.civil_time.proofs.Civil.{same_civil}
use Rattle.civil_time.proofs.Computed.{computed}
use Rattle.civil_time.proofs.Texts.{text_inside, text_outside}
use Rattle.civil_time.proofs.laws.civil_laws.Goals as goal

pub returns-clause-text : goal.returns-clause-text
returns-clause-text c = λ n shown range is. text_inside n range ∙ sym (computed n shown range is)

pub returns-clause-none : goal.returns-clause-none
returns-clause-none c = text_outside

pub returns-clause-one : goal.returns-clause-one
returns-clause-one c = same_civil
