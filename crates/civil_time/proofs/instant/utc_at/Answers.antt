use Rattle.std.proofs.Common.{refl, ◌∙◌, FitsSigned}
use Rattle.std.specs.Int.{w128}
use Rattle.std.proofs.lemmas.Int.{to_z-of_z}
use Rattle.civil_time.proofs.Civil.{shows_civil}
use Rattle.civil_time.proofs.instant.utc_at.Goals as goal

pub returns : goal.returns
returns c =
    let fits : FitsSigned w128 c.args.nanoseconds = c.ranges.nanoseconds in
    let same = c.in-Ok.ensures.value ∙ to_z-of_z w128 c.args.nanoseconds fits in
    shows_civil c.args.nanoseconds c.in-Ok.instant.nanosecond _ c.to_datetime.result c.to_datetime.ensures same refl
