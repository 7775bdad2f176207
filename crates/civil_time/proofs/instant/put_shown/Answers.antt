use Rattle.std.proofs.Common.{◌≡◌, ◌++◌, OnOk, ℕ, List, FitsSigned, subst}
use Rattle.std.specs.Int.{w128}
use Rattle.std.specs.Prelude.{vec_items}
use Rattle.std.proofs.lemmas.Int.{to_z-of_z}
use Rattle.civil_time.proofs.Computed.{computed}
use Rattle.civil_time.proofs.instant.put_shown.Goals as goal

pub returns : goal.returns
returns c =
    let n = c.args.nanoseconds in
    let fits : FitsSigned w128 n = c.ranges.nanoseconds in
    let shows = simp to_z-of_z at c.utc_at.ensures in
    subst (λ (shown : List ℕ). OnOk c.put_utc.result (vec_items c.put_utc.new.text ≡ vec_items c.args.text.now ++ shown)) (computed n c.utc_at.result c.requires shows) c.put_utc.ensures
