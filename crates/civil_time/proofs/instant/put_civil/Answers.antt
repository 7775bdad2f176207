use Rattle.std.proofs.Common.{◌≡◌, ◌++◌, OnOk, ℕ, List, FitsSigned, true≢false, sym, subst, ap, ◌∙◌}
use Rattle.std.specs.Int.{w128}
use Rattle.std.specs.Prelude.{vec_items}
use Rattle.std.proofs.lemmas.Int.{to_z-of_z}
use Rattle.std.proofs.lemmas.List.{append-nil}
use Rattle.civil_time.specs.Civil.{IsInstant}
use Rattle.civil_time.proofs.Texts.{text_inside, text_outside}
use Rattle.civil_time.proofs.instant.put_civil.Goals as goal

pub returns-then-is_instant : goal.returns-then-is_instant
returns-then-is_instant c =
    let n = c.args.nanoseconds in
    let fits : FitsSigned w128 n = c.ranges.nanoseconds in
    let decides = simp to_z-of_z at c.is_instant.ensures in
    let shown = simp to_z-of_z at c.put_shown.ensures in
    subst (λ (told : List ℕ). OnOk c.put_shown.result (vec_items c.put_shown.new.text ≡ vec_items c.args.text.now ++ told)) (sym (text_inside n (decides.0 c.if-is_instant.true))) shown

pub returns-else-is_instant : goal.returns-else-is_instant
returns-else-is_instant c =
    let n = c.args.nanoseconds in
    let fits : FitsSigned w128 n = c.ranges.nanoseconds in
    let decides = simp to_z-of_z at c.is_instant.ensures in
    let outside : ¬ (IsInstant n) = λ inside. true≢false (sym (decides.1 inside) ∙ c.if-is_instant.false) in
    sym (ap (λ (told : List ℕ). vec_items c.args.text.now ++ told) (text_outside n outside) ∙ append-nil (vec_items c.args.text.now))
