use Rattle.std.proofs.Common.{◌≡◌, ◌∙◌, sym, true, false, arith}
use Rattle.audit_text.specs.Cut.{goes_on}
use Rattle.audit_text.proofs.FirstLine.{FirstAt, cut_first, cut_later, cut_nowhere, occurs, stands}
use Rattle.audit_text.proofs.parts.cut.Goals as goal

pub returns-then-starts_with : goal.returns-then-starts_with
returns-then-starts_with c =
    let begins : goes_on c.args.bytes.now ≡ true = sym (rw c.as_slice.ensures at c.starts_with.ensures.value) ∙ c.if-starts_with.true in
    rw (c.split_at.ensures.front, c.split_at-then-starts_with.ensures.back, c.split_at.ensures.back) (sym (cut_first c.args.bytes.now begins))

pub returns-in-None : goal.returns-in-None
returns-in-None c =
    let bytes = c.args.bytes.now in
    let not_begun : goes_on bytes ≡ false = sym (rw c.as_slice.ensures at c.starts_with.ensures.value) ∙ c.if-starts_with.false in
    let none = rw c.as_slice-2.ensures at c.in-None.ensures in
    sym (cut_nowhere bytes not_begun (λ k stood. let found = occurs bytes k stood in none k (omega arith) (omega (arith, found.fits)) found))

pub returns-in-Some : goal.returns-in-Some
returns-in-Some c =
    let bytes = c.args.bytes.now in
    let not_begun : goes_on bytes ≡ false = sym (rw c.as_slice.ensures at c.starts_with.ensures.value) ∙ c.if-starts_with.false in
    let some = rw c.as_slice-2.ensures at c.in-Some.ensures in
    let first : FirstAt bytes c.in-Some.place = (stands bytes c.in-Some.place some.1, λ k low stood. some.0.before k (omega arith) low (occurs bytes k stood)) in
    rw (c.split_at-in-Some.ensures.front, c.split_at-in-Some-2.ensures.back, c.split_at-in-Some.ensures.back) (sym (cut_later bytes c.in-Some.place not_begun first))
