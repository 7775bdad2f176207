use Rattle.std.proofs.Common.{◌≡◌, ◌++◌, OnOk, ℕ, List, Option, Some, sym, ap, subst, ◌∙◌, append_assoc}
use Rattle.std.specs.Prelude.{vec_items}
use Rattle.interval_now.specs.declared.answers.Interval.{Interval}
use Rattle.lawful_report.specs.Lines.{line_text}
use Rattle.bound_cli.specs.Civil.{civil_fields, civil_line, interval_in, unended, with_civil}
use Rattle.bound_cli.proofs.LineEnds.{Ends, line_ends, without_feed}
use Rattle.bound_cli.proofs.civil.put_civil_line.Goals as goal

pub returns-in-Some : goal.returns-in-Some
unfolding civil_line
returns-in-Some c =
    let before = vec_items c.args.text.now in
    let line = line_text c.args.line.now in
    let found : interval_in c.args.line.now ≡ Some c.in-Some.interval = sym c.interval_in.ensures ∙ c.in-Some.is in
    let ends : Ends line = rw found at (line_ends c.args.line.now) in
    let told = c.put_line.new.text in
    let popped : vec_items c.pop.new.self ≡ before ++ unended line =
    without_feed before line (vec_items told) (vec_items c.pop.new.self) ends c.in_ok-put_line.ensures (rw told.ok.0 at c.pop.ensures.rest) in
    let fields = civil_fields c.in-Some.interval in
    let whole : vec_items c.pop.new.self ++ fields ≡ before ++ civil_line c.args.line.now =
    ap (λ (text : List ℕ). text ++ fields) popped ∙ append_assoc before (unended line) fields
    ∙ ap (λ (found : Option Interval). before ++ with_civil line found) (sym found) in
    subst (λ (text : List ℕ). OnOk c.put_fields.result (vec_items c.put_fields.new.text ≡ text)) whole c.put_fields.ensures
