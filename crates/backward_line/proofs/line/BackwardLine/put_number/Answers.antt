use Rattle.std.proofs.Common.{◌≡◌, ◌∙◌, rules, ◌-◌, ◌+◌, ◌++◌, ◌≤◌, length, decimal, drop, ap, arith, sym}
use Rattle.std.proofs.lemmas.Fmt.{length-decimal-le}
use Rattle.std.proofs.lemmas.List.{length-append, length-drop}
use Rattle.backward_line.proofs.line.BackwardLine.put_number.Goals as goal

pub write_digits-self-inside-requires : goal.write_digits-self-inside-requires
write_digits-self-inside-requires c =
    let digits : length (decimal c.args.n) ≤ 20 = length-decimal-le 20 c.args.n (omega arith) (omega (arith, c.ranges.n)) (omega (arith, c.ranges.n)) in
    let made : length c.args.self.now ≡ length c.self.inside.bytes - c.self.inside.start = ap length (sym c.self.view_is) ∙ length-drop c.self.inside.start c.self.inside.bytes in
    search (rules, arith)

pub returns-clause-room : goal.returns-clause-room
returns-clause-room c =
    let digits : length (decimal c.args.n) ≤ 20 = length-decimal-le 20 c.args.n (omega arith) (omega (arith, c.ranges.n)) (omega (arith, c.ranges.n)) in
    let longer = length-append (decimal c.args.n) (drop c.self.inside.start c.self.inside.bytes) in
    let same = ap length c.self.view_is in
    rw c.write_digits-self-inside.ensures.written (omega (arith, longer, same, digits))
