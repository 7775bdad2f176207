use Rattle.std.proofs.Common.{◌≡◌, ◌<◌, ◌^◌, ℕ, List, ◌++◌, slice_index_or, arith, rules, ap, ◌∙◌}
use Rattle.lawful_report.specs.Lines.{skipped_line}
use Rattle.report_audit.specs.Numbers.{numbers_in}
use Rattle.report_audit.proofs.LineNumbers.{skipped_six}
use Rattle.report_audit.proofs.found_lines.skip_at.Goals as goal

-- the numbers that were read are those of the line
read : (poll first last : ℕ) (numbers text later : List ℕ) → numbers ≡ numbers_in 6 text → poll < 2 ^ 32 → first < 2 ^ 32 → last < 2 ^ 32 → text ≡ skipped_line poll first last ++ later → (slice_index_or numbers 1 0 ≡ first) × (slice_index_or numbers 2 0 ≡ last)
read poll first last numbers text later same p f l is =
    let six = skipped_six poll first last text later (omega arith) (omega arith) (omega arith) is in
    (ap (λ (ns : List ℕ). slice_index_or ns 1 0) same ∙ six.0, ap (λ (ns : List ℕ). slice_index_or ns 2 0) same ∙ six.1)

pub returns-in_default : goal.returns-in_default
returns-in_default c trace knows first last later fails begins =
    let is = read c.args.poll first last c.six_numbers-numbers.result c.args.text.now later c.six_numbers-numbers.ensures (search rules) fails.first_fits fails.last_fits begins in
    c.in_default.ensures (omega (arith, is.0, fails.first_fits))

pub returns-in_default-try_from : goal.returns-in_default-try_from
returns-in_default-try_from c trace knows first last later fails begins =
    let is = read c.args.poll first last c.six_numbers-numbers.result c.args.text.now later c.six_numbers-numbers.ensures (search rules) fails.first_fits fails.last_fits begins in
    c.in_default-try_from.ensures (omega (arith, is.1, fails.last_fits))

pub returns-in_default-page_after : goal.returns-in_default-page_after
returns-in_default-page_after c trace knows first last later fails begins =
    let is = read c.args.poll first last c.six_numbers-numbers.result c.args.text.now later c.six_numbers-numbers.ensures (search rules) fails.first_fits fails.last_fits begins in
    c.in_default-page_after.ensures trace knows (rw (c.in-Ok.ensures.1 ∙ is.0, c.in-Ok-try_from.ensures.1 ∙ is.1) fails)

pub returns-in-None : goal.returns-in-None
returns-in-None c trace knows first last later fails begins =
    let is = read c.args.poll first last c.six_numbers-numbers.result c.args.text.now later c.six_numbers-numbers.ensures (search rules) fails.first_fits fails.last_fits begins in
    (rw c.in-None.is at c.after_line.ensures.other) later (rw (c.in-Ok.ensures.1 ∙ is.0, c.in-Ok-try_from.ensures.1 ∙ is.1) begins)
