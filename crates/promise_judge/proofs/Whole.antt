-- From the parts of the tables to the whole.
use Rattle.std.proofs.Common.{◌≡◌, ℕ, ◌+◌, ◌≤◌, List, Option, length, sym, ap, ◌∙◌, subst, arith}
use Rattle.std.proofs.lemmas.List.FromFn.{length-range_with_len}
use Rattle.clock_gate.specs.Trace.{IsHostOf, IsLawfulTrace, clock_numbers}
use Rattle.clock_gate.specs.declared.limits.TheConstants.{MOST_HOST_ROWS}
use Rattle.clock_gate.specs.declared.trace.HostRow.{HostRow}
use Rattle.clock_gate.specs.declared.trace.Trace.{Trace}
use Rattle.clock_gate.proofs.Traces.{clock_few}
use Rattle.promise_judge.specs.declared.paging.PageTables.{PageTables}
use Rattle.promise_judge.specs.Markers.{repeats_at}
use Rattle.promise_judge.specs.Paging.{ArePageTables}
use Rattle.promise_judge.specs.Searching.{IsNext}
use Rattle.promise_judge.specs.Shown.{ArePositions}

numbers_are : (count : ℕ) (host : List HostRow) → IsHostOf count host → length (clock_numbers host) ≡ count
numbers_are count host lawful = ap length lawful.numbered ∙ length-range_with_len 1 count

pub host_counts : (trace : Trace) → IsLawfulTrace trace → IsHostOf (length (clock_numbers trace.host)) trace.host
host_counts trace lawful = subst (λ (n : ℕ). IsHostOf n trace.host) (sym (numbers_are (length trace.clock) trace.host lawful.host)) lawful.host

pub counted_positions : (trace : Trace) (table : List ℕ) → IsLawfulTrace trace → ArePositions trace.host (length (clock_numbers trace.host)) table → ArePositions trace.host (length trace.clock) table
counted_positions trace table lawful are = subst (λ (n : ℕ). ArePositions trace.host n table) (numbers_are (length trace.clock) trace.host lawful.host) are

pub clock_rows_few : (trace : Trace) → IsLawfulTrace trace → length trace.clock ≤ MOST_HOST_ROWS
clock_rows_few trace lawful = clock_few trace lawful

pub first_repeat : (start : Option ℕ) (host : List HostRow) (tables : PageTables) → ArePageTables start host (length host) tables → IsNext (repeats_at start host) (length host + 1) 1 tables.repeat
first_repeat start host tables are =
    let high = are.repeat_high in
    record { low = are.repeat_low; high = are.repeat_high; passes = are.repeat_passes; fails = λ k a b. are.repeat_fails k a (omega arith) b }
