-- What each line keeps, the facts of every accepted text keep.
use Rattle.std.proofs.Common.{◌≡◌, ℕ, List, [], ◌∷◌, ◌++◌, Option, Some, None, Result, Ok, Err, refl, sym, subst}
use Rattle.std.proofs.lemmas.List.{append-nil}
use Rattle.clock_gate.specs.declared.trace.Trace.{Trace}
use Rattle.csv_records.specs.Grammar.{Accepts}
use Rattle.csv_records.specs.Reason.{◌>>=◌, unless}
use Rattle.csv_records.specs.declared.reason.Reason.{Reason}
use Rattle.csv_records.proofs.GrammarLaws.{one_more}
use Rattle.trace_reader.specs.Checks.{fault_of}
use Rattle.trace_reader.specs.Facts.{Facts, facts_of, no_facts}
use Rattle.trace_reader.specs.Grammar.{end_fault, grammar, trace_of, trace_said}
use Rattle.trace_reader.specs.Line.{line_of}
use Rattle.trace_reader.specs.Held.{taken}
use Rattle.trace_reader.specs.declared.line.Line.{Line}
use Rattle.trace_reader.proofs.Ranges.{IsSound, line_of-sound}
use Rattle.trace_reader.proofs.Spelled.{traces_say}
use Rattle.trace_reader.proofs.Steps.{facts_more}

abbrev ok_line : Line → Result Line Reason
ok_line line = Ok line

-- a record that passes is its line, and the line has no fault
pub passed : (facts : Facts) (r : Result Line Reason) (line : Line) → (r >>= λ l. unless (fault_of facts l) l) ≡ Ok line → (r ≡ ok_line line) × (fault_of facts line ≡ None)
passed facts (Err reason) line e = absurd cc
passed facts (Ok l) line e = by (fault_of facts l) refl e
  where
    by : (fault : Option Reason) → fault_of facts l ≡ fault → unless fault l ≡ Ok line → (ok_line l ≡ ok_line line) × (fault_of facts line ≡ None)
    by None is e = let same : l ≡ line = cc e in (e, subst (λ (x : Line). fault_of facts x ≡ None) same is)
    by (Some reason) is e = absurd cc

-- a line that is sound by itself and passes its tests keeps this
abbrev pub KeptByEach : (Facts → Type 0) → Type 0
KeptByEach P = (facts : Facts) (line : Line) → IsSound line → fault_of facts line ≡ None → P facts → P (taken facts line)

keeps : (P : Facts → Type 0) → KeptByEach P → (front : List Line) (records : List (List (List ℕ))) (lines : List Line)
    → Accepts grammar front records lines → P (facts_of front) → P (facts_of (front ++ lines))
unfolding Accepts
keeps P step front [] lines accepted h = rw (accepted, append-nil front) h
keeps P step front (fields ∷ rest) [] accepted h = absurd accepted
keeps P step front (fields ∷ rest) (line ∷ lines) accepted h =
    let at = passed (facts_of front) (line_of fields) line accepted.0 in
    let next : P (facts_of (front ++ line ∷ [])) = subst P (sym (facts_more front line)) (step (facts_of front) line (line_of-sound fields line at.0) at.1 h) in
    subst (λ (ls : List Line). P (facts_of ls)) (one_more front line lines) (keeps P step (front ++ line ∷ []) rest lines accepted.1 next)

-- a trace is that of facts that keep this, and it has a row of the clock
pub kept_by : (P : Facts → Type 0) → P no_facts → KeptByEach P
    → (records : List (List (List ℕ))) (trace : Trace) → trace_said records ≡ Ok trace
    → (facts : Facts) × P facts × (end_fault facts ≡ None) × (trace ≡ trace_of facts)
kept_by P none step records trace e =
    let says = (traces_say records trace).0 e in
    (facts_of says.lines, keeps P step [] records says.lines says.accepted none, says.whole, says.is)
