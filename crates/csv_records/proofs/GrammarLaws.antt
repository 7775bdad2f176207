-- The records of a text pass up to the first that doesn't.
use Rattle.std.proofs.Common.{◌≡◌, ◌⊎◌, ◌∙◌, ℕ, ◌+◌, List, [], ◌∷◌, ◌++◌, length, Result, Ok, Err, refl, sym, ap, arith, append_assoc, inl, inr}
use Rattle.std.specs.Prelude.{◌↔◌}
use Rattle.std.proofs.lemmas.List.{append-nil, length-append}
use Rattle.csv_records.specs.Grammar.{Accepts, EndsIn, Grammar, RefusedAt, line_after, lines_after, said_by}
use Rattle.csv_records.specs.Reason.{◌>>=◌}
use Rattle.csv_records.specs.TraceError.{numbered}
use Rattle.csv_records.specs.declared.reason.Reason.{Reason}
use Rattle.csv_records.specs.declared.trace_error.TraceFault.{TraceFault}

abbrev Fields : Type 0
Fields = List (List ℕ)

-- a line more in front
pub one_more : {L : Type 0} (front : List L) (line : L) (lines : List L) → (front ++ line ∷ []) ++ lines ≡ front ++ line ∷ lines
one_more front line lines = append_assoc front (line ∷ []) lines

-- records that pass are their lines
lines_accepted : {L F : Type 0} (grammar : Grammar L F) (front : List L) (records : List Fields) (lines : List L) → Accepts grammar front records lines → lines_after grammar front records ≡ Ok (front ++ lines)
unfolding lines_after Accepts
lines_accepted grammar front [] lines accepted = rw (accepted, append-nil front) refl
lines_accepted grammar front (fields ∷ rest) [] accepted = absurd accepted
lines_accepted grammar front (fields ∷ rest) (line ∷ lines) accepted =
    rw accepted.0 (rw (one_more front line lines) at (lines_accepted grammar (front ++ line ∷ []) rest lines accepted.1))

-- lines are those of records that all pass
abbrev AllPass : {L F : Type 0} → Grammar L F → List L → List Fields → List L → Type 0
AllPass {L} grammar front records all = (lines : List L) × (all ≡ front ++ lines) × Accepts grammar front records lines

all_accepted : {L F : Type 0} (grammar : Grammar L F) (front : List L) (records : List Fields) (all : List L) → lines_after grammar front records ≡ Ok all → AllPass grammar front records all
unfolding lines_after Accepts
all_accepted grammar front [] all e = let same : all ≡ front = cc e in ([], same ∙ sym (append-nil front), refl)
all_accepted {L} {F} grammar front (fields ∷ rest) all e =
    by (line_after grammar (grammar.facts_of front) fields) refl e (λ line. all_accepted grammar (front ++ line ∷ []) rest all)
  where
    by : (r : Result L Reason) → line_after grammar (grammar.facts_of front) fields ≡ r → (numbered (length front + 1) r >>= λ line. lines_after grammar (front ++ line ∷ []) rest) ≡ Ok all
        → ((line : L) → lines_after grammar (front ++ line ∷ []) rest ≡ Ok all → AllPass grammar (front ++ line ∷ []) rest all)
        → AllPass grammar front (fields ∷ rest) all
    by (Err reason) is e more = absurd (cc e)
    by (Ok line) is e more =
        let (lines, same, accepted) = more line e in
        (line ∷ lines, same ∙ one_more front line lines, (is, accepted))

-- the first record that doesn't pass, after lines in front
record RefusedFrom {L F : Type 0} (grammar : Grammar L F) (front : List L) (records : List Fields) (fault : TraceFault) : Type 0 where
  before : List Fields
  fields : Fields
  rest : List Fields
  lines : List L
  split : records ≡ before ++ fields ∷ rest
  accepted : Accepts grammar front before lines
  why : line_after grammar (grammar.facts_of (front ++ lines)) fields ≡ Err fault.reason
  number : fault.line ≡ length front + length before + 1

refused_from : {L F : Type 0} (grammar : Grammar L F) (front : List L) (records : List Fields) (fault : TraceFault) → lines_after grammar front records ≡ Err fault → RefusedFrom grammar front records fault
unfolding lines_after Accepts
refused_from grammar front [] fault e = absurd (cc e)
refused_from {L} {F} grammar front (fields ∷ rest) fault e =
    by (line_after grammar (grammar.facts_of front) fields) refl e (λ line. refused_from grammar (front ++ line ∷ []) rest fault)
  where
    by : (r : Result L Reason) → line_after grammar (grammar.facts_of front) fields ≡ r → (numbered (length front + 1) r >>= λ line. lines_after grammar (front ++ line ∷ []) rest) ≡ Err fault
        → ((line : L) → lines_after grammar (front ++ line ∷ []) rest ≡ Err fault → RefusedFrom grammar (front ++ line ∷ []) rest fault)
        → RefusedFrom grammar front (fields ∷ rest) fault
    by (Err reason) is e more =
        let same : record { line = length front + 1; reason = reason } ≡ fault = cc e in
        let number : length front + 1 ≡ fault.line = ap (λ (f : TraceFault). f.line) same in
        record {
          before = [];
          fields = fields;
          rest = rest;
          lines = [];
          split = refl;
          accepted = refl;
          why = rw (append-nil front) (is ∙ ap (λ (f : TraceFault). refused_line f.reason) same);
          number = omega (arith, number);
        }
      where
        refused_line : Reason → Result L Reason
        refused_line why = Err why
    by (Ok line) is e more =
        let r = more line e in
        let number = r.number in
        let longer = length-append front (line ∷ []) in
        record {
          before = fields ∷ r.before;
          fields = r.fields;
          rest = r.rest;
          lines = line ∷ r.lines;
          split = ap (λ (records : List Fields). fields ∷ records) r.split;
          accepted = (is, r.accepted);
          why = rw (one_more front line r.lines) at r.why;
          number = omega (arith, number, longer);
        }

from_refused : {L F : Type 0} (grammar : Grammar L F) (front : List L) (before : List Fields) (fields : Fields) (rest : List Fields) (lines : List L) (fault : TraceFault)
    → Accepts grammar front before lines → line_after grammar (grammar.facts_of (front ++ lines)) fields ≡ Err fault.reason → fault.line ≡ length front + length before + 1
    → lines_after grammar front (before ++ fields ∷ rest) ≡ Err fault
unfolding lines_after Accepts
from_refused {L} grammar front [] fields rest lines fault accepted why number =
    let here : line_after grammar (grammar.facts_of front) fields ≡ Err fault.reason = rw (accepted, append-nil front) at why in
    let line : length front + 1 ≡ fault.line = omega (arith, number) in
    rw here (ap (λ (n : ℕ). refused_at n) line)
  where
    refused_at : ℕ → Result (List L) TraceFault
    refused_at n = Err (record { line = n; reason = fault.reason })
from_refused grammar front (first ∷ before) fields rest [] fault accepted why number = absurd accepted
from_refused grammar front (first ∷ before) fields rest (line ∷ lines) fault accepted why number =
    let longer = length-append front (line ∷ []) in
    rw accepted.0 (from_refused grammar (front ++ line ∷ []) before fields rest lines fault accepted.1 (rw (one_more front line lines) why) (omega (arith, number, longer)))

-- ---- Of a whole text

-- a fault is that of the first record that doesn't pass, or comes at the end
pub said_fault : {L F X : Type 0} (grammar : Grammar L F) (end : F → Result X TraceFault) (records : List Fields) (fault : TraceFault)
    → (said_by grammar end records ≡ Err fault) ↔ (RefusedAt grammar records fault ⊎ EndsIn grammar end records (Err fault))
said_fault {L} {F} {X} grammar end records fault = (λ e. by (lines_after grammar [] records) refl e, λ h. elim h [ inl r ↦ back r | inr r ↦ rw (lines_accepted grammar [] records r.lines r.accepted) r.is ])
  where
    by : (r : Result (List L) TraceFault) → lines_after grammar [] records ≡ r → (r >>= λ lines. end (grammar.facts_of lines)) ≡ Err fault → RefusedAt grammar records fault ⊎ EndsIn grammar end records (Err fault)
    by (Ok all) is e = let (lines, same, accepted) = all_accepted grammar [] records all is in inr (record { lines = lines; accepted = accepted; is = rw same at e })
    by (Err other) is e =
        let same : other ≡ fault = cc e in
        let r = refused_from grammar [] records fault (is ∙ ap (λ (f : TraceFault). refused f) same) in
        let number = r.number in
        inl (record { before = r.before; fields = r.fields; rest = r.rest; lines = r.lines; split = r.split; accepted = r.accepted; why = r.why; number = omega (arith, number) })
      where
        refused : TraceFault → Result (List L) TraceFault
        refused f = Err f

    back : RefusedAt grammar records fault → said_by grammar end records ≡ Err fault
    back r =
        let number = r.number in
        let refused = from_refused grammar [] r.before r.fields r.rest r.lines fault r.accepted r.why (omega (arith, number)) in
        rw (r.split, refused) refl

-- what is said otherwise is said at the end of records that all pass
pub said_in_end : {L F X : Type 0} (grammar : Grammar L F) (end : F → Result X TraceFault) (records : List Fields) (x : X)
    → (said_by grammar end records ≡ Ok x) ↔ EndsIn grammar end records (Ok x)
said_in_end {L} {F} {X} grammar end records x = (λ e. by (lines_after grammar [] records) refl e, λ r. rw (lines_accepted grammar [] records r.lines r.accepted) r.is)
  where
    by : (r : Result (List L) TraceFault) → lines_after grammar [] records ≡ r → (r >>= λ lines. end (grammar.facts_of lines)) ≡ Ok x → EndsIn grammar end records (Ok x)
    by (Ok all) is e = let (lines, same, accepted) = all_accepted grammar [] records all is in record { lines = lines; accepted = accepted; is = rw same at e }
    by (Err other) is e = absurd (cc e)
