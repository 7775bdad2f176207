-- Each call of a trace goes to the plan of its client.
use Rattle.std.proofs.Common.{◌≡◌, ◌≢◌, ℕ, suc, ◌+◌, ◌<◌, ◌≤◌, inl, inr, Bool, true, false, cond, List, [], ◌∷◌, ◌++◌, length, slice_index_or, slice_set, vec_len, vec_capacity, refl, sym, ap, ◌∙◌, subst, arith, append_assoc, append-nil, eq-eqb, ne_eqb}
use Rattle.std.specs.Global.{Vec}
use Rattle.std.specs.Prelude.{All, ◌==◌, nat_lt}
use Rattle.std.proofs.lemmas.Bool.{cases_eq}
use Rattle.std.proofs.lemmas.Bool.Decides.{nat_tests}
use Rattle.std.proofs.lemmas.List.{get_or-set_same, get_or-set_other, length-set}
use Rattle.std.proofs.lemmas.List.Elements.{All-nil, All-cons}
use Rattle.clock_gate.specs.declared.trace.CallRow.{CallRow}
use Rattle.clock_gate.specs.declared.trace.Trace.{Trace}
use Rattle.clock_gate.specs.Trace.{IsLawfulTrace, larger, largest_from}
use Rattle.lawful_report.specs.Composed.{tries_of_client}
use Rattle.live_run.specs.declared.workers.Plan.{Plan}
use Rattle.live_run.specs.Dealt.{IsOfClients, IsPlanned, ArePlanned, IsPlan, ArePlans}

-- ---- a call is of one of the trace's clients

larger_least : (a b : ℕ) → (a ≤ larger a b) × (b ≤ larger a b)
unfolding larger
larger_least a b = by (nat_lt a b) refl
  where
    by : (less : Bool) → nat_lt a b ≡ less → (a ≤ cond less b a) × (b ≤ cond less b a)
    by true is = (grind (arith, nat_tests, is), omega arith)
    by false is = (omega arith, grind (arith, nat_tests, is))

largest_least : (start : ℕ) (calls : List CallRow) → (start ≤ largest_from start calls) × All (λ (row : CallRow). row.client ≤ largest_from start calls) calls
unfolding largest_from
largest_least start [] = (omega arith, All-nil (λ (row : CallRow). row.client ≤ start))
largest_least start (row ∷ rows) =
    let next = largest_least (larger start row.client) rows in
    let here = larger_least start row.client in
    (omega (arith, next.0, here.0), All-cons (λ (r : CallRow). r.client ≤ largest_from (larger start row.client) rows) row rows (omega (arith, next.0, here.1)) next.1)

pub calls_within : (trace : Trace) → IsLawfulTrace trace → All (IsOfClients trace.clients) trace.calls
calls_within trace lawful k d here =
    let most = (largest_least 1 trace.calls).1 k d here in
    let is = lawful.clients in
    ((lawful.calls k d here).client.0, omega (arith, most, is))

-- ---- no call is known yet

abbrev pub IsBare : Plan → Type 0
IsBare p = (p.calls.items ≡ []) × (p.answers.items ≡ [])

pub none_known : (rows : List CallRow) (plans : List Plan) → All IsBare plans → ArePlanned rows rows plans
none_known rows plans bare k d within = let is = bare k d within in record { calls = ap (λ (l : List ℕ). l ++ tries_of_client rows (k + 1)) is.0; none = is.1 }

-- ---- one call more

tries_mine : (row : CallRow) (rows : List CallRow) (client : ℕ) → row.client ≡ client → tries_of_client (row ∷ rows) client ≡ row.tries ∷ tries_of_client rows client
tries_mine row rows client is = let test : (row.client == client) ≡ true = eq-eqb row.client client is in rw test refl

tries_other : (row : CallRow) (rows : List CallRow) (client : ℕ) → row.client ≢ client → tries_of_client (row ∷ rows) client ≡ tries_of_client rows client
tries_other row rows client other = let test : (row.client == client) ≡ false = ne_eqb row.client client other in rw test refl

module _ (rows left : List CallRow) (row : CallRow) where
  planned_mine : (client : ℕ) (old new : Plan) → row.client ≡ client → new.calls.items ≡ old.calls.items ++ row.tries ∷ [] → new.answers.items ≡ old.answers.items
      → IsPlanned rows (row ∷ left) client old → IsPlanned rows left client new
  planned_mine client old new is calls answers was = record {
    calls = ap (λ (l : List ℕ). l ++ tries_of_client left client) calls
        ∙ (append_assoc old.calls.items (row.tries ∷ []) (tries_of_client left client)
        ∙ (ap (λ (l : List ℕ). old.calls.items ++ l) (sym (tries_mine row left client is)) ∙ was.calls));
    none = answers ∙ was.none;
  }

  planned_other : (client : ℕ) (p : Plan) → row.client ≢ client → IsPlanned rows (row ∷ left) client p → IsPlanned rows left client p
  planned_other client p other was = record { calls = ap (λ (l : List ℕ). p.calls.items ++ l) (sym (tries_other row left client other)) ∙ was.calls; none = was.none }

  pub planned_more : (plans : List Plan) (place : ℕ) (old new : Plan) → row.client ≡ place + 1 → place < length plans → old ≡ slice_index_or plans place old
      → new.calls.items ≡ old.calls.items ++ row.tries ∷ [] → new.answers.items ≡ old.answers.items → ArePlanned rows (row ∷ left) plans → ArePlanned rows left (slice_set plans place new)
  planned_more plans place old new is here at calls answers was k d within = elim (cases_eq k place) [
    | inl same ↦ subst (λ (q : ℕ). IsPlanned rows left (q + 1) (slice_index_or (slice_set plans place new) q d)) (sym same)
        (subst (IsPlanned rows left (place + 1)) (sym (get_or-set_same plans place new d here))
        (planned_mine (place + 1) old new is calls answers (subst (IsPlanned rows (row ∷ left) (place + 1)) (sym at) (was place old here))))
    | inr other ↦ subst (IsPlanned rows left (k + 1)) (sym (get_or-set_other plans place k new d other))
        (planned_other (k + 1) (slice_index_or plans k d) (λ e. other (omega (arith, e, is))) (was k d (let long = length-set plans place new in omega (arith, long, within))))
  ]

-- ---- room for the answers

-- the plans before this place have it
abbrev pub HaveRoom : ℕ → List Plan → Type 0
HaveRoom place plans = (k : ℕ) (d : Plan) → k < place → vec_len (slice_index_or plans k d).calls ≤ vec_capacity (slice_index_or plans k d).answers

pub planned_kept : (rows left : List CallRow) (plans : List Plan) (place : ℕ) (old new : Plan) → place < length plans → old ≡ slice_index_or plans place old
    → new.calls ≡ old.calls → new.answers.items ≡ old.answers.items → ArePlanned rows left plans → ArePlanned rows left (slice_set plans place new)
planned_kept rows left plans place old new here at calls answers was k d within = elim (cases_eq k place) [
  | inl same ↦ subst (λ (q : ℕ). IsPlanned rows left (q + 1) (slice_index_or (slice_set plans place new) q d)) (sym same)
      (subst (IsPlanned rows left (place + 1)) (sym (get_or-set_same plans place new d here))
      (let mine : IsPlanned rows left (place + 1) old = subst (IsPlanned rows left (place + 1)) (sym at) (was place old here) in
      record { calls = ap (λ (v : Vec ℕ). v.items ++ tries_of_client left (place + 1)) calls ∙ mine.calls; none = answers ∙ mine.none }))
  | inr other ↦ subst (IsPlanned rows left (k + 1)) (sym (get_or-set_other plans place k new d other)) (was k d (let long = length-set plans place new in omega (arith, long, within)))
]

pub room_more : (plans : List Plan) (place : ℕ) (new : Plan) → place < length plans → vec_len new.calls ≤ vec_capacity new.answers → HaveRoom place plans → HaveRoom (place + 1) (slice_set plans place new)
room_more plans place new here room have k d before = elim (cases_eq k place) [
  | inl same ↦ subst (λ (q : ℕ). vec_len (slice_index_or (slice_set plans place new) q d).calls ≤ vec_capacity (slice_index_or (slice_set plans place new) q d).answers) (sym same)
      (subst (λ (p : Plan). vec_len p.calls ≤ vec_capacity p.answers) (sym (get_or-set_same plans place new d here)) room)
  | inr other ↦ subst (λ (p : Plan). vec_len p.calls ≤ vec_capacity p.answers) (sym (get_or-set_other plans place k new d other)) (have k d (omega (arith, before, other)))
]

-- ---- all plans

from_index : (rows : List CallRow) (number : ℕ) (plans : List Plan) → ((k : ℕ) (d : Plan) → k < length plans → IsPlan rows (number + k) (slice_index_or plans k d)) → ArePlans rows number plans
from_index rows number [] each = tt
from_index rows number (p ∷ plans) each =
    let same : number + 0 ≡ number = omega arith in (
      subst (λ (n : ℕ). IsPlan rows n p) same (each 0 p (omega arith)),
      from_index rows (number + 1) plans (λ k d within. let next : number + suc k ≡ number + 1 + k = omega arith in subst (λ (n : ℕ). IsPlan rows n (slice_index_or plans k d)) next (each (suc k) d (omega (arith, within)))),
    )

pub all_planned : (rows : List CallRow) (plans : List Plan) → ArePlanned rows [] plans → HaveRoom (length plans) plans → ArePlans rows 1 plans
all_planned rows plans planned room = from_index rows 1 plans (λ k d within.
    let next : k + 1 ≡ 1 + k = omega arith in
    let is = planned k d within in
    let p = slice_index_or plans k d in
    record { calls = sym (append-nil p.calls.items) ∙ (is.calls ∙ ap (λ (n : ℕ). tries_of_client rows n) next); none = is.none; room = room k d within })
