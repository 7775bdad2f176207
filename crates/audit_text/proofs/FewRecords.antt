-- A text that is read as a trace has few records: each but the header, the settings, the image and the start page is in one of four lists of
-- the trace, whose lengths have limits.
use Rattle.std.proofs.Common.{◌≡◌, ◌≤◌, ◌<◌, ◌+◌, ◌-◌, ◌^◌, ◌==◌, ◌&&◌, ◌||◌, not, ℕ, suc, Bool, true, false, List, [], ◌∷◌, ◌++◌, length, Option, Some, None, Ok, is_some, if◌then◌else◌, refl, sym, ap, subst, arith}
use Rattle.std.proofs.lemmas.Bool.Decides.{nat_tests}
use Rattle.std.proofs.lemmas.List.{append-nil, length-append}
use Rattle.clock_gate.specs.declared.limits.TheConstants.{MOST_CALLS, MOST_HOST_ROWS, MOST_POLLS, MOST_SCHEDULE_LINES}
use Rattle.clock_gate.specs.declared.trace.Trace.{Trace}
use Rattle.csv_records.specs.Grammar.{Accepts}
use Rattle.csv_records.specs.Records.{records_of}
use Rattle.csv_records.specs.Step.{joined}
use Rattle.csv_records.specs.declared.reason.Reason.{Reason}
use Rattle.csv_records.specs.declared.reason.Reason.TheVariants as reasons
use Rattle.csv_records.proofs.GrammarLaws.{one_more}
use Rattle.vmclock_page.specs.ClockPage.{ClockPage}
use Rattle.trace_reader.specs.Checks.{breaks_order, breaks_page, fault_of, has_clock, lacks_clock}
use Rattle.trace_reader.specs.Facts.{Facts, facts_of, call_at, calls_of, first_in, gathered, host_at, host_of, marked, no_facts, page_from, page_row, polls_of, schedule_of}
use Rattle.trace_reader.specs.Grammar.{grammar, trace_in}
use Rattle.trace_reader.specs.Held.{kept, one_of, taken}
use Rattle.trace_reader.specs.Line.{line_of}
use Rattle.trace_reader.specs.declared.line.Line.{Line}
use Rattle.trace_reader.specs.declared.line.Line.TheVariants as lines
use Rattle.trace_reader.proofs.Keeping.{passed}
use Rattle.trace_reader.proofs.Lawful.{traces_are_runnable}
use Rattle.trace_reader.proofs.Spelled.{traces_say}
use Rattle.trace_reader.proofs.Steps.{facts_more}

-- the lines are no more than these together, and a start page means that a page stands
record IsFew (facts : Facts) : Type 0 where
  paged : one_of facts.start ≤ one_of facts.page
  few : facts.count ≤ 1 + one_of facts.drift + one_of facts.tries + one_of facts.layout + one_of facts.image + one_of facts.start + length facts.host + length facts.polls + length facts.calls + length facts.turns

record Tested (facts : Facts) (line : Line) : Type 0 where
  order : breaks_order facts line ≡ false
  clock : lacks_clock facts line ≡ false
  page : breaks_page facts line ≡ false

tested : (facts : Facts) (line : Line) → fault_of facts line ≡ None → Tested facts line
tested facts line none =
    let all = by (breaks_order facts line) (lacks_clock facts line) _ (breaks_page facts line) _ none in
    record { order = all.0; clock = all.1; page = all.2 }
  where
    by : (a b c d : Bool) (last : Option Reason) → (if a then Some reasons.Order else if b then Some reasons.NoClock else if c then Some reasons.ClockBack else if d then Some reasons.Page else last) ≡ None
        → (a ≡ false) × (b ≡ false) × (d ≡ false)
    by true b c d last h = absurd cc
    by false true c d last h = absurd cc
    by false false true d last h = absurd cc
    by false false false true last h = absurd cc
    by false false false false last h = (refl, refl, refl)

-- what stands once is one more where it may be set
once : {X : Type 0} (o : Option X) (x : X) (a b : Bool) → (a || (b || is_some o)) ≡ false → one_of (kept o (Some x)) ≡ one_of o + 1
once None x a b e = refl
once (Some y) x true b e = absurd (cc e)
once (Some y) x false true e = absurd (cc e)
once (Some y) x false false e = absurd (cc e)

once_later : {X : Type 0} (o : Option X) (x : X) (a b c : Bool) → (a || (b || (c || is_some o))) ≡ false → one_of (kept o (Some x)) ≡ one_of o + 1
once_later None x a b c e = refl
once_later (Some y) x true b c e = absurd (cc e)
once_later (Some y) x false true c e = absurd (cc e)
once_later (Some y) x false false true e = absurd (cc e)
once_later (Some y) x false false false e = absurd (cc e)

none_before : (n : ℕ) → not (n == 0) ≡ false → n ≡ 0
none_before n e = grind (arith, nat_tests)

joined_more : {X : Type 0} (xs : List X) (o : Option X) → length (joined xs o) ≡ length xs + one_of o
joined_more xs None = omega arith
joined_more xs (Some x) = omega (arith, length-append xs (x ∷ []))

-- a page is the start page, or one more row of the host
page_more : (bare : Bool) (start : Option ClockPage) (p : ClockPage) → (not (not bare) && is_some start) ≡ false
    → one_of start + 1 ≤ one_of (kept start (Some p)) + one_of (if bare then None else page_row (Some p))
page_more true None p lacks = omega arith
page_more true (Some s) p lacks = absurd (cc lacks)
page_more false None p lacks = omega arith
page_more false (Some s) p lacks = omega arith

-- a mark is one more row of the host
mark_more : (start page : Option ClockPage) (marker : ℕ) → not (is_some start) ≡ false → one_of start ≤ one_of page
    → (one_of start ≤ one_of (marked marker page)) × (one_of (page_row (marked marker page)) ≡ 1)
mark_more None page marker bare paged = absurd (cc bare)
mark_more (Some s) None marker bare paged = absurd (omega (arith, paged))
mark_more (Some s) (Some p) marker bare paged = (omega arith, refl)

one_line : (facts : Facts) (line : Line) → Tested facts line → IsFew facts → IsFew (taken facts line)
one_line facts lines.Header at h =
    let zero : facts.count ≡ 0 = none_before facts.count at.order in
    record { paged = h.paged; few = omega (arith, zero) }
one_line facts (lines.Drift drift) at h =
    let more = once facts.drift drift (facts.count == 0) (has_clock facts) at.order in
    let few = h.few in
    record { paged = h.paged; few = omega (arith, few, more) }
one_line facts (lines.Tries tries) at h =
    let more = once facts.tries tries (facts.count == 0) (has_clock facts) at.order in
    let few = h.few in
    record { paged = h.paged; few = omega (arith, few, more) }
one_line facts (lines.Layout layout) at h =
    let more = once_later facts.layout layout (facts.count == 0) (has_clock facts) (is_some facts.image) at.order in
    let few = h.few in
    record { paged = h.paged; few = omega (arith, few, more) }
one_line facts (lines.Image words) at h =
    let more = once facts.image words (facts.count == 0) (has_clock facts) at.order in
    let few = h.few in
    record { paged = h.paged; few = omega (arith, few, more) }
one_line facts (lines.Page None) at h = absurd (let page = at.page in cc page)
one_line facts (lines.Page (Some p)) at h =
    let more = page_more (length facts.clocks == 0) facts.start p at.clock in
    let row = joined_more facts.host (if length facts.clocks == 0 then None else page_row (Some p)) in
    let few = h.few in
    record { paged = kept_paged facts.start p; few = omega (arith, few, more, row) }
  where
    kept_paged : (start : Option ClockPage) (p : ClockPage) → one_of (kept start (Some p)) ≤ 1
    kept_paged None p = omega arith
    kept_paged (Some s) p = omega arith
one_line facts (lines.Clock row) at h =
    let more = joined_more facts.host (host_at facts.page (length facts.clocks) (lines.Clock row)) in
    let few = h.few in
    record { paged = h.paged; few = omega (arith, few, more) }
one_line facts (lines.Mark marker) at h =
    let one = mark_more facts.start facts.page marker at.page h.paged in
    let more = joined_more facts.host (page_row (marked marker facts.page)) in
    let few = h.few in
    record { paged = one.0; few = omega (arith, few, more, one.1) }
one_line facts lines.Disrupt at h =
    let more = joined_more facts.host (host_at facts.page (length facts.clocks) lines.Disrupt) in
    let few = h.few in
    record { paged = h.paged; few = omega (arith, few, more) }
one_line facts (lines.Poll row) at h =
    let more = length-append facts.polls (row ∷ []) in
    let few = h.few in
    record { paged = h.paged; few = omega (arith, few, more) }
one_line facts (lines.Call client tries) at h =
    let more = joined_more facts.calls (call_at facts.tries (lines.Call client tries)) in
    let few = h.few in
    record { paged = h.paged; few = omega (arith, few, more) }
one_line facts (lines.Turns turn) at h =
    let more = length-append facts.turns (turn ∷ []) in
    let few = h.few in
    record { paged = h.paged; few = omega (arith, few, more) }

-- so all of them
all_few : (front : List Line) (records : List (List (List ℕ))) (lines : List Line) → Accepts grammar front records lines → IsFew (facts_of front)
    → IsFew (facts_of (front ++ lines)) × (length records ≡ length lines)
unfolding Accepts
all_few front [] lines accepted h = rw (accepted, append-nil front) (h, refl)
all_few front (fields ∷ rest) [] accepted h = absurd accepted
all_few front (fields ∷ rest) (line ∷ lines) accepted h =
    let at = passed (facts_of front) (line_of fields) line accepted.0 in
    let next : IsFew (facts_of (front ++ line ∷ [])) = subst IsFew (sym (facts_more front line)) (one_line (facts_of front) line (tested (facts_of front) line at.1) h) in
    let all = all_few (front ++ line ∷ []) rest lines accepted.1 next in
    (subst (λ (ls : List Line). IsFew (facts_of ls)) (one_more front line lines) all.0, ap (λ (n : ℕ). suc n) all.1)

none_few : IsFew no_facts
unfolding first_in page_from host_of polls_of calls_of schedule_of gathered
none_few = record { paged = omega arith; few = omega arith }

at_most : {X : Type 0} (o : Option X) → one_of o ≤ 1
at_most None = omega arith
at_most (Some x) = omega arith

pub few_records : (bytes : List ℕ) (trace : Trace) → trace_in bytes ≡ Ok trace → length (records_of bytes) < 2 ^ 32 - 1
few_records bytes trace read =
    let says = (traces_say (records_of bytes) trace).0 read in
    let all = all_few [] (records_of bytes) says.lines says.accepted none_few in
    let facts = facts_of says.lines in
    let lawful = (traces_are_runnable (records_of bytes) trace read).lawful in
    let few = all.0.few in
    let records = all.1 in
    let is = says.is in
    let host : length facts.host ≤ MOST_HOST_ROWS = subst (λ (t : Trace). length t.host ≤ MOST_HOST_ROWS) is lawful.host_few in
    let polls : length facts.polls ≤ MOST_POLLS = subst (λ (t : Trace). length t.polls ≤ MOST_POLLS) is lawful.polls_few in
    let calls : length facts.calls ≤ MOST_CALLS = subst (λ (t : Trace). length t.calls ≤ MOST_CALLS) is lawful.calls_few in
    let turns : length facts.turns ≤ MOST_SCHEDULE_LINES = subst (λ (t : Trace). length t.turns ≤ MOST_SCHEDULE_LINES) is lawful.turns_few in
    let a = at_most facts.drift in let b = at_most facts.tries in let c = at_most facts.layout in let d = at_most facts.image in let e = at_most facts.start in
    omega (arith, few, records, host, polls, calls, turns, a, b, c, d, e)
