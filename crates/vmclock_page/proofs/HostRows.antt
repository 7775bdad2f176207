-- The stores of the host: their order, their end, and the words that they leave.
use Rattle.std.proofs.Common.{◌≡◌, ◌≢◌, ◌≤◌, ◌<◌, ◌+◌, ◌%◌, ◌^◌, ◌∙◌, ℕ, Bool, true, false, List, [], ◌∷◌, ◌++◌, length, take, drop, refl, sym, ap, subst, arith, inl, inr}
use Rattle.std.specs.Prelude.{Option, Some, None, ◌==◌, if◌then◌else◌, slice_index_or}
use Rattle.std.proofs.lemmas.Bool.{cases_lt}
use Rattle.std.proofs.lemmas.Bool.Decides.{nat_tests}
use Rattle.std.proofs.lemmas.List.{get_or_past}
use Rattle.clock_gate.specs.declared.act.Act.TheVariants.{End}
use Rattle.clock_gate.specs.declared.trace.HostRow.{HostRow}
use Rattle.clock_gate.specs.declared.trace.HostRow.TheVariants.{Clock, Page, Disrupt}
use Rattle.clock_gate.specs.Acts.{after, WereAsked}
use Rattle.vmclock_page.specs.Rows.{words_left}
use Rattle.vmclock_page.specs.Host.{Host, IsHost, row_begun, given, act_of, stores_of, stores_in_hand, row_stores, constants_of, count_after, raised, page_stores}
use Rattle.vmclock_page.specs.HostRows.{stores_begun, MakesStores, ComesNearer, stored, LeavesItsWords}
use Rattle.vmclock_page.proofs.WordLemmas.{items_from, items}
use Rattle.vmclock_page.proofs.Accepted.{same_constants}

-- the host after so many stores of a row
abbrev made_of : Host → HostRow → ℕ → Host
made_of host row made = record host { count = count_after (Some row) made host.count; row = Some row; made = made }

-- before its last store a row leaves the count
count_after-before : (constants count made : ℕ) (row : HostRow) → made < length (row_stores constants count row) → count_after (Some row) made count ≡ count
count_after-before constants count made (Clock number) before = refl
count_after-before constants count made Disrupt before = refl
count_after-before constants count made (Page words) before =
    let test : (made == 13) ≡ false = grind (arith, nat_tests) in
    rw test refl

-- how many stores a row has
length-row_stores : (constants count other : ℕ) (row : HostRow) → length (row_stores constants count row) ≡ length (row_stores constants other row)
length-row_stores constants count other (Clock number) = refl
length-row_stores constants count other (Page words) = refl
length-row_stores constants count other Disrupt = refl

given-made : (host : Host) (row : HostRow) (made value : ℕ) → made < length (stores_begun host row) → given (made_of host row made) value ≡ made_of host row (made + 1)
given-made host row made value before =
    ap (λ (count : ℕ). record host { count = count_after (Some row) (made + 1) count; row = Some row; made = made + 1 }) (count_after-before (constants_of host.start) host.count made row before)

act_of-made : (host : Host) (row : HostRow) (made : ℕ) → act_of (made_of host row made) ≡ slice_index_or (stores_begun host row) made End
act_of-made host row made =
    elim (cases_lt made (length (stores_begun host row))) [
      | inl before ↦ ap (λ (count : ℕ). slice_index_or (row_stores (constants_of host.start) count row) made End) (count_after-before (constants_of host.start) host.count made row before)
      | inr past ↦
          let len = length-row_stores (constants_of host.start) (count_after (Some row) made host.count) host.count row in
          get_or_past (stores_of (made_of host row made)) made End (omega arith) ∙ sym (get_or_past (stores_begun host row) made End past)
    ]

-- a host that wants to store has stores left
pub more_left : (host : Host) → act_of host ≢ End → host.made < length (stores_of host)
more_left host asked =
    elim (cases_lt host.made (length (stores_of host))) [
      | inl before ↦ before
      | inr past ↦ absurd (asked (get_or_past (stores_of host) host.made End past))
    ]

makes_from : (host : Host) (row : HostRow) (made : ℕ) (values : List ℕ) → made ≤ length (stores_begun host row) → WereAsked act_of given (made_of host row made) values
    → (after act_of given (made_of host row made) values ≡ made_of host row (made + length values)) × (made + length values ≤ length (stores_begun host row))
makes_from host row made [] few asked = (ap (made_of host row) (omega arith), omega arith)
makes_from host row made (value ∷ values) few asked =
    let len = length-row_stores (constants_of host.start) (count_after (Some row) made host.count) host.count row in
    let before : made < length (stores_begun host row) = (let more = more_left (made_of host row made) asked.0 in omega arith) in
    let step = given-made host row made value before in
    let rest = makes_from host row (made + 1) values (omega arith) (subst (λ (h : Host). WereAsked act_of given h values) step asked.1) in
    (ap (λ (h : Host). after act_of given h values) step ∙ rest.0 ∙ ap (made_of host row) (omega arith), (let few_left = rest.1 in omega arith))

begun-made : (host : Host) (row : HostRow) → row_begun host row ≡ made_of host row 0
begun-made host (Clock number) = refl
begun-made host (Page words) = refl
begun-made host Disrupt = refl

pub makes_stores : MakesStores
makes_stores host row values asked =
    let begins = begun-made host row in
    let all = makes_from host row 0 values (omega arith) (subst (λ (h : Host). WereAsked act_of given h values) begins asked) in
    let is : after act_of given (row_begun host row) values ≡ made_of host row (length values) =
    ap (λ (h : Host). after act_of given h values) begins ∙ all.0 ∙ ap (made_of host row) (omega arith) in
    record {
      act = ap act_of is ∙ act_of-made host row (length values);
      few = (let few = all.1 in omega arith);
      whole = λ len. is ∙ ap (made_of host row) len;
    }

-- ---- where it can stand

-- a sequence count that is even, in 32 bits
abbrev pub IsEven : ℕ → Type 0
IsEven count = (count % 2 ≡ 0) × (count < 2 ^ 32)

even_by : (test : Bool) (count : ℕ) → IsEven count → IsEven (if test then raised 2 count else count)
even_by true count is = (let even = is.0 in omega arith, omega arith)
even_by false count is = is

-- the last store leaves an even count
pub count_after-even : (row : Option HostRow) (made count : ℕ) → IsEven count → IsEven (count_after row made count)
count_after-even None made count is = is
count_after-even (Some (Clock number)) made count is = is
count_after-even (Some Disrupt) made count is = is
count_after-even (Some (Page words)) made count is = even_by (made == 13) count is

length-in_hand : (constants count other : ℕ) (row : Option HostRow) → length (stores_in_hand constants count row) ≡ length (stores_in_hand constants other row)
length-in_hand constants count other None = refl
length-in_hand constants count other (Some row) = length-row_stores constants count other row

pub comes_nearer : ComesNearer
comes_nearer host value is asked =
    let more = more_left host asked in
    let counts = count_after-even host.row (host.made + 1) host.count (is.even, is.small) in
    let len = length-in_hand (constants_of host.start) (count_after host.row (host.made + 1) host.count) host.count host.row in
    (record { even = counts.0; small = counts.1; few = omega arith }, omega arith)

pub begins_host : (host : Host) (row : HostRow) → IsHost host → IsHost (row_begun host row)
begins_host host row is = record { even = is.even; small = is.small; few = omega arith }

-- ---- the words that a page row leaves

pub leaves_its_words : LeavesItsWords
leaves_its_words start words shared count are_start are_words is len first =
    let same = same_constants start words are_start are_words is in
    let s : shared ≡ items_from 24 0 shared = items 24 shared len in
    let w : words ≡ items_from 13 0 words = items 13 words are_words.all in
    ap (λ (l : List ℕ). stored l (page_stores (constants_of (Some start)) count words)) s
    ∙ rw (first, sym same.first, sym same.half) refl
    ∙ ap (λ (l : List ℕ). take 10 (items_from 24 0 shared) ++ (words_left l (raised 2 count) ++ drop 23 (items_from 24 0 shared))) (sym w)
    ∙ ap (λ (l : List ℕ). take 10 l ++ (words_left words (raised 2 count) ++ drop 23 l)) (sym s)
