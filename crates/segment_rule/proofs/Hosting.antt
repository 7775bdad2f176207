-- A row of the host that is under way, and what one store more makes of it.
use Rattle.std.proofs.Common.{◌≡◌, ℕ, zero, suc, ◌+◌, ◌-◌, ◌*◌, ◌%◌, ◌^◌, ◌<◌, ◌≤◌, inl, inr, true, false, List, [], ◌∷◌, ◌++◌, length, length-append, refl, sym, ap, ◌∙◌, subst, ne_eqb, arith, Option, Some, None}
use Rattle.std.specs.Prelude.{◌==◌, slice_index, slice_index_or, is_some, IfSome, IsOk, Result, Ok, Err, nat_lt}
use Rattle.std.proofs.lemmas.Bool.{cases_lt, cases_eq}
use Rattle.std.proofs.lemmas.Bool.Decides.{nat_tests}
use Rattle.std.proofs.lemmas.List.{get_or_past}
use Rattle.clock_gate.specs.declared.act.Act.{Act}
use Rattle.clock_gate.specs.declared.act.Act.TheVariants.{Store, End}
use Rattle.clock_gate.specs.declared.trace.HostRow.{HostRow}
use Rattle.clock_gate.specs.declared.trace.HostRow.TheVariants.{Clock, Page, Disrupt}
use Rattle.segment_layout.specs.Words.{flag_of}
use Rattle.vmclock_page.specs.Host.{Host, IsHost, act_of, given, row_begun, new_host, constants_of, count_of, raised, page_stores, row_stores, stores_in_hand, count_after}
use Rattle.vmclock_page.specs.Rows.{IsRowOf, IsPageRowAfter}
use Rattle.vmclock_page.specs.Words.{word_with_count, count_in_word}
use Rattle.segment_views.specs.declared.setup.Setup.{Setup}
use Rattle.segment_views.specs.Seats.{opener, without_daemon, pages_at_first, IsSetup}
use Rattle.segment_layout.specs.Image.{image_of}
use Rattle.segment_layout.specs.declared.start.Start.{Start}
use Rattle.segment_layout.specs.declared.image_fault.ImageFault.{ImageFault}
use Rattle.vmclock_page.specs.HostRows.{StartsEven}
use Rattle.segment_views.specs.Views.{HostPart, SeatView, page_point_of}
use Rattle.segment_views.specs.Steps.{page_filled}
use Rattle.segment_rule.specs.Hosts.{TellsHost, MayHost, words_of_row, part_at, MayDoRow, part_after, IsBetweenRows}
use Rattle.segment_rule.proofs.Opening.{to_left, to_right, of_left, of_right}

same_store : (a b m n : ℕ) → Store a m ≡ Store b n → (b ≡ a) × (n ≡ m)
same_store a b m n e = (cc, cc)

-- the count at rest
abbrev pub count_at : SeatView → ℕ
count_at v = raised (2 * (length v.host_part.pages - 1)) (count_of v.setup.page)

-- a row that began with this view, and is under way
pub record HostAt (row : HostRow) (v : SeatView) (m : Host) (w : SeatView) : Type 0 where
  pub view : w ≡ record v { host_part = part_at row m.made v.host_part }
  pub start : m.start ≡ v.setup.page
  pub same_row : m.row ≡ Some row
  pub count : m.count ≡ count_after (Some row) m.made (count_at v)

-- what a row begins with
pub record MayHostRow (row : HostRow) (v : SeatView) : Type 0 where
  pub seated : v.seated ≡ true
  pub may : MayDoRow row v
  pub page : IsRowOf v.setup.page row
  pub stores : v.host_part.stores ≡ 0
  pub even : count_at v % 2 ≡ 0
  pub pages : is_some v.setup.page ≡ true → 0 < length v.host_part.pages

has_page : (p : Option (List ℕ)) (words : List ℕ) → IsPageRowAfter p words → is_some p ≡ true
has_page None words h = absurd h
has_page (Some start) words h = refl

-- ---- the stores by their number

pub data RowStore (row : HostRow) (constants count made word value : ℕ) : Type 0 where
  OfClock : (number : ℕ) → row ≡ Clock number → made ≡ 0 → word ≡ 23 → value ≡ number → RowStore row constants count made word value
  OfOdd : (words : List ℕ) → row ≡ Page words → made ≡ 0 → word ≡ 11 → value ≡ word_with_count constants (raised 1 count) → RowStore row constants count made word value
  OfWord : (words : List ℕ) → row ≡ Page words → 1 ≤ made → made < 12 → word ≡ made + 11 → value ≡ slice_index words (made + 1) → RowStore row constants count made word value
  OfEven : (words : List ℕ) → row ≡ Page words → made ≡ 12 → word ≡ 11 → value ≡ word_with_count constants (raised 2 count) → RowStore row constants count made word value

word_store : (constants count : ℕ) (words : List ℕ) (made : ℕ) → 1 ≤ made → made < 12 → slice_index_or (page_stores constants count words) made End ≡ Store (made + 11) (slice_index words (made + 1))
word_store constants count words zero low high = absurd (omega arith)
word_store constants count words (suc zero) low high = refl
word_store constants count words (suc (suc zero)) low high = refl
word_store constants count words (suc (suc (suc zero))) low high = refl
word_store constants count words (suc (suc (suc (suc zero)))) low high = refl
word_store constants count words (suc (suc (suc (suc (suc zero))))) low high = refl
word_store constants count words (suc (suc (suc (suc (suc (suc zero)))))) low high = refl
word_store constants count words (suc (suc (suc (suc (suc (suc (suc zero))))))) low high = refl
word_store constants count words (suc (suc (suc (suc (suc (suc (suc (suc zero)))))))) low high = refl
word_store constants count words (suc (suc (suc (suc (suc (suc (suc (suc (suc zero))))))))) low high = refl
word_store constants count words (suc (suc (suc (suc (suc (suc (suc (suc (suc (suc zero)))))))))) low high = refl
word_store constants count words (suc (suc (suc (suc (suc (suc (suc (suc (suc (suc (suc zero))))))))))) low high = refl
word_store constants count words (suc (suc (suc (suc (suc (suc (suc (suc (suc (suc (suc (suc made)))))))))))) low high = absurd (omega arith)

row_store : (row : HostRow) (constants count made word value : ℕ) → slice_index_or (row_stores constants count row) made End ≡ Store word value → RowStore row constants count made word value
row_store (Clock number) constants count zero word value e = let s = same_store 23 word number value e in OfClock number refl refl s.0 s.1
row_store (Clock number) constants count (suc made) word value e = absurd (cc e)
row_store (Page words) constants count zero word value e = let s = same_store 11 word (word_with_count constants (raised 1 count)) value e in OfOdd words refl refl s.0 s.1
row_store (Page words) constants count (suc made) word value e = elim (cases_lt (suc made) 12) [
  | inl below ↦
      let s = same_store (suc made + 11) word (slice_index words (suc made + 1)) value (sym (word_store constants count words (suc made) (omega arith) below) ∙ e) in
      OfWord words refl (omega arith) below s.0 s.1
  | inr past ↦ elim (cases_eq (suc made) 12) [
    | inl twelve ↦
        let s = same_store 11 word (word_with_count constants (raised 2 count)) value (ap (λ (n : ℕ). slice_index_or (page_stores constants count words) n End) (sym twelve) ∙ e) in
        OfEven words refl twelve s.0 s.1
    | inr other ↦ absurd (cc (sym e ∙ get_or_past (page_stores constants count words) (suc made) End (let h = past in omega (arith, h, other))))
  ]
]
row_store Disrupt constants count made word value e = absurd (cc e)

-- a row that has not ended makes a store
pub store_now : (row : HostRow) (v w : SeatView) (m : Host) (word value : ℕ) → HostAt row v m w → act_of m ≡ Store word value → RowStore row (constants_of v.setup.page) m.count m.made word value
store_now row v w m word value u act =
    row_store row (constants_of v.setup.page) m.count m.made word value
    ((λ j. slice_index_or (stores_in_hand (constants_of (sym u.start j)) m.count (sym u.same_row j)) m.made End) ∙ act)

-- ---- the count

word_even : (c : ℕ) (word count : ℕ) → c < 2 ^ 32 → word ≡ word_with_count c count → count_in_word word ≡ count
word_even c word count small is = omega (arith, is, small)

constants_small : (p : Option (List ℕ)) → constants_of p < 2 ^ 32
constants_small None = omega arith
constants_small (Some words) = omega arith

at_rest : (v : SeatView) → v.host_part.stores ≡ 0 → page_point_of v.host_part ≡ 2 * (length v.host_part.pages - 1)
at_rest v none = ap (λ (n : ℕ). 2 * (length v.host_part.pages - 1) + flag_of (nat_lt 0 n)) none ∙ omega arith

odd_count : (v : SeatView) → v.host_part.stores ≡ 0 → raised 1 (count_at v) ≡ raised (page_point_of v.host_part + 1) (count_of v.setup.page)
odd_count v none = let rests = at_rest v none in omega (arith, rests)

even_count : (v : SeatView) → 0 < length v.host_part.pages → raised 2 (count_at v) ≡ raised (2 * length v.host_part.pages) (count_of v.setup.page)
even_count v some_page = omega arith

-- the view after so many stores
abbrev pub view_at : HostRow → ℕ → SeatView → SeatView
view_at row made v = record v { host_part = part_at row made v.host_part }

-- within a page row
within_page : (words : List ℕ) (made : ℕ) (h : HostPart) → 1 ≤ made → made < 13 → part_at (Page words) made h ≡ record h { stores = made; hand = words }
within_page words made h low high =
    let first : (made == 0) ≡ false = ne_eqb made 0 (λ e. absurd (omega (arith, e, low))) in
    let last : (made == 13) ≡ false = ne_eqb made 13 (λ e. absurd (omega (arith, e, high))) in
    rw (first, last) refl

count_before : (words : List ℕ) (made count : ℕ) → made < 13 → count_after (Some (Page words)) made count ≡ count
count_before words made count few = let last : (made == 13) ≡ false = ne_eqb made 13 (λ e. absurd (omega (arith, e, few))) in rw last refl

-- ---- what a store of a page row is

has_row : (row : HostRow) (v : SeatView) (words : List ℕ) → MayHostRow row v → row ≡ Page words → is_some v.setup.page ≡ true
has_row row v words b row_is = has_page v.setup.page words (subst (λ (r : HostRow). IsRowOf v.setup.page r) row_is b.page)

row_within : (row : HostRow) (v : SeatView) (words : List ℕ) (made : ℕ) → row ≡ Page words → 1 ≤ made → made < 13 → part_at row made v.host_part ≡ record v.host_part { stores = made; hand = words }
row_within row v words made row_is low high = ap (λ (r : HostRow). part_at r made v.host_part) row_is ∙ within_page words made v.host_part low high

-- a word from the marker on is neither the clock's nor the count's
no_count : (word made : ℕ) → word ≡ made + 11 → 1 ≤ made → made < 12 → ((word == 23) ≡ false) × ((word == 11) ≡ false)
no_count word made at low high = (ne_eqb word 23 (λ e. absurd (omega (arith, e, at, high))), ne_eqb word 11 (λ e. absurd (omega (arith, e, at, low))))

-- the count at rest, raised by so much
count_stored : (row : HostRow) (v : SeatView) (words : List ℕ) (made few raise value : ℕ) → row ≡ Page words → made ≡ few → few < 13 → value ≡ word_with_count (constants_of v.setup.page) (raised raise (count_after (Some row) made (count_at v)))
    → value ≡ word_with_count (constants_of v.setup.page) (raised raise (count_at v))
count_stored row v words made few raise value row_is made_is small is =
    let count : count_after (Some row) made (count_at v) ≡ count_at v = (λ j. count_after (Some (row_is j)) (made_is j) (count_at v)) ∙ count_before words few (count_at v) small in
    is ∙ ap (λ (n : ℕ). word_with_count (constants_of v.setup.page) (raised raise n)) count

-- raised by one it is odd, by two even
raised_odd : (v : SeatView) (value : ℕ) → count_at v % 2 ≡ 0 → value ≡ word_with_count (constants_of v.setup.page) (raised 1 (count_at v)) → (count_in_word value % 2 == 1) ≡ true
raised_odd v value even is =
    let told = word_even (constants_of v.setup.page) value (raised 1 (count_at v)) (constants_small v.setup.page) is in
    let odd : count_in_word value % 2 ≡ 1 = omega (arith, told, even) in
    grind (arith, nat_tests)

raised_even : (v : SeatView) (value : ℕ) → count_at v % 2 ≡ 0 → value ≡ word_with_count (constants_of v.setup.page) (raised 2 (count_at v)) → (count_in_word value % 2 == 1) ≡ false
raised_even v value even is =
    let told = word_even (constants_of v.setup.page) value (raised 2 (count_at v)) (constants_small v.setup.page) is in
    let still : count_in_word value % 2 ≡ 0 = omega (arith, told, even) in
    grind (arith, nat_tests)

-- ---- may it be made

may_at : (row : HostRow) (v : SeatView) (made word value : ℕ) → MayHostRow row v → RowStore row (constants_of v.setup.page) (count_after (Some row) made (count_at v)) made word value → MayHost word value (view_at row made v)
may_at row v made word value b (OfClock number row_is none at is) =
    let may : MayDoRow (Clock number) v = subst (λ (r : HostRow). MayDoRow r v) row_is b.may in
    subst (λ (x : HostRow × ℕ × ℕ). MayHost x.1 value (view_at x.0 x.2 v)) (λ j. (sym row_is j, sym at j, sym none j)) (is ∙ may.0, may.1)
may_at row v made word value b (OfOdd words row_is none at is) =
    let is_odd = count_stored row v words made 0 1 value row_is none (omega arith) is in
    subst (λ (x : HostRow × ℕ × ℕ). MayHost x.1 value (view_at x.0 x.2 v)) (λ j. (sym row_is j, sym at j, sym none j))
    (to_left (count_in_word value % 2 == 1) _ _ (raised_odd v value b.even is_odd) (has_row row v words b row_is, b.stores, is_odd ∙ ap (word_with_count (constants_of v.setup.page)) (odd_count v b.stores)))
may_at row v made word value b (OfWord words row_is low high at is) =
    let other = no_count word made at low high in
    let place : made + 1 ≡ word - 10 = omega (arith, at) in
    subst (λ (h : HostPart). MayHost word value (record v { host_part = h })) (sym (row_within row v words made row_is low (omega arith)))
    (to_right (word == 23) _ _ other.0 (to_right (word == 11) _ _ other.1 (omega (arith, at, low), omega (arith, at, high), has_row row v words b row_is, place, is ∙ ap (slice_index words) place)))
may_at row v made word value b (OfEven words row_is twelve at is) =
    let has = has_row row v words b row_is in
    let may : MayDoRow (Page words) v = subst (λ (r : HostRow). MayDoRow r v) row_is b.may in
    let is_even = count_stored row v words made 12 2 value row_is twelve (omega arith) is in
    subst (λ (x : HostRow × ℕ × ℕ). MayHost x.1 value (view_at x.0 x.2 v)) (λ j. (sym row_is j, sym at j, sym twelve j))
    (to_right (count_in_word value % 2 == 1) _ _ (raised_even v value b.even is_even) (has, refl, may, is_even ∙ ap (word_with_count (constants_of v.setup.page)) (even_count v (b.pages has))))

pub may_store : (row : HostRow) (v w : SeatView) (m : Host) (word value : ℕ) → MayHostRow row v → HostAt row v m w → act_of m ≡ Store word value → MayHost word value w
may_store row v w m word value b u act =
    let store = store_now row v w m word value u act in
    subst (λ (x : SeatView). MayHost word value x) (sym u.view)
    (may_at row v m.made word value b (subst (λ (n : ℕ). RowStore row (constants_of v.setup.page) n m.made word value) u.count store))

-- ---- what it makes

-- what a store tells, and the view after it, by the row and the number of its store
told_at : (row : HostRow) (v x : SeatView) (same : HostRow) (made few word place value : ℕ) → row ≡ same → made ≡ few → word ≡ place → TellsHost (words_of_row row) word (view_at row made v) value value x
    → TellsHost (words_of_row same) place (view_at same few v) value value x
told_at row v x same made few word place value row_is made_is at t =
    subst (λ (y : HostRow × ℕ × ℕ). TellsHost (words_of_row y.0) y.1 (view_at y.0 y.2 v) value value x) (λ j. (row_is j, at j, made_is j)) t

next_at : (row : HostRow) (v : SeatView) (same : HostRow) (made few : ℕ) → row ≡ same → made ≡ few → view_at same (few + 1) v ≡ view_at row (made + 1) v
next_at row v same made few row_is made_is = λ j. view_at (sym row_is j) (sym made_is j + 1) v

after_at : (row : HostRow) (v x : SeatView) (made word value : ℕ) → MayHostRow row v → RowStore row (constants_of v.setup.page) (count_after (Some row) made (count_at v)) made word value
    → TellsHost (words_of_row row) word (view_at row made v) value value x → x ≡ view_at row (made + 1) v
after_at row v x made word value b (OfClock number row_is none at is) t = told_at row v x (Clock number) made 0 word 23 value row_is none at t ∙ next_at row v (Clock number) made 0 row_is none
after_at row v x made word value b (OfOdd words row_is none at is) t =
    of_left (count_in_word value % 2 == 1) _ _ (raised_odd v value b.even (count_stored row v words made 0 1 value row_is none (omega arith) is)) (told_at row v x (Page words) made 0 word 11 value row_is none at t)
    ∙ next_at row v (Page words) made 0 row_is none
after_at row v x made word value b (OfWord words row_is low high at is) t =
    let other = no_count word made at low high in
    let place : word - 10 ≡ made + 1 = omega (arith, at) in
    let told : x ≡ record (view_at row made v) { host_part = page_filled (word - 10) (view_at row made v) } = of_right (word == 11) _ _ other.1 (of_right (word == 23) _ _ other.0 t) in
    told ∙ ((λ j. record v { host_part = record (row_within row v words made row_is low (omega arith) j) { stores = place j } }) ∙ (λ j. record v { host_part = sym (row_within row v words (made + 1) row_is (omega arith) (omega arith)) j }))
after_at row v x made word value b (OfEven words row_is twelve at is) t =
    of_right (count_in_word value % 2 == 1) _ _ (raised_even v value b.even (count_stored row v words made 12 2 value row_is twelve (omega arith) is)) (told_at row v x (Page words) made 12 word 11 value row_is twelve at t)
    ∙ next_at row v (Page words) made 12 row_is twelve

pub host_more : (row : HostRow) (v w x : SeatView) (m new : Host) (word value : ℕ) → MayHostRow row v → HostAt row v m w → act_of m ≡ Store word value → TellsHost (words_of_row row) word w value value x → new ≡ given m value → HostAt row v new x
host_more row v w x m new word value b u act t is =
    let store = store_now row v w m word value u act in
    subst (λ (n : Host). HostAt row v n x) (sym is)
    (record {
      view = after_at row v x m.made word value b (subst (λ (n : ℕ). RowStore row (constants_of v.setup.page) n m.made word value) u.count store) (subst (λ (y : SeatView). TellsHost (words_of_row row) word y value value x) u.view t);
      start = u.start;
      same_row = u.same_row;
      count = (λ j. count_after (u.same_row j) (m.made + 1) (u.count j)) ∙ counted row (count_at v) m.made word value store;
    })
  where
    few_made : (row : HostRow) (words : List ℕ) (made word value : ℕ) → row ≡ Page words → RowStore row (constants_of v.setup.page) m.count made word value → made < 13
    few_made row words made word value is (OfClock number row_is none at e) = omega arith
    few_made row words made word value is (OfOdd ws row_is none at e) = omega arith
    few_made row words made word value is (OfWord ws row_is low high at e) = omega arith
    few_made row words made word value is (OfEven ws row_is twelve at e) = omega arith

    -- the count rises at the last store alone
    counted : (row : HostRow) (count made word value : ℕ) → RowStore row (constants_of v.setup.page) m.count made word value → count_after (Some row) (made + 1) (count_after (Some row) made count) ≡ count_after (Some row) (made + 1) count
    counted (Clock number) count made word value s = refl
    counted (Page words) count made word value s = ap (count_after (Some (Page words)) (made + 1)) (count_before words made count (few_made (Page words) words made word value refl s))
    counted Disrupt count made word value s = refl

-- ---- its end

pub host_begins : (row : HostRow) (v : SeatView) (m new : Host) → IsBetweenRows m v → new ≡ row_begun m row → HostAt row v new v
host_begins row v m new b is =
    subst (λ (n : Host). HostAt row v n v) (sym is)
    (record { view = sym (none_made row v); start = b.start; same_row = refl; count = b.count ∙ sym (none_counted row (count_at v)) })
  where
    none_made : (row : HostRow) (v : SeatView) → view_at row 0 v ≡ v
    none_made (Clock number) v = refl
    none_made (Page words) v = refl
    none_made Disrupt v = refl

    none_counted : (row : HostRow) (count : ℕ) → count_after (Some row) 0 count ≡ count
    none_counted (Clock number) count = refl
    none_counted (Page words) count = refl
    none_counted Disrupt count = refl

pub may_row : (row : HostRow) (v : SeatView) (m : Host) → IsBetweenRows m v → m.count % 2 ≡ 0 → IsRowOf v.setup.page row → MayDoRow row v → MayHostRow row v
may_row row v m b even page may = record { seated = b.seated; may = may; page = page; stores = b.stores; even = ap (λ (n : ℕ). n % 2) (sym b.count) ∙ even; pages = b.pages }

all_made : (row : HostRow) (constants count made : ℕ) → made ≤ length (row_stores constants count row) → ((word value : ℕ) → slice_index_or (row_stores constants count row) made End ≡ Store word value → ⊥) → made ≡ length (row_stores constants count row)
all_made (Clock number) constants count zero few none = absurd (none 23 number refl)
all_made (Clock number) constants count (suc made) few none = omega (arith, few)
all_made (Page words) constants count zero few none = absurd (none 11 (word_with_count constants (raised 1 count)) refl)
all_made (Page words) constants count (suc made) few none = elim (cases_lt (suc made) 12) [
  | inl below ↦ absurd (none (suc made + 11) (slice_index words (suc made + 1)) (word_store constants count words (suc made) (omega arith) below))
  | inr past ↦ elim (cases_eq (suc made) 12) [
    | inl twelve ↦ absurd (none 11 (word_with_count constants (raised 2 count)) (ap (λ (n : ℕ). slice_index_or (page_stores constants count words) n End) twelve))
    | inr other ↦ (let h = past in omega (arith, h, other, few))
  ]
]
all_made Disrupt constants count made few none = omega (arith, few)

row_rests : (row : HostRow) (v : SeatView) (m : Host) (made : ℕ) → MayHostRow row v → m.start ≡ v.setup.page → act_of m ≡ End → m.count ≡ count_after (Some row) made (count_at v) → made ≡ length (row_stores (constants_of v.setup.page) 0 row)
    → (view_at row made v ≡ record v { host_part = part_after row v.host_part }) × IsBetweenRows m (record v { host_part = part_after row v.host_part })
row_rests (Clock number) v m made b start act count all = (
  ap (λ (n : ℕ). view_at (Clock number) n v) all,
  record { seated = b.seated; stores = b.stores; start = start; ended = act; count = count; pages = b.pages },
)
row_rests (Page words) v m made b start act count all =
    let has = has_page v.setup.page words b.page in
    let some_page = b.pages has in
    let more : length (v.host_part.pages ++ words ∷ []) ≡ length v.host_part.pages + 1 = length-append v.host_part.pages (words ∷ []) in
    let last : count_after (Some (Page words)) made (count_at v) ≡ raised 2 (count_at v) = ap (λ (n : ℕ). count_after (Some (Page words)) n (count_at v)) all in
    let pages : 2 * length v.host_part.pages ≡ 2 * (length (v.host_part.pages ++ words ∷ []) - 1) = omega (arith, more) in (
      ap (λ (n : ℕ). view_at (Page words) n v) all,
      record {
        seated = b.seated;
        stores = refl;
        start = start;
        ended = act;
        count = count ∙ (last ∙ (even_count v some_page ∙ ap (λ (n : ℕ). raised n (count_of v.setup.page)) pages));
        pages = λ _. omega (arith, more);
      },
    )
row_rests Disrupt v m made b start act count all = (refl, record { seated = b.seated; stores = b.stores; start = start; ended = act; count = count; pages = b.pages })

lengths : (row : HostRow) (constants count : ℕ) → length (row_stores constants count row) ≡ length (row_stores constants 0 row)
lengths (Clock number) constants count = refl
lengths (Page words) constants count = refl
lengths Disrupt constants count = refl

pub host_ended : (row : HostRow) (v w : SeatView) (m : Host) → MayHostRow row v → HostAt row v m w → IsHost m → act_of m ≡ End
    → (w ≡ record v { host_part = part_after row v.host_part }) × IsBetweenRows m (record v { host_part = part_after row v.host_part })
host_ended row v w m b u host act =
    let stores_same : stores_in_hand (constants_of m.start) m.count m.row ≡ row_stores (constants_of v.setup.page) m.count row = λ j. stores_in_hand (constants_of (u.start j)) m.count (u.same_row j) in
    let few : m.made ≤ length (row_stores (constants_of v.setup.page) m.count row) = subst (λ (l : List Act). m.made ≤ length l) stores_same host.few in
    let all = all_made row (constants_of v.setup.page) m.count m.made few (λ word value e. cc (sym act ∙ (ap (λ (l : List Act). slice_index_or l m.made End) stores_same ∙ e))) in
    let r = row_rests row v m m.made b u.start act u.count (all ∙ lengths row (constants_of v.setup.page) m.count) in
    (u.view ∙ r.0, r.1)

-- ---- the first seat

first_count : (p : Option (List ℕ)) → IfSome p StartsEven → count_of p ≡ raised (2 * (length (pages_at_first p) - 1)) (count_of p)
first_count None starts = refl
first_count (Some words) starts = let small = starts.small in omega (arith, small)

first_page : (p : Option (List ℕ)) → is_some p ≡ true → 0 < length (pages_at_first p)
first_page None has = absurd (cc has)
first_page (Some words) has = omega arith

pub first_rests : (c : Setup) (v : SeatView) → v ≡ without_daemon (opener c) → IfSome c.page StartsEven → IsBetweenRows (new_host c.page) v
first_rests c v is starts =
    subst (λ (x : SeatView). IsBetweenRows (new_host c.page) x) (sym is)
    (record { seated = refl; stores = refl; start = refl; ended = refl; count = first_count c.page starts; pages = first_page c.page })

start_even : (p : Option (List ℕ)) → IsHost (new_host p) → IfSome p StartsEven
start_even None host = tt
start_even (Some words) host = record { word = omega arith; even = host.even; small = host.small }

pub is_setup : (c : Setup) → length c.image ≡ 10 → slice_index c.image 1 < 2 ^ 64 → IsOk (image_of c.layout c.image) → 1 ≤ c.rows → IsHost (new_host c.page) → IsSetup c
is_setup c ten fits ok rows host = by_start (image_of c.layout c.image) refl ok
  where
    by_start : (found : Result Start ImageFault) → image_of c.layout c.image ≡ found → IsOk found → IsSetup c
    by_start (Ok start) is ok_is = record { ten = ten; fits = fits; start = start; admitted = is; rows = rows; page = start_even c.page host }
    by_start (Err fault) is ok_is = absurd (cc ok_is)
