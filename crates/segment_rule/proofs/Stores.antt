-- The stores of a publication by their number, and what each makes of what the daemon owns.
use Rattle.std.proofs.Common.{◌≡◌, ◌≢◌, ℕ, zero, suc, ◌+◌, ◌-◌, ◌*◌, ◌%◌, ◌<◌, ◌≤◌, inl, inr, Bool, true, false, [], ◌∷◌, ◌++◌, refl, sym, ap, ◌∙◌, subst, ne_eqb, arith}
use Rattle.std.specs.Prelude.{◌==◌, slice_index, slice_index_or}
use Rattle.std.proofs.lemmas.Bool.{cases_lt, cases_eq}
use Rattle.std.proofs.lemmas.Bool.Decides.{nat_tests}
use Rattle.std.proofs.lemmas.List.{get_or_past}
use Rattle.clock_gate.specs.declared.act.Act.TheVariants.{Load, Store, End}
use Rattle.generation_word.specs.declared.layout.Layout.{Layout}
use Rattle.generation_word.specs.Layout.{period_of}
use Rattle.generation_word.specs.Numbering.{odd_after, even_after}
use Rattle.generation_word.specs.Header.{word1_of, generation_in}
use Rattle.generation_word.proofs.Laws.{odd_after-at_rest, odd_after-in_update, even_after-at_rest, even_after-in_update}
use Rattle.segment_layout.specs.declared.publication.Publication.{Publication}
use Rattle.segment_layout.specs.Record.{RecordFields, KeepsBounds}
use Rattle.segment_layout.specs.Words.{record_words}
use Rattle.vmclock_page.specs.Host.{count_of}
use Rattle.vmclock_page.specs.Counting.{page_number_of}
use Rattle.shm_writer.specs.Publisher.{stores}
use Rattle.shm_writer.proofs.Laws.{stores-by_word}
use Rattle.segment_run.specs.SegmentRun.{SegmentRun, header_shown, number_shown, number_at}
use Rattle.segment_run.proofs.SegmentHeader.{header_tells, own_header, period_positive, number_at_rest, number_in_update, number_even}
use Rattle.segment_views.specs.Views.{DaemonPart, SeatView}
use Rattle.segment_views.specs.Steps.{update_begun, update_filled, update_ended}
use Rattle.segment_rule.specs.Polls.{TellsPoll, MayPoll}
use Rattle.segment_rule.proofs.Opening.{to_left, to_right, of_left, of_right}

-- ---- the numbers of the next publication

odd_by : (segment : SegmentRun) (writes : Bool) → segment.is_writing ≡ writes → odd_after (number_shown segment) ≡ number_at segment segment.position + 1
odd_by segment true is = ap odd_after (number_in_update segment is) ∙ odd_after-in_update (period_of segment.layout) segment.position
odd_by segment false is = ap odd_after (number_at_rest segment is) ∙ odd_after-at_rest (period_of segment.layout) segment.position

even_by : (segment : SegmentRun) (writes : Bool) → segment.is_writing ≡ writes → even_after (period_of segment.layout) (number_shown segment) ≡ number_at segment (segment.position + 1)
even_by segment true is = ap (even_after (period_of segment.layout)) (number_in_update segment is) ∙ even_after-in_update (period_of segment.layout) segment.position (period_positive segment.layout)
even_by segment false is = ap (even_after (period_of segment.layout)) (number_at_rest segment is) ∙ even_after-at_rest (period_of segment.layout) segment.position (period_positive segment.layout)

pub odd_next : (segment : SegmentRun) → odd_after (number_shown segment) ≡ number_at segment segment.position + 1
odd_next segment = odd_by segment segment.is_writing refl

pub even_next : (segment : SegmentRun) → even_after (period_of segment.layout) (number_shown segment) ≡ number_at segment (segment.position + 1)
even_next segment = even_by segment segment.is_writing refl

own_told : (layout : Layout) (n : ℕ) → generation_in (word1_of layout n) ≡ n
own_told layout n = header_tells layout (word1_of layout n) n (own_header layout n)

-- ---- the stores by their number

same_store : (a b m n : ℕ) → Store a m ≡ Store b n → (b ≡ a) × (n ≡ m)
same_store a b m n e = (cc, cc)

-- a store is the odd number, one of the record's words, or the even number
pub data StoreOf (rec : RecordFields) (layout : Layout) (generation made word value : ℕ) : Type 0 where
  IsOdd : made ≡ 0 → word ≡ 1 → value ≡ word1_of layout (odd_after generation) → StoreOf rec layout generation made word value
  IsWord : 1 ≤ made → made < 9 → word ≡ made + 1 → value ≡ slice_index (record_words 0 rec) word → StoreOf rec layout generation made word value
  IsEven : made ≡ 9 → word ≡ 1 → value ≡ word1_of layout (even_after (period_of layout) generation) → StoreOf rec layout generation made word value

data_store : (rec : RecordFields) (layout : Layout) (generation made : ℕ) → 1 ≤ made → made < 9 → slice_index_or (stores rec layout generation) made End ≡ Store (made + 1) (slice_index (record_words 0 rec) (made + 1))
data_store rec layout generation made low high =
    let back : made + 1 - 1 ≡ made = omega arith in
    ap (λ (n : ℕ). slice_index_or (stores rec layout generation) n End) (sym back) ∙ stores-by_word rec layout generation (made + 1) (omega arith) (omega arith)

pub store_of : (rec : RecordFields) (layout : Layout) (generation made word value : ℕ) → slice_index_or (stores rec layout generation) made End ≡ Store word value → StoreOf rec layout generation made word value
store_of rec layout generation zero word value e = let s = same_store 1 word (word1_of layout (odd_after generation)) value e in IsOdd refl s.0 s.1
store_of rec layout generation (suc made) word value e = elim (cases_lt (suc made) 9) [
  | inl below ↦
      let s = same_store (suc made + 1) word (slice_index (record_words 0 rec) (suc made + 1)) value (sym (data_store rec layout generation (suc made) (omega arith) below) ∙ e) in
      IsWord (omega arith) below s.0 (s.1 ∙ ap (slice_index (record_words 0 rec)) (sym s.0))
  | inr past ↦ elim (cases_eq (suc made) 9) [
    | inl nine ↦
        let s = same_store 1 word (word1_of layout (even_after (period_of layout) generation)) value (ap (λ (n : ℕ). slice_index_or (stores rec layout generation) n End) (sym nine) ∙ e) in
        IsEven nine s.0 s.1
    | inr other ↦ absurd (cc (sym e ∙ get_or_past (stores rec layout generation) (suc made) End (let h = past in omega (arith, h, other))))
  ]
]

-- no store is a load
pub no_load : (rec : RecordFields) (layout : Layout) (generation made word : ℕ) → slice_index_or (stores rec layout generation) made End ≡ Load word → ⊥
no_load rec layout generation zero word e = cc e
no_load rec layout generation (suc made) word e = elim (cases_lt (suc made) 9) [
  | inl below ↦ cc (sym e ∙ data_store rec layout generation (suc made) (omega arith) below)
  | inr past ↦ elim (cases_eq (suc made) 9) [
    | inl nine ↦ cc (sym e ∙ ap (λ (n : ℕ). slice_index_or (stores rec layout generation) n End) nine)
    | inr other ↦ cc (sym e ∙ get_or_past (stores rec layout generation) (suc made) End (let h = past in omega (arith, h, other)))
  ]
]

-- ---- what the daemon owns after so many stores

-- after so many stores of a publication, the first of which found this
pub record AfterStores (e : Publication) (made : ℕ) (s o : DaemonPart) : Type 0 where
  pub layout : o.segment.layout ≡ s.segment.layout
  pub image : o.segment.image ≡ s.segment.image
  pub base : o.segment.base ≡ s.segment.base
  pub before : made ≡ 0 → o ≡ s
  pub between : 0 < made → made < 10
      → (o.hand.publication ≡ e) × (o.hand.stores ≡ made) × (o.segment.position ≡ s.segment.position) × (o.segment.history ≡ s.segment.history) × (o.segment.is_writing ≡ true) × (o.segment.is_headed ≡ true)
  pub ended : made ≡ 10
      → (o.segment.position ≡ s.segment.position + 1) × (o.segment.history ≡ s.segment.history ++ e ∷ []) × (o.segment.is_writing ≡ false) × (o.segment.is_headed ≡ true)

pub none_stored : (e : Publication) (s o : DaemonPart) → o ≡ s → AfterStores e 0 s o
none_stored e s o same = record {
  layout = ap (λ (p : DaemonPart). p.segment.layout) same;
  image = ap (λ (p : DaemonPart). p.segment.image) same;
  base = ap (λ (p : DaemonPart). p.segment.base) same;
  before = λ _. same;
  between = λ more few. absurd (omega arith);
  ended = λ ten. absurd (omega arith);
}

-- what is asked of a publication before its first store
pub record MayPublish (e : Publication) (w : SeatView) : Type 0 where
  pub bounds : KeepsBounds e.rec.as_of e.rec.void_after e.rec.bound e.rec.drift
  pub rows : e.replied ≤ w.seen.rows
  pub page : 2 * page_number_of (count_of w.setup.page) e.sequence ≤ w.seen.page_point

module _ (e : Publication) (v w : SeatView) (generation made word value : ℕ) where
  -- a store may be made where it comes
  pub may_store : MayPublish e w → v.daemon_part.segment.layout ≡ w.setup.layout → header_shown v.daemon_part.segment ≢ 0 → generation ≡ number_shown v.daemon_part.segment → AfterStores e made v.daemon_part w.daemon_part
      → StoreOf e.rec w.setup.layout generation made word value → MayPoll e word value w
  may_store may layout header number after (IsOdd none one is) =
      let same : w.daemon_part ≡ v.daemon_part = after.before none in
      let odd : odd_after generation ≡ number_at w.daemon_part.segment w.daemon_part.segment.position + 1 =
      ap odd_after number ∙ (odd_next v.daemon_part.segment ∙ ap (λ (p : DaemonPart). number_at p.segment p.segment.position + 1) (sym same)) in
      let tells : generation_in value ≡ odd_after generation = ap generation_in is ∙ own_told w.setup.layout (odd_after generation) in
      let even = number_even w.daemon_part.segment w.daemon_part.segment.position in
      let parity : (generation_in value % 2 == 1) ≡ true = (let x : generation_in value % 2 ≡ 1 = omega (arith, tells, odd, even) in grind (arith, nat_tests)) in
      subst (λ (i : ℕ). MayPoll e i value w) (sym one)
      (to_left (generation_in value % 2 == 1) _ _ parity
      (inr (subst (λ (p : DaemonPart). header_shown p.segment ≢ 0) (sym same) header), is ∙ ap (word1_of w.setup.layout) odd, may.bounds, may.rows, may.page))
  may_store may layout header number after (IsWord low high place is) =
      let b = after.between low (omega arith) in
      let test : (word == 1) ≡ false = ne_eqb word 1 (λ one. absurd (omega (arith, one, place, low))) in
      let on = b.1 in
      to_right (word == 1) _ _ test
      (omega (arith, place, low), omega (arith, place, high), omega (arith, on, low), omega (arith, on, place), is ∙ ap (λ (p : Publication). slice_index (record_words 0 p.rec) word) (sym b.0))
  may_store may layout header number after (IsEven nine one is) =
      let b = after.between (omega arith) (omega arith) in
      let on = b.1 in
      let same : w.daemon_part.segment.layout ≡ w.setup.layout = after.layout ∙ layout in
      let even : even_after (period_of w.setup.layout) generation ≡ number_at w.daemon_part.segment (w.daemon_part.segment.position + 1) =
      ap (even_after (period_of w.setup.layout)) number
      ∙ (ap (λ (l : Layout). even_after (period_of l) (number_shown v.daemon_part.segment)) (sym layout)
      ∙ (even_next v.daemon_part.segment
      ∙ (λ j. number_at (record v.daemon_part.segment { layout = sym after.layout j }) (sym b.2 j + 1)))) in
      let tells : generation_in value ≡ even_after (period_of w.setup.layout) generation = ap generation_in is ∙ own_told w.setup.layout (even_after (period_of w.setup.layout) generation) in
      let rests = number_even w.daemon_part.segment (w.daemon_part.segment.position + 1) in
      let parity : (generation_in value % 2 == 1) ≡ false = (let x : generation_in value % 2 ≡ 0 = omega (arith, tells, even, rests) in grind (arith, nat_tests)) in
      subst (λ (i : ℕ). MayPoll e i value w) (sym one)
      (to_right (generation_in value % 2 == 1) _ _ parity (omega (arith, on, nine), is ∙ ap (word1_of w.setup.layout) even))

  -- and it makes this of what the daemon owns
  pub after_store : (x : SeatView) → v.daemon_part.segment.layout ≡ w.setup.layout → generation ≡ number_shown v.daemon_part.segment → AfterStores e made v.daemon_part w.daemon_part → StoreOf e.rec w.setup.layout generation made word value
      → TellsPoll e word w value value x → AfterStores e (made + 1) v.daemon_part x.daemon_part
  after_store x layout number after (IsOdd none one is) t =
      let same : w.daemon_part ≡ v.daemon_part = after.before none in
      let odd : odd_after generation ≡ number_at v.daemon_part.segment v.daemon_part.segment.position + 1 = ap odd_after number ∙ odd_next v.daemon_part.segment in
      let tells : generation_in value ≡ odd_after generation = ap generation_in is ∙ own_told w.setup.layout (odd_after generation) in
      let even = number_even v.daemon_part.segment v.daemon_part.segment.position in
      let parity : (generation_in value % 2 == 1) ≡ true = (let y : generation_in value % 2 ≡ 1 = omega (arith, tells, odd, even) in grind (arith, nat_tests)) in
      let at_one : TellsPoll e 1 w value value x = subst (λ (i : ℕ). TellsPoll e i w value value x) one t in
      let told = of_left (generation_in value % 2 == 1) _ _ parity at_one in
      let part : x.daemon_part ≡ update_begun e w = ap (λ (y : SeatView). y.daemon_part) told.view in
      record {
        layout = ap (λ (p : DaemonPart). p.segment.layout) part ∙ after.layout;
        image = ap (λ (p : DaemonPart). p.segment.image) part ∙ after.image;
        base = ap (λ (p : DaemonPart). p.segment.base) part ∙ after.base;
        before = λ zero_made. absurd (omega arith);
        between = λ more few. (
          ap (λ (p : DaemonPart). p.hand.publication) part,
          ap (λ (p : DaemonPart). p.hand.stores) part ∙ (let first : 1 ≡ made + 1 = omega (arith, none) in first),
          ap (λ (p : DaemonPart). p.segment.position) part ∙ ap (λ (p : DaemonPart). p.segment.position) same,
          ap (λ (p : DaemonPart). p.segment.history) part ∙ ap (λ (p : DaemonPart). p.segment.history) same,
          ap (λ (p : DaemonPart). p.segment.is_writing) part,
          ap (λ (p : DaemonPart). p.segment.is_headed) part,
        );
        ended = λ ten. absurd (omega (arith, ten, none));
      }
  after_store x layout number after (IsWord low high place is) t =
      let b = after.between low (omega arith) in
      let test : (word == 1) ≡ false = ne_eqb word 1 (λ one. absurd (omega (arith, one, place, low))) in
      let told = of_right (word == 1) _ _ test t in
      let part : x.daemon_part ≡ update_filled word w = ap (λ (y : SeatView). y.daemon_part) told.view in
      record {
        layout = ap (λ (p : DaemonPart). p.segment.layout) part ∙ after.layout;
        image = ap (λ (p : DaemonPart). p.segment.image) part ∙ after.image;
        base = ap (λ (p : DaemonPart). p.segment.base) part ∙ after.base;
        before = λ zero_made. absurd (omega arith);
        between = λ more few. (
          ap (λ (p : DaemonPart). p.hand.publication) part ∙ b.0,
          ap (λ (p : DaemonPart). p.hand.stores) part ∙ place,
          ap (λ (p : DaemonPart). p.segment.position) part ∙ b.2,
          ap (λ (p : DaemonPart). p.segment.history) part ∙ b.3,
          ap (λ (p : DaemonPart). p.segment.is_writing) part ∙ b.4,
          ap (λ (p : DaemonPart). p.segment.is_headed) part ∙ b.5,
        );
        ended = λ ten. absurd (omega (arith, ten, high));
      }
  after_store x layout number after (IsEven nine one is) t =
      let b = after.between (omega arith) (omega arith) in
      let even : even_after (period_of w.setup.layout) generation ≡ number_at v.daemon_part.segment (v.daemon_part.segment.position + 1) =
      ap (even_after (period_of w.setup.layout)) number
      ∙ (ap (λ (l : Layout). even_after (period_of l) (number_shown v.daemon_part.segment)) (sym layout) ∙ even_next v.daemon_part.segment) in
      let tells : generation_in value ≡ even_after (period_of w.setup.layout) generation = ap generation_in is ∙ own_told w.setup.layout (even_after (period_of w.setup.layout) generation) in
      let rests = number_even v.daemon_part.segment (v.daemon_part.segment.position + 1) in
      let parity : (generation_in value % 2 == 1) ≡ false = (let y : generation_in value % 2 ≡ 0 = omega (arith, tells, even, rests) in grind (arith, nat_tests)) in
      let at_one : TellsPoll e 1 w value value x = subst (λ (i : ℕ). TellsPoll e i w value value x) one t in
      let told = of_right (generation_in value % 2 == 1) _ _ parity at_one in
      let part : x.daemon_part ≡ update_ended w = ap (λ (y : SeatView). y.daemon_part) told.view in
      record {
        layout = ap (λ (p : DaemonPart). p.segment.layout) part ∙ after.layout;
        image = ap (λ (p : DaemonPart). p.segment.image) part ∙ after.image;
        base = ap (λ (p : DaemonPart). p.segment.base) part ∙ after.base;
        before = λ zero_made. absurd (omega arith);
        between = λ more few. absurd (omega (arith, few, nine));
        ended = λ ten. (
          ap (λ (p : DaemonPart). p.segment.position) part ∙ ap (λ (n : ℕ). n + 1) b.2,
          ap (λ (p : DaemonPart). p.segment.history) part ∙ (λ j. b.3 j ++ b.0 j ∷ []),
          ap (λ (p : DaemonPart). p.segment.is_writing) part,
          ap (λ (p : DaemonPart). p.segment.is_headed) part ∙ b.5,
        );
      }
