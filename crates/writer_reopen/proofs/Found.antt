-- The acts of an opening by what it found.
use Rattle.std.proofs.Common.{◌≡◌, ℕ, zero, suc, ◌%◌, ◌<◌, Bool, true, false, List, ◌∷◌, refl, ap, sym, ◌∙◌, arith, inl, inr}
use Rattle.std.specs.Prelude.{◌⊎◌, ◌==◌, slice_index_or}
use Rattle.std.proofs.lemmas.Bool.Decides.{nat_tests}
use Rattle.generation_word.specs.declared.layout.Layout.{Layout}
use Rattle.generation_word.specs.declared.layout.Layout.TheVariants.{Three}
use Rattle.generation_word.specs.Layout.{period_of}
use Rattle.generation_word.specs.Numbering.{odd_after, even_after}
use Rattle.generation_word.specs.Header.{word1_of, generation_in}
use Rattle.clock_gate.specs.declared.act.Act.{Act}
use Rattle.clock_gate.specs.declared.act.Act.TheVariants.{Load, Store, End}
use Rattle.segment_layout.specs.declared.words.TheConstants.{MAGIC}
use Rattle.segment_layout.specs.declared.start.Start.{Start}
use Rattle.segment_layout.specs.declared.start.Start.TheVariants.{Fresh, Kept, Torn}
use Rattle.segment_layout.specs.Image.{is_old_header}
use Rattle.writer_reopen.specs.Opening.{fresh_steps, torn_steps, kept_steps, later_steps, opening_steps}

-- the steps of an opening, by what it found
abbrev pub steps_for : Layout → (old : Bool) → Start → List Act
steps_for layout old Fresh = Load 0 ∷ Load 1 ∷ fresh_steps layout
steps_for layout old (Torn generation) = Load 0 ∷ Load 1 ∷ torn_steps old generation
steps_for layout old (Kept generation rec) = Load 0 ∷ Load 1 ∷ kept_steps old generation

fresh_are : (layout : Layout) (header : ℕ) → generation_in header ≡ 0 → later_steps layout header ≡ fresh_steps layout
fresh_are layout header none = let test : (generation_in header == 0) ≡ true = grind (arith, nat_tests) in rw test refl

torn_are : (layout : Layout) (header : ℕ) → generation_in header % 2 ≡ 1 → later_steps layout header ≡ torn_steps (is_old_header layout header) (generation_in header)
torn_are layout header odd =
    let some : (generation_in header == 0) ≡ false = grind (arith, nat_tests) in
    let test : (generation_in header % 2 == 1) ≡ true = grind (arith, nat_tests) in
    rw (some, test) refl

kept_are : (layout : Layout) (header : ℕ) → 0 < generation_in header → generation_in header % 2 ≡ 0 → later_steps layout header ≡ kept_steps (is_old_header layout header) (generation_in header)
kept_are layout header positive even =
    let some : (generation_in header == 0) ≡ false = grind (arith, nat_tests) in
    let test : (generation_in header % 2 == 1) ≡ false = grind (arith, nat_tests) in
    rw (some, test) refl

-- an opening that meets this generation finds this
abbrev pub IsFoundBy : (generation : ℕ) → Start → Type 0
IsFoundBy generation Fresh = generation ≡ 0
IsFoundBy generation (Torn found) = (generation ≡ found) × (found % 2 ≡ 1)
IsFoundBy generation (Kept found rec) = (generation ≡ found) × (found % 2 ≡ 0) × (0 < found)

-- its acts are told by what it finds
pub steps_by_found : (layout : Layout) (header : ℕ) (start : Start) → IsFoundBy (generation_in header) start → opening_steps layout header ≡ steps_for layout (is_old_header layout header) start
steps_by_found layout header Fresh found = ap (λ (acts : List Act). Load 0 ∷ Load 1 ∷ acts) (fresh_are layout header found)
steps_by_found layout header (Torn generation) found =
    let same : generation_in header ≡ generation = found.0 in
    let odd = found.1 in
    ap (λ (acts : List Act). Load 0 ∷ Load 1 ∷ acts) (torn_are layout header (omega (arith, same, odd)) ∙ ap (torn_steps (is_old_header layout header)) same)
steps_by_found layout header (Kept generation rec) found =
    let same : generation_in header ≡ generation = found.0 in
    let even = found.1 in
    let some = found.2 in
    ap (λ (acts : List Act). Load 0 ∷ Load 1 ∷ acts) (kept_are layout header (omega (arith, same, some)) (omega (arith, same, even)) ∙ ap (kept_steps (is_old_header layout header)) same)

-- ---- its loads

same_load : (a b : ℕ) → Load a ≡ Load b → a ≡ b
same_load a b e = cc

same_store : (a b m n : ℕ) → Store a m ≡ Store b n → (a ≡ b) × (m ≡ n)
same_store a b m n e = (cc, cc)

-- how many loads come first
abbrev pub loads_of : Start → ℕ
loads_of Fresh = 2
loads_of (Torn g) = 2
loads_of (Kept g rec) = 10

load_fresh : (layout : Layout) (k word : ℕ) → slice_index_or (Load 0 ∷ Load 1 ∷ fresh_steps layout) k End ≡ Load word → (word ≡ k) × (k < 2)
load_fresh layout zero word e = (sym (same_load 0 word e), omega arith)
load_fresh layout (suc zero) word e = (sym (same_load 1 word e), omega arith)
load_fresh layout (suc (suc zero)) word e = absurd (cc e)
load_fresh layout (suc (suc (suc zero))) word e = absurd (cc e)
load_fresh layout (suc (suc (suc (suc k)))) word e = absurd (cc e)

load_torn : (old : Bool) (generation k word : ℕ) → slice_index_or (Load 0 ∷ Load 1 ∷ torn_steps old generation) k End ≡ Load word → (word ≡ k) × (k < 2)
load_torn old generation zero word e = (sym (same_load 0 word e), omega arith)
load_torn old generation (suc zero) word e = (sym (same_load 1 word e), omega arith)
load_torn true generation (suc (suc zero)) word e = absurd (cc e)
load_torn true generation (suc (suc (suc k))) word e = absurd (cc e)
load_torn false generation (suc (suc k)) word e = absurd (cc e)

load_kept : (old : Bool) (generation k word : ℕ) → slice_index_or (Load 0 ∷ Load 1 ∷ kept_steps old generation) k End ≡ Load word → (word ≡ k) × (k < 10)
load_kept old generation zero word e = (sym (same_load 0 word e), omega arith)
load_kept old generation (suc zero) word e = (sym (same_load 1 word e), omega arith)
load_kept old generation (suc (suc zero)) word e = (sym (same_load 2 word e), omega arith)
load_kept old generation (suc (suc (suc zero))) word e = (sym (same_load 3 word e), omega arith)
load_kept old generation (suc (suc (suc (suc zero)))) word e = (sym (same_load 4 word e), omega arith)
load_kept old generation (suc (suc (suc (suc (suc zero))))) word e = (sym (same_load 5 word e), omega arith)
load_kept old generation (suc (suc (suc (suc (suc (suc zero)))))) word e = (sym (same_load 6 word e), omega arith)
load_kept old generation (suc (suc (suc (suc (suc (suc (suc zero))))))) word e = (sym (same_load 7 word e), omega arith)
load_kept old generation (suc (suc (suc (suc (suc (suc (suc (suc zero)))))))) word e = (sym (same_load 8 word e), omega arith)
load_kept old generation (suc (suc (suc (suc (suc (suc (suc (suc (suc zero))))))))) word e = (sym (same_load 9 word e), omega arith)
load_kept true generation (suc (suc (suc (suc (suc (suc (suc (suc (suc (suc zero)))))))))) word e = absurd (cc e)
load_kept true generation (suc (suc (suc (suc (suc (suc (suc (suc (suc (suc (suc zero))))))))))) word e = absurd (cc e)
load_kept true generation (suc (suc (suc (suc (suc (suc (suc (suc (suc (suc (suc (suc k)))))))))))) word e = absurd (cc e)
load_kept false generation (suc (suc (suc (suc (suc (suc (suc (suc (suc (suc k)))))))))) word e = absurd (cc e)

-- a load among them is of the word with its own number, and comes before every store
pub load_for : (layout : Layout) (old : Bool) (start : Start) (k word : ℕ) → slice_index_or (steps_for layout old start) k End ≡ Load word → (word ≡ k) × (k < loads_of start)
load_for layout old Fresh k word e = load_fresh layout k word e
load_for layout old (Torn g) k word e = load_torn old g k word e
load_for layout old (Kept g rec) k word e = load_kept old g k word e

-- ---- the stores

store_fresh : (layout : Layout) (k word value : ℕ) → slice_index_or (Load 0 ∷ Load 1 ∷ fresh_steps layout) k End ≡ Store word value
    → ((k ≡ 2) × (word ≡ 0) × (value ≡ MAGIC)) ⊎ ((k ≡ 3) × (word ≡ 1) × (value ≡ word1_of layout 0))
store_fresh layout zero word value e = absurd (cc e)
store_fresh layout (suc zero) word value e = absurd (cc e)
store_fresh layout (suc (suc zero)) word value e = let s = same_store 0 word MAGIC value e in inl (omega arith, sym s.0, sym s.1)
store_fresh layout (suc (suc (suc zero))) word value e = let s = same_store 1 word (word1_of layout 0) value e in inr (omega arith, sym s.0, sym s.1)
store_fresh layout (suc (suc (suc (suc k)))) word value e = absurd (cc e)

store_torn : (old : Bool) (generation k word value : ℕ) → slice_index_or (Load 0 ∷ Load 1 ∷ torn_steps old generation) k End ≡ Store word value
    → (old ≡ true) × (k ≡ 2) × (word ≡ 1) × (value ≡ word1_of Three generation)
store_torn old generation zero word value e = absurd (cc e)
store_torn old generation (suc zero) word value e = absurd (cc e)
store_torn true generation (suc (suc zero)) word value e = let s = same_store 1 word (word1_of Three generation) value e in (refl, omega arith, sym s.0, sym s.1)
store_torn true generation (suc (suc (suc k))) word value e = absurd (cc e)
store_torn false generation (suc (suc k)) word value e = absurd (cc e)

store_kept : (old : Bool) (generation k word value : ℕ) → slice_index_or (Load 0 ∷ Load 1 ∷ kept_steps old generation) k End ≡ Store word value
    → (old ≡ true) × (word ≡ 1) × (((k ≡ 10) × (value ≡ word1_of Three (odd_after generation))) ⊎ ((k ≡ 11) × (value ≡ word1_of Three (even_after (period_of Three) generation))))
store_kept old generation zero word value e = absurd (cc e)
store_kept old generation (suc zero) word value e = absurd (cc e)
store_kept old generation (suc (suc zero)) word value e = absurd (cc e)
store_kept old generation (suc (suc (suc zero))) word value e = absurd (cc e)
store_kept old generation (suc (suc (suc (suc zero)))) word value e = absurd (cc e)
store_kept old generation (suc (suc (suc (suc (suc zero))))) word value e = absurd (cc e)
store_kept old generation (suc (suc (suc (suc (suc (suc zero)))))) word value e = absurd (cc e)
store_kept old generation (suc (suc (suc (suc (suc (suc (suc zero))))))) word value e = absurd (cc e)
store_kept old generation (suc (suc (suc (suc (suc (suc (suc (suc zero)))))))) word value e = absurd (cc e)
store_kept old generation (suc (suc (suc (suc (suc (suc (suc (suc (suc zero))))))))) word value e = absurd (cc e)
store_kept true generation (suc (suc (suc (suc (suc (suc (suc (suc (suc (suc zero)))))))))) word value e =
    let s = same_store 1 word (word1_of Three (odd_after generation)) value e in (refl, sym s.0, inl (omega arith, sym s.1))
store_kept true generation (suc (suc (suc (suc (suc (suc (suc (suc (suc (suc (suc zero))))))))))) word value e =
    let s = same_store 1 word (word1_of Three (even_after (period_of Three) generation)) value e in (refl, sym s.0, inr (omega arith, sym s.1))
store_kept true generation (suc (suc (suc (suc (suc (suc (suc (suc (suc (suc (suc (suc k)))))))))))) word value e = absurd (cc e)
store_kept false generation (suc (suc (suc (suc (suc (suc (suc (suc (suc (suc k)))))))))) word value e = absurd (cc e)

-- a store among them: the magic and the first header, the header of an update left open, or the two numbers of a move
abbrev pub IsStoreOf : Layout → (old : Bool) → Start → (k word value : ℕ) → Type 0
IsStoreOf layout old Fresh k word value = ((k ≡ 2) × (word ≡ 0) × (value ≡ MAGIC)) ⊎ ((k ≡ 3) × (word ≡ 1) × (value ≡ word1_of layout 0))
IsStoreOf layout old (Torn generation) k word value = (old ≡ true) × (k ≡ 2) × (word ≡ 1) × (value ≡ word1_of Three generation)
IsStoreOf layout old (Kept generation rec) k word value =
    (old ≡ true) × (word ≡ 1) × (((k ≡ 10) × (value ≡ word1_of Three (odd_after generation))) ⊎ ((k ≡ 11) × (value ≡ word1_of Three (even_after (period_of Three) generation))))

pub store_for : (layout : Layout) (old : Bool) (start : Start) (k word value : ℕ) → slice_index_or (steps_for layout old start) k End ≡ Store word value → IsStoreOf layout old start k word value
store_for layout old Fresh k word value e = store_fresh layout k word value e
store_for layout old (Torn generation) k word value e = store_torn old generation k word value e
store_for layout old (Kept generation rec) k word value e = store_kept old generation k word value e
