-- On lists that begin one another, tries by their steps, and entries.
use Rattle.std.proofs.Common.{◌≡◌, ℕ, zero, suc, ◌-◌, ◌<◌, ◌≤◌, ◌⊎◌, inl, inr, Bool, true, false, List, [], ◌∷◌, ◌++◌, length, refl, sym, ap, ◌∙◌, subst, length-append, append_assoc, arith}
use Rattle.std.specs.Prelude.{slice_index, slice_index_or, nat_lt}
use Rattle.std.proofs.lemmas.List.{append-nil, get_or_append_left}
use Rattle.std.proofs.lemmas.Bool.Decides.{nat_tests}
use mathlib.Core.Option.{some, some-injective, some-ne-none}
use lib.ListN.{get_elem?}
use Rattle.segment_layout.specs.declared.publication.Publication.{Publication}
use Rattle.segment_layout.specs.Record.{RecordFields}
use Rattle.segment_layout.specs.Words.{record_words, flag_of}
use Rattle.segment_run.specs.SegmentRun.{no_publication}
use Rattle.segment_views.specs.declared.setup.Setup.{Setup}
use Rattle.segment_views.specs.Views.{Begins, Step, HostPart, SegmentTry, PageTry, after_step, segment_try_after, page_after_step, page_try_after}
use Rattle.segment_views.specs.Rule.{AreWordsOf, EntryFits, EntriesFit, last_page}

module _ {A : Type 0} where
  pub begins_self : (xs : List A) → Begins xs xs
  begins_self xs = record { rest = []; whole = append-nil xs }

  pub begins_trans : (xs ys zs : List A) → Begins xs ys → Begins ys zs → Begins xs zs
  begins_trans xs ys zs p q = record { rest = p.rest ++ q.rest; whole = sym (append_assoc xs p.rest q.rest) ∙ (ap (λ l. l ++ q.rest) p.whole ∙ q.whole) }

  pub begins_more : (xs ys : List A) → Begins xs (xs ++ ys)
  begins_more xs ys = record { rest = ys; whole = refl }

  pub begins_nil : (xs : List A) → Begins [] xs
  begins_nil xs = record { rest = xs; whole = refl }

  pub begins_length : (xs ys : List A) → Begins xs ys → length xs ≤ length ys
  begins_length xs ys p = omega (arith, ap length p.whole, length-append xs p.rest)

  nil_of : (ys : List A) → length ys ≡ 0 → ys ≡ []
  nil_of [] e = refl
  nil_of (y ∷ ys) e = absurd (omega arith)

  -- the beginning of a list that is as long is the list
  pub begins_whole : (xs ys : List A) → Begins xs ys → length ys ≤ length xs → xs ≡ ys
  begins_whole xs ys p le = let e : p.rest ≡ [] = nil_of p.rest (omega (arith, ap length p.whole, length-append xs p.rest)) in sym (append-nil xs) ∙ (ap (λ l. xs ++ l) (sym e) ∙ p.whole)

  -- what stands in the beginning of a list
  pub begins_at : (xs ys : List A) (k : ℕ) (d : A) → Begins xs ys → k < length xs → slice_index_or ys k d ≡ slice_index_or xs k d
  begins_at xs ys k d p lt = ap (λ l. slice_index_or l k d) (sym p.whole) ∙ get_or_append_left xs p.rest d k lt

  -- the place of the last one
  pub at_end : (l : List A) (a b : A) (j : ℕ) → get_elem? (l ++ a ∷ []) j ≡ some b → (get_elem? l j ≡ some b) ⊎ ((a ≡ b) × (j ≡ length l))
  at_end [] a b zero e = inr (some-injective a b e, refl)
  at_end [] a b (suc j) e = absurd (some-ne-none b (sym e))
  at_end (x ∷ xs) a b zero e = inl e
  at_end (x ∷ xs) a b (suc j) e = elim (at_end xs a b j e) [ inl t ↦ inl t | inr t ↦ inr (t.0, ap suc t.1) ]

-- ---- tries

pub segment_try-snoc : (t : SegmentTry) (steps : List Step) (s : Step) → segment_try_after t (steps ++ s ∷ []) ≡ after_step (segment_try_after t steps) s
segment_try-snoc t [] s = refl
segment_try-snoc t (x ∷ steps) s = segment_try-snoc (after_step t x) steps s

pub page_try-snoc : (t : PageTry) (steps : List Step) (s : Step) → page_try_after t (steps ++ s ∷ []) ≡ page_after_step (page_try_after t steps) s
page_try-snoc t [] s = refl
page_try-snoc t (x ∷ steps) s = page_try-snoc (page_after_step t x) steps s

pub words_of-snoc : (rec : RecordFields) (loads : List (ℕ × ℕ)) (word value : ℕ) → AreWordsOf rec loads → (2 ≤ word → word < 10 → value ≡ slice_index (record_words 0 rec) word) → AreWordsOf rec (loads ++ (word, value) ∷ [])
words_of-snoc rec [] word value are is = (is, tt)
words_of-snoc rec (load ∷ loads) word value are is = (are.0, words_of-snoc rec loads word value are.1 is)

-- ---- flags

pub flag_most : (b : Bool) → flag_of b ≤ 1
flag_most true = omega arith
flag_most false = omega arith

pub flag_calm : (b : Bool) → flag_of b ≡ 0 → b ≡ false
flag_calm true e = absurd (omega arith)
flag_calm false e = refl

pub stores_flag : (n : ℕ) → flag_of (nat_lt 0 n) ≡ 0 → n ≡ 0
stores_flag zero e = refl
stores_flag (suc n) e = let test : nat_lt 0 (suc n) ≡ true = grind (arith, nat_tests) in let one : flag_of (nat_lt 0 (suc n)) ≡ 1 = ap flag_of test in absurd (omega (arith, one, e))

pub stores_on : (n : ℕ) → 0 < n → flag_of (nat_lt 0 n) ≡ 1
stores_on zero h = absurd (omega arith)
stores_on (suc n) h = let test : nat_lt 0 (suc n) ≡ true = grind (arith, nat_tests) in ap flag_of test

-- ---- entries

module _ (c : Setup) where
  pub entries-snoc : (w : HostPart) (es : List Publication) (e : Publication) → EntriesFit c w es → EntryFits c w e → EntriesFit c w (es ++ e ∷ [])
  entries-snoc w [] e fits fit = (fit, tt)
  entries-snoc w (x ∷ es) e fits fit = (fits.0, entries-snoc w es e fits.1 fit)

  pub entries_front : (w : HostPart) (xs ys : List Publication) → EntriesFit c w (xs ++ ys) → EntriesFit c w xs
  entries_front w [] ys fits = tt
  entries_front w (x ∷ xs) ys fits = (fits.0, entries_front w xs ys fits.1)

  pub entries_at : (w : HostPart) (es : List Publication) (k : ℕ) → EntriesFit c w es → k < length es → EntryFits c w (slice_index_or es k no_publication)
  entries_at w [] k fits lt = absurd (omega arith)
  entries_at w (e ∷ es) zero fits lt = fits.0
  entries_at w (e ∷ es) (suc k) fits lt = entries_at w es k fits.1 (omega arith)

  pub entries_later : (a b : HostPart) (es : List Publication) → ((e : Publication) → EntryFits c a e → EntryFits c b e) → EntriesFit c a es → EntriesFit c b es
  entries_later a b [] grows fits = tt
  entries_later a b (e ∷ es) grows fits = (grows e fits.0, entries_later a b es grows fits.1)

  pub entries_begin : (w : HostPart) (xs ys : List Publication) → Begins xs ys → EntriesFit c w ys → EntriesFit c w xs
  entries_begin w xs ys p fits = entries_front w xs p.rest (subst (EntriesFit c w) (sym p.whole) fits)

pub last-page-snoc : (ps : List (List ℕ)) (p : List ℕ) → last_page (ps ++ p ∷ []) ≡ p
last-page-snoc [] p = refl
last-page-snoc (x ∷ []) p = refl
last-page-snoc (x ∷ y ∷ ys) p = last-page-snoc (y ∷ ys) p

pub last_page-at : (ps : List (List ℕ)) (k : ℕ) → 0 < length ps → length ps - 1 ≡ k → last_page ps ≡ slice_index_or ps k []
last_page-at [] k here is = absurd (omega arith)
last_page-at (p ∷ []) k here is = subst (λ (n : ℕ). p ≡ slice_index_or (p ∷ []) n []) is refl
last_page-at (p ∷ q ∷ ps) zero here is = absurd (omega arith)
last_page-at (p ∷ q ∷ ps) (suc k) here is = last_page-at (q ∷ ps) k (omega arith) (omega arith)
