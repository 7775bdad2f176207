-- What the last load of a page's tries tells of the page: its count is the one that the marker is told with.
use Rattle.std.proofs.Common.{◌≡◌, ◌≢◌, ℕ, zero, suc, ◌-◌, ◌*◌, ◌%◌, ◌^◌, ◌<◌, ◌≤◌, inl, inr, false, List, [], ◌∷◌, length, refl, sym, ap, ◌∙◌, arith, Option, Some, None}
use Rattle.std.specs.Prelude.{◌==◌, is_some}
use Rattle.std.proofs.lemmas.Bool.{cases_Bool, cases_eq, eqb-true, eqb-false, eq-eqb}
use Rattle.clock_gate.specs.declared.act.Act.TheVariants.{Load}
use Rattle.seqlock.specs.Tries.{SeqlockRead, Progress, IsCalm, failed_try}
use Rattle.seqlock.specs.Tries as tries
use Rattle.seqlock.proofs.Tries as laws
use Rattle.vmclock_page.specs.declared.page_seen.PageSeen.{PageSeen}
use Rattle.vmclock_page.specs.declared.page_seen.PageSeen.TheVariants.{Marker}
use Rattle.vmclock_page.specs.Words.{count_in_word}
use Rattle.vmclock_page.specs.Host.{constants_of, count_of, raised}
use Rattle.vmclock_page.specs.Counting.{page_number_of}
use Rattle.vmclock_page.specs.PageRead.{page_lock, page_seen}
use Rattle.vmclock_page.specs.PageRead as page
use Rattle.vmclock_page.proofs.PageTries.{given-odd, given-even, given-marker, given-same, given-other}
use Rattle.segment_views.specs.declared.setup.Setup.{Setup}
use Rattle.segment_views.specs.Rule.{count_word_at}

abbrev seen_at : Progress → Option PageSeen
seen_at at = page_seen (tries.end_of at)

-- a read with no value in hand has not come to a marker
none_read : (read : SeqlockRead) (left m s : ℕ) → read.left ≡ left → read.values ≡ [] → page.end_of read ≡ Some (Marker m s) → ⊥
none_read read zero m s is none e = cc (sym e ∙ ap seen_at (laws.ends-failed page_lock read is))
none_read read (suc left) m s is none e = cc (sym e ∙ ap seen_at (laws.asks-first page_lock read (omega (arith, is)) none))

same_marker : (a b m s : ℕ) → ◌≡◌ {A = Option PageSeen} (Some (Marker a b)) (Some (Marker m s)) → s ≡ b
same_marker a b m s e = cc

same_load : (a b : ℕ) → Load a ≡ Load b → b ≡ a
same_load a b e = cc

-- the last load of tries that came to a marker was of word 11, with the count that the marker is told with
pub page_found : (read : SeqlockRead) (word value m s : ℕ) → laws.IsOpen page_lock read → page.act_of read ≡ Load word → page.end_of (page.given read value) ≡ Some (Marker m s) → (word ≡ 11) × (s ≡ count_in_word value)
page_found read word value m s open_ act e = by_values read.values refl
  where
    more : 0 < read.left
    more = let left = open_.more in omega (arith, left)

    first_only : read.values ≡ [] → (word ≡ 11) × (s ≡ count_in_word value)
    first_only none = elim (cases_Bool (count_in_word value % 2 == 1)) [
      | inl odd ↦
          absurd (none_read (failed_try read (count_in_word value) (count_in_word value)) (read.left - 1) m s refl refl
          (ap page.end_of (sym (given-odd read value none (eqb-true (count_in_word value % 2) 1 odd))) ∙ e))
      | inr other ↦
          let not_odd : count_in_word value % 2 ≢ 1 = eqb-false (count_in_word value % 2) 1 other in
          let even : count_in_word value % 2 ≡ 0 = omega arith in
          absurd (cc (sym e ∙ (ap page.end_of (given-even read value none even)
          ∙ ap seen_at (laws.asks-data page_lock (record read { values = value ∷ [] }) value [] more refl (record { published = refl; even = even }) (omega arith)))))
    ]

    marker_only : (first : ℕ) → read.values ≡ first ∷ [] → (word ≡ 11) × (s ≡ count_in_word value)
    marker_only first one =
        let calm = laws.open_published page_lock read first [] open_ one in
        absurd (cc (sym e ∙ (ap page.end_of (given-marker read first value one calm.even)
        ∙ ap seen_at (laws.asks-last page_lock (record read { values = first ∷ value ∷ [] }) first (value ∷ []) more refl calm refl))))

    last : (first w : ℕ) → read.values ≡ first ∷ w ∷ [] → (word ≡ 11) × (s ≡ count_in_word value)
    last first w two =
        let calm = laws.open_published page_lock read first (w ∷ []) open_ two in
        elim (cases_eq (count_in_word value) (count_in_word first)) [
          | inl same ↦ (
            same_load 11 word (sym (ap tries.act_of (laws.asks-last page_lock read first (w ∷ []) more two calm refl)) ∙ act),
            same_marker w (count_in_word first) m s
                (sym (ap seen_at (laws.ends-read page_lock (record read { values = first ∷ w ∷ value ∷ [] }) first value (w ∷ []) more refl calm refl (eq-eqb (count_in_word first) (count_in_word value) (sym same))))
                ∙ (ap page.end_of (sym (given-same read first w value two calm.even same)) ∙ e)) ∙ sym same,
          )
          | inr other ↦
              absurd (none_read (failed_try read (count_in_word first) (count_in_word value)) (read.left - 1) m s refl refl
              (ap page.end_of (sym (given-other read first w value two calm.even other)) ∙ e))
        ]

    by_values : (values : List ℕ) → read.values ≡ values → (word ≡ 11) × (s ≡ count_in_word value)
    by_values [] is = first_only is
    by_values (first ∷ []) is = marker_only first is
    by_values (first ∷ w ∷ []) is = last first w is
    by_values (first ∷ w ∷ x ∷ values) is = absurd (let few = laws.open_few page_lock read open_ in let long : length read.values ≡ suc (suc (suc (length values))) = ap length is in omega (arith, few, long))

-- ---- the page's number

constants_small : (p : Option (List ℕ)) → constants_of p < 2 ^ 32
constants_small None = omega arith
constants_small (Some words) = omega arith

-- the number of the page whose count this is, is not past the point
pub page_bound : (c : Setup) (point n s : ℕ) → n ≡ count_word_at c point → s ≡ count_in_word n → 2 * page_number_of (count_of c.page) s ≤ point
page_bound c point n s stands is =
    let small = constants_small c.page in
    let told : s ≡ raised point (count_of c.page) = omega (arith, stands, is, small) in
    omega (arith, told)

none_count : (p : Option (List ℕ)) → is_some p ≡ false → count_of p ≡ 0
none_count None none = refl
none_count (Some words) none = absurd (cc none)

-- without a page nothing is seen of it
pub none_bound : (p : Option (List ℕ)) (point : ℕ) → is_some p ≡ false → 2 * page_number_of (count_of p) 0 ≤ point
none_bound p point none = let zero_count = none_count p none in omega (arith, zero_count)
