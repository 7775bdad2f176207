-- From one standing, lines with one text lead to one standing.
use Rattle.std.proofs.Common.{◌≡◌, inl, inr, ℕ, false, ◌/◌, ◌^◌, ◌<◌, List, ◌∷◌, ◌++◌, length, drop, append_assoc, Some, refl, sym, ap, subst, ◌∙◌, arith, rules}
use Rattle.std.specs.Prelude.{codes, slice_index}
use Rattle.std.specs.Fmt.{decimal, signed_decimal}
use Rattle.std.specs.Char.{is_ascii_digit}
use Rattle.std.proofs.lemmas.List.{append_cancel_left}
use Rattle.clock_gate.specs.declared.trace.Trace.{Trace}
use Rattle.segment_layout.specs.declared.publication.Publication.{Publication}
use Rattle.generation_word.specs.Layout.{period_of}
use Rattle.interval_now.specs.declared.answers.Answer.{Answer}
use Rattle.interval_now.specs.declared.answers.Answer.TheVariants.{Time, Busy, NotInitialized, PageBusy, Causality as Early}
use Rattle.interval_now.specs.declared.answers.Timed.{Timed}
use Rattle.interval_now.specs.declared.answers.Causality.{Causality}
use Rattle.lawful_report.specs.Lines.{published_line, published_place, published_rows, published_bound, published_base, skipped_line, stopped_line, busy_text, page_busy_text, causality_text, not_initialized_text, time_text, time_place, answer_text}
use Rattle.lawful_report.specs.Points.{HasNumber, IsLeast}
use Rattle.lawful_report.specs.Pages.{page_seen}
use Rattle.lawful_report.specs.Course.{Course, entry_at}
use Rattle.lawful_report.specs.declared.entry.Entry.{Entry}
use Rattle.lawful_report.specs.declared.seen.Seen.{Seen}
use Rattle.lawful_report.specs.Calls.{FailsAt, GivesInterval, IsTime, IsBusy, IsEarly, MayAnswer, HasAsOf, HasMono}
use Rattle.report_audit.proofs.Numbers.{same_number}
use Rattle.report_audit.proofs.OneText.{IsSmall, TimeIsSmall, SaySame, same_signed, same_time}
use Rattle.report_audit.proofs.Unique.{one_least}
use Rattle.lawful_report.proofs.Dominance.{one_entry}

next_same : (m n byte : ℕ) (x y : List ℕ) → is_ascii_digit byte ≡ false → m < 2 ^ 64 → n < 2 ^ 64 → decimal m ++ (byte ∷ x) ≡ decimal n ++ (byte ∷ y) → (m ≡ n) × (x ≡ y)
next_same m n byte x y plain small_m small_n same =
    let is = same_number m n byte byte x y small_m small_n plain plain same in (is.0, ap (λ (l : List ℕ). drop 1 l) is.1)

-- ---- the texts of lines

skip_spread : (poll first last : ℕ) (x : List ℕ) → skipped_line poll first last ++ x ≡ codes "skip," ++ (decimal poll ++ (44 ∷ (decimal first ++ (44 ∷ (decimal last ++ (10 ∷ x))))))
unfolding skipped_line
skip_spread poll first last x = simp append_assoc refl

pub same_skip : (poll a b c d : ℕ) (x y : List ℕ) → poll < 2 ^ 64 → a < 2 ^ 64 → b < 2 ^ 64 → c < 2 ^ 64 → d < 2 ^ 64 → skipped_line poll a b ++ x ≡ skipped_line poll c d ++ y → (a ≡ c) × (b ≡ d) × (x ≡ y)
same_skip poll a b c d x y p sa sb sc sd same =
    let spread = ap (λ (l : List ℕ). drop 5 l) (sym (skip_spread poll a b x) ∙ (same ∙ skip_spread poll c d y)) in
    let one = next_same poll poll 44 (decimal a ++ (44 ∷ (decimal b ++ (10 ∷ x)))) (decimal c ++ (44 ∷ (decimal d ++ (10 ∷ y)))) refl p p spread in
    let two = next_same a c 44 (decimal b ++ (10 ∷ x)) (decimal d ++ (10 ∷ y)) refl sa sc one.1 in
    let three = next_same b d 10 x y refl sb sd two.1 in
    (two.0, three.0, three.1)

busy_spread : (tries first last : ℕ) (x : List ℕ) → busy_text tries first last ++ x ≡ codes "busy," ++ (decimal tries ++ (44 ∷ (decimal first ++ (44 ∷ (decimal last ++ (10 ∷ x))))))
unfolding busy_text
busy_spread tries first last x = simp append_assoc refl

same_busy : (tries a b c d : ℕ) (x y : List ℕ) → a < 2 ^ 64 → b < 2 ^ 64 → c < 2 ^ 64 → d < 2 ^ 64 → busy_text tries a b ++ x ≡ busy_text tries c d ++ y → (a ≡ c) × (b ≡ d) × (x ≡ y)
same_busy tries a b c d x y sa sb sc sd same =
    let spread = ap (λ (l : List ℕ). drop 5 l) (sym (busy_spread tries a b x) ∙ (same ∙ busy_spread tries c d y)) in
    let one : decimal a ++ (44 ∷ (decimal b ++ (10 ∷ x))) ≡ decimal c ++ (44 ∷ (decimal d ++ (10 ∷ y))) =
    ap (λ (l : List ℕ). drop 1 l) (append_cancel_left (decimal tries) (44 ∷ (decimal a ++ (44 ∷ (decimal b ++ (10 ∷ x))))) (44 ∷ (decimal c ++ (44 ∷ (decimal d ++ (10 ∷ y))))) spread) in
    let two = next_same a c 44 (decimal b ++ (10 ∷ x)) (decimal d ++ (10 ∷ y)) refl sa sc one in
    let three = next_same b d 10 x y refl sb sd two.1 in
    (two.0, three.0, three.1)

page_busy_spread : (first last : ℕ) (x : List ℕ) → page_busy_text first last ++ x ≡ codes "pagebusy," ++ (decimal first ++ (44 ∷ (decimal last ++ (10 ∷ x))))
unfolding page_busy_text
page_busy_spread first last x = simp append_assoc refl

same_page_busy : (a b c d : ℕ) (x y : List ℕ) → a < 2 ^ 64 → b < 2 ^ 64 → c < 2 ^ 64 → d < 2 ^ 64 → page_busy_text a b ++ x ≡ page_busy_text c d ++ y → (a ≡ c) × (b ≡ d) × (x ≡ y)
same_page_busy a b c d x y sa sb sc sd same =
    let spread = ap (λ (l : List ℕ). drop 9 l) (sym (page_busy_spread a b x) ∙ (same ∙ page_busy_spread c d y)) in
    let two = next_same a c 44 (decimal b ++ (10 ∷ x)) (decimal d ++ (10 ∷ y)) refl sa sc spread in
    let three = next_same b d 10 x y refl sb sd two.1 in
    (two.0, three.0, three.1)

early_spread : (c : Causality) (x : List ℕ) → causality_text c ++ x ≡ codes "causality," ++ (signed_decimal c.as_of ++ (44 ∷ (decimal c.mono ++ (10 ∷ x))))
unfolding causality_text
early_spread c x = simp append_assoc refl

same_early : (c d : Causality) (x y : List ℕ) → IsSmall c.as_of → IsSmall d.as_of → c.mono < 2 ^ 64 → d.mono < 2 ^ 64 → causality_text c ++ x ≡ causality_text d ++ y → (c.as_of ≡ d.as_of) × (c.mono ≡ d.mono) × (x ≡ y)
same_early c d x y small_c small_d sc sd same =
    let spread = ap (λ (l : List ℕ). drop 10 l) (sym (early_spread c x) ∙ (same ∙ early_spread d y)) in
    let one = same_signed c.as_of d.as_of 44 (decimal c.mono ++ (10 ∷ x)) (decimal d.mono ++ (10 ∷ y)) refl small_c small_d spread in
    let two = next_same c.mono d.mono 10 x y refl sc sd one.1 in
    (one.0, two.0, two.1)

-- ---- the kinds of answers, by their first letter

abbrev pub letter_of : Answer → ℕ
letter_of (Time timed) = 116
letter_of (Busy tries first last) = 98
letter_of NotInitialized = 110
letter_of (PageBusy first last) = 112
letter_of (Early causality) = 99

letter_is : (page : ℕ) (answer : Answer) (x : List ℕ) → slice_index (answer_text page answer ++ x) 0 ≡ letter_of answer
unfolding time_text time_place busy_text not_initialized_text page_busy_text causality_text
letter_is page (Time timed) x = refl
letter_is page (Busy tries first last) x = refl
letter_is page NotInitialized x = refl
letter_is page (PageBusy first last) x = refl
letter_is page (Early causality) x = refl

pub same_letter : (page other : ℕ) (a b : Answer) (x y : List ℕ) → answer_text page a ++ x ≡ answer_text other b ++ y → letter_of a ≡ letter_of b
same_letter page other a b x y same = sym (letter_is page a x) ∙ (ap (λ (l : List ℕ). slice_index l 0) same ∙ letter_is other b y)

-- ---- answers

-- the numbers of an answer have 64 bits
abbrev pub AnswerIsSmall : ℕ → Answer → Type 0
AnswerIsSmall page (Time timed) = TimeIsSmall page timed
AnswerIsSmall page (Busy tries first last) = (first < 2 ^ 64) × (last < 2 ^ 64)
AnswerIsSmall page NotInitialized = Unit {0}
AnswerIsSmall page (PageBusy first last) = (first < 2 ^ 64) × (last < 2 ^ 64)
AnswerIsSmall page (Early causality) = IsSmall causality.as_of × (causality.mono < 2 ^ 64)

one_seen : (a b : Seen) → a.point ≡ b.point → a.row ≡ b.row → a.page ≡ b.page → a ≡ b
one_seen a b point row page = search rules

pub one_failing : (period from until first last a b : ℕ) → FailsAt period from until first last a → FailsAt period from until first last b → a ≡ b
one_failing period from until first last a b (inl x) (inl y) = one_least from until (HasNumber period first) a b x.least y.least
one_failing period from until first last a b (inl x) (inr y) = absurd (omega (arith, x.odd, y.even))
one_failing period from until first last a b (inr x) (inl y) = absurd (omega (arith, x.even, y.odd))
one_failing period from until first last a b (inr x) (inr y) =
    let at : y.at ≡ x.at = one_least from until (HasNumber period first) y.at x.at y.least_first x.least_first in
    one_least x.at until (HasNumber period last) a b x.least_last (subst (λ (n : ℕ). IsLeast n until (HasNumber period last) b) at y.least_last)

one_time : (trace : Trace) (course : Course) (seen : Seen) (page other : ℕ) (t u : Timed) (s1 s2 : Seen) → SaySame page other t u → IsTime trace course seen page t s1 → IsTime trace course seen other u s2 → s1 ≡ s2
one_time trace course seen page other t u s1 s2 same one two =
    let there : IsLeast seen.point course.point (GivesInterval trace course t.generation t.row page t.interval) s2.point = rw (same.generation, same.row, same.pages, same.interval) two.least in
    one_seen s1 s2 (one_least seen.point course.point (GivesInterval trace course t.generation t.row page t.interval) s1.point s2.point one.least there)
    (one.row_after ∙ (same.row ∙ sym two.row_after)) (one.page_after ∙ (same.pages ∙ sym two.page_after))

same_entry : (course : Course) (p q : ℕ) (a b : Entry) → p ≡ q → entry_at course (p / 2) ≡ Some a → entry_at course (q / 2) ≡ Some b → a ≡ b
same_entry course p q a b is one two = one_entry a b (sym one ∙ (ap (λ (n : ℕ). entry_at course (n / 2)) is ∙ two))

one_early : (trace : Trace) (course : Course) (seen : Seen) (c d : Causality) (s1 s2 : Seen) → c.as_of ≡ d.as_of → c.mono ≡ d.mono → IsEarly trace course seen c s1 → IsEarly trace course seen d s2 → s1 ≡ s2
one_early trace course seen c d s1 s2 as_of mono one two =
    let there : IsLeast seen.point course.point (HasAsOf course c.as_of) s2.point = rw as_of two.least in
    let point : s1.point ≡ s2.point = one_least seen.point course.point (HasAsOf course c.as_of) s1.point s2.point one.least there in
    let entry : one.least.has.entry ≡ two.least.has.entry = same_entry course s1.point s2.point one.least.has.entry two.least.has.entry point one.least.has.stands two.least.has.stands in
    let row_there : IsLeast seen.row (length trace.clock) (HasMono trace one.least.has.entry.replied c.mono) s2.row = rw (entry, mono) two.row in
    one_seen s1 s2 point (one_least seen.row (length trace.clock) (HasMono trace one.least.has.entry.replied c.mono) s1.row s2.row one.row row_there) (one.page_after ∙ sym two.page_after)

one_busy : (trace : Trace) (course : Course) (seen : Seen) (a b c d : ℕ) (s1 s2 : Seen) → a ≡ c → b ≡ d → IsBusy trace course seen a b s1 → IsBusy trace course seen c d s2 → s1 ≡ s2
one_busy trace course seen a b c d s1 s2 first last one two =
    one_seen s1 s2 (one_failing (period_of trace.layout) seen.point course.point a b s1.point s2.point one.found (rw (first, last) two.found))
    (one.row_after ∙ sym two.row_after) (one.page_after ∙ sym two.page_after)

-- answers to one call with one text lead to one view
pub one_answer : (trace : Trace) (course : Course) (tries : ℕ) (seen : Seen) (page other : ℕ) (a b : Answer) (s1 s2 : Seen) (x y : List ℕ) → AnswerIsSmall page a → AnswerIsSmall other b
    → MayAnswer trace course tries seen page a s1 → MayAnswer trace course tries seen other b s2 → answer_text page a ++ x ≡ answer_text other b ++ y → (s1 ≡ s2) × (x ≡ y)
one_answer trace course tries seen page other (Time t) (Time u) s1 s2 x y small_a small_b one two same =
    let is = same_time page other t u x y small_a small_b same in (one_time trace course seen page other t u s1 s2 is.0 one two, is.1)
one_answer trace course tries seen page other (Busy m a b) (Busy n c d) s1 s2 x y small_a small_b one two same =
    let both : busy_text tries a b ++ x ≡ busy_text tries c d ++ y = subst (λ (k : ℕ). busy_text tries a b ++ x ≡ busy_text k c d ++ y) two.0 (subst (λ (k : ℕ). busy_text k a b ++ x ≡ busy_text n c d ++ y) one.0 same) in
    let is = same_busy tries a b c d x y small_a.0 small_a.1 small_b.0 small_b.1 both in (one_busy trace course seen a b c d s1 s2 is.0 is.1 one.1 two.1, is.2)
one_answer trace course tries seen page other NotInitialized NotInitialized s1 s2 x y small_a small_b one two same = (one.1 ∙ sym two.1, append_cancel_left not_initialized_text x y same)
one_answer trace course tries seen page other (PageBusy a b) (PageBusy c d) s1 s2 x y small_a small_b one two same =
    let is = same_page_busy a b c d x y small_a.0 small_a.1 small_b.0 small_b.1 same in
    (one.after_is ∙ (ap (λ (n : ℕ). record seen { page = page_seen trace n }) is.1 ∙ sym two.after_is), is.2)
one_answer trace course tries seen page other (Early c) (Early d) s1 s2 x y small_a small_b one two same =
    let is = same_early c d x y small_a.0 small_b.0 small_a.1 small_b.1 same in (one_early trace course seen c d s1 s2 is.0 is.1 one two, is.2)
one_answer trace course tries seen page other a b s1 s2 x y small_a small_b one two same = absurd (let letters = same_letter page other a b x y same in omega (arith, letters))

-- ---- the daemon's lines

stop_spread : (poll stores : ℕ) (x : List ℕ) → stopped_line poll stores ++ x ≡ codes "stop," ++ (decimal poll ++ (44 ∷ (decimal stores ++ (10 ∷ x))))
unfolding stopped_line
stop_spread poll stores x = simp append_assoc refl

place_spread : (position page : ℕ) (p : Publication) (x : List ℕ) → published_line position page p ++ x ≡ codes "pub," ++ (decimal position ++ (44 ∷ (decimal p.poll ++ (44 ∷ (decimal p.generation ++ (44 ∷ (decimal p.asked ++ (44 ∷ (decimal page ++ (44 ∷ (decimal p.replied ++ (44 ∷ (published_bound p.rec ++ (published_base p ++ x))))))))))))))
unfolding published_line published_place published_rows
place_spread position page p x = simp append_assoc refl

-- the numbers of a publication have 64 bits
pub record PublicationIsSmall (position page : ℕ) (p : Publication) : Type 0 where
  pub at : position < 2 ^ 64
  pub poll : p.poll < 2 ^ 64
  pub generation : p.generation < 2 ^ 64
  pub asked : p.asked < 2 ^ 64
  pub page_is : page < 2 ^ 64
  pub replied : p.replied < 2 ^ 64

-- two publications were made at the same rows, and what follows their rows is the same
pub record RowsSame (page other : ℕ) (p q : Publication) (x y : List ℕ) : Type 0 where
  pub asked : p.asked ≡ q.asked
  pub pages : page ≡ other
  pub replied : p.replied ≡ q.replied
  pub rest : published_bound p.rec ++ (published_base p ++ x) ≡ published_bound q.rec ++ (published_base q ++ y)

pub same_rows : (position place page other : ℕ) (p q : Publication) (x y : List ℕ) → PublicationIsSmall position page p → PublicationIsSmall place other q → published_line position page p ++ x ≡ published_line place other q ++ y → RowsSame page other p q x y
same_rows position place page other p q x y s t same =
    let spread = ap (λ (l : List ℕ). drop 4 l) (sym (place_spread position page p x) ∙ (same ∙ place_spread place other q y)) in
    let one = next_same position place 44 (decimal p.poll ++ (44 ∷ (decimal p.generation ++ (44 ∷ (decimal p.asked ++ (44 ∷ (decimal page ++ (44 ∷ (decimal p.replied ++ (44 ∷ (published_bound p.rec ++ (published_base p ++ x)))))))))))) (decimal q.poll ++ (44 ∷ (decimal q.generation ++ (44 ∷ (decimal q.asked ++ (44 ∷ (decimal other ++ (44 ∷ (decimal q.replied ++ (44 ∷ (published_bound q.rec ++ (published_base q ++ y)))))))))))) refl s.at t.at spread in
    let two = next_same p.poll q.poll 44 (decimal p.generation ++ (44 ∷ (decimal p.asked ++ (44 ∷ (decimal page ++ (44 ∷ (decimal p.replied ++ (44 ∷ (published_bound p.rec ++ (published_base p ++ x)))))))))) (decimal q.generation ++ (44 ∷ (decimal q.asked ++ (44 ∷ (decimal other ++ (44 ∷ (decimal q.replied ++ (44 ∷ (published_bound q.rec ++ (published_base q ++ y)))))))))) refl s.poll t.poll one.1 in
    let three = next_same p.generation q.generation 44 (decimal p.asked ++ (44 ∷ (decimal page ++ (44 ∷ (decimal p.replied ++ (44 ∷ (published_bound p.rec ++ (published_base p ++ x)))))))) (decimal q.asked ++ (44 ∷ (decimal other ++ (44 ∷ (decimal q.replied ++ (44 ∷ (published_bound q.rec ++ (published_base q ++ y)))))))) refl s.generation t.generation two.1 in
    let four = next_same p.asked q.asked 44 (decimal page ++ (44 ∷ (decimal p.replied ++ (44 ∷ (published_bound p.rec ++ (published_base p ++ x)))))) (decimal other ++ (44 ∷ (decimal q.replied ++ (44 ∷ (published_bound q.rec ++ (published_base q ++ y)))))) refl s.asked t.asked three.1 in
    let five = next_same page other 44 (decimal p.replied ++ (44 ∷ (published_bound p.rec ++ (published_base p ++ x)))) (decimal q.replied ++ (44 ∷ (published_bound q.rec ++ (published_base q ++ y)))) refl s.page_is t.page_is four.1 in
    let six = next_same p.replied q.replied 44 (published_bound p.rec ++ (published_base p ++ x)) (published_bound q.rec ++ (published_base q ++ y)) refl s.replied t.replied five.1 in
    record { asked = four.0; pages = five.0; replied = six.0; rest = six.1 }
