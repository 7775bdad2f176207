-- The numbers of each line.
use Rattle.std.proofs.Common.{◌≡◌, ℕ, suc, ℤ, pos, ◌^◌, ◌<◌, List, [], ◌∷◌, ◌++◌, append_assoc, refl, ap, subst, ◌∙◌, arith}
use Rattle.std.specs.Prelude.{codes, slice_index}
use Rattle.std.specs.Fmt.{decimal, signed_decimal}
use Rattle.segment_layout.specs.declared.publication.Publication.{Publication}
use Rattle.interval_now.specs.declared.answers.Answer.{Answer}
use Rattle.interval_now.specs.declared.answers.Answer.TheVariants.{Time, Busy, PageBusy, Causality as Early}
use Rattle.interval_now.specs.declared.answers.Causality.{Causality}
use Rattle.interval_now.specs.declared.answers.Timed.{Timed}
use Rattle.lawful_report.specs.Lines.{skipped_line, busy_text, call_place, page_busy_text, time_text, time_place, interval_text, causality_text, answer_text, answered_line, published_line, published_place, published_rows, published_bound, published_base}
use Rattle.report_audit.specs.Numbers.{numbers_in}
use Rattle.report_audit.proofs.Numbers.{numbers_are}

skipped_spread : (poll first last : ℕ) (later : List ℕ) → skipped_line poll first last ++ later ≡ codes "skip," ++ (decimal poll ++ (44 ∷ (decimal first ++ (44 ∷ (decimal last ++ (10 ∷ later))))))
unfolding skipped_line
skipped_spread poll first last later = simp append_assoc refl

pub skipped_numbers : (poll first last : ℕ) (later : List ℕ) → poll < 2 ^ 64 → first < 2 ^ 64 → last < 2 ^ 64 → numbers_in 3 (skipped_line poll first last ++ later) ≡ poll ∷ first ∷ last ∷ []
skipped_numbers poll first last later p f l =
    ap (numbers_in 3) (skipped_spread poll first last later)
    ∙ (numbers_are 2 (codes "skip,") poll 44 (decimal first ++ (44 ∷ (decimal last ++ (10 ∷ later)))) refl p refl
    ∙ ap (λ (ns : List ℕ). poll ∷ ns) (numbers_are 1 (44 ∷ []) first 44 (decimal last ++ (10 ∷ later)) refl f refl
    ∙ ap (λ (ns : List ℕ). first ∷ ns) (numbers_are 0 (44 ∷ []) last 10 later refl l refl)))

-- `ans,CLIENT,CALL,` and what follows
call_spread : (client call : ℕ) (answer : List ℕ) → call_place client call ++ answer ≡ codes "ans," ++ (decimal client ++ (44 ∷ (decimal call ++ (44 ∷ answer))))
unfolding call_place
call_spread client call answer = simp append_assoc refl

pub answer_numbers : (count client call : ℕ) (answer : List ℕ) → client < 2 ^ 64 → call < 2 ^ 64 → numbers_in (suc (suc count)) (call_place client call ++ answer) ≡ client ∷ call ∷ numbers_in count (44 ∷ answer)
answer_numbers count client call answer c k =
    ap (numbers_in (suc (suc count))) (call_spread client call answer)
    ∙ (numbers_are (suc count) (codes "ans,") client 44 (decimal call ++ (44 ∷ answer)) refl c refl
    ∙ ap (λ (ns : List ℕ). client ∷ ns) (numbers_are count (44 ∷ []) call 44 answer refl k refl))

busy_spread : (tries first last : ℕ) (later : List ℕ) → 44 ∷ (busy_text tries first last ++ later) ≡ codes ",busy," ++ (decimal tries ++ (44 ∷ (decimal first ++ (44 ∷ (decimal last ++ (10 ∷ later))))))
unfolding busy_text
busy_spread tries first last later = simp append_assoc refl

pub busy_numbers : (tries first last : ℕ) (later : List ℕ) → tries < 2 ^ 64 → first < 2 ^ 64 → last < 2 ^ 64 → numbers_in 3 (44 ∷ (busy_text tries first last ++ later)) ≡ tries ∷ first ∷ last ∷ []
busy_numbers tries first last later p f l =
    ap (numbers_in 3) (busy_spread tries first last later)
    ∙ (numbers_are 2 (codes ",busy,") tries 44 (decimal first ++ (44 ∷ (decimal last ++ (10 ∷ later)))) refl p refl
    ∙ ap (λ (ns : List ℕ). tries ∷ ns) (numbers_are 1 (44 ∷ []) first 44 (decimal last ++ (10 ∷ later)) refl f refl
    ∙ ap (λ (ns : List ℕ). first ∷ ns) (numbers_are 0 (44 ∷ []) last 10 later refl l refl)))

page_busy_spread : (first last : ℕ) (later : List ℕ) → 44 ∷ (page_busy_text first last ++ later) ≡ codes ",pagebusy," ++ (decimal first ++ (44 ∷ (decimal last ++ (10 ∷ later))))
unfolding page_busy_text
page_busy_spread first last later = simp append_assoc refl

pub page_busy_numbers : (first last : ℕ) (later : List ℕ) → first < 2 ^ 64 → last < 2 ^ 64 → numbers_in 2 (44 ∷ (page_busy_text first last ++ later)) ≡ first ∷ last ∷ []
page_busy_numbers first last later f l =
    ap (numbers_in 2) (page_busy_spread first last later)
    ∙ (numbers_are 1 (codes ",pagebusy,") first 44 (decimal last ++ (10 ∷ later)) refl f refl
    ∙ ap (λ (ns : List ℕ). first ∷ ns) (numbers_are 0 (44 ∷ []) last 10 later refl l refl))

-- the second and the third of six numbers, where the text begins with the line of a skipped poll
abbrev pub second : List ℕ → ℕ
second numbers = slice_index numbers 1

abbrev pub third : List ℕ → ℕ
third numbers = slice_index numbers 2

pub skipped_six : (poll first last : ℕ) (text later : List ℕ) → poll < 2 ^ 64 → first < 2 ^ 64 → last < 2 ^ 64 → text ≡ skipped_line poll first last ++ later → (slice_index (numbers_in 6 text) 1 ≡ first) × (slice_index (numbers_in 6 text) 2 ≡ last)
skipped_six poll first last text later p f l is =
    let three : numbers_in 3 text ≡ poll ∷ first ∷ last ∷ [] = ap (numbers_in 3) is ∙ skipped_numbers poll first last later p f l in
    (ap second three, ap third three)

-- the other places
abbrev pub fourth : List ℕ → ℕ
fourth numbers = slice_index numbers 3

abbrev pub fifth : List ℕ → ℕ
fifth numbers = slice_index numbers 4

abbrev pub sixth : List ℕ → ℕ
sixth numbers = slice_index numbers 5

-- ---- the lines of answers

answered_spread : (client call page : ℕ) (answer : Answer) (later : List ℕ) → answered_line client call page answer ++ later ≡ call_place client call ++ (answer_text page answer ++ later)
unfolding answered_line
answered_spread client call page answer later = append_assoc (call_place client call) (answer_text page answer) later

-- the numbers after those of the call
after_call : (count client call page : ℕ) (answer : Answer) (text later : List ℕ) → client < 2 ^ 32 → call < 2 ^ 32 → text ≡ answered_line client call page answer ++ later
    → numbers_in (suc (suc count)) text ≡ client ∷ call ∷ numbers_in count (44 ∷ (answer_text page answer ++ later))
after_call count client call page answer text later c k is =
    ap (numbers_in (suc (suc count))) (is ∙ answered_spread client call page answer later)
    ∙ answer_numbers count client call (answer_text page answer ++ later) (omega arith) (omega arith)

pub busy_six : (client call tries page first last : ℕ) (text later : List ℕ) → client < 2 ^ 32 → call < 2 ^ 32 → tries < 2 ^ 32 → first < 2 ^ 64 → last < 2 ^ 64
    → text ≡ answered_line client call page (Busy tries first last) ++ later → (slice_index (numbers_in 6 text) 3 ≡ first) × (slice_index (numbers_in 6 text) 4 ≡ last)
busy_six client call tries page first last text later c k t f l is =
    let five : numbers_in 5 text ≡ client ∷ call ∷ tries ∷ first ∷ last ∷ [] = after_call 3 client call page (Busy tries first last) text later c k is ∙ ap (λ (ns : List ℕ). client ∷ call ∷ ns) (busy_numbers tries first last later (omega arith) f l) in
    (ap fourth five, ap fifth five)

pub page_busy_six : (client call page first last : ℕ) (text later : List ℕ) → client < 2 ^ 32 → call < 2 ^ 32 → first < 2 ^ 64 → last < 2 ^ 64
    → text ≡ answered_line client call page (PageBusy first last) ++ later → (slice_index (numbers_in 6 text) 2 ≡ first) × (slice_index (numbers_in 6 text) 3 ≡ last)
page_busy_six client call page first last text later c k f l is =
    let four : numbers_in 4 text ≡ client ∷ call ∷ first ∷ last ∷ [] = after_call 2 client call page (PageBusy first last) text later c k is ∙ ap (λ (ns : List ℕ). client ∷ call ∷ ns) (page_busy_numbers first last later f l) in
    (ap third four, ap fourth four)

time_spread : (page : ℕ) (t : Timed) (later : List ℕ) → 44 ∷ (time_text page t ++ later) ≡ codes ",time," ++ (decimal t.generation ++ (44 ∷ (decimal t.row ++ (44 ∷ (decimal page ++ (44 ∷ (interval_text t.interval ++ later)))))))
unfolding time_text time_place
time_spread page t later = simp append_assoc refl

time_numbers : (page : ℕ) (t : Timed) (later : List ℕ) → t.generation < 2 ^ 64 → t.row < 2 ^ 64 → page < 2 ^ 64 → numbers_in 3 (44 ∷ (time_text page t ++ later)) ≡ t.generation ∷ t.row ∷ page ∷ []
time_numbers page t later g r p =
    ap (numbers_in 3) (time_spread page t later)
    ∙ (numbers_are 2 (codes ",time,") t.generation 44 (decimal t.row ++ (44 ∷ (decimal page ++ (44 ∷ (interval_text t.interval ++ later))))) refl g refl
    ∙ ap (λ (ns : List ℕ). t.generation ∷ ns) (numbers_are 1 (44 ∷ []) t.row 44 (decimal page ++ (44 ∷ (interval_text t.interval ++ later))) refl r refl
    ∙ ap (λ (ns : List ℕ). t.row ∷ ns) (numbers_are 0 (44 ∷ []) page 44 (interval_text t.interval ++ later) refl p refl)))

-- the three numbers of an answer with an interval
pub record ReadsTime (numbers : List ℕ) (generation row page : ℕ) : Type 0 where
  pub generation_is : slice_index numbers 2 ≡ generation
  pub row_is : slice_index numbers 3 ≡ row
  pub page_is : slice_index numbers 4 ≡ page

pub time_six : (client call page : ℕ) (t : Timed) (text later : List ℕ) → client < 2 ^ 32 → call < 2 ^ 32 → t.generation < 2 ^ 64 → t.row < 2 ^ 64 → page < 2 ^ 64
    → text ≡ answered_line client call page (Time t) ++ later → ReadsTime (numbers_in 6 text) t.generation t.row page
time_six client call page t text later c k g r p is =
    let five : numbers_in 5 text ≡ client ∷ call ∷ t.generation ∷ t.row ∷ page ∷ [] = after_call 3 client call page (Time t) text later c k is ∙ ap (λ (ns : List ℕ). client ∷ call ∷ ns) (time_numbers page t later g r p) in
    record { generation_is = ap third five; row_is = ap fourth five; page_is = ap fifth five }

signed_spread : (c : Causality) (later : List ℕ) → 44 ∷ (causality_text c ++ later) ≡ codes ",causality," ++ (signed_decimal c.as_of ++ (44 ∷ (decimal c.mono ++ (10 ∷ later))))
unfolding causality_text
signed_spread c later = simp append_assoc refl

early_spread : (as_of : ℕ) (c : Causality) (later : List ℕ) → c.as_of ≡ pos as_of → 44 ∷ (causality_text c ++ later) ≡ codes ",causality," ++ (decimal as_of ++ (44 ∷ (decimal c.mono ++ (10 ∷ later))))
early_spread as_of c later is = subst (λ (z : ℤ). 44 ∷ (causality_text c ++ later) ≡ codes ",causality," ++ (signed_decimal z ++ (44 ∷ (decimal c.mono ++ (10 ∷ later))))) is (signed_spread c later)

early_numbers : (as_of : ℕ) (c : Causality) (later : List ℕ) → c.as_of ≡ pos as_of → as_of < 2 ^ 64 → c.mono < 2 ^ 64 → numbers_in 2 (44 ∷ (causality_text c ++ later)) ≡ as_of ∷ c.mono ∷ []
early_numbers as_of c later is a m =
    ap (numbers_in 2) (early_spread as_of c later is)
    ∙ (numbers_are 1 (codes ",causality,") as_of 44 (decimal c.mono ++ (10 ∷ later)) refl a refl
    ∙ ap (λ (ns : List ℕ). as_of ∷ ns) (numbers_are 0 (44 ∷ []) c.mono 10 later refl m refl))

pub early_six : (client call page as_of : ℕ) (c : Causality) (text later : List ℕ) → client < 2 ^ 32 → call < 2 ^ 32 → c.as_of ≡ pos as_of → as_of < 2 ^ 64 → c.mono < 2 ^ 64
    → text ≡ answered_line client call page (Early c) ++ later → (slice_index (numbers_in 6 text) 2 ≡ as_of) × (slice_index (numbers_in 6 text) 3 ≡ c.mono)
early_six client call page as_of e text later c k same a m is =
    let four : numbers_in 4 text ≡ client ∷ call ∷ as_of ∷ e.mono ∷ [] = after_call 2 client call page (Early e) text later c k is ∙ ap (λ (ns : List ℕ). client ∷ call ∷ ns) (early_numbers as_of e later same a m) in
    (ap third four, ap fourth four)

-- ---- the line of a publication

place_spread : (position page : ℕ) (p : Publication) (x : List ℕ) → published_line position page p ++ x ≡ codes "pub," ++ (decimal position ++ (44 ∷ (decimal p.poll ++ (44 ∷ (decimal p.generation ++ (44 ∷ (decimal p.asked ++ (44 ∷ (decimal page ++ (44 ∷ (decimal p.replied ++ (44 ∷ (published_bound p.rec ++ (published_base p ++ x))))))))))))))
unfolding published_line published_place published_rows
place_spread position page p x = simp append_assoc refl

-- the rows and the page of a publication
pub record ReadsRows (numbers : List ℕ) (asked page replied : ℕ) : Type 0 where
  pub asked_is : slice_index numbers 3 ≡ asked
  pub page_is : slice_index numbers 4 ≡ page
  pub replied_is : slice_index numbers 5 ≡ replied

pub published_six : (position page : ℕ) (p : Publication) (text later : List ℕ) → position < 2 ^ 64 → p.poll < 2 ^ 64 → p.generation < 2 ^ 64 → p.asked < 2 ^ 64 → page < 2 ^ 64 → p.replied < 2 ^ 64
    → text ≡ published_line position page p ++ later → ReadsRows (numbers_in 6 text) p.asked page p.replied
published_six position page p text later s o g a m r is =
    let rest : List ℕ = 44 ∷ (published_bound p.rec ++ (published_base p ++ later)) in
    let six : numbers_in 6 text ≡ position ∷ p.poll ∷ p.generation ∷ p.asked ∷ page ∷ p.replied ∷ [] =
    ap (numbers_in 6) (is ∙ place_spread position page p later)
    ∙ (numbers_are 5 (codes "pub,") position 44 (decimal p.poll ++ (44 ∷ (decimal p.generation ++ (44 ∷ (decimal p.asked ++ (44 ∷ (decimal page ++ (44 ∷ (decimal p.replied ++ rest))))))))) refl s refl
    ∙ ap (λ (ns : List ℕ). position ∷ ns) (numbers_are 4 (44 ∷ []) p.poll 44 (decimal p.generation ++ (44 ∷ (decimal p.asked ++ (44 ∷ (decimal page ++ (44 ∷ (decimal p.replied ++ rest))))))) refl o refl
    ∙ ap (λ (ns : List ℕ). p.poll ∷ ns) (numbers_are 3 (44 ∷ []) p.generation 44 (decimal p.asked ++ (44 ∷ (decimal page ++ (44 ∷ (decimal p.replied ++ rest))))) refl g refl
    ∙ ap (λ (ns : List ℕ). p.generation ∷ ns) (numbers_are 2 (44 ∷ []) p.asked 44 (decimal page ++ (44 ∷ (decimal p.replied ++ rest))) refl a refl
    ∙ ap (λ (ns : List ℕ). p.asked ∷ ns) (numbers_are 1 (44 ∷ []) page 44 (decimal p.replied ++ rest) refl m refl
    ∙ ap (λ (ns : List ℕ). page ∷ ns) (numbers_are 0 (44 ∷ []) p.replied 44 (published_bound p.rec ++ (published_base p ++ later)) refl r refl)))))) in
    record { asked_is = ap fourth six; page_is = ap fifth six; replied_is = ap sixth six }
