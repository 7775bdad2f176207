-- The first place where a line feed, `report` and a line feed stand in a text after some byte, is where the text is cut.
use Rattle.std.proofs.Common.{◌≡◌, ◌∙◌, ◌<◌, ◌≤◌, ◌+◌, ◌==◌, ◌&&◌, ℕ, zero, suc, Bool, true, false, List, [], ◌∷◌, length, take, drop, Some, None, refl, sym, ap, arith}
use Rattle.std.proofs.lemmas.List.{drop-drop, length-drop, length-take}
use Rattle.std.proofs.lemmas.Slice.Eq.{bytes_eq-Decides}
use Rattle.std.proofs.lemmas.Bool.Decides.{nat_tests}
use Rattle.memchr.specs.Find.{OccursAt}
use Rattle.memchr.proofs.lemmas.MatchLemmas.{OccursAt-part, OccursAt-from_part}
use Rattle.audit_text.specs.Cut.{cut_from, cut_of, goes_on, line_feed, report_line}

-- a line feed, and then the line
abbrev pub searched : List ℕ
searched = line_feed ∷ report_line

-- it stands there in a text
abbrev pub StandsAt : List ℕ → ℕ → Type 0
StandsAt text place = take 8 (drop place text) ≡ searched

-- and at no place before this one
abbrev pub FirstAt : List ℕ → ℕ → Type 0
FirstAt text place = StandsAt text place × ((k : ℕ) → k < place → StandsAt text k → ⊥)

-- where a line begins with `report`
here : (p c : ℕ) (rest : List ℕ) → StandsAt (p ∷ c ∷ rest) 0 → ((p == line_feed) && goes_on (c ∷ rest)) ≡ true
here p c rest stands =
    let feed : p ≡ 10 = cc stands in
    let line : take 7 (c ∷ rest) ≡ report_line = cc stands in
    rw (feed, (bytes_eq-Decides report_line (take 7 (c ∷ rest))).1 (sym line)) refl

not_here : (p c : ℕ) (rest : List ℕ) → (StandsAt (p ∷ c ∷ rest) 0 → ⊥) → ((p == line_feed) && goes_on (c ∷ rest)) ≡ false
not_here p c rest none = by (p == line_feed) refl (goes_on (c ∷ rest)) refl
  where
    by : (feed : Bool) → (p == line_feed) ≡ feed → (line : Bool) → goes_on (c ∷ rest) ≡ line → (feed && line) ≡ false
    by false is line also = refl
    by true is false also = refl
    by true is true also =
        let feed : p ≡ 10 = grind (arith, nat_tests) in
        let line : take 7 (c ∷ rest) ≡ report_line = sym ((bytes_eq-Decides report_line (take 7 (c ∷ rest))).0 also) in
        absurd (none (rw (feed, line) refl))

nothing : (n : ℕ) → take 8 (drop n []) ≡ searched → ⊥
nothing zero stands = absurd (cc stands)
nothing (suc n) stands = absurd (cc stands)

pub cut_at : (p : ℕ) (text : List ℕ) (place : ℕ) → FirstAt (p ∷ text) place → cut_from (p == line_feed) text ≡ Some (take place text, drop (place + 7) text)
unfolding cut_from
cut_at p [] zero (stands, first) = absurd (cc stands)
cut_at p [] (suc k) (stands, first) = absurd (nothing k stands)
cut_at p (c ∷ rest) zero (stands, first) = rw (here p c rest stands) refl
cut_at p (c ∷ rest) (suc k) (stands, first) =
    let test : ((p == line_feed) && goes_on (c ∷ rest)) ≡ false = not_here p c rest (first 0 (omega arith)) in
    let more : cut_from (c == line_feed) rest ≡ Some (take k rest, drop (k + 7) rest) = cut_at c rest k (stands, λ j before. first (suc j) (omega arith)) in
    let later : suc k + 7 ≡ suc (k + 7) = omega arith in
    rw (test, more, later) refl

pub uncut : (p : ℕ) (text : List ℕ) → ((k : ℕ) → StandsAt (p ∷ text) k → ⊥) → cut_from (p == line_feed) text ≡ None
unfolding cut_from
uncut p [] none = refl
uncut p (c ∷ rest) none =
    let test : ((p == line_feed) && goes_on (c ∷ rest)) ≡ false = not_here p c rest (none 0) in
    let more : cut_from (c == line_feed) rest ≡ None = uncut c rest (λ k. none (suc k)) in
    rw (test, more) refl

-- the line at the start of a text
pub cut_first : (text : List ℕ) → goes_on text ≡ true → cut_of text ≡ Some ([], drop 7 text)
unfolding cut_from
cut_first [] begins = absurd (cc begins)
cut_first (c ∷ rest) begins = rw begins refl

not_first : (text : List ℕ) → goes_on text ≡ false → StandsAt (10 ∷ text) 0 → ⊥
not_first text not_begun stands =
    let line : take 7 text ≡ report_line = cc stands in
    absurd (cc (sym not_begun ∙ (bytes_eq-Decides report_line (take 7 text)).1 (sym line)))

-- and the line after the first line feed that it follows
pub cut_later : (text : List ℕ) (place : ℕ) → goes_on text ≡ false → FirstAt text place → cut_of text ≡ Some (take (place + 1) text, drop 7 (drop (place + 1) text))
cut_later text place not_begun (stands, first) =
    let later : place + 1 ≡ suc place = omega arith in
    let both : (k : ℕ) → k < suc place → StandsAt (10 ∷ text) k → ⊥ = before in
    rw (later, drop-drop 7 (suc place) text) (cut_at 10 text (suc place) (stands, both))
  where
    before : (k : ℕ) → k < suc place → StandsAt (10 ∷ text) k → ⊥
    before zero low stood = not_first text not_begun stood
    before (suc k) low stood = first k (omega arith) stood

pub cut_nowhere : (text : List ℕ) → goes_on text ≡ false → ((k : ℕ) → StandsAt text k → ⊥) → cut_of text ≡ None
cut_nowhere text not_begun none = uncut 10 text at
  where
    at : (k : ℕ) → StandsAt (10 ∷ text) k → ⊥
    at zero stood = not_first text not_begun stood
    at (suc k) stood = none k stood

-- a search for all of it finds just these places
pub stands : (text : List ℕ) (k : ℕ) → OccursAt text searched k → StandsAt text k
stands text k found = OccursAt-part text searched k found

pub occurs : (text : List ℕ) (k : ℕ) → StandsAt text k → OccursAt text searched k
occurs text k stood =
    let long : length (take 8 (drop k text)) ≡ 8 = ap length stood in
    let room : 8 ≤ length (drop k text) = omega (arith, long, length-take 8 (drop k text)) in
    OccursAt-from_part text searched k (omega (arith, room, length-drop k text)) stood
