-- What stands at the positions of a run, as more events come.
use Rattle.std.proofs.Common.{◌≡◌, ◌≢◌, ℕ, ◌+◌, ◌≤◌, ◌<◌, Bool, true, false, List, [], ◌∷◌, Option, Some, None, refl, subst, arith, inl, inr}
use Rattle.std.specs.Prelude.{◌==◌, ◌||◌, if◌then◌else◌}
use Rattle.std.proofs.lemmas.Bool.{cases_eq}
use Rattle.std.proofs.lemmas.Bool.Decides.{nat_tests}
use Rattle.clock_gate.specs.declared.trace.Trace.{Trace}
use Rattle.segment_layout.specs.declared.publication.Publication.{Publication}
use Rattle.segment_layout.specs.Image.{start_of}
use Rattle.abstract_run.specs.declared.event.Event.{Event}
use Rattle.abstract_run.specs.declared.event.Event.TheVariants.{Opened, Moved, Published, Skipped, Stopped, Answered}
use Rattle.abstract_run.specs.RunFacts.{PublishedEvent, told_at, is_moved_to, is_kept_at, is_image_at, made_by, AllEarlier, StoodBy, StoodAt}

-- ---- positions, poll numbers and moments along the publications

pub earlier_more : (position poll replied_at position' poll' replied_at' : ℕ) (past : List Event) → position ≤ position' → poll ≤ poll' → replied_at ≤ replied_at'
    → AllEarlier position poll replied_at past → AllEarlier position' poll' replied_at' past
earlier_more p q r p' q' r' [] a b c h = tt
earlier_more p q r p' q' r' (Opened which start ∷ past) a b c h = earlier_more p q r p' q' r' past a b c h
earlier_more p q r p' q' r' (Moved which to generation ∷ past) a b c h = ((let x = h.0 in omega (arith, x, a)), earlier_more p q r p' q' r' past a b c h.1)
earlier_more p q r p' q' r' (Published to publication marked_at before ∷ past) a b c h =
    ((let x = h.0 in omega (arith, x, a)), (let x = h.1 in omega (arith, x, b)), (let x = h.2 in omega (arith, x, c)), earlier_more p q r p' q' r' past a b c h.3)
earlier_more p q r p' q' r' (Skipped which first last ∷ past) a b c h = earlier_more p q r p' q' r' past a b c h
earlier_more p q r p' q' r' (Stopped which stores ∷ past) a b c h = earlier_more p q r p' q' r' past a b c h
earlier_more p q r p' q' r' (Answered client call answer trail ∷ past) a b c h = earlier_more p q r p' q' r' past a b c h

-- ---- what stands at a position

pub stood_later : (is_image : Bool) (low high : ℕ) (told : Option PublishedEvent) → low ≤ high → StoodBy is_image low told → StoodBy is_image high told
stood_later is_image low high None more stood = stood
stood_later is_image low high (Some told) more stood = omega (arith, more, stood)

or_later : (one two three : Bool) → (two || three) ≡ true → ((one || two) || three) ≡ true
or_later true two three is = refl
or_later false two three is = is

by_later : (one two three : Bool) (clock_at : ℕ) (told : Option PublishedEvent) → StoodBy (two || three) clock_at told → StoodBy ((one || two) || three) clock_at told
by_later one two three clock_at None stood = or_later one two three stood
by_later one two three clock_at (Some told) stood = stood

-- a move hides nothing
pub stood_moved : (trace : Trace) (past : List Event) (poll position generation n clock_at : ℕ) → StoodAt trace past n clock_at → StoodAt trace (Moved poll position generation ∷ past) n clock_at
stood_moved trace past poll position generation n clock_at stood =
    by_later (position == n) (is_moved_to n past) (is_kept_at n (start_of trace.image)) clock_at (told_at n past) stood

other_by : (is_image test : Bool) (clock_at : ℕ) (one : PublishedEvent) (told : Option PublishedEvent) → test ≡ false → StoodBy is_image clock_at told → StoodBy is_image clock_at (if test then Some one else told)
other_by is_image test clock_at one told other stood = rw other stood

own_by : (is_image test : Bool) (clock_at : ℕ) (one : PublishedEvent) (told : Option PublishedEvent) → test ≡ true → one.replied_at ≤ clock_at → StoodBy is_image clock_at (if test then Some one else told)
own_by is_image test clock_at one told own at = rw own at

-- a publication hides nothing at another position
pub stood_other : (trace : Trace) (past : List Event) (position : ℕ) (publication : Publication) (marked_at replied_at n clock_at : ℕ) → position ≢ n
    → StoodAt trace past n clock_at → StoodAt trace (Published position publication marked_at replied_at ∷ past) n clock_at
stood_other trace past position publication marked_at replied_at n clock_at differs stood =
    let other : (position == n) ≡ false = grind (arith, nat_tests, differs) in
    other_by (is_image_at trace past n) (position == n) clock_at
    (record { position = position; publication = publication; marked_at = marked_at; replied_at = replied_at }) (told_at n past) other stood

-- a publication stands at its own
pub stood_own : (trace : Trace) (past : List Event) (position : ℕ) (publication : Publication) (marked_at replied_at clock_at : ℕ) → replied_at ≤ clock_at
    → StoodAt trace (Published position publication marked_at replied_at ∷ past) position clock_at
stood_own trace past position publication marked_at replied_at clock_at before =
    let own : (position == position) ≡ true = grind (arith, nat_tests) in
    own_by (is_image_at trace past position) (position == position) clock_at
    (record { position = position; publication = publication; marked_at = marked_at; replied_at = replied_at }) (told_at position past) own before

-- no publication has a position from this one on
none_by : (test : Bool) (one : PublishedEvent) (told : Option PublishedEvent) → test ≡ false → told ≡ None → (if test then Some one else told) ≡ None
none_by test one told other none = rw other none

pub none_at : (position poll replied_at : ℕ) (past : List Event) → AllEarlier position poll replied_at past → told_at position past ≡ None
none_at p q r [] h = refl
none_at p q r (Opened which start ∷ past) h = none_at p q r past h
none_at p q r (Moved which to generation ∷ past) h = none_at p q r past h.1
none_at p q r (Published to publication marked_at before ∷ past) h =
    let below = h.0 in
    let other : (to == p) ≡ false = grind (arith, nat_tests, below) in
    none_by (to == p) (record { position = to; publication = publication; marked_at = marked_at; replied_at = before }) (told_at p past) other (none_at p q r past h.3)
none_at p q r (Skipped which first last ∷ past) h = none_at p q r past h
none_at p q r (Stopped which stores ∷ past) h = none_at p q r past h
none_at p q r (Answered client call answer trail ∷ past) h = none_at p q r past h

moved_by : (test two three : Bool) (clock_at : ℕ) (told : Option PublishedEvent) → test ≡ true → told ≡ None → StoodBy ((test || two) || three) clock_at told
moved_by test two three clock_at told own none = rw none (rw own refl)

-- a moved record stands where it was moved to
pub stood_to : (trace : Trace) (past : List Event) (poll position generation next replied_at clock_at : ℕ) → AllEarlier position next replied_at past
    → StoodAt trace (Moved poll position generation ∷ past) position clock_at
stood_to trace past poll position generation next replied_at clock_at earlier =
    let own : (position == position) ≡ true = grind (arith, nat_tests) in
    moved_by (position == position) (is_moved_to position past) (is_kept_at position (start_of trace.image)) clock_at (told_at position past) own
    (none_at position next replied_at past earlier)

-- ---- a segment

-- what stands in a segment with this base, at this position
pub record Stands (trace : Trace) (base position : ℕ) (is_writing : Bool) (done : ℕ) (past : List Event) : Type 0 where
  pub within : base ≤ position
  pub readable : is_writing ≡ false → position ≢ 0 → base < position
  pub few : position ≤ base + 1 + made_by past
  pub stood : (n : ℕ) → base < n → n ≤ position → StoodAt trace past n done

-- more rows of the host are done
pub stands_later : (trace : Trace) (base position : ℕ) (is_writing : Bool) (done more : ℕ) (past : List Event) → done ≤ more
    → Stands trace base position is_writing done past → Stands trace base position is_writing more past
stands_later trace base position is_writing done more past le h =
    record {
      within = h.within;
      readable = h.readable;
      few = h.few;
      stood = λ n low high. stood_later (is_image_at trace past n) done more (told_at n past) le (h.stood n low high);
    }

-- an update is opened
pub stands_open : (trace : Trace) (base position : ℕ) (is_writing : Bool) (done : ℕ) (past : List Event)
    → Stands trace base position is_writing done past → Stands trace base position true done past
stands_open trace base position is_writing done past h =
    record { within = h.within; readable = λ off some. absurd (cc off); few = h.few; stood = h.stood }

-- a publication ends
pub stands_published : (trace : Trace) (base position : ℕ) (is_writing : Bool) (done : ℕ) (past : List Event) (publication : Publication) (marked_at replied_at : ℕ) → replied_at ≤ done
    → Stands trace base position is_writing done past → Stands trace base (position + 1) false done (Published (position + 1) publication marked_at replied_at ∷ past)
stands_published trace base position is_writing done past publication marked_at replied_at before h =
    let within = h.within in
    let few = h.few in
    record {
      within = omega (arith, within);
      readable = λ off some. omega (arith, within);
      few = omega (arith, few);
      stood = λ n low high. elim (cases_eq (position + 1) n) [
        | inl same ↦
            subst (λ (k : ℕ). StoodAt trace (Published (position + 1) publication marked_at replied_at ∷ past) k done) same
            (stood_own trace past (position + 1) publication marked_at replied_at done before)
        | inr differs ↦ stood_other trace past (position + 1) publication marked_at replied_at n done differs (h.stood n low (omega (arith, high, differs)))
      ];
    }

-- a record is moved
pub stands_moved : (trace : Trace) (base position : ℕ) (is_writing : Bool) (done : ℕ) (past : List Event) (poll generation next replied_at : ℕ) → AllEarlier (position + 1) next replied_at past
    → Stands trace base position is_writing done past → Stands trace base (position + 1) false done (Moved poll (position + 1) generation ∷ past)
stands_moved trace base position is_writing done past poll generation next replied_at earlier h =
    let within = h.within in
    let few = h.few in
    record {
      within = omega (arith, within);
      readable = λ off some. omega (arith, within);
      few = omega (arith, few);
      stood = λ n low high. elim (cases_eq (position + 1) n) [
        | inl same ↦
            subst (λ (k : ℕ). StoodAt trace (Moved poll (position + 1) generation ∷ past) k done) same
            (stood_to trace past poll (position + 1) generation next replied_at done earlier)
        | inr differs ↦ stood_moved trace past poll (position + 1) generation n done (h.stood n low (omega (arith, high, differs)))
      ];
    }
