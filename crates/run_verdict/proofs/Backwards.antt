-- One event further back.
use Rattle.std.proofs.Common.{◌≡◌, ◌<◌, ◌+◌, ◌-◌, ◌==◌, ◌∷◌, ℕ, zero, suc, true, false, List, slice_index_or, Some, None, refl, sym, ◌∙◌, ap, subst, arith}
use Rattle.std.proofs.lemmas.Bool.Decides.{nat_tests}
use Rattle.abstract_run.specs.RunFacts.{PublishedEvent}
use Rattle.abstract_run.specs.declared.event.Event.{Event}
use Rattle.abstract_run.specs.declared.event.Event.TheVariants.{Opened, Moved, Published, Skipped, Stopped, Answered}
use Rattle.abstract_run.specs.RunFacts.{told_at, told_by}
use Rattle.run_verdict.specs.Past.{no_event, past_of, ended_in, at_or, by_or}

-- the last publication of a position, one event more
pub read_on : (n : ℕ) (event : Event) (past : List Event) → told_at n (event ∷ past) ≡ at_or n (ended_in event) (told_at n past)
read_on n (Opened poll start) past = refl
read_on n (Moved poll position generation) past = refl
read_on n (Published position publication marked_at replied_at) past = refl
read_on n (Skipped poll first last) past = refl
read_on n (Stopped poll stores) past = refl
read_on n (Answered client call answer trail) past = refl

-- and that of a poll
pub base_on : (n : ℕ) (event : Event) (past : List Event) → told_by n (event ∷ past) ≡ by_or n (ended_in event) (told_by n past)
base_on n (Opened poll start) past = refl
base_on n (Moved poll position generation) past = refl
base_on n (Published position publication marked_at replied_at) past = refl
base_on n (Skipped poll first last) past = refl
base_on n (Stopped poll stores) past = refl
base_on n (Answered client call answer trail) past = refl

-- the same by places
read_back : (n : ℕ) (events : List Event) (k : ℕ) → 0 < k
    → told_at n (past_of events k) ≡ at_or n (ended_in (slice_index_or events (k - 1) no_event)) (told_at n (past_of events (k - 1)))
read_back n events zero some = elim some [ ]
read_back n events (suc k) some =
    let one : suc k - 1 ≡ k = omega arith in
    subst (λ (j : ℕ). told_at n (past_of events (suc k)) ≡ at_or n (ended_in (slice_index_or events j no_event)) (told_at n (past_of events j))) (sym one)
    (read_on n (slice_index_or events k no_event) (past_of events k))

base_back : (n : ℕ) (events : List Event) (k : ℕ) → 0 < k
    → told_by n (past_of events k) ≡ by_or n (ended_in (slice_index_or events (k - 1) no_event)) (told_by n (past_of events (k - 1)))
base_back n events zero some = elim some [ ]
base_back n events (suc k) some =
    let one : suc k - 1 ≡ k = omega arith in
    subst (λ (j : ℕ). told_by n (past_of events (suc k)) ≡ by_or n (ended_in (slice_index_or events j no_event)) (told_by n (past_of events j))) (sym one)
    (base_on n (slice_index_or events k no_event) (past_of events k))

-- looking for a position: the event before the place is its publication, that of another, or none
pub read_here : (n : ℕ) (events : List Event) (k : ℕ) (ended : PublishedEvent) → 0 < k
    → ended_in (slice_index_or events (k - 1) no_event) ≡ Some ended → ended.position ≡ n → told_at n (past_of events k) ≡ Some ended
read_here n events k ended some here is =
    let test : (ended.position == n) ≡ true = grind (arith, nat_tests, is) in
    read_back n events k some ∙ rw (here, test) refl

pub read_elsewhere : (n : ℕ) (events : List Event) (k : ℕ) (ended : PublishedEvent) → 0 < k
    → ended_in (slice_index_or events (k - 1) no_event) ≡ Some ended → (ended.position ≡ n → ⊥) → told_at n (past_of events k) ≡ told_at n (past_of events (k - 1))
read_elsewhere n events k ended some here is =
    let test : (ended.position == n) ≡ false = grind (arith, nat_tests, is) in
    read_back n events k some ∙ rw (here, test) refl

pub read_none : (n : ℕ) (events : List Event) (k : ℕ) → 0 < k
    → ended_in (slice_index_or events (k - 1) no_event) ≡ None → told_at n (past_of events k) ≡ told_at n (past_of events (k - 1))
read_none n events k some here = read_back n events k some ∙ rw here refl

-- looking for a poll
pub base_here : (n : ℕ) (events : List Event) (k : ℕ) (ended : PublishedEvent) → 0 < k
    → ended_in (slice_index_or events (k - 1) no_event) ≡ Some ended → ended.publication.poll ≡ n → told_by n (past_of events k) ≡ Some ended
base_here n events k ended some here is =
    let test : (ended.publication.poll == n) ≡ true = grind (arith, nat_tests, is) in
    base_back n events k some ∙ rw (here, test) refl

pub base_elsewhere : (n : ℕ) (events : List Event) (k : ℕ) (ended : PublishedEvent) → 0 < k
    → ended_in (slice_index_or events (k - 1) no_event) ≡ Some ended → (ended.publication.poll ≡ n → ⊥) → told_by n (past_of events k) ≡ told_by n (past_of events (k - 1))
base_elsewhere n events k ended some here is =
    let test : (ended.publication.poll == n) ≡ false = grind (arith, nat_tests, is) in
    base_back n events k some ∙ rw (here, test) refl

pub base_none : (n : ℕ) (events : List Event) (k : ℕ) → 0 < k
    → ended_in (slice_index_or events (k - 1) no_event) ≡ None → told_by n (past_of events k) ≡ told_by n (past_of events (k - 1))
base_none n events k some here = base_back n events k some ∙ rw here refl

-- one place further on
pub past_on : (events : List Event) (k : ℕ) → past_of events (k + 1) ≡ slice_index_or events k no_event ∷ past_of events k
past_on events k = let one : k + 1 ≡ suc k = omega arith in ap (λ (j : ℕ). past_of events j) one
