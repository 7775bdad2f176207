-- The feeds of polls, one after another.
use Rattle.std.proofs.Common.{◌≡◌, ℕ, zero, suc, ◌+◌, List, [], ◌∷◌, ◌++◌, take, Some, slice_get, ap, ◌∙◌, arith}
use Rattle.clock_gate.specs.declared.trace.PollRow.{PollRow}
use Rattle.feed_queue.specs.declared.feed.Feed.{Feed}
use Rattle.feed_queue.specs.Feeds.{feed_of, feeds_from, feeds_of, IsNext}

some_same : {x f : Feed} → Some x ≡ Some f → x ≡ f
some_same e = cc e

numbered_from : (number : ℕ) (polls : List PollRow) (k : ℕ) (f : Feed) → slice_get (feeds_from number polls) k ≡ Some f → f.number ≡ number + k
numbered_from number [] k f e = absurd (cc e)
numbered_from number (poll ∷ polls) zero f e =
    let same : feed_of number poll ≡ f = some_same e in let it : number ≡ f.number = ap (λ (x : Feed). x.number) same in omega arith
numbered_from number (poll ∷ polls) (suc k) f e = let later = numbered_from (number + 1) polls k f e in omega arith

-- a feed tells its own place
pub numbered : (polls : List PollRow) (k : ℕ) (f : Feed) → IsNext polls k f → f.number ≡ k + 1
numbered polls k f next = let is = numbered_from 1 polls k f next in omega arith

one_more_of : (feeds : List Feed) (k : ℕ) (f : Feed) → slice_get feeds k ≡ Some f → take (k + 1) feeds ≡ take k feeds ++ f ∷ []
one_more_of [] k f e = absurd (cc e)
one_more_of (g ∷ feeds) zero f e = let is : g ≡ f = some_same e in ap (λ x. x ∷ []) is
one_more_of (g ∷ feeds) (suc k) f e =
    let further : suc k + 1 ≡ suc (k + 1) = omega arith in ap (λ n. take n (g ∷ feeds)) further ∙ ap (λ l. g ∷ l) (one_more_of feeds k f e)

-- the next feed comes after those before it
pub one_passed : (polls : List PollRow) (k : ℕ) (f : Feed) → IsNext polls k f → take (k + 1) (feeds_of polls) ≡ take k (feeds_of polls) ++ f ∷ []
one_passed polls k f next = one_more_of (feeds_of polls) k f next

feed_at : (number : ℕ) (polls : List PollRow) (k : ℕ) (poll : PollRow) → slice_get polls k ≡ Some poll
    → slice_get (feeds_from number polls) k ≡ Some (feed_of (number + k) poll)
feed_at number [] k poll e = absurd (cc e)
feed_at number (p ∷ polls) zero poll e =
    let is : p ≡ poll = cc e in
    let same : number ≡ number + 0 = omega arith in ap (λ (x : PollRow). Some (feed_of number x)) is ∙ ap (λ (n : ℕ). Some (feed_of n poll)) same
feed_at number (p ∷ polls) (suc k) poll e =
    let same : number + 1 + k ≡ number + suc k = omega arith in feed_at (number + 1) polls k poll e ∙ ap (λ (n : ℕ). Some (feed_of n poll)) same

-- the next feed is that of the next poll
pub next_of : (polls : List PollRow) (k : ℕ) (poll : PollRow) → slice_get polls k ≡ Some poll → IsNext polls k (feed_of (k + 1) poll)
next_of polls k poll e = let same : 1 + k ≡ k + 1 = omega arith in feed_at 1 polls k poll e ∙ ap (λ (n : ℕ). Some (feed_of n poll)) same
