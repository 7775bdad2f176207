-- What the steps promise of true time.
use Rattle.std.specs.Prelude.{◌≡◌, ◌≢◌, ℕ, ◌<◌, ◌≤◌, ℤ, pos, ◌≤ℤ◌, ◌<ℤ◌, List, Some, IfSome, All, slice_get}
use Rattle.interval_now.specs.declared.answers.Interval.{Interval}
use Rattle.bound_order.specs.declared.told.Told.{Told}
use Rattle.bound_order.specs.declared.waiting.Waiting.TheVariants.{Pass, Stamp, Done}
use Rattle.bound_order.specs.declared.lease.Lease.TheVariants.{Grant, Act}
use Rattle.bound_order.specs.declared.step.Step.{Step}
use Rattle.bound_order.specs.Ordering.{IsNear, order_of, trusted_of}

-- the answer at this place has this truth, which lies in its interval, and gave this step
pub record IsTrueAt (told : List Told) (steps : List Step) (k : ℕ) (truth : ℕ) (gave : Step) : Type 0 where
  pub answer : Told
  pub found : slice_get told k ≡ Some answer
  pub step : slice_get steps k ≡ Some gave
  pub is_told : answer.truth ≡ Some truth
  pub interval : Interval
  pub has_interval : answer.interval ≡ Some interval
  pub not_before : interval.earliest ≤ℤ pos truth
  pub not_after : pos truth ≤ℤ interval.latest

-- where answer j ends the wait of stamp s, answer k draws stamp t, and the truth of k isn't below that of j, s < t
abbrev pub StampsFollowTime : List Told → List Step → Type 0
StampsFollowTime told steps =
    (j k : ℕ) (x y : ℕ) (p q : Step) (s t : ℤ)
    → IsTrueAt told steps j x p → p.wait ≡ Done s → IsTrueAt told steps k y q → q.wait ≡ Stamp t → x ≤ y → s <ℤ t

-- the answer at g got a grant with this expiry
abbrev pub GrantedAt : List Step → ℕ → ℤ → Type 0
GrantedAt steps g expiry = (p : Step) × (slice_get steps g ≡ Some p) × (p.lease ≡ Grant expiry)

-- the last grant before j was that at g
pub record IsUnder (steps : List Step) (g j : ℕ) (expiry : ℤ) : Type 0 where
  pub granted : GrantedAt steps g expiry
  pub before : g < j
  pub last : (i : ℕ) (e : ℤ) (p : Step) → g < i → i < j → slice_get steps i ≡ Some p → p.lease ≢ Grant e

-- an act under a grant with expiry e has a truth below e
abbrev pub ActsEndFirst : List Told → List Step → Type 0
ActsEndFirst told steps =
    (g j : ℕ) (e : ℤ) (x : ℕ) (p : Step) → IsUnder steps g j e → IsTrueAt told steps j x p → p.lease ≡ Act → pos x <ℤ e

-- each later grant has a truth above e: so nobody acts under an old lease at or after the true time of a new grant
abbrev pub GrantsComeLater : List Told → List Step → Type 0
GrantsComeLater told steps =
    (g k : ℕ) (e f : ℤ) (y : ℕ) (q : Step) → GrantedAt steps g e → g < k → IsTrueAt told steps k y q → q.lease ≡ Grant f → e <ℤ pos y

-- the truth of an answer is told, and lies in this interval
pub record HasTruth (t : Told) (i : Interval) : Type 0 where
  pub truth : ℕ
  pub is_told : t.truth ≡ Some truth
  pub not_before : i.earliest ≤ℤ pos truth
  pub not_after : pos truth ≤ℤ i.latest

-- so it is of each trusted answer
abbrev pub AreTrue : List Told → Type 0
AreTrue told = (k : ℕ) (t : Told) (i : Interval) → slice_get told k ≡ Some t → trusted_of t ≡ Some i → HasTruth t i

-- each step but a pass is of an answer whose truth is told and lies in its interval, and so stamps follow time, and leases don't overlap
pub record KeepsOrder (told : List Told) (steps : List Step) : Type 0 where
  pub true_steps : (k : ℕ) (gave : Step) → slice_get steps k ≡ Some gave → gave.wait ≢ Pass → (truth : ℕ) × IsTrueAt told steps k truth gave
  pub stamps : StampsFollowTime told steps
  pub acts : ActsEndFirst told steps
  pub grants : GrantsComeLater told steps

-- so it is of every list of answers whose intervals are near, and of every length of a lease
abbrev pub TrueAnswersKeepOrder : Type 0
TrueAnswersKeepOrder =
    (length : ℕ) (told : List Told) → All (λ t. IfSome t.interval IsNear) told → AreTrue told → KeepsOrder told (order_of length told)
