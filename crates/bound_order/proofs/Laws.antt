-- What the steps promise of true time.
use Rattle.std.proofs.Common.{◌≡◌, ◌≢◌, ℕ, zero, suc, ◌<◌, ◌==◌, ◌&&◌, ℤ, pos, ◌≤ℤ◌, ◌<ℤ◌, int_lt, Bool, true, false, List, [], ◌∷◌, Option, Some, None, IfSome, All, slice_get, ◌⊎◌, inl, inr, refl, sym, ap, subst, ◌∙◌, arith, if◌then◌else◌}
use Rattle.std.proofs.lemmas.Int.{ints}
use Rattle.clock_gate.specs.declared.clock_status.ClockStatus.{ClockStatus}
use Rattle.clock_gate.specs.declared.clock_status.ClockStatus.TheVariants.{Unknown, Synchronized, FreeRunning, Disrupted}
use Rattle.interval_now.specs.declared.answers.Interval.{Interval}
use Rattle.bound_order.specs.declared.told.Told.{Told}
use Rattle.bound_order.specs.declared.waiting.Waiting.TheVariants.{Pass, Stamp, Done, Hold}
use Rattle.bound_order.specs.declared.lease.Lease.TheVariants.{Grant, Act, Deny}
use Rattle.bound_order.specs.declared.step.Step.{Step}
use Rattle.bound_order.specs.declared.lease.Holder.{Holder}
use Rattle.bound_order.specs.Ordering.{IsNear, trusted_by, trusted_in, trusted_of, wait_of, waiting_of, expiry_of, lease_by_interval, lease_after, lease_by, lease_of, step_by, step_of, steps_after, order_of}
use Rattle.bound_order.specs.Promises.{IsTrueAt, StampsFollowTime, GrantedAt, ActsEndFirst, GrantsComeLater, AreTrue, KeepsOrder}

-- the interval of an answer that has one is near
abbrev pub Near : Told → Type 0
Near t = IfSome t.interval IsNear

-- the answers before a place, newest first
past_at : List Told → List Told → ℕ → List Told
past_at past [] k = past
past_at past (t ∷ told) zero = past
past_at past (t ∷ told) (suc k) = past_at (t ∷ past) told k

-- each step is that of its answer
step_at : (n : ℕ) (past told : List Told) (k : ℕ) (t : Told) (p : Step) → slice_get told k ≡ Some t → slice_get (steps_after n past told) k ≡ Some p → p ≡ step_of n (past_at past told k) t
unfolding past_at
step_at n past [] k t p a e = absurd (cc a)
step_at n past (s ∷ told) zero t p a e = let same : s ≡ t = cc a in let is : step_of n past s ≡ p = cc e in sym is ∙ ap (step_of n past) same
step_at n past (s ∷ told) (suc k) t p a e = step_at n (s ∷ past) told k t p a e

-- an answer is trusted with its own interval, or not
by_status : (s : ClockStatus) (i : Interval) → (trusted_by s i ≡ None) ⊎ (trusted_by s i ≡ Some i)
by_status Unknown i = inl refl
by_status Synchronized i = inr refl
by_status FreeRunning i = inr refl
by_status Disrupted i = inl refl

trusts : (t : Told) (i : Interval) → t.interval ≡ Some i → (trusted_of t ≡ None) ⊎ (trusted_of t ≡ Some i)
trusts t i e = subst (λ (o : Option Interval). (trusted_in o ≡ None) ⊎ (trusted_in o ≡ Some i)) (sym e) (by_status i.status i)

done_by : (o : Option ℤ) (i : Interval) (s : ℤ) → wait_of o i ≡ Done s → s <ℤ i.earliest
done_by None i s e = absurd (cc e)
done_by (Some r) i s e = by (int_lt r i.earliest) refl e
  where
    by : (test : Bool) → int_lt r i.earliest ≡ test → (if test then Done r else Hold) ≡ Done s → s <ℤ i.earliest
    by true is e = let same : r ≡ s = cc e in subst (λ (x : ℤ). x <ℤ i.earliest) same (omega (arith, ints, is))
    by false is e = absurd (cc e)

stamp_by : (o : Option ℤ) (i : Interval) (s : ℤ) → wait_of o i ≡ Stamp s → s ≡ i.latest
stamp_by None i s e = let same : i.latest ≡ s = cc e in sym same
stamp_by (Some r) i s e = by (int_lt r i.earliest) e
  where
    by : (test : Bool) → (if test then Done r else Hold) ≡ Stamp s → s ≡ i.latest
    by true e = absurd (cc e)
    by false e = absurd (cc e)

done_in : (n c : ℕ) (w : Option ℤ) (h : Option Holder) (tr : Option Interval) (i : Interval) (s : ℤ) → (tr ≡ None) ⊎ (tr ≡ Some i) → (step_by n tr c w h).wait ≡ Done s → s <ℤ i.earliest
done_in n c w h None i s or e = absurd (cc e)
done_in n c w h (Some j) i s (inl e') e = absurd (cc e')
done_in n c w h (Some j) i s (inr e') e = let same : j ≡ i = cc e' in subst (λ (x : Interval). s <ℤ x.earliest) same (done_by w j s e)

stamp_in : (n c : ℕ) (w : Option ℤ) (h : Option Holder) (tr : Option Interval) (i : Interval) (s : ℤ) → (tr ≡ None) ⊎ (tr ≡ Some i) → (step_by n tr c w h).wait ≡ Stamp s → s ≡ i.latest
stamp_in n c w h None i s or e = absurd (cc e)
stamp_in n c w h (Some j) i s (inl e') e = absurd (cc e')
stamp_in n c w h (Some j) i s (inr e') e = let same : j ≡ i = cc e' in subst (λ (x : Interval). s ≡ x.latest) same (stamp_by w j s e)

pub stamps_follow_time : (n : ℕ) (told : List Told) → StampsFollowTime told (order_of n told)
stamps_follow_time n told j k x y p q s t at done at' drawn le =
    let a = step_at n [] told j at.answer p at.found at.step in
    let b = step_at n [] told k at'.answer q at'.found at'.step in
    let early : s <ℤ at.interval.earliest = done_in n _ _ _ (trusted_of at.answer) at.interval s (trusts at.answer at.interval at.has_interval) (sym (ap (λ (z : Step). z.wait) a) ∙ done) in
    let late : t ≡ at'.interval.latest = stamp_in n _ _ _ (trusted_of at'.answer) at'.interval t (trusts at'.answer at'.interval at'.has_interval) (sym (ap (λ (z : Step). z.wait) b) ∙ drawn) in
    let above : at.interval.earliest ≤ℤ pos x = at.not_before in
    let below : pos y ≤ℤ at'.interval.latest = at'.not_after in
    omega (arith, ints, early, late, above, below, le)

act_by : (n c : ℕ) (o : Option Holder) (i : Interval) → lease_by_interval n o c i ≡ Act → (h : Holder) × (o ≡ Some h) × (i.latest <ℤ h.expiry)
act_by n c None i e = absurd (cc e)
act_by n c (Some h) i e = by (int_lt h.expiry i.earliest) (h.client == c) (int_lt i.latest h.expiry) refl e
  where
    by : (free mine early : Bool) → int_lt i.latest h.expiry ≡ early → (if free then Grant (expiry_of n i) else if mine && early then Act else Deny) ≡ Act → (k : Holder) × (Some h ≡ Some k) × (i.latest <ℤ k.expiry)
    by true mine early is e = absurd (cc e)
    by false true true is e = (h, refl, omega (arith, ints, is))
    by false true false is e = absurd (cc e)
    by false false early is e = absurd (cc e)

grant_by : (n c : ℕ) (h : Holder) (i : Interval) (f : ℤ) → lease_by_interval n (Some h) c i ≡ Grant f → h.expiry <ℤ i.earliest
grant_by n c h i f e = by (int_lt h.expiry i.earliest) ((h.client == c) && int_lt i.latest h.expiry) refl e
  where
    by : (free act : Bool) → int_lt h.expiry i.earliest ≡ free → (if free then Grant (expiry_of n i) else if act then Act else Deny) ≡ Grant f → h.expiry <ℤ i.earliest
    by true act is e = omega (arith, ints, is)
    by false true is e = absurd (cc e)
    by false false is e = absurd (cc e)

act_in : (n c : ℕ) (w : Option ℤ) (h : Option Holder) (tr : Option Interval) (i : Interval) → (tr ≡ None) ⊎ (tr ≡ Some i) → (step_by n tr c w h).lease ≡ Act → (k : Holder) × (h ≡ Some k) × (i.latest <ℤ k.expiry)
act_in n c w h None i or e = absurd (cc e)
act_in n c w h (Some j) i (inl e') e = absurd (cc e')
act_in n c w h (Some j) i (inr e') e = let same : j ≡ i = cc e' in subst (λ (x : Interval). (k : Holder) × (h ≡ Some k) × (x.latest <ℤ k.expiry)) same (act_by n c h j e)

grant_in : (n c : ℕ) (w : Option ℤ) (h : Holder) (tr : Option Interval) (i : Interval) (f : ℤ) → (tr ≡ None) ⊎ (tr ≡ Some i) → (step_by n tr c w (Some h)).lease ≡ Grant f → h.expiry <ℤ i.earliest
grant_in n c w h None i f or e = absurd (cc e)
grant_in n c w h (Some j) i f (inl e') e = absurd (cc e')
grant_in n c w h (Some j) i f (inr e') e = let same : j ≡ i = cc e' in subst (λ (x : Interval). h.expiry <ℤ x.earliest) same (grant_by n c h j f e)

-- there is a lease whose expiry isn't below this time
abbrev pub Holds : Option Holder → ℤ → Type 0
Holds o e = (h : Holder) × (o ≡ Some h) × (e ≤ℤ h.expiry)

granted_by : (n c : ℕ) (o : Option Holder) (i : Interval) (e : ℤ) → lease_by_interval n o c i ≡ Grant e → lease_after n o c i ≡ Some (record { client = c; expiry = e })
granted_by n c None i e is = let same : expiry_of n i ≡ e = cc is in ap (λ (x : ℤ). Some (record { client = c; expiry = x })) same
granted_by n c (Some h) i e is = by (int_lt h.expiry i.earliest) ((h.client == c) && int_lt i.latest h.expiry) is
  where
    by : (free act : Bool) → (if free then Grant (expiry_of n i) else if act then Act else Deny) ≡ Grant e
        → (if free then Some (record { client = c; expiry = expiry_of n i }) else Some h) ≡ Some (record { client = c; expiry = e })
    by true act is = let same : expiry_of n i ≡ e = cc is in ap (λ (x : ℤ). Some (record { client = c; expiry = x })) same
    by false true is = absurd (cc is)
    by false false is = absurd (cc is)

granted_in : (n c : ℕ) (w : Option ℤ) (h : Option Holder) (tr : Option Interval) (e : ℤ) → (step_by n tr c w h).lease ≡ Grant e → lease_by n tr c h ≡ Some (record { client = c; expiry = e })
granted_in n c w h None e is = absurd (cc is)
granted_in n c w h (Some i) e is = granted_by n c h i e is

kept_in : (n c : ℕ) (w : Option ℤ) (h : Option Holder) (tr : Option Interval) → ((e : ℤ) → (step_by n tr c w h).lease ≢ Grant e) → lease_by n tr c h ≡ h
kept_in n c w h None never = refl
kept_in n c w None (Some i) never = absurd (never (expiry_of n i) refl)
kept_in n c w (Some h) (Some i) never = by (int_lt h.expiry i.earliest) ((h.client == c) && int_lt i.latest h.expiry) never
  where
    by : (free act : Bool) → ((e : ℤ) → (if free then Grant (expiry_of n i) else if act then Act else Deny) ≢ Grant e)
        → (if free then Some (record { client = c; expiry = expiry_of n i }) else Some h) ≡ Some h
    by true act never = absurd (never (expiry_of n i) refl)
    by false act never = refl

rises_by : (n c : ℕ) (h : Holder) (i : Interval) (e : ℤ) → e ≤ℤ h.expiry → i.earliest ≤ℤ i.latest → Holds (lease_after n (Some h) c i) e
rises_by n c h i e le order = by (int_lt h.expiry i.earliest) refl
  where
    by : (free : Bool) → int_lt h.expiry i.earliest ≡ free → Holds (if free then Some (record { client = c; expiry = expiry_of n i }) else Some h) e
    by true is = (record { client = c; expiry = expiry_of n i }, refl, omega (arith, ints, is, le, order))
    by false is = (h, refl, le)

rises_in : (n c : ℕ) (h : Option Holder) (tr : Option Interval) (e : ℤ) → ((i : Interval) → tr ≡ Some i → i.earliest ≤ℤ i.latest) → Holds h e → Holds (lease_by n tr c h) e
rises_in n c h None e near holds = holds
rises_in n c h (Some i) e near holds = subst (λ (o : Option Holder). Holds (lease_after n o c i) e) (sym holds.1) (rises_by n c holds.0 i e holds.2 (near i refl))

order_by : (s : ClockStatus) (j i : Interval) → j.earliest ≤ℤ j.latest → trusted_by s j ≡ Some i → i.earliest ≤ℤ i.latest
order_by Unknown j i order is = absurd (cc is)
order_by Synchronized j i order is = let same : j ≡ i = cc is in subst (λ (x : Interval). x.earliest ≤ℤ x.latest) same order
order_by FreeRunning j i order is = let same : j ≡ i = cc is in subst (λ (x : Interval). x.earliest ≤ℤ x.latest) same order
order_by Disrupted j i order is = absurd (cc is)

order_in : (o : Option Interval) → IfSome o IsNear → (i : Interval) → trusted_in o ≡ Some i → i.earliest ≤ℤ i.latest
order_in None near i is = absurd (cc is)
order_in (Some j) near i is = order_by j.status j i near.in_order is

all_first : (t : Told) (told : List Told) → All Near (t ∷ told) → Near t
all_first t told all = all 0 t (omega arith)

all_rest : (t : Told) (told : List Told) → All Near (t ∷ told) → All Near told
all_rest t told all = λ k d here. all (suc k) d (omega (arith, here))

rises : (n : ℕ) (past told : List Told) (k : ℕ) (e : ℤ) → All Near told → Holds (lease_of n past) e → Holds (lease_of n (past_at past told k)) e
unfolding past_at
rises n past [] k e all holds = holds
rises n past (t ∷ told) zero e all holds = holds
rises n past (t ∷ told) (suc k) e all holds = rises n (t ∷ past) told k e (all_rest t told all) (rises_in n t.client (lease_of n past) (trusted_of t) e (order_in t.interval (all_first t told all)) holds)

granted_here : (n : ℕ) (past : List Told) (t : Told) (p : Step) (e : ℤ) → Some (step_of n past t) ≡ Some p → p.lease ≡ Grant e → lease_of n (t ∷ past) ≡ Some (record { client = t.client; expiry = e })
granted_here n past t p e is grant = let same : step_of n past t ≡ p = cc is in granted_in n t.client (waiting_of past t.client) (lease_of n past) (trusted_of t) e (ap (λ (z : Step). z.lease) same ∙ grant)

holds_later : (n : ℕ) (past told : List Told) (g k : ℕ) (e : ℤ) → All Near told → GrantedAt (steps_after n past told) g e → g < k → Holds (lease_of n (past_at past told k)) e
unfolding past_at
holds_later n past [] g k e all granted before = absurd (cc granted.1)
holds_later n past (t ∷ told) g zero e all granted before = absurd (omega (arith, before))
holds_later n past (t ∷ told) zero (suc k) e all granted before =
    rises n (t ∷ past) told k e (all_rest t told all) (record { client = t.client; expiry = e }, granted_here n past t granted.0 e granted.1 granted.2, omega (arith, ints))
holds_later n past (t ∷ told) (suc g) (suc k) e all granted before = holds_later n (t ∷ past) told g k e (all_rest t told all) granted (omega (arith, before))

pub grants_come_later : (n : ℕ) (told : List Told) → All Near told → GrantsComeLater told (order_of n told)
grants_come_later n told all g k e f y q granted before at grant =
    let holds = holds_later n [] told g k e all granted before in
    let is : q ≡ step_of n (past_at [] told k) at.answer = step_at n [] told k at.answer q at.found at.step in
    let given : (step_by n (trusted_of at.answer) at.answer.client (waiting_of (past_at [] told k) at.answer.client) (Some holds.0)).lease ≡ Grant f =
    ap (λ (o : Option Holder). (step_by n (trusted_of at.answer) at.answer.client (waiting_of (past_at [] told k) at.answer.client) o).lease) (sym holds.1) ∙ (sym (ap (λ (z : Step). z.lease) is) ∙ grant) in
    let later : holds.0.expiry <ℤ at.interval.earliest = grant_in n at.answer.client (waiting_of (past_at [] told k) at.answer.client) holds.0 (trusted_of at.answer) at.interval f (trusts at.answer at.interval at.has_interval) given in
    let above : at.interval.earliest ≤ℤ pos y = at.not_before in
    let le : e ≤ℤ holds.0.expiry = holds.2 in
    omega (arith, ints, later, above, le)

keeps : (n : ℕ) (past told : List Told) (j : ℕ) → ((i : ℕ) (e : ℤ) (p : Step) → i < j → slice_get (steps_after n past told) i ≡ Some p → p.lease ≢ Grant e) → lease_of n (past_at past told j) ≡ lease_of n past
unfolding past_at
keeps n past [] j never = refl
keeps n past (t ∷ told) zero never = refl
keeps n past (t ∷ told) (suc j) never =
    keeps n (t ∷ past) told j (λ i e p before at. never (suc i) e p (omega (arith, before)) at)
    ∙ kept_in n t.client (waiting_of past t.client) (lease_of n past) (trusted_of t) (λ e. never 0 e (step_of n past t) (omega arith) refl)

lease_under : (n : ℕ) (past told : List Told) (g j : ℕ) (e : ℤ) → GrantedAt (steps_after n past told) g e → g < j
    → ((i : ℕ) (f : ℤ) (p : Step) → g < i → i < j → slice_get (steps_after n past told) i ≡ Some p → p.lease ≢ Grant f)
    → (h : Holder) × (lease_of n (past_at past told j) ≡ Some h) × (h.expiry ≡ e)
unfolding past_at
lease_under n past [] g j e granted before never = absurd (cc granted.1)
lease_under n past (t ∷ told) g zero e granted before never = absurd (omega (arith, before))
lease_under n past (t ∷ told) zero (suc j) e granted before never = (
  record { client = t.client; expiry = e },
  keeps n (t ∷ past) told j (λ i f p lt at. never (suc i) f p (omega arith) (omega (arith, lt)) at) ∙ granted_here n past t granted.0 e granted.1 granted.2,
  refl,
)
lease_under n past (t ∷ told) (suc g) (suc j) e granted before never =
    lease_under n (t ∷ past) told g j e granted (omega (arith, before)) (λ i f p lt lt' at. never (suc i) f p (omega (arith, lt)) (omega (arith, lt')) at)

same_holder : (o : Option Holder) (h k : Holder) → o ≡ Some h → o ≡ Some k → k ≡ h
same_holder o h k a b = let same : Some k ≡ Some h = sym b ∙ a in cc same

pub acts_end_first : (n : ℕ) (told : List Told) → ActsEndFirst told (order_of n told)
acts_end_first n told g j e x p under at act =
    let held = lease_under n [] told g j e under.granted under.before under.last in
    let is : p ≡ step_of n (past_at [] told j) at.answer = step_at n [] told j at.answer p at.found at.step in
    let acts = act_in n at.answer.client (waiting_of (past_at [] told j) at.answer.client) (lease_of n (past_at [] told j)) (trusted_of at.answer) at.interval (trusts at.answer at.interval at.has_interval) (sym (ap (λ (z : Step). z.lease) is) ∙ act) in
    let same : acts.0 ≡ held.0 = same_holder (lease_of n (past_at [] told j)) held.0 acts.0 held.1 acts.1 in
    let until : acts.0.expiry ≡ e = ap (λ (h : Holder). h.expiry) same ∙ held.2 in
    let early : at.interval.latest <ℤ acts.0.expiry = acts.2 in
    let below : pos x ≤ℤ at.interval.latest = at.not_after in
    subst (λ (z : ℤ). pos x <ℤ z) until (omega (arith, ints, early, below))

-- a step has its answer
answer_at : (n : ℕ) (past told : List Told) (k : ℕ) (p : Step) → slice_get (steps_after n past told) k ≡ Some p → (t : Told) × (slice_get told k ≡ Some t)
answer_at n past [] k p at = absurd (cc at)
answer_at n past (t ∷ told) zero p at = (t, refl)
answer_at n past (t ∷ told) (suc k) p at = answer_at n (t ∷ past) told k p at

-- the interval that is trusted is the answer's own
own_interval : (o : Option Interval) (i : Interval) → trusted_in o ≡ Some i → o ≡ Some i
own_interval None i is = absurd (cc is)
own_interval (Some j) i is = by (by_status j.status j)
  where
    by : (trusted_by j.status j ≡ None) ⊎ (trusted_by j.status j ≡ Some j) → Some j ≡ Some i
    by (inl none) = let never : None ≡ Some i = sym none ∙ is in absurd (cc never)
    by (inr same) = sym same ∙ is

true_by : (n : ℕ) (told : List Told) → AreTrue told → (k : ℕ) (p : Step) → slice_get (order_of n told) k ≡ Some p → p.wait ≢ Pass
    → (t : Told) → slice_get told k ≡ Some t → (tr : Option Interval) → trusted_of t ≡ tr → (truth : ℕ) × IsTrueAt told (order_of n told) k truth p
true_by n told true_all k p at unpassed t here None e =
    let is : p ≡ step_of n (past_at [] told k) t = step_at n [] told k t p here at in
    absurd (unpassed (ap (λ (z : Step). z.wait) is
    ∙ ap (λ (tr : Option Interval). (step_by n tr t.client (waiting_of (past_at [] told k) t.client) (lease_of n (past_at [] told k))).wait) e))
true_by n told true_all k p at unpassed t here (Some i) e =
    let has = true_all k t i here e in (
      has.truth,
      record {
        answer = t;
        found = here;
        step = at;
        is_told = has.is_told;
        interval = i;
        has_interval = own_interval t.interval i e;
        not_before = has.not_before;
        not_after = has.not_after;
      },
    )

-- where the truth of each trusted answer is told and lies in its interval, all of it holds
pub kept_order : (n : ℕ) (told : List Told) → All Near told → AreTrue told → KeepsOrder told (order_of n told)
kept_order n told near true_all = record {
  true_steps = λ k p at unpassed. let found = answer_at n [] told k p at in true_by n told true_all k p at unpassed found.0 found.1 (trusted_of found.0) refl;
  stamps = stamps_follow_time n told;
  acts = acts_end_first n told;
  grants = grants_come_later n told near;
}
