-- Commit wait and the one lease: what each answer gives, by a look back over those before it.
use Rattle.std.specs.Prelude.{ℕ, ◌≤◌, ◌^◌, ◌==◌, ℤ, pos, neg_ℤ, ◌+ℤ◌, ◌≤ℤ◌, int_lt, ◌&&◌, List, [], ◌∷◌, Option, Some, None, IfSome, if◌then◌else◌}
use Rattle.clock_gate.specs.declared.clock_status.ClockStatus.{ClockStatus}
use Rattle.clock_gate.specs.declared.clock_status.ClockStatus.TheVariants.{Unknown, Synchronized, FreeRunning, Disrupted}
use Rattle.interval_now.specs.declared.answers.Interval.{Interval}
use Rattle.bound_order.specs.declared.told.Told.{Told}
use Rattle.bound_order.specs.declared.waiting.Waiting.{Waiting}
use Rattle.bound_order.specs.declared.waiting.Waiting.TheVariants.{Pass, Stamp, Done, Hold}
use Rattle.bound_order.specs.declared.lease.Lease.{Lease}
use Rattle.bound_order.specs.declared.lease.Lease.TheVariants.{Untrusted, Grant, Act, Deny}
use Rattle.bound_order.specs.declared.step.Step.{Step}
use Rattle.bound_order.specs.declared.lease.Holder.{Holder}

-- the ends of an interval are in order, and lie from -2^64 to 2^64
pub record IsNear (i : Interval) : Type 0 where
  pub first : neg_ℤ (pos (2 ^ 64)) ≤ℤ i.earliest
  pub in_order : i.earliest ≤ℤ i.latest
  pub last : i.latest ≤ℤ pos (2 ^ 64)

-- what is asked of an answer
pub record IsTold (t : Told) : Type 0 where
  pub first : 1 ≤ t.client
  pub last : t.client ≤ 64
  pub near : IfSome t.interval IsNear

-- an interval is trusted by its status
abbrev pub trusted_by : ClockStatus → Interval → Option Interval
trusted_by Unknown i = None
trusted_by Synchronized i = Some i
trusted_by FreeRunning i = Some i
trusted_by Disrupted i = None

-- the interval of an answer that has one, where it is trusted
abbrev pub trusted_in : Option Interval → Option Interval
trusted_in None = None
trusted_in (Some i) = trusted_by i.status i

-- the interval of a trusted answer: one with status Synchronized or FreeRunning
abbrev pub trusted_of : Told → Option Interval
trusted_of t = trusted_in t.interval

-- without a waiting stamp the latest is drawn; a waiting stamp is done where earliest exceeds it
abbrev pub wait_of : Option ℤ → Interval → Waiting
wait_of None i = Stamp i.latest
wait_of (Some s) i = if int_lt s i.earliest then Done s else Hold

-- the stamp that waits then
abbrev pub waiting_after : Option ℤ → Interval → Option ℤ
waiting_after None i = Some i.latest
waiting_after (Some s) i = if int_lt s i.earliest then None else Some s

-- an answer that isn't trusted leaves it
abbrev pub waiting_by : Option Interval → Option ℤ → Option ℤ
waiting_by None waiting = waiting
waiting_by (Some i) waiting = waiting_after waiting i

-- the stamp of this client that waits after these answers, newest first
abbrev pub waiting_of : List Told → ℕ → Option ℤ
waiting_of [] client = None
waiting_of (t ∷ past) client =
    if t.client == client then waiting_by (trusted_of t) (waiting_of past client) else waiting_of past client

-- a lease ends so long after the latest of the answer to which it is granted
abbrev pub expiry_of : ℕ → Interval → ℤ
expiry_of length i = i.latest +ℤ pos length

-- a grant where there is no lease or earliest exceeds its expiry; an act of the holder where latest is below the expiry
abbrev pub lease_by_interval : ℕ → Option Holder → ℕ → Interval → Lease
lease_by_interval length None client i = Grant (expiry_of length i)
lease_by_interval length (Some h) client i =
    if int_lt h.expiry i.earliest then Grant (expiry_of length i)
    else if (h.client == client) && int_lt i.latest h.expiry then Act else Deny

-- who holds the lease then
abbrev pub lease_after : ℕ → Option Holder → ℕ → Interval → Option Holder
lease_after length None client i = Some (record { client = client; expiry = expiry_of length i })
lease_after length (Some h) client i =
    if int_lt h.expiry i.earliest then Some (record { client = client; expiry = expiry_of length i }) else Some h

-- an answer that isn't trusted leaves it
abbrev pub lease_by : ℕ → Option Interval → ℕ → Option Holder → Option Holder
lease_by length None client held = held
lease_by length (Some i) client held = lease_after length held client i

-- the lease after these answers, newest first
abbrev pub lease_of : ℕ → List Told → Option Holder
lease_of length [] = None
lease_of length (t ∷ past) = lease_by length (trusted_of t) t.client (lease_of length past)

-- the step of an answer of this client, whose stamp waits and whose lease is held so
abbrev pub step_by : ℕ → Option Interval → ℕ → Option ℤ → Option Holder → Step
step_by length None client waiting held = record { wait = Pass; lease = Untrusted }
step_by length (Some i) client waiting held = record { wait = wait_of waiting i; lease = lease_by_interval length held client i }

-- what an answer gives after these, newest first
abbrev pub step_of : ℕ → List Told → Told → Step
step_of length past t = step_by length (trusted_of t) t.client (waiting_of past t.client) (lease_of length past)

-- the steps of these answers, after those before them, newest first
abbrev pub steps_after : ℕ → List Told → List Told → List Step
steps_after length past [] = []
steps_after length past (t ∷ told) = step_of length past t ∷ steps_after length (t ∷ past) told

-- a step for each answer
abbrev pub order_of : ℕ → List Told → List Step
order_of length told = steps_after length [] told
