-- How commit wait and the lease stand after some answers.
use Rattle.std.specs.Prelude.{◌≡◌, ℕ, ◌<◌, ◌≤◌, List, None, get_or, vec_len}
use Rattle.bound_order.specs.declared.lease.TheConstants.{LONGEST_LEASE}
use Rattle.bound_order.specs.declared.ordering.Ordering.{Ordering}
use Rattle.bound_order.specs.declared.told.Told.{Told}
use Rattle.bound_order.specs.Ordering.{lease_of, waiting_of}

-- there is a place for the stamp of each client, and the lease has a length that is allowed
pub record IsReady (o : Ordering) : Type 0 where
  pub places : vec_len o.waiting ≡ 65
  pub short : o.length ≤ LONGEST_LEASE

-- with leases of this length, the stamps that wait and the lease are those after these answers, newest first
pub record StandsAfter (length : ℕ) (past : List Told) (o : Ordering) : Type 0 where
  pub length_is : o.length ≡ length
  pub waits : (client : ℕ) → client < 65 → get_or o.waiting.items client None ≡ waiting_of past client
  pub lease : o.held ≡ lease_of length past
