-- The lines of stamps and leases (this project's format), byte for byte. Each ends with a line feed.
use Rattle.std.specs.Prelude.{ℕ, ℤ, Bool, true, false, List, [], ◌∷◌, ◌++◌, codes, count_by, decimal}
use Rattle.std.specs.Fmt.{signed_decimal}
use Rattle.bound_order.specs.declared.lease.Lease.{Lease}
use Rattle.bound_order.specs.declared.lease.Lease.TheVariants.{Untrusted, Grant, Act, Deny}
use Rattle.bound_order.specs.declared.step.Step.{Step}
use Rattle.bound_order.specs.declared.told.Told.{Told}
use Rattle.bound_order.specs.declared.waiting.Waiting.{Waiting}
use Rattle.bound_order.specs.declared.waiting.Waiting.TheVariants.{Pass, Stamp, Done, Hold}

unfoldable pub header_line : List ℕ
header_line = codes "order-report,1\n"

-- `WORD,CLIENT,CALL`
unfoldable pub short_line : (word : List ℕ) → Told → List ℕ
short_line word t = word ++ (codes "," ++ (decimal t.client ++ (codes "," ++ (decimal t.call ++ codes "\n"))))

-- `WORD,CLIENT,CALL,MOMENT`, in nanoseconds since 1970-01-01T00:00:00Z
unfoldable pub long_line : (word : List ℕ) → Told → ℤ → List ℕ
long_line word t moment =
    word ++ (codes "," ++ (decimal t.client ++ (codes "," ++ (decimal t.call ++ (codes "," ++ (signed_decimal moment ++ codes "\n"))))))

-- what commit wait makes of an answer
abbrev pub wait_line : Told → Waiting → List ℕ
wait_line t Pass = short_line (codes "pass") t
wait_line t (Stamp stamp) = long_line (codes "stamp") t stamp
wait_line t (Done stamp) = long_line (codes "done") t stamp
wait_line t Hold = short_line (codes "hold") t

-- what a trusted answer does to the lease
abbrev pub lease_line : Told → Lease → List ℕ
lease_line t Untrusted = []
lease_line t (Grant expiry) = long_line (codes "grant") t expiry
lease_line t Act = short_line (codes "act") t
lease_line t Deny = short_line (codes "deny") t

unfoldable pub step_lines : Told → Step → List ℕ
step_lines t step = wait_line t step.wait ++ lease_line t step.lease

-- the lines of these answers, which have these steps
unfoldable pub steps_text : List Told → List Step → List ℕ
steps_text [] steps = []
steps_text (t ∷ told) [] = []
steps_text (t ∷ told) (step ∷ steps) = step_lines t step ++ steps_text told steps

-- ---- the counts

abbrev pub is_stamp : Waiting → Bool
is_stamp Pass = false
is_stamp (Stamp stamp) = true
is_stamp (Done stamp) = false
is_stamp Hold = false

abbrev pub is_done : Waiting → Bool
is_done Pass = false
is_done (Stamp stamp) = false
is_done (Done stamp) = true
is_done Hold = false

abbrev pub is_grant : Lease → Bool
is_grant Untrusted = false
is_grant (Grant expiry) = true
is_grant Act = false
is_grant Deny = false

abbrev pub is_act : Lease → Bool
is_act Untrusted = false
is_act (Grant expiry) = false
is_act Act = true
is_act Deny = false

-- how many of these steps draw a stamp, end a wait, are granted the lease and act under it
abbrev pub stamps_in : List Step → ℕ
stamps_in steps = count_by (λ step. is_stamp step.wait) steps

abbrev pub done_in : List Step → ℕ
done_in steps = count_by (λ step. is_done step.wait) steps

abbrev pub grants_in : List Step → ℕ
grants_in steps = count_by (λ step. is_grant step.lease) steps

abbrev pub acts_in : List Step → ℕ
acts_in steps = count_by (λ step. is_act step.lease) steps

-- `total,STAMPS,DONE,GRANTS,ACTS`
unfoldable pub total_line : List Step → List ℕ
total_line steps =
    codes "total," ++ (decimal (stamps_in steps) ++ (codes "," ++ (decimal (done_in steps) ++ (codes "," ++ (decimal (grants_in steps) ++ (codes "," ++ (decimal (acts_in steps) ++ codes "\n")))))))

-- ---- all of them

-- the header, the lines of these answers, which have these steps, and the counts
unfoldable pub order_text : List Told → List Step → List ℕ
order_text told steps = header_line ++ (steps_text told steps ++ total_line steps)
