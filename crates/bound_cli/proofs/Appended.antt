-- One call more of a sink.
use Rattle.std.proofs.Common.{◌≡◌, ℕ, ◌+◌, List, ◌++◌, take, drop, Option, Some, None, append_assoc}
use Rattle.std.proofs.Math.Seq.{take-add}
use Rattle.clock_gate.specs.Outside.{Puts}
use Rattle.bound_cli.specs.Stream.{Appended}

-- where a front of a text was appended and then n bytes of its rest, a longer front was
pub appended_more : (old mid new : Option (List ℕ)) (text : List ℕ) (at n : ℕ) → Appended old mid (take at text) → Puts n mid new (drop at text) → Appended old new (take (at + n) text)
appended_more None mid new text at n so_far puts = tt
appended_more (Some before) mid new text at n so_far puts =
    let put : new ≡ Some ((before ++ take at text) ++ take n (drop at text)) = rw so_far at puts in
    rw (take-add at n text, ← append_assoc before (take at text) (take n (drop at text))) put
