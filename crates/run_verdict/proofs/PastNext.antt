-- Tables with one event more.
use Rattle.std.proofs.Common.{◌≡◌, ◌<◌, ◌+◌, ℕ, Bool, true, false, cond, nat_eq, List, slice_index_or, Option, Some, sym, ◌∙◌, ap, arith}
use Rattle.abstract_run.specs.declared.event.Event.{Event}
use Rattle.abstract_run.specs.RunFacts.{PublishedEvent, told_at, told_by}
use Rattle.run_verdict.specs.Past.{no_event, past_of, ended_in, at_or, by_or}
use Rattle.run_verdict.specs.Tables.{ended_at}
use Rattle.run_verdict.proofs.Backwards.{read_on, base_on, past_on}

found_by : (events : List Event) (place : ℕ) (ended : PublishedEvent) (told : Option PublishedEvent) (before after : Option ℕ) (test : Bool)
    → ended_in (slice_index_or events place no_event) ≡ Some ended → told ≡ ended_at events before → after ≡ cond test (Some place) before
    → cond test (Some ended) told ≡ ended_at events after
found_by events place ended told before after true here was now = sym here ∙ ap (ended_at events) (sym now)
found_by events place ended told before after false here was now = was ∙ ap (ended_at events) (sym now)

-- the publication at this place is the last one of its position
pub read_next : (events : List Event) (place n : ℕ) (ended : PublishedEvent) (before after : Option ℕ) → ended_in (slice_index_or events place no_event) ≡ Some ended
    → told_at n (past_of events place) ≡ ended_at events before → after ≡ cond (nat_eq ended.position n) (Some place) before
    → told_at n (past_of events (place + 1)) ≡ ended_at events after
read_next events place n ended before after here was now =
    let by : told_at n (past_of events (place + 1)) ≡ at_or n (Some ended) (told_at n (past_of events place)) =
    ap (λ (past : List Event). told_at n past) (past_on events place) ∙ read_on n (slice_index_or events place no_event) (past_of events place) ∙ ap (λ (e : Option PublishedEvent). at_or n e (told_at n (past_of events place))) here in
    by ∙ found_by events place ended (told_at n (past_of events place)) before after (nat_eq ended.position n) here was now

-- and of its poll
pub base_next : (events : List Event) (place n : ℕ) (ended : PublishedEvent) (before after : Option ℕ) → ended_in (slice_index_or events place no_event) ≡ Some ended
    → told_by n (past_of events place) ≡ ended_at events before → after ≡ cond (nat_eq ended.publication.poll n) (Some place) before
    → told_by n (past_of events (place + 1)) ≡ ended_at events after
base_next events place n ended before after here was now =
    let by : told_by n (past_of events (place + 1)) ≡ by_or n (Some ended) (told_by n (past_of events place)) =
    ap (λ (past : List Event). told_by n past) (past_on events place) ∙ base_on n (slice_index_or events place no_event) (past_of events place) ∙ ap (λ (e : Option PublishedEvent). by_or n e (told_by n (past_of events place))) here in
    by ∙ found_by events place ended (told_by n (past_of events place)) before after (nat_eq ended.publication.poll n) here was now

-- an entry is that place or an earlier one
pub before_next : (place at : ℕ) (test : Bool) (before after : Option ℕ) → (before ≡ Some at → at < place) → after ≡ cond test (Some place) before → after ≡ Some at → at < place + 1
before_next place at true before after low now is = let same : Some place ≡ Some at = sym now ∙ is in let at_place : place ≡ at = cc same in omega (arith, at_place)
before_next place at false before after low now is = let below = low (sym now ∙ is) in omega (arith, below)
