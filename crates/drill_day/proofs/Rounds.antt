-- A list that is filled second by second, or round by round: what it has, and what is left to come.
use Rattle.std.proofs.Common.{◌≡◌, ◌∙◌, ℕ, suc, ◌+◌, List, ◌++◌, refl, sym, append_assoc}
use Rattle.std.proofs.lemmas.List.{append-nil}
use Rattle.drill_day.specs.Draws.{after_rounds, after_two, rounds, seconds}

pub seconds_start : {X : Type 0} (given : ℕ → List X) (before items whole : List X) (k left polls : ℕ) → items ≡ before → whole ≡ before ++ seconds given k polls → left ≡ polls → items ++ seconds given k left ≡ whole
seconds_start given before items whole k left polls none_yet is same = rw (none_yet, same, is) refl

pub seconds_step : {X : Type 0} (given : ℕ → List X) (before after whole : List X) (k left rest : ℕ) → after ≡ before ++ given k → left ≡ suc rest → before ++ seconds given k left ≡ whole → after ++ seconds given (k + 1) rest ≡ whole
unfolding seconds
seconds_step given before after whole k left rest more is so_far =
    rw more (append_assoc before (given k) (seconds given (k + 1) rest) ∙ rw is at so_far)

pub seconds_end : {X : Type 0} (given : ℕ → List X) (before whole : List X) (k left : ℕ) → left ≡ 0 → before ++ seconds given k left ≡ whole → before ≡ whole
unfolding seconds
seconds_end given before whole k left is so_far = sym (append-nil before) ∙ rw is at so_far

pub rounds_start : {X : Type 0} (given : ℕ → ℕ → List X) (before items whole : List X) (x k left polls : ℕ) → items ≡ before → whole ≡ before ++ rounds given x k polls → left ≡ polls → items ++ rounds given x k left ≡ whole
rounds_start given before items whole x k left polls none_yet is same = rw (none_yet, same, is) refl

pub rounds_step : {X : Type 0} (given : ℕ → ℕ → List X) (before after whole : List X) (x next k left rest : ℕ) → after ≡ before ++ given k x → next ≡ after_two x → left ≡ suc rest → before ++ rounds given x k left ≡ whole → after ++ rounds given next (k + 1) rest ≡ whole
unfolding rounds
rounds_step given before after whole x next k left rest more drawn is so_far =
    rw (more, drawn) (append_assoc before (given k x) (rounds given (after_two x) (k + 1) rest) ∙ rw is at so_far)

pub rounds_end : {X : Type 0} (given : ℕ → ℕ → List X) (before whole : List X) (x k left : ℕ) → left ≡ 0 → before ++ rounds given x k left ≡ whole → before ≡ whole
unfolding rounds
rounds_end given before whole x k left is so_far = sym (append-nil before) ∙ rw is at so_far

pub after_end : (x left whole : ℕ) → left ≡ 0 → after_rounds x left ≡ whole → x ≡ whole
unfolding after_rounds
after_end x left whole is so_far = rw is at so_far

pub after_step : (x next left rest whole : ℕ) → next ≡ after_two x → left ≡ suc rest → after_rounds x left ≡ whole → after_rounds next rest ≡ whole
unfolding after_rounds
after_step x next left rest whole drawn is so_far = rw drawn (rw is at so_far)
