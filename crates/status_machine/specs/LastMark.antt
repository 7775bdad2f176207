-- The last marking poll, by splitting the polls at it.
use Rattle.std.specs.Prelude.{◌≡◌, ◌⊎◌, true, false, List, [], ◌∷◌, ◌++◌, Option, Some, None}
use Rattle.segment_layout.specs.declared.start.Start.{Start}
use Rattle.status_machine.specs.declared.poll.Poll.{Poll}
use Rattle.status_machine.specs.Incarnation.{marks, since_mark, start_since_mark}

-- polls that are given with the newest first, in the order in which they came
abbrev pub in_order : List Poll → List Poll
in_order [] = []
in_order (poll ∷ past) = in_order past ++ poll ∷ []

-- none of these polls, which came after those before, marks
abbrev pub NoneMarks : Start → (after before : List Poll) → Type 0
NoneMarks start [] before = Unit {0}
NoneMarks start (poll ∷ after) before = (marks start (after ++ before) poll.marker ≡ false) × NoneMarks start after before

-- a poll of the past marks, none after it does, and these are the polls from it on
pub record IsSinceLastMark (start : Start) (past polls : List Poll) : Type 0 where
  pub mark : Poll
  pub after : List Poll
  pub before : List Poll
  pub split : past ≡ after ++ mark ∷ before
  pub marking : marks start before mark.marker ≡ true
  pub last : NoneMarks start after (mark ∷ before)
  pub from_it : polls ≡ mark ∷ in_order after

-- a mark before the first poll is followed by all polls
abbrev pub all_later : Option (List Poll) → List Poll → Option (List Poll)
all_later None polls = None
all_later (Some earlier) polls = Some (earlier ++ polls)

-- `since_mark` is the polls from the last marking poll on; where none marks it is all of them after a start that is a mark
abbrev pub SinceMarkIsLast : Type 0
SinceMarkIsLast =
    (start : Start) (past : List Poll) →
    ((polls : List Poll) × (since_mark start past ≡ Some polls) × IsSinceLastMark start past polls)
    ⊎ (NoneMarks start past [] × (since_mark start past ≡ all_later (start_since_mark start) (in_order past)))
