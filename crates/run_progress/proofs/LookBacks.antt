-- Look backs over the events, and the relations that they decide.
use Rattle.std.proofs.Common.{◌≡◌, ◌≢◌, ℕ, zero, suc, ◌+◌, ◌<◌, Bool, true, false, List, [], ◌∷◌, ◌++◌, refl, ap, ◌∙◌, arith, inl, inr}
use Rattle.std.specs.Prelude.{nat_lt, ◌⊎◌, ◌&&◌, ◌||◌, Contains}
use Rattle.std.proofs.lemmas.Bool.Decides.{nat_tests}
use Rattle.generation_word.specs.Layout.{period_of}
use Rattle.generation_word.specs.Numbering.{generation_at}
use Rattle.clock_gate.specs.declared.trace.Trace.{Trace}
use Rattle.segment_layout.specs.declared.start.Start.{Start}
use Rattle.segment_layout.specs.declared.start.Start.TheVariants.{Fresh, Kept, Torn}
use Rattle.abstract_run.specs.declared.event.Event.{Event}
use Rattle.abstract_run.specs.declared.event.Event.TheVariants.{Opened, Moved, Published, Skipped, Stopped, Answered}
use Rattle.run_progress.specs.Progress.{positions_made, position_after, Lives, FitsLife, IsLeftOpen, IsFoundAfter}
use Rattle.run_progress.proofs.First.{is_torn_first, torn_from, torn_by}

-- ---- lives

-- whether the daemon lives after these events, where it did or didn't before them: an opening begins a life, and a stop ends it
abbrev pub lives_after : (lives : Bool) → List Event → Bool
lives_after lives [] = lives
lives_after lives (Opened poll start ∷ events) = lives_after true events
lives_after lives (Stopped poll stores ∷ events) = lives_after false events
lives_after lives (other ∷ events) = lives_after lives events

pub lives_more : (lives : Bool) (told more : List Event) → lives_after lives (told ++ more) ≡ lives_after (lives_after lives told) more
lives_more lives [] more = refl
lives_more lives (Opened poll begins ∷ told) more = lives_more true told more
lives_more lives (Moved poll position generation ∷ told) more = lives_more lives told more
lives_more lives (Published position publication marked_at replied_at ∷ told) more = lives_more lives told more
lives_more lives (Skipped poll first last ∷ told) more = lives_more lives told more
lives_more lives (Stopped poll stores ∷ told) more = lives_more false told more
lives_more lives (Answered client call answer trail ∷ told) more = lives_more lives told more

-- no stop is among these
abbrev IsUnstopped : List Event → Type 0
IsUnstopped events = (poll stores : ℕ) → ¬ Contains events (Stopped poll stores)

rest : (event : Event) (events : List Event) → IsUnstopped (event ∷ events) → IsUnstopped events
rest event events none poll stores has = none poll stores (suc has.0, omega (arith, has.1), has.2)

-- without a stop a life goes on
goes_on : (events : List Event) → IsUnstopped events → lives_after true events ≡ true
goes_on [] none = refl
goes_on (Opened poll begins ∷ events) none = goes_on events (rest (Opened poll begins) events none)
goes_on (Moved poll position generation ∷ events) none = goes_on events (rest (Moved poll position generation) events none)
goes_on (Published position publication marked_at replied_at ∷ events) none = goes_on events (rest (Published position publication marked_at replied_at) events none)
goes_on (Skipped poll first last ∷ events) none = goes_on events (rest (Skipped poll first last) events none)
goes_on (Stopped poll stores ∷ events) none = absurd (none poll stores (0, omega arith, refl))
goes_on (Answered client call answer trail ∷ events) none = goes_on events (rest (Answered client call answer trail) events none)

pub lives_by : (before : List Event) → Lives before → lives_after false before ≡ true
lives_by before is =
    ap (lives_after false) is.4 ∙ lives_more false is.0 (Opened is.2 is.3 ∷ is.1) ∙ goes_on is.1 is.5

-- with one event more before them
earlier_life : (event : Event) (events : List Event) → Lives events → Lives (event ∷ events)
earlier_life event events is = (event ∷ is.0, is.1, is.2, is.3, ap (λ (l : List Event). event ∷ l) is.4, is.5)

not_stopped : (event : Event) (events : List Event) → ((poll stores : ℕ) → event ≢ Stopped poll stores) → IsUnstopped events → IsUnstopped (event ∷ events)
not_stopped event events other none poll stores (zero, low, is) = other poll stores is
not_stopped event events other none poll stores (suc k, low, is) = none poll stores (k, omega (arith, low), is)

passed : (lives : Bool) (event : Event) (events : List Event) → ((poll stores : ℕ) → event ≢ Stopped poll stores) → ((lives ≡ true) × IsUnstopped events) ⊎ Lives events
    → ((lives ≡ true) × IsUnstopped (event ∷ events)) ⊎ Lives (event ∷ events)
passed lives event events other (inl still) = inl (still.0, not_stopped event events other still.1)
passed lives event events other (inr earlier) = inr (earlier_life event events earlier)

-- who lives after these events did so before them, with no stop since, or by an opening among them
still_or_opened : (lives : Bool) (events : List Event) → lives_after lives events ≡ true → ((lives ≡ true) × IsUnstopped events) ⊎ Lives events
still_or_opened lives [] is = inl (is, λ poll stores has. absurd (omega (arith, has.1)))
still_or_opened lives (Opened poll begins ∷ events) is = elim (still_or_opened true events is) [
  | inl still ↦ inr ([], events, poll, begins, refl, still.1)
  | inr earlier ↦ inr (earlier_life (Opened poll begins) events earlier)
]
still_or_opened lives (Moved poll position generation ∷ events) is = passed lives (Moved poll position generation) events (λ in_poll stores same. cc same) (still_or_opened lives events is)
still_or_opened lives (Published position publication marked_at replied_at ∷ events) is =
    passed lives (Published position publication marked_at replied_at) events (λ in_poll stores same. cc same) (still_or_opened lives events is)
still_or_opened lives (Skipped poll first last ∷ events) is = passed lives (Skipped poll first last) events (λ in_poll stores same. cc same) (still_or_opened lives events is)
still_or_opened lives (Stopped poll stores ∷ events) is = elim (still_or_opened false events is) [
  | inl still ↦ (let on = still.0 in absurd (cc on))
  | inr earlier ↦ inr (earlier_life (Stopped poll stores) events earlier)
]
still_or_opened lives (Answered client call answer trail ∷ events) is = passed lives (Answered client call answer trail) events (λ in_poll stores same. cc same) (still_or_opened lives events is)

pub lives_from : (before : List Event) → lives_after false before ≡ true → Lives before
lives_from before is = elim (still_or_opened false before is) [
  | inl still ↦ (let on = still.0 in absurd (cc on))
  | inr earlier ↦ earlier
]

-- an opening where it doesn't live, and all else that it tells where it does
abbrev pub LivesBy : (lives : Bool) → Event → Type 0
LivesBy lives (Opened poll found) = lives ≡ false
LivesBy lives (Answered client call answer trail) = Unit {0}
LivesBy lives other = lives ≡ true

pub lives_at : (before : List Event) (event : Event) → LivesBy (lives_after false before) event → FitsLife before event
lives_at before (Opened poll found) off = λ is. (let on = lives_by before is in absurd (cc (on, off)))
lives_at before (Moved poll position generation) on = lives_from before on
lives_at before (Published position publication marked_at replied_at) on = lives_from before on
lives_at before (Skipped poll first last) on = lives_from before on
lives_at before (Stopped poll stores) on = lives_from before on
lives_at before (Answered client call answer trail) is = tt

-- ---- an update left open

-- the daemon stopped in a publication, after the first of its stores and before the tenth, and no position was made since
abbrev IsStoppedOpen : List Event → Type 0
IsStoppedOpen before =
    (earlier later : List Event) × (poll stores : ℕ) × (before ≡ earlier ++ Stopped poll stores ∷ later) × (0 < stores) × (stores < 10) × (positions_made later ≡ [])

-- whether an update is left open after these events, where one was or wasn't before them: such a stop leaves it so, until a publication
-- or a move ends one
abbrev pub is_left_open : (on : Bool) → List Event → Bool
is_left_open on [] = on
is_left_open on (Moved poll position generation ∷ events) = is_left_open false events
is_left_open on (Published position publication marked_at replied_at ∷ events) = is_left_open false events
is_left_open on (Stopped poll stores ∷ events) = is_left_open ((nat_lt 0 stores && nat_lt stores 10) || on) events
is_left_open on (other ∷ events) = is_left_open on events

pub left_more : (on : Bool) (told more : List Event) → is_left_open on (told ++ more) ≡ is_left_open (is_left_open on told) more
left_more on [] more = refl
left_more on (Opened poll begins ∷ told) more = left_more on told more
left_more on (Moved poll position generation ∷ told) more = left_more false told more
left_more on (Published position publication marked_at replied_at ∷ told) more = left_more false told more
left_more on (Skipped poll first last ∷ told) more = left_more on told more
left_more on (Stopped poll stores ∷ told) more = left_more ((nat_lt 0 stores && nat_lt stores 10) || on) told more
left_more on (Answered client call answer trail ∷ told) more = left_more on told more

either_on : (test : Bool) → (test || true) ≡ true
either_on true = refl
either_on false = refl

-- what is open stays so until a position is made
stays_open : (events : List Event) → positions_made events ≡ [] → is_left_open true events ≡ true
stays_open [] none = refl
stays_open (Opened poll begins ∷ events) none = stays_open events none
stays_open (Moved poll position generation ∷ events) none = absurd (cc none)
stays_open (Published position publication marked_at replied_at ∷ events) none = absurd (cc none)
stays_open (Skipped poll first last ∷ events) none = stays_open events none
stays_open (Stopped poll stores ∷ events) none =
    ap (λ (b : Bool). is_left_open b events) (either_on (nat_lt 0 stores && nat_lt stores 10)) ∙ stays_open events none
stays_open (Answered client call answer trail ∷ events) none = stays_open events none

within : (stores : ℕ) (on : Bool) → 0 < stores → stores < 10 → ((nat_lt 0 stores && nat_lt stores 10) || on) ≡ true
within stores on first few =
    let begun : nat_lt 0 stores ≡ true = grind (arith, nat_tests, first) in
    let cut : nat_lt stores 10 ≡ true = grind (arith, nat_tests, few) in
    rw begun (rw cut refl)

stopped_open : (on : Bool) (before : List Event) → IsStoppedOpen before → is_left_open on before ≡ true
stopped_open on before is =
    ap (is_left_open on) is.4 ∙ left_more on is.0 (Stopped is.2 is.3 ∷ is.1)
    ∙ ap (λ (b : Bool). is_left_open b is.1) (within is.3 (is_left_open on is.0) is.5 is.6) ∙ stays_open is.1 is.7

pub left_by : (trace : Trace) (before : List Event) → IsLeftOpen trace before → is_left_open (is_torn_first trace) before ≡ true
left_by trace before (inl torn) = ap (λ (b : Bool). is_left_open b before) (torn_by trace torn.0) ∙ stays_open before torn.1
left_by trace before (inr stopped) = stopped_open (is_torn_first trace) before stopped

abbrev IsOpen : (on : Bool) → List Event → Type 0
IsOpen on events = ((on ≡ true) × (positions_made events ≡ [])) ⊎ IsStoppedOpen events

earlier_stop : (event : Event) (events : List Event) → IsStoppedOpen events → IsStoppedOpen (event ∷ events)
earlier_stop event events is = (event ∷ is.0, is.1, is.2, is.3, ap (λ (l : List Event). event ∷ l) is.4, is.5, is.6, is.7)

after_one : (on : Bool) (event : Event) (events : List Event) → positions_made (event ∷ events) ≡ positions_made events → IsOpen on events → IsOpen on (event ∷ events)
after_one on event events same (inl still) = inl (still.0, same ∙ still.1)
after_one on event events same (inr stopped) = inr (earlier_stop event events stopped)

after_made : (on : Bool) (event : Event) (events : List Event) → IsOpen false events → IsOpen on (event ∷ events)
after_made on event events (inl still) = (let off = still.0 in absurd (cc off))
after_made on event events (inr stopped) = inr (earlier_stop event events stopped)

cut_by : (begun few on : Bool) → ((begun && few) || on) ≡ true → ((begun ≡ true) × (few ≡ true)) ⊎ (on ≡ true)
cut_by true true on is = inl (refl, refl)
cut_by true false on is = inr is
cut_by false few on is = inr is

after_stop : (on : Bool) (poll stores : ℕ) (events : List Event) → IsOpen ((nat_lt 0 stores && nat_lt stores 10) || on) events → IsOpen on (Stopped poll stores ∷ events)
after_stop on poll stores events (inl still) = elim (cut_by (nat_lt 0 stores) (nat_lt stores 10) on still.0) [
  | inl cut ↦ (let begun = cut.0 in let few = cut.1 in inr ([], events, poll, stores, refl, grind (arith, nat_tests, begun), grind (arith, nat_tests, few), still.1))
  | inr was ↦ inl (was, still.1)
]
after_stop on poll stores events (inr stopped) = inr (earlier_stop (Stopped poll stores) events stopped)

open_from : (on : Bool) (events : List Event) → is_left_open on events ≡ true → IsOpen on events
open_from on [] is = inl (is, refl)
open_from on (Opened poll begins ∷ events) is = after_one on (Opened poll begins) events refl (open_from on events is)
open_from on (Moved poll position generation ∷ events) is = after_made on (Moved poll position generation) events (open_from false events is)
open_from on (Published position publication marked_at replied_at ∷ events) is =
    after_made on (Published position publication marked_at replied_at) events (open_from false events is)
open_from on (Skipped poll first last ∷ events) is = after_one on (Skipped poll first last) events refl (open_from on events is)
open_from on (Stopped poll stores ∷ events) is = after_stop on poll stores events (open_from ((nat_lt 0 stores && nat_lt stores 10) || on) events is)
open_from on (Answered client call answer trail ∷ events) is = after_one on (Answered client call answer trail) events refl (open_from on events is)

pub left_from : (trace : Trace) (before : List Event) → is_left_open (is_torn_first trace) before ≡ true → IsLeftOpen trace before
left_from trace before is = elim (open_from (is_torn_first trace) before is) [
  | inl torn ↦ inl (torn_from trace torn.0, torn.1)
  | inr stopped ↦ inr stopped
]

-- ---- what an opening finds

-- at a position: nothing was published; or an update is open, with the odd number after that of the position; or a record stands there,
-- under the position's number
abbrev pub IsFoundAt : Trace → (position : ℕ) → Start → Type 0
IsFoundAt trace position Fresh = position ≡ 0
IsFoundAt trace position (Torn generation) = generation ≡ generation_at (period_of trace.layout) position + 1
IsFoundAt trace position (Kept generation rec) = (0 < position) × (generation ≡ generation_at (period_of trace.layout) position)

-- an update is open, or isn't
abbrev pub FindsOpen : (is_open : Bool) → Start → Type 0
FindsOpen is_open (Torn generation) = is_open ≡ true
FindsOpen is_open other = is_open ≡ false

closed_by : (trace : Trace) (before : List Event) → is_left_open (is_torn_first trace) before ≡ false → ¬ IsLeftOpen trace before
closed_by trace before off is = (let on = left_by trace before is in absurd (cc (on, off)))

pub found_after : (trace : Trace) (before : List Event) (found : Start) → IsFoundAt trace (position_after trace before) found
    → FindsOpen (is_left_open (is_torn_first trace) before) found → IsFoundAfter trace before found
found_after trace before Fresh at off = (closed_by trace before off, at)
found_after trace before (Torn generation) at on = (left_from trace before on, at)
found_after trace before (Kept generation rec) at off = (closed_by trace before off, at.0, at.1)

-- ---- a move

-- whether a move is told, where one was or wasn't before these events
abbrev pub is_moved_after : (moved : Bool) → List Event → Bool
is_moved_after moved [] = moved
is_moved_after moved (Moved poll position generation ∷ events) = is_moved_after true events
is_moved_after moved (other ∷ events) = is_moved_after moved events

pub moved_more : (moved : Bool) (told more : List Event) → is_moved_after moved (told ++ more) ≡ is_moved_after (is_moved_after moved told) more
moved_more moved [] more = refl
moved_more moved (Opened poll begins ∷ told) more = moved_more moved told more
moved_more moved (Moved poll position generation ∷ told) more = moved_more true told more
moved_more moved (Published position publication marked_at replied_at ∷ told) more = moved_more moved told more
moved_more moved (Skipped poll first last ∷ told) more = moved_more moved told more
moved_more moved (Stopped poll stores ∷ told) more = moved_more moved told more
moved_more moved (Answered client call answer trail ∷ told) more = moved_more moved told more

abbrev HasMove : List Event → Type 0
HasMove events = (poll position generation : ℕ) × Contains events (Moved poll position generation)

earlier_move : (event : Event) (events : List Event) → HasMove events → HasMove (event ∷ events)
earlier_move event events is = (let low = is.3.1 in (is.0, is.1, is.2, (suc is.3.0, omega (arith, low), is.3.2)))

pub move_from : (events : List Event) → is_moved_after false events ≡ true → HasMove events
move_from [] is = absurd (cc is)
move_from (Opened poll begins ∷ events) is = earlier_move (Opened poll begins) events (move_from events is)
move_from (Moved poll position generation ∷ events) is = (poll, position, generation, (0, omega arith, refl))
move_from (Published position publication marked_at replied_at ∷ events) is = earlier_move (Published position publication marked_at replied_at) events (move_from events is)
move_from (Skipped poll first last ∷ events) is = earlier_move (Skipped poll first last) events (move_from events is)
move_from (Stopped poll stores ∷ events) is = earlier_move (Stopped poll stores) events (move_from events is)
move_from (Answered client call answer trail ∷ events) is = earlier_move (Answered client call answer trail) events (move_from events is)
