-- What a poll comes to, over all the values that it was given.
use Rattle.std.proofs.Common.{◌≡◌, ◌≢◌, ℕ, zero, suc, ◌+◌, ◌*◌, ◌<◌, ◌≤◌, Bool, true, false, List, [], ◌∷◌, ◌++◌, Option, Some, None, length, take, refl, sym, ap, subst, ◌∙◌, inl, inr, arith, append-nil}
use Rattle.std.specs.Prelude.{IfSome, if◌then◌else◌}
use Rattle.std.proofs.lemmas.Bool.{cases_lt}
use Rattle.std.proofs.lemmas.List.{length-take}
use Rattle.clock_gate.specs.Acts.{after, WereAsked}
use Rattle.clock_gate.specs.declared.act.Act.{Act}
use Rattle.clock_gate.specs.declared.act.Act.TheVariants.{Load, End}
use Rattle.clock_gate.specs.declared.clock_row.ClockRow.{ClockRow}
use Rattle.clock_gate.specs.declared.clock_row.Reading.{Reading}
use Rattle.seqlock.specs.Tries as tries
use Rattle.seqlock.specs.Tries.{SeqlockRead, Outcome, started, IsStage, steps_left, read_end, progress, Asks as WantsWord, Ends as HasCome}
use Rattle.seqlock.proofs.Tries.{started-stage, stage_given, nearer, open_act, open_read, open_asks, IsOpen, moves, hands_on, place}
use Rattle.vmclock_page.specs.declared.page_seen.PageSeen.{PageSeen}
use Rattle.vmclock_page.specs.declared.page_seen.PageSeen.TheVariants.{Marker, Busy}
use Rattle.vmclock_page.specs.PageRead as page
use Rattle.vmclock_page.specs.PageRead.{page_lock, seen_of, page_seen}
use Rattle.shm_writer.specs.Publisher.{stores}
use Rattle.writer_reopen.specs.declared.order.Order.{Order}
use Rattle.writer_reopen.specs.declared.polled.Polled.{Polled}
use Rattle.writer_reopen.specs.declared.stage.Stage.{Stage}
use Rattle.writer_reopen.specs.declared.stage.Stage.TheVariants.{Asking, Looking, Taking, Storing}
use Rattle.writer_reopen.specs.Progress.{Progress, Asks, act_of, in_order}
use Rattle.writer_reopen.specs.Poll.{reading_at, taken_for, stores_until, polled_by, storing_of, from_second_load, from_sight, from_tries, poll_of}
use Rattle.writer_reopen.specs.PollMachine.{Polling, new_polling, looking_by, stage_progress, polling_progress, polling_act, stage_seen, stage_given as stage_next, polling_given, IsUnseen, IsPollStage, stage_steps}
use Rattle.writer_reopen.proofs.Cut.{ended_all}

-- ---- one step

-- a reader whose poll goes on wants a word
reader_wants : (act : Act) (seen : Option PageSeen) → IsUnseen seen → act_of (looking_by act seen) ≢ End → act ≢ End
reader_wants act None unseen wants = wants
reader_wants act (Some (Busy first last)) unseen wants = absurd (wants refl)
reader_wants act (Some (Marker marker sequence)) unseen wants = absurd unseen

-- a publication that goes on has a store left before the stop
cut_length : (stop : Option ℕ) (acts : List Act) → length (stores_until stop acts) ≤ length acts
cut_length None acts = omega arith
cut_length (Some stop) acts = omega (arith, length-take stop acts)

store_left : (stop : Option ℕ) (acts : List Act) (answer : Polled) (made : ℕ) → act_of (in_order (stores_until stop acts) answer made) ≢ End → made < length acts
store_left stop acts answer made wants = elim (cases_lt made (length acts)) [
  | inl below ↦ below
  | inr past ↦ let most = cut_length stop acts in absurd (wants (ap act_of (ended_all (stores_until stop acts) answer made (omega arith))))
]

stop_left : (stop : Option ℕ) (acts : List Act) (answer : Polled) (made : ℕ) → act_of (in_order (stores_until stop acts) answer made) ≢ End → IfSome stop (λ s. made + 1 ≤ s)
stop_left None acts answer made wants = tt
stop_left (Some stop) acts answer made wants = elim (cases_lt made stop) [
  | inl below ↦ omega arith
  | inr past ↦ let most : length (take stop acts) ≤ stop = omega (arith, length-take stop acts) in absurd (wants (ap act_of (ended_all (take stop acts) answer made (omega arith))))
]

none_made : (stop : Option ℕ) → IfSome stop (λ s. 0 ≤ s)
none_made None = tt
none_made (Some stop) = omega arith

abbrev Nearer : Order → ℕ → Stage → Type 0
Nearer order before stage = IsPollStage order stage × (stage_steps order stage < before)

start_unseen : (most : ℕ) → IsUnseen (page.end_of (started most)) × (steps_left page_lock (started most) ≤ 3 * most)
start_unseen zero = (tt, omega arith)
start_unseen (suc most) = (tt, omega arith)

asked_nearer : (order : Order) (asked : Reading) (support : Bool) → order.daemon.support ≡ support
    → Nearer order (3 * order.tries + 12) (if support then Looking asked (started order.tries) else Taking asked None)
asked_nearer order asked true is = let first = start_unseen order.tries in ((is, (started-stage page_lock order.tries, first.0)), omega (arith, first.1))
asked_nearer order asked false is = (sym is, omega arith)

seen_nearer : (order : Order) (asked : Reading) (read : SeqlockRead) (before : ℕ) (seen : Option PageSeen) → order.daemon.support ≡ true → IsStage page_lock read
    → steps_left page_lock read < before → page.end_of read ≡ seen → Nearer order (before + 11) (stage_seen asked read seen)
seen_nearer order asked read before None support stage less is = ((support, (stage, subst IsUnseen (sym is) tt)), omega arith)
seen_nearer order asked read before (Some (Busy first last)) support stage less is = ((support, (stage, subst IsUnseen (sym is) tt)), omega arith)
seen_nearer order asked read before (Some (Marker marker sequence)) support stage less is = (sym support, omega arith)

pub stage_nearer : (clock : List ClockRow) (order : Order) (stage : Stage) (value : ℕ) → IsPollStage order stage → act_of (stage_progress order stage) ≢ End
    → Nearer order (stage_steps order stage) (stage_next clock order stage value)
stage_nearer clock order Asking value is wants = asked_nearer order (reading_at clock value) order.daemon.support refl
stage_nearer clock order (Looking asked read) value is wants =
    let going : IsOpen page_lock read = open_act page_lock read is.1.0 (reader_wants (page.act_of read) (page.end_of read) is.1.1 wants) in
    seen_nearer order asked (page.given read value) (steps_left page_lock read) (page.end_of (page.given read value)) is.0 (stage_given page_lock read value going) (nearer page_lock read value going) refl
stage_nearer clock order (Taking asked seen) value is wants =
    (record { same_record = refl; same_layout = refl; same_generation = refl; most = omega arith; until = none_made order.stop }, omega arith)
stage_nearer clock order (Storing taken update) value is wants =
    let all : List Act = stores taken.publication.rec order.layout order.generation in
    let below : update.made < 10 = store_left order.stop all (polled_by order.stop taken) update.made wants in
    (record { same_record = is.same_record; same_layout = is.same_layout; same_generation = is.same_generation; most = omega arith; until = stop_left order.stop all (polled_by order.stop taken) update.made wants }, omega arith)

-- ---- all steps

pub stage_after : (clock : List ClockRow) (p : Polling) (values : List ℕ) → IsPollStage p.order p.stage → WereAsked polling_act (polling_given clock) p values
    → IsPollStage (after polling_act (polling_given clock) p values).order (after polling_act (polling_given clock) p values).stage
stage_after clock p [] is asked = is
stage_after clock p (value ∷ values) is asked = stage_after clock (polling_given clock p value) values (stage_nearer clock p.order p.stage value is asked.0).0 asked.1

steps_most : (clock : List ClockRow) (p : Polling) (values : List ℕ) → IsPollStage p.order p.stage → WereAsked polling_act (polling_given clock) p values → length values ≤ stage_steps p.order p.stage
steps_most clock p [] is asked = omega arith
steps_most clock p (value ∷ values) is asked =
    let next = stage_nearer clock p.order p.stage value is asked.0 in
    let rest = steps_most clock (polling_given clock p value) values next.0 asked.1 in
    let less = next.1 in
    omega arith

pub few_steps : (clock : List ClockRow) (order : Order) (values : List ℕ) → WereAsked polling_act (polling_given clock) (new_polling order) values → length values ≤ 3 * order.tries + 12
few_steps clock order values asked = steps_most clock (new_polling order) values tt asked

-- ---- by all the values that were given

abbrev page_asks : ℕ → Progress Polled
page_asks word = Asks (Load word)

abbrev page_ends : Order → Reading → Outcome → List ℕ → Progress Polled
page_ends order asked outcome values = from_sight order asked (seen_of outcome) values

-- what these values come to where this poll stands
abbrev place_of : List ClockRow → Order → Stage → List ℕ → Progress Polled
place_of clock order Asking values = poll_of clock order values
place_of clock order (Looking asked read) values = place page_lock page_asks (page_ends order asked) read (read.values ++ values)
place_of clock order (Taking asked seen) values = from_second_load order asked seen values
place_of clock order (Storing taken update) values = storing_of order taken (update.made + length values)

asked_moves : (clock : List ClockRow) (order : Order) (asked : Reading) (support : Bool) (values : List ℕ)
    → place_of clock order (if support then Looking asked (started order.tries) else Taking asked None) values
    ≡ (if support then from_tries order asked order.tries 0 0 values else from_second_load order asked None values)
asked_moves clock order asked true values = refl
asked_moves clock order asked false values = refl

outcome_of : (outcome : Option Outcome) (seen : PageSeen) → page_seen outcome ≡ Some seen → (o : Outcome) × ((outcome ≡ Some o) × (seen_of o ≡ seen))
outcome_of None seen is = absurd cc
outcome_of (Some o) seen is = (o, (refl, cc))

seen_moves : (clock : List ClockRow) (order : Order) (asked : Reading) (read : SeqlockRead) (seen : Option PageSeen) (values : List ℕ) → IsStage page_lock read → page.end_of read ≡ seen
    → place_of clock order (stage_seen asked read seen) values ≡ place_of clock order (Looking asked read) values
seen_moves clock order asked read None values stage is = refl
seen_moves clock order asked read (Some (Busy first last)) values stage is = refl
seen_moves clock order asked read (Some (Marker marker sequence)) values stage is =
    let outcome = outcome_of (read_end page_lock read) (Marker marker sequence) is in
    sym (hands_on page_lock page_asks (page_ends order asked) read outcome.0 values stage outcome.1.0 ∙ ap (λ (seen : PageSeen). from_sight order asked seen values) outcome.1.1)

stage_moves : (clock : List ClockRow) (order : Order) (stage : Stage) (value : ℕ) (values : List ℕ) → IsPollStage order stage → act_of (stage_progress order stage) ≢ End
    → place_of clock order (stage_next clock order stage value) values ≡ place_of clock order stage (value ∷ values)
stage_moves clock order Asking value values is wants = asked_moves clock order (reading_at clock value) order.daemon.support values
stage_moves clock order (Looking asked read) value values is wants =
    let going : IsOpen page_lock read = open_act page_lock read is.1.0 (reader_wants (page.act_of read) (page.end_of read) is.1.1 wants) in
    seen_moves clock order asked (page.given read value) (page.end_of (page.given read value)) values (stage_given page_lock read value going) refl
    ∙ moves page_lock page_asks (page_ends order asked) read value values going
stage_moves clock order (Taking asked seen) value values is wants =
    let same : 0 + length values ≡ length values = omega arith in
    ap (storing_of order (taken_for order asked seen value)) same
stage_moves clock order (Storing taken update) value values is wants =
    let same : update.made + 1 + length values ≡ update.made + suc (length values) = omega arith in
    ap (storing_of order taken) same

sight_now : (order : Order) (asked : Reading) (seen : PageSeen) → from_sight order asked seen [] ≡ looking_by End (Some seen)
sight_now order asked (Marker marker sequence) = refl
sight_now order asked (Busy first last) = refl

word_asked : (at : tries.Progress) (a b : ℕ) → at ≡ WantsWord a → at ≡ WantsWord b → a ≡ b
word_asked at a b is_a is_b = cc

open_place : (order : Order) (asked : Reading) (read : SeqlockRead) (going : IsOpen page_lock read) → place page_lock page_asks (page_ends order asked) read read.values ≡ Asks (Load going.word)
open_place order asked read going = rw (going.more, going.wants) refl

looking_now : (order : Order) (asked : Reading) (read : SeqlockRead) (at : tries.Progress) → IsStage page_lock read → progress page_lock read ≡ at
    → place page_lock page_asks (page_ends order asked) read (read.values ++ []) ≡ looking_by (tries.act_of at) (page_seen (tries.end_of at))
looking_now order asked read (WantsWord word) stage is =
    let going : IsOpen page_lock read = open_read page_lock read stage (ap tries.end_of is) in
    let same : going.word ≡ word = word_asked (progress page_lock read) going.word word (open_asks page_lock read going) is in
    ap (place page_lock page_asks (page_ends order asked) read) (append-nil read.values) ∙ open_place order asked read going ∙ ap (λ (w : ℕ). Asks (Load w)) same
looking_now order asked read (HasCome outcome) stage is =
    hands_on page_lock page_asks (page_ends order asked) read outcome [] stage (ap tries.end_of is) ∙ sight_now order asked (seen_of outcome)

stage_now : (clock : List ClockRow) (order : Order) (stage : Stage) → IsPollStage order stage → place_of clock order stage [] ≡ stage_progress order stage
stage_now clock order Asking is = refl
stage_now clock order (Looking asked read) is = looking_now order asked read (progress page_lock read) is.1.0 refl
stage_now clock order (Taking asked seen) is = refl
stage_now clock order (Storing taken update) is = let same : update.made + 0 ≡ update.made = omega arith in ap (storing_of order taken) same

follows_from : (clock : List ClockRow) (p : Polling) (values : List ℕ) → IsPollStage p.order p.stage → WereAsked polling_act (polling_given clock) p values
    → place_of clock (after polling_act (polling_given clock) p values).order (after polling_act (polling_given clock) p values).stage [] ≡ place_of clock p.order p.stage values
follows_from clock p [] is asked = refl
follows_from clock p (value ∷ values) is asked =
    follows_from clock (polling_given clock p value) values (stage_nearer clock p.order p.stage value is asked.0).0 asked.1
    ∙ stage_moves clock p.order p.stage value values is asked.0

pub follows_its_values : (clock : List ClockRow) (order : Order) (values : List ℕ) → WereAsked polling_act (polling_given clock) (new_polling order) values
    → polling_progress (after polling_act (polling_given clock) (new_polling order) values) ≡ poll_of clock order values
follows_its_values clock order values asked =
    let last : Polling = after polling_act (polling_given clock) (new_polling order) values in
    sym (stage_now clock last.order last.stage (stage_after clock (new_polling order) values tt asked))
    ∙ follows_from clock (new_polling order) values tt asked
