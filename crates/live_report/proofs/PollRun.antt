-- What a poll did that came to an answer, part by part: the first load of the clock, the tries of the page, the second load of the
-- clock, and the stores.
use Rattle.std.proofs.Common.{◌≡◌, ℕ, zero, suc, Bool, true, false, List, [], ◌∷◌, ◌++◌, Option, Some, None, refl, ap, sym, ◌∙◌, subst, append_assoc, append-nil, inl, inr}
use Rattle.std.specs.Prelude.{◌⊎◌, slice_index, if◌then◌else◌}
use Rattle.clock_gate.specs.declared.act.Act.{Act}
use Rattle.clock_gate.specs.declared.clock_row.ClockRow.{ClockRow}
use Rattle.clock_gate.specs.declared.clock_row.Reading.{Reading}
use Rattle.clock_gate.specs.Acts.{Touch, act_of_touch, Wanted, replayed}
use Rattle.clock_gate.proofs.Acts.{replayed-append, wanted-append}
use Rattle.seqlock.specs.Tries.{SeqlockRead, Outcome, Unpublished, AllFailed, Found, started, read_end}
use Rattle.seqlock.specs.TriedRun.{load, FindsWords, FailsAlways}
use Rattle.seqlock.proofs.TriedRun.{did, load_is, touch_acts}
use Rattle.vmclock_page.specs.declared.page_seen.PageSeen.{PageSeen}
use Rattle.vmclock_page.specs.declared.page_seen.PageSeen.TheVariants.{Marker, Busy}
use Rattle.vmclock_page.specs.PageRead.{page_lock}
use Rattle.vmclock_page.specs.PageRead as page
use Rattle.vmclock_page.specs.Words.{count_in_word}
use Rattle.writer_reopen.specs.declared.order.Order.{Order}
use Rattle.writer_reopen.specs.declared.polled.Polled.{Polled}
use Rattle.writer_reopen.specs.declared.polled.Polled.TheVariants.{Skipped}
use Rattle.writer_reopen.specs.declared.stage.Sight.{Sight}
use Rattle.writer_reopen.specs.declared.stage.Stage.{Stage}
use Rattle.writer_reopen.specs.declared.stage.Stage.TheVariants.{Asking, Looking, Taking, Storing}
use Rattle.writer_reopen.specs.declared.stage.Taken.{Taken}
use Rattle.writer_reopen.specs.Poll.{reading_at, taken_for, polled_by}
use Rattle.writer_reopen.specs.PollMachine.{Polling, new_polling, looking_by, stage_progress, polling_act, polling_given, polling_end, stage_seen, stage_given, IsUnseen}
use Rattle.writer_reopen.specs.Progress.{act_of, end_of, in_order}

-- one step more of any machine
stepped : {Machine : Type 0} (act : Machine → Act) (given_ : Machine → ℕ → Machine) (start now : Machine) (touches : List Touch) (touch : Touch) → Wanted act given_ start touches → replayed act given_ start touches ≡ now → act now ≡ act_of_touch touch
    → Wanted act given_ start (touches ++ touch ∷ []) × (replayed act given_ start (touches ++ touch ∷ []) ≡ given_ now touch.value)
stepped act given_ start now touches touch wanted is next = (
  wanted-append act given_ start touches (touch ∷ []) wanted (ap act is ∙ next, tt),
  replayed-append act given_ start touches (touch ∷ []) ∙ ap (λ machine. given_ machine touch.value) is,
)

-- a read of the page that was not begun has not seen a marker
unseen_started : (tries : ℕ) → IsUnseen (page.end_of (started tries))
unseen_started zero = tt
unseen_started (suc tries) = tt

module _ (clock : List ClockRow) (order : Order) where
  -- the first reading, and the steps after it
  pub record Asked (touches : List Touch) (asked : Reading) (later : List Touch) : Type 0 where
    pub row : ℕ
    pub reading_is : asked ≡ reading_at clock row
    pub made : touches ≡ load 23 row ∷ later

  -- what these steps saw of the page; without a page they are none
  abbrev pub Saw : (support : Bool) → List Touch → Option Sight → Type 0
  Saw false later None = later ≡ []
  Saw false later (Some sight) = ⊥
  Saw true later None = ⊥
  Saw true later (Some sight) = (word : ℕ) × (words : List ℕ) × FindsWords page_lock order.tries later word words × (sight.marker ≡ slice_index words 0) × (sight.sequence ≡ count_in_word word)

  -- the page is being looked at
  pub record Looks (touches : List Touch) (asked : Reading) (read : SeqlockRead) : Type 0 where
    pub support : order.daemon.support ≡ true
    pub later : List Touch
    pub begun : Asked touches asked later
    pub wanted : Wanted page.act_of page.given (started order.tries) later
    pub there : replayed page.act_of page.given (started order.tries) later ≡ read
    pub unseen : IsUnseen (page.end_of read)

  -- the page was looked at, where there is one
  pub record Looked (touches : List Touch) (asked : Reading) (seen : Option Sight) : Type 0 where
    pub later : List Touch
    pub begun : Asked touches asked later
    pub saw : Saw order.daemon.support later seen

  -- the reply was taken
  pub record TakenAt (touches : List Touch) (taken : Taken) : Type 0 where
    pub asked : Reading
    pub seen : Option Sight
    pub before : List Touch
    pub replied : ℕ
    pub stores : List Touch
    pub looked : Looked before asked seen
    pub made : touches ≡ before ++ load 23 replied ∷ stores
    pub taken_is : taken ≡ taken_for order asked seen replied

  abbrev Along : List Touch → Stage → Type 0
  Along touches Asking = touches ≡ []
  Along touches (Looking asked read) = Looks touches asked read
  Along touches (Taking asked seen) = Looked touches asked seen
  Along touches (Storing taken update) = TakenAt touches taken

  -- every try of the page failed, and so the poll was skipped
  pub record Missed (touches : List Touch) (polled : Polled) : Type 0 where
    pub support : order.daemon.support ≡ true
    pub asked : Reading
    pub later : List Touch
    pub begun : Asked touches asked later
    pub first : ℕ
    pub last : ℕ
    pub fails : FailsAlways page_lock order.tries later first last
    pub is : polled ≡ Skipped first last

  -- the reply was taken, and the stores were made
  pub record Told (touches : List Touch) (polled : Polled) : Type 0 where
    pub taken : Taken
    pub at : TakenAt touches taken
    pub is : polled ≡ polled_by order.stop taken

  -- ---- one step more

  first_along : (touches : List Touch) (touch : Touch) (support : Bool) → order.daemon.support ≡ support → touches ≡ [] → touch ≡ load 23 touch.value
      → Along (touches ++ touch ∷ []) (if support then Looking (reading_at clock touch.value) (started order.tries) else Taking (reading_at clock touch.value) None)
  first_along touches touch true same none is =
      record {
        support = same;
        later = [];
        begun = record { row = touch.value; reading_is = refl; made = λ j. none j ++ is j ∷ [] };
        wanted = tt;
        there = refl;
        unseen = unseen_started order.tries;
      }
  first_along touches touch false same none is =
      record {
        later = [];
        begun = record { row = touch.value; reading_is = refl; made = λ j. none j ++ is j ∷ [] };
        saw = subst (λ (s : Bool). Saw s [] None) (sym same) refl;
      }

  asked_more : (touches : List Touch) (asked : Reading) (later : List Touch) (touch : Touch) → Asked touches asked later → Asked (touches ++ touch ∷ []) asked (later ++ touch ∷ [])
  asked_more touches asked later touch a = record { row = a.row; reading_is = a.reading_is; made = ap (λ (steps : List Touch). steps ++ touch ∷ []) a.made }

  looking_act : (touch : Touch) (act : Act) (end : Option PageSeen) → IsUnseen end → act_of (looking_by act end) ≡ act_of_touch touch → act ≡ act_of_touch touch
  looking_act touch act None unseen next = next
  looking_act touch act (Some (Busy first last)) unseen next = absurd (touch_acts touch (sym next))
  looking_act touch act (Some (Marker marker sequence)) unseen next = absurd unseen

  -- what the page's tries have come to
  looked_along : (touches : List Touch) (asked : Reading) (read : SeqlockRead) (later : List Touch) (end : Option Outcome) → order.daemon.support ≡ true → Asked touches asked later
      → Wanted page.act_of page.given (started order.tries) later → replayed page.act_of page.given (started order.tries) later ≡ read → read_end page_lock read ≡ end
      → Along touches (stage_seen asked read (page.page_seen end))
  looked_along touches asked read later None support begun wanted there is =
      record { support = support; later = later; begun = begun; wanted = wanted; there = there; unseen = subst (λ (e : Option Outcome). IsUnseen (page.page_seen e)) (sym is) tt }
  looked_along touches asked read later (Some Unpublished) support begun wanted there is =
      record { support = support; later = later; begun = begun; wanted = wanted; there = there; unseen = subst (λ (e : Option Outcome). IsUnseen (page.page_seen e)) (sym is) tt }
  looked_along touches asked read later (Some (AllFailed first last)) support begun wanted there is =
      record { support = support; later = later; begun = begun; wanted = wanted; there = there; unseen = subst (λ (e : Option Outcome). IsUnseen (page.page_seen e)) (sym is) tt }
  looked_along touches asked read later (Some (Found word words)) support begun wanted there is =
      record {
        later = later;
        begun = begun;
        saw = subst (λ (s : Bool). Saw s later (Some (record { marker = slice_index words 0; sequence = count_in_word word }))) (sym support)
            (word, words, did page_lock order.tries later (Found word words) wanted (ap (read_end page_lock) there ∙ is), refl, refl);
      }

  stage_along : (touches : List Touch) (stage : Stage) (touch : Touch) → Along touches stage → act_of (stage_progress order stage) ≡ act_of_touch touch → Along (touches ++ touch ∷ []) (stage_given clock order stage touch.value)
  stage_along touches Asking touch along next = first_along touches touch order.daemon.support refl along (load_is touch 23 next)
  stage_along touches (Looking asked read) touch along next =
      let went = stepped page.act_of page.given (started order.tries) read along.later touch along.wanted along.there (looking_act touch (page.act_of read) (page.end_of read) along.unseen next) in
      looked_along (touches ++ touch ∷ []) asked (page.given read touch.value) (along.later ++ touch ∷ []) _ along.support (asked_more touches asked along.later touch along.begun) went.0 went.1 refl
  stage_along touches (Taking asked seen) touch along next =
      record {
        asked = asked;
        seen = seen;
        before = touches;
        replied = touch.value;
        stores = [];
        looked = along;
        made = ap (λ (t : Touch). touches ++ t ∷ []) (load_is touch 23 next);
        taken_is = refl;
      }
  stage_along touches (Storing taken update) touch along next =
      record {
        asked = along.asked;
        seen = along.seen;
        before = along.before;
        replied = along.replied;
        stores = along.stores ++ touch ∷ [];
        looked = along.looked;
        made = ap (λ (steps : List Touch). steps ++ touch ∷ []) along.made ∙ append_assoc along.before (load 23 along.replied ∷ along.stores) (touch ∷ []);
        taken_is = along.taken_is;
      }

  abbrev at : Stage → Polling
  at stage = record { order = order; stage = stage }

  runs_along : (before touches : List Touch) (stage : Stage) → Along before stage → Wanted polling_act (polling_given clock) (at stage) touches → Along (before ++ touches) (replayed polling_act (polling_given clock) (at stage) touches).stage
  runs_along before [] stage along wanted = subst (λ (steps : List Touch). Along steps stage) (sym (append-nil before)) along
  runs_along before (touch ∷ touches) stage along wanted =
      subst (λ (steps : List Touch). Along steps (replayed polling_act (polling_given clock) (at stage) (touch ∷ touches)).stage) (append_assoc before (touch ∷ []) touches)
      (runs_along (before ++ touch ∷ []) touches (stage_given clock order stage touch.value) (stage_along before stage touch along wanted.0) wanted.1)

  -- the machine keeps its order
  keeps_order : (touches : List Touch) (stage : Stage) → (replayed polling_act (polling_given clock) (at stage) touches).order ≡ order
  keeps_order [] stage = refl
  keeps_order (touch ∷ touches) stage = keeps_order touches (stage_given clock order stage touch.value)

  -- ---- the end

  missed_by : (touches : List Touch) (asked : Reading) (read : SeqlockRead) (polled : Polled) (act : Act) (end : Option Outcome) → Looks touches asked read → read_end page_lock read ≡ end → end_of (looking_by act (page.page_seen end)) ≡ Some polled → Missed touches polled
  missed_by touches asked read polled act None along is ends = absurd (cc ends)
  missed_by touches asked read polled act (Some Unpublished) along is ends =
      let never = (did page_lock order.tries along.later Unpublished along.wanted (ap (read_end page_lock) along.there ∙ is)).absent in absurd (cc never)
  missed_by touches asked read polled act (Some (AllFailed first last)) along is ends =
      record {
        support = along.support;
        asked = asked;
        later = along.later;
        begun = along.begun;
        first = first;
        last = last;
        fails = did page_lock order.tries along.later (AllFailed first last) along.wanted (ap (read_end page_lock) along.there ∙ is);
        is = (let same : Skipped first last ≡ polled = cc ends in sym same);
      }
  missed_by touches asked read polled act (Some (Found word words)) along is ends = absurd (cc ends)

  told_by : (acts : List Act) (answer polled : Polled) (made : ℕ) → end_of (in_order acts answer made) ≡ Some polled → polled ≡ answer
  told_by [] answer polled made ends = (let same : answer ≡ polled = cc ends in sym same)
  told_by (act ∷ acts) answer polled zero ends = absurd (cc ends)
  told_by (act ∷ acts) answer polled (suc made) ends = told_by acts answer polled made ends

  ended_by : (touches : List Touch) (stage : Stage) (polled : Polled) → Along touches stage → end_of (stage_progress order stage) ≡ Some polled → Missed touches polled ⊎ Told touches polled
  ended_by touches Asking polled along ends = absurd (cc ends)
  ended_by touches (Looking asked read) polled along ends = inl (missed_by touches asked read polled (page.act_of read) (read_end page_lock read) along refl ends)
  ended_by touches (Taking asked seen) polled along ends = absurd (cc ends)
  ended_by touches (Storing taken update) polled along ends = inr (record { taken = taken; at = along; is = told_by _ (polled_by order.stop taken) polled update.made ends })

  pub poll_did : (touches : List Touch) (polled : Polled) → Wanted polling_act (polling_given clock) (new_polling order) touches → polling_end (replayed polling_act (polling_given clock) (new_polling order) touches) ≡ Some polled
      → Missed touches polled ⊎ Told touches polled
  poll_did touches polled wanted ends =
      ended_by touches (replayed polling_act (polling_given clock) (new_polling order) touches).stage polled (runs_along [] touches Asking refl wanted)
      (ap (λ (o : Order). end_of (stage_progress o (replayed polling_act (polling_given clock) (new_polling order) touches).stage)) (sym (keeps_order touches Asking)) ∙ ends)
