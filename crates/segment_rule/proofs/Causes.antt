-- Why a poll answers as it does, by its steps.
use Rattle.std.proofs.Common.{◌≡◌, ◌≢◌, ℕ, zero, suc, ◌+◌, ◌<◌, ◌⊎◌, inl, inr, Bool, true, false, List, [], ◌∷◌, length, refl, sym, ap, ◌∙◌, subst, arith, Option, Some, None}
use Rattle.std.specs.Prelude.{nat_lt, slice_index_or, if◌then◌else◌}
use Rattle.std.proofs.lemmas.Bool.{cases_eq, cases_lt}
use Rattle.std.proofs.lemmas.Bool.Decides.{nat_tests}
use Rattle.clock_gate.specs.declared.act.Act.{Act}
use Rattle.clock_gate.specs.declared.act.Act.TheVariants.{Load, Store, End}
use Rattle.clock_gate.specs.declared.clock_row.ClockRow.{ClockRow}
use Rattle.clock_gate.specs.declared.clock_row.Reading.{Reading}
use Rattle.clock_gate.specs.declared.limits.TheConstants.{MOST_STORES}
use Rattle.clock_gate.specs.Acts.{Touch, Wanted, WereAsked, after, replayed, act_of_touch, values_of, stores_in}
use Rattle.segment_layout.specs.Words.{flag_of}
use Rattle.segment_layout.specs.declared.publication.Publication.{Publication}
use Rattle.seqlock.specs.Tries as tries
use Rattle.seqlock.specs.Tries.{SeqlockRead, Attempt, Outcome, Wants, Absent, Failed, Read, Unpublished, AllFailed, Found, goes_on, read_of, attempt}
use Rattle.vmclock_page.specs.declared.page_seen.PageSeen.{PageSeen}
use Rattle.vmclock_page.specs.declared.page_seen.PageSeen.TheVariants.{Marker, Busy}
use Rattle.vmclock_page.specs.PageRead.{page_lock, page_seen, seen_of}
use Rattle.vmclock_page.specs.PageRead as page
use Rattle.status_machine.specs.declared.daemon.Daemon.{Daemon}
use Rattle.shm_writer.specs.Publisher.{Publishing, stores, publishing_act}
use Rattle.writer_reopen.specs.declared.order.Order.{Order}
use Rattle.writer_reopen.specs.declared.polled.Polled.{Polled}
use Rattle.writer_reopen.specs.declared.polled.Polled.TheVariants.{Published, Skipped, Stopped}
use Rattle.writer_reopen.specs.declared.stage.Sight.{Sight}
use Rattle.writer_reopen.specs.declared.stage.Stage.{Stage}
use Rattle.writer_reopen.specs.declared.stage.Stage.TheVariants.{Asking, Looking, Taking, Storing}
use Rattle.writer_reopen.specs.declared.stage.Taken.{Taken}
use Rattle.writer_reopen.specs.Causes.{IsSkipped, IsStopped, IsPublished}
use Rattle.writer_reopen.specs.Poll.{reading_at, taken_for, stores_until, polled_by, storing_of, from_second_load, from_sight, from_tries, poll_of}
use Rattle.writer_reopen.specs.PollMachine.{Polling, new_polling, looking_by, stage_progress, stage_given, stage_seen, polling_act, polling_given, polling_end, IsUnseen, IsUpdate, IsPollStage}
use Rattle.writer_reopen.specs.Progress.{Progress, Asks, act_of, end_of, in_order}
use Rattle.writer_reopen.proofs.Cut.{act_before_stop, act_at_stop}
use Rattle.writer_reopen.proofs.Causes.{skipped, stopped, published}
use Rattle.writer_reopen.proofs.Polls.{stage_nearer, follows_its_values}
use Rattle.segment_rule.specs.Polls.{page_by, IsPageBusy, IsPageSeen, stores_told, HasCause}
use Rattle.segment_rule.proofs.Stores.{no_load}

-- ---- stores

stop_cases : (stop : Option ℕ) (made : ℕ) → (stop ≡ Some made) ⊎ (stop ≢ Some made)
stop_cases None made = inr (λ e. cc e)
stop_cases (Some stop) made = elim (cases_eq stop made) [ inl same ↦ inl (ap Some same) | inr other ↦ inr (λ e. other (cc e)) ]

update_is : (order : Order) (taken : Taken) (update : Publishing) → IsUpdate order taken update → publishing_act update ≡ slice_index_or (stores taken.publication.rec order.layout order.generation) update.made End
update_is order taken update is = λ j. slice_index_or (stores (is.same_record j) (is.same_layout j) (is.same_generation j)) update.made End

-- a step that is wanted among the stores is the next of them
pub next_store : (order : Order) (taken : Taken) (update : Publishing) (act : Act) → IsUpdate order taken update → act_of (storing_of order taken update.made) ≡ act → act ≢ End
    → slice_index_or (stores taken.publication.rec order.layout order.generation) update.made End ≡ act
next_store order taken update act is wanted some_act = elim (stop_cases order.stop update.made) [
  | inl at ↦ absurd (some_act (sym wanted ∙ act_at_stop order taken update at))
  | inr other ↦ sym (update_is order taken update is) ∙ (act_before_stop order taken update is other ∙ wanted)
]

no_page_store : (at : tries.Progress) (word value : ℕ) → tries.act_of at ≡ Store word value → ⊥
no_page_store (tries.Asks w) word value e = cc e
no_page_store (tries.Ends outcome) word value e = cc e

pub looking_no_store : (read : SeqlockRead) (end : Option PageSeen) (word value : ℕ) → IsUnseen end → act_of (looking_by (page.act_of read) end) ≡ Store word value → ⊥
looking_no_store read None word value unseen e = no_page_store (tries.progress page_lock read) word value e
looking_no_store read (Some (Busy first last)) word value unseen e = cc e
looking_no_store read (Some (Marker marker sequence)) word value unseen e = absurd unseen

touch_ends : (stored : Bool) (word value : ℕ) → (if stored then Store word value else Load word) ≡ End → ⊥
touch_ends true word value e = cc e
touch_ends false word value e = cc e

is_load : (stored : Bool) (word value wanted : ℕ) → Load wanted ≡ (if stored then Store word value else Load word) → stored ≡ false
is_load true word value wanted e = absurd (cc e)
is_load false word value wanted e = refl

not_stored : (stored : Bool) (word value : ℕ) (act : Act) → act ≡ (if stored then Store word value else Load word) → ((w n : ℕ) → act ≡ Store w n → ⊥) → stored ≡ false
not_stored true word value act e none = absurd (none word value e)
not_stored false word value act e none = refl

is_stored : (stored : Bool) (word value : ℕ) (act : Act) → act ≡ (if stored then Store word value else Load word) → ((w : ℕ) → act ≡ Load w → ⊥) → stored ≡ true
is_stored true word value act e none = refl
is_stored false word value act e none = absurd (none word e)

-- the stores that a poll at this stage has made
abbrev made_in : Stage → ℕ
made_in Asking = 0
made_in (Looking asked read) = 0
made_in (Taking asked seen) = 0
made_in (Storing taken update) = update.made

asked_none : (asked : Reading) (read : SeqlockRead) (support : Bool) → made_in (if support then Looking asked read else Taking asked None) ≡ 0
asked_none asked read true = refl
asked_none asked read false = refl

seen_none : (asked : Reading) (read : SeqlockRead) (end : Option PageSeen) → made_in (stage_seen asked read end) ≡ 0
seen_none asked read None = refl
seen_none asked read (Some (Busy first last)) = refl
seen_none asked read (Some (Marker marker sequence)) = refl

none_more : (made : ℕ) (stored : Bool) → made ≡ 0 → stored ≡ false → made ≡ flag_of stored + 0
none_more made stored none is = none ∙ ap (λ (b : Bool). flag_of b + 0) (sym is)

one_more : (clock : List ClockRow) (order : Order) (stage : Stage) (touch : Touch) → IsPollStage order stage → act_of (stage_progress order stage) ≡ act_of_touch touch
    → made_in (stage_given clock order stage touch.value) ≡ flag_of touch.stored + made_in stage
one_more clock order Asking touch is act = none_more _ touch.stored (asked_none _ _ order.daemon.support) (is_load touch.stored touch.word touch.value _ act)
one_more clock order (Looking asked read) touch is act =
    none_more _ touch.stored (seen_none asked (page.given read touch.value) _) (not_stored touch.stored touch.word touch.value _ act (λ w n. looking_no_store read (page.end_of read) w n is.1.1))
one_more clock order (Taking asked seen) touch is act = none_more 0 touch.stored refl (is_load touch.stored touch.word touch.value _ act)
one_more clock order (Storing taken update) touch is act =
    let stores_ : touch.stored ≡ true = is_stored touch.stored touch.word touch.value _ act
    (λ w e. no_load taken.publication.rec order.layout order.generation update.made w (next_store order taken update (Load w) is e (λ x. cc x))) in
    subst (λ (b : Bool). update.made + 1 ≡ flag_of b + update.made) (sym stores_) (omega arith)

made_by : (clock : List ClockRow) (p : Polling) (touches : List Touch) → IsPollStage p.order p.stage → Wanted polling_act (polling_given clock) p touches
    → stores_in touches + made_in p.stage ≡ made_in (replayed polling_act (polling_given clock) p touches).stage
made_by clock p [] is wanted = omega arith
made_by clock p (touch ∷ touches) is wanted =
    let next = (stage_nearer clock p.order p.stage touch.value is (λ e. touch_ends touch.stored touch.word touch.value (sym wanted.0 ∙ e))).0 in
    let one = one_more clock p.order p.stage touch is wanted.0 in
    let rest = made_by clock (polling_given clock p touch.value) touches next wanted.1 in
    let all : flag_of touch.stored + stores_in touches + made_in p.stage ≡ stores_in touches + made_in (stage_given clock p.order p.stage touch.value) = omega (arith, one) in
    all ∙ rest

told_skipped : (stage : Stage) (first last : ℕ) → IsSkipped stage first last → made_in stage ≡ 0
told_skipped Asking first last is = absurd is
told_skipped (Looking asked read) first last is = refl
told_skipped (Taking asked seen) first last is = absurd is
told_skipped (Storing taken update) first last is = absurd is

told_stopped : (order : Order) (stage : Stage) (number : ℕ) → IsStopped order stage number → made_in stage ≡ number
told_stopped order Asking number is = absurd is
told_stopped order (Looking asked read) number is = absurd is
told_stopped order (Taking asked seen) number is = absurd is
told_stopped order (Storing taken update) number is = is.1.1

told_published : (stage : Stage) (daemon : Daemon) (publication : Publication) → IsPublished stage daemon publication → made_in stage ≡ MOST_STORES
told_published Asking daemon publication is = absurd is
told_published (Looking asked read) daemon publication is = absurd is
told_published (Taking asked seen) daemon publication is = absurd is
told_published (Storing taken update) daemon publication is = is.0

made_told : (p : Polling) (polled : Polled) → IsPollStage p.order p.stage → polling_end p ≡ Some polled → made_in p.stage ≡ stores_told polled
made_told p (Published daemon publication) is told = told_published p.stage daemon publication ((published p daemon publication is).0 told)
made_told p (Skipped first last) is told = told_skipped p.stage first last ((skipped p first last is).0 told)
made_told p (Stopped number) is told = told_stopped p.order p.stage number ((stopped p number is).0 told)

-- ---- the values of the steps

asked_by : (clock : List ClockRow) (p : Polling) (touches : List Touch) → Wanted polling_act (polling_given clock) p touches → WereAsked polling_act (polling_given clock) p (values_of touches)
asked_by clock p [] wanted = tt
asked_by clock p (touch ∷ touches) wanted =
    (λ e. touch_ends touch.stored touch.word touch.value (sym wanted.0 ∙ e), asked_by clock (polling_given clock p touch.value) touches wanted.1)

after_is : (clock : List ClockRow) (p : Polling) (touches : List Touch) → after polling_act (polling_given clock) p (values_of touches) ≡ replayed polling_act (polling_given clock) p touches
after_is clock p [] = refl
after_is clock p (touch ∷ touches) = after_is clock (polling_given clock p touch.value) touches

-- ---- the tries of the page

-- where the tries want a word the poll wants it, and what they come to the poll goes on with
data Way (order : Order) (asked : Reading) (poll : Progress Polled) (read : tries.Progress) : Type 0 where
  WantsWord : (word : ℕ) → read ≡ tries.Asks word → poll ≡ Asks (Load word) → Way order asked poll read
  ComesTo : (outcome : Outcome) (rest : List ℕ) → read ≡ tries.Ends outcome → poll ≡ from_sight order asked (seen_of outcome) rest → Way order asked poll read

way_by : (order : Order) (asked : Reading) (left : ℕ) (try_ : Attempt)
    → ((first last : ℕ) (values : List ℕ) → Way order asked (from_tries order asked left first last values) (read_of page_lock left first last values))
    → Way order asked (goes_on (λ word. Asks (Load word)) (λ outcome values. from_sight order asked (seen_of outcome) values) (from_tries order asked left) try_)
    (goes_on tries.Asks (λ outcome values. tries.Ends outcome) (read_of page_lock left) try_)
way_by order asked left (Wants word) next = WantsWord word refl refl
way_by order asked left (Absent rest) next = ComesTo Unpublished rest refl refl
way_by order asked left (Failed first last rest) next = next first last rest
way_by order asked left (Read first_word words rest) next = ComesTo (Found first_word words) rest refl refl

way : (order : Order) (asked : Reading) (left first last : ℕ) (values : List ℕ) → Way order asked (from_tries order asked left first last values) (read_of page_lock left first last values)
way order asked zero first last values = ComesTo (AllFailed first last) values refl refl
way order asked (suc left) first last values = way_by order asked left (attempt page_lock values) (λ f l rest. way order asked left f l rest)

-- ---- what a poll comes to after its second load

only_answer : (acts : List Act) (answer polled : Polled) (made : ℕ) → end_of (in_order acts answer made) ≡ Some polled → answer ≡ polled
only_answer [] answer polled made e = cc e
only_answer (act ∷ acts) answer polled zero e = absurd (cc e)
only_answer (act ∷ acts) answer polled (suc made) e = only_answer acts answer polled made e

later : (order : Order) (asked : Reading) (seen : Option Sight) (values : List ℕ) (polled : Polled) → end_of (from_second_load order asked seen values) ≡ Some polled → (taken : Taken) × (polled_by order.stop taken ≡ polled)
later order asked seen [] polled e = absurd (cc e)
later order asked seen (row ∷ values) polled e = (taken_for order asked seen row, only_answer (stores_until order.stop (stores (taken_for order asked seen row).publication.rec order.layout order.generation)) (polled_by order.stop (taken_for order asked seen row)) polled (length values) e)

never_skipped : (stop : Option ℕ) (taken : Taken) (first last : ℕ) → polled_by stop taken ≡ Skipped first last → ⊥
never_skipped None taken first last e = cc e
never_skipped (Some stop) taken first last e = by_test (nat_lt stop MOST_STORES) e
  where
    by_test : (b : Bool) → (if b then Stopped stop else Published taken.daemon taken.publication) ≡ Skipped first last → ⊥
    by_test true e = cc e
    by_test false e = cc e

stop_told : (stop : Option ℕ) (taken : Taken) (number : ℕ) → polled_by stop taken ≡ Stopped number → (stop ≡ Some number) × (number < MOST_STORES)
stop_told None taken number e = absurd (cc e)
stop_told (Some stop) taken number e = elim (cases_lt stop 10) [
  | inl below ↦
      let test : nat_lt stop 10 ≡ true = grind (arith, nat_tests) in
      let same : stop ≡ number = same_stop (ap (λ (b : Bool). if b then Stopped stop else Published taken.daemon taken.publication) (sym test) ∙ e) in
      (ap Some same, omega (arith, below, same))
  | inr past ↦
      let test : nat_lt stop 10 ≡ false = grind (arith, nat_tests) in
      absurd (cc (ap (λ (b : Bool). if b then Stopped stop else Published taken.daemon taken.publication) (sym test) ∙ e))
]
  where
    same_stop : Stopped stop ≡ Stopped number → stop ≡ number
    same_stop e = cc e

stops_there : (stop : Option ℕ) (taken : Taken) (number : ℕ) → stop ≡ Some number → number < MOST_STORES → polled_by stop taken ≡ Stopped number
stops_there stop taken number is few =
    let test : nat_lt number 10 ≡ true = grind (arith, nat_tests) in
    ap (λ (s : Option ℕ). polled_by s taken) is ∙ ap (λ (b : Bool). if b then Stopped number else Published taken.daemon taken.publication) test

-- ---- the answer

data Answered (order : Order) (touches : List Touch) (polled : Polled) : Type 0 where
  OfPage : (first last : ℕ) → IsPageBusy order touches first last → polled ≡ Skipped first last → Answered order touches polled
  OfStop : (taken : Taken) → IsPageSeen order touches → polled_by order.stop taken ≡ polled → Answered order touches polled

seen_answer : (order : Order) (asked : Reading) (touches : List Touch) (polled : Polled) (rest : List ℕ) (seen : PageSeen) → order.daemon.support ≡ true → page_by order.tries touches ≡ Some seen
    → end_of (from_sight order asked seen rest) ≡ Some polled → Answered order touches polled
seen_answer order asked touches polled rest (Busy first last) has is e = OfPage first last (has, is) (cc e)
seen_answer order asked touches polled rest (Marker marker sequence) has is e =
    let l = later order asked (Some (record { marker = marker; sequence = sequence })) rest polled e in OfStop l.0 (λ on. (marker, sequence, is)) l.1

way_answer : (order : Order) (asked : Reading) (touches : List Touch) (polled : Polled) (poll : Progress Polled) (read : tries.Progress) → order.daemon.support ≡ true → page_by order.tries touches ≡ page_seen (tries.end_of read)
    → Way order asked poll read → end_of poll ≡ Some polled → Answered order touches polled
way_answer order asked touches polled poll read has page_is (WantsWord word r p) e = absurd (cc (sym (ap end_of p) ∙ e))
way_answer order asked touches polled poll read has page_is (ComesTo outcome rest r p) e =
    seen_answer order asked touches polled rest (seen_of outcome) has (page_is ∙ ap (λ (x : tries.Progress). page_seen (tries.end_of x)) r) (sym (ap end_of p) ∙ e)

answered : (clock : List ClockRow) (order : Order) (touches : List Touch) (polled : Polled) → end_of (poll_of clock order (values_of touches)) ≡ Some polled → Answered order touches polled
answered clock order [] polled e = absurd (cc e)
answered clock order (first ∷ touches) polled e = by_support order.daemon.support refl e
  where
    by_support : (b : Bool) → order.daemon.support ≡ b
        → end_of (if b then from_tries order (reading_at clock first.value) order.tries 0 0 (values_of touches) else from_second_load order (reading_at clock first.value) None (values_of touches)) ≡ Some polled
        → Answered order (first ∷ touches) polled
    by_support true is e =
        way_answer order (reading_at clock first.value) (first ∷ touches) polled _ _ is refl (way order (reading_at clock first.value) order.tries 0 0 (values_of touches)) e
    by_support false is e = let l = later order (reading_at clock first.value) None (values_of touches) polled e in OfStop l.0 (λ on. absurd (cc (sym on ∙ is))) l.1

same_busy : (a b c d : ℕ) → Some (Busy a b) ≡ Some (Busy c d) → Skipped a b ≡ Skipped c d
same_busy a b c d e = ap told (ap of_some e)
  where
    of_some : Option PageSeen → PageSeen
    of_some None = Busy 0 0
    of_some (Some seen) = seen

    told : PageSeen → Polled
    told (Busy first last) = Skipped first last
    told (Marker marker sequence) = Stopped 0

same_skipped : (a b c d : ℕ) → Skipped a b ≡ Skipped c d → Busy a b ≡ Busy c d
same_skipped a b c d e = ap told e
  where
    told : Polled → PageSeen
    told (Skipped first last) = Busy first last
    told (Stopped stores_) = Busy 0 0
    told (Published daemon publication) = Busy 0 0

not_both : (order : Order) (touches : List Touch) (first last : ℕ) → IsPageBusy order touches first last → IsPageSeen order touches → ⊥
not_both order touches first last busy seen = let s = seen busy.0 in cc (sym busy.1 ∙ s.2)

caused : (order : Order) (touches : List Touch) (polled : Polled) → Answered order touches polled → stores_in touches ≡ stores_told polled → HasCause order touches polled
caused order touches polled (OfPage first last busy is) made = record {
  skipped = λ f l. (
    λ e. (busy.0, busy.1 ∙ ap Some (same_skipped first last f l (sym is ∙ e))),
    λ b. is ∙ same_busy first last f l (sym busy.1 ∙ b.1),
  );
  stopped = λ n. (λ e. absurd (cc (sym is ∙ e)), λ s. absurd (not_both order touches first last busy s.2));
  stores = made;
}
caused order touches polled (OfStop taken seen is) made = record {
  skipped = λ f l. (λ e. absurd (never_skipped order.stop taken f l (is ∙ e)), λ b. absurd (not_both order touches f l b seen));
  stopped = λ n. (λ e. (let s = stop_told order.stop taken n (is ∙ e) in (s.0, s.1, seen)), λ s. sym is ∙ stops_there order.stop taken n s.0 s.1);
  stores = made;
}

pub has_cause : (clock : List ClockRow) (order : Order) (touches : List Touch) (p : Polling) (polled : Polled) → Wanted polling_act (polling_given clock) (new_polling order) touches
    → replayed polling_act (polling_given clock) (new_polling order) touches ≡ p → IsPollStage p.order p.stage → polling_end p ≡ Some polled → HasCause order touches polled
has_cause clock order touches p polled wanted is stage told =
    let values : end_of (poll_of clock order (values_of touches)) ≡ Some polled =
    ap end_of (sym (follows_its_values clock order (values_of touches) (asked_by clock (new_polling order) touches wanted)))
    ∙ ap polling_end (after_is clock (new_polling order) touches ∙ is) ∙ told in
    let counted = made_by clock (new_polling order) touches tt wanted in
    let made : stores_in touches ≡ stores_told polled = omega (arith, counted) ∙ ap (λ (x : Polling). made_in x.stage) is ∙ made_told p polled stage told in
    caused order touches polled (answered clock order touches polled values) made
