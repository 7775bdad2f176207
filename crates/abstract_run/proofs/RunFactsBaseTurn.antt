-- Each turn of the daemon keeps that base numbers name publications.
use Rattle.std.proofs.Common.{◌≡◌, ℕ, ◌+◌, ◌<◌, Bool, true, false, List, [], ◌∷◌, ◌++◌, length, Option, Some, None, refl, ap, sym, subst, arith, inl, inr, length-append}
use Rattle.std.specs.Prelude.{◌==◌, ◌&&◌, not, reverse, slice_get, if◌then◌else◌}
use Rattle.std.proofs.lemmas.Bool.{cases_eq}
use Rattle.std.proofs.lemmas.Bool.Decides.{nat_tests}
use Rattle.clock_gate.specs.declared.clock_status.ClockStatus.{ClockStatus}
use Rattle.clock_gate.specs.declared.clock_status.ClockStatus.TheVariants.{Unknown, Synchronized, FreeRunning, Disrupted}
use Rattle.clock_gate.specs.declared.trace.PollRow.{PollRow}
use Rattle.clock_gate.specs.declared.trace.Trace.{Trace}
use Rattle.clock_gate.specs.ClockRow.{reading_at}
use Rattle.vmclock_page.specs.Host.{count_of}
use Rattle.segment_layout.specs.declared.publication.Publication.{Publication}
use Rattle.segment_layout.specs.declared.start.Start.{Start}
use Rattle.segment_layout.specs.declared.start.Start.TheVariants.{Fresh, Kept, Torn}
use Rattle.status_machine.specs.declared.base.Base.{Base}
use Rattle.status_machine.specs.declared.poll.Poll.{Poll}
use Rattle.status_machine.specs.Incarnation.{base_at, start_base, base_by_status, is_disrupted, as_of_by, bound_by}
use Rattle.status_machine.specs.Poll.{base_of_poll, is_good, heard_of}
use Rattle.status_machine.proofs.BaseOfPoll.{base_of_poll-number, base_of_poll-unmarked}
use Rattle.segment_run.specs.SegmentRun.{SegmentRun, opening_effect, opening_length, headed, opened_update, moved_once, stored, is_old, start_found, one_store_more, number_shown, published_at}
use Rattle.segment_run.proofs.SegmentEnded.{after_update_newest}
use Rattle.abstract_run.specs.declared.event.Event.{Event}
use Rattle.abstract_run.specs.declared.event.Event.TheVariants.{Opened, Moved, Published, Skipped, Stopped}
use Rattle.abstract_run.specs.HostRun.{HostRun, clocks_at, page_shown}
use Rattle.abstract_run.specs.PageReading.{PageAfter, Looks, Saw, Missed, page_load, is_marker_next}
use Rattle.abstract_run.specs.DaemonRun as run_daemon
use Rattle.abstract_run.specs.DaemonRun.{Life, Asked, Storing, Work, Resting, Opening, Asking, Looking, Taking, Writing, DaemonRun, DaemonTurn, daemon_turn, marked_by}
use Rattle.status_machine.specs.Base.{base_number}
use Rattle.abstract_run.specs.RunFacts.{PublishedEvent, told_by, AllEarlier, given_by, HasBase, AllBased}
use Rattle.abstract_run.proofs.RunFactsBases.{AreSame, has_same, BaseHolds, base_same, FitsBase, based_of, has_later}
use Rattle.abstract_run.proofs.RunFactsDaemon.{next_number, WorkFits, DaemonHolds, opening_some}

-- ---- what the daemon has of bases

abbrev pub LifeBased : Trace → List Event → Option Life → Type 0
LifeBased trace past None = Unit {0}
LifeBased trace past (Some life) = BaseHolds trace past (base_at life.from life.past)

abbrev pub StartBased : Trace → List Event → ℕ → Start → Type 0
StartBased trace past number Fresh = Unit {0}
StartBased trace past number (Torn generation) = Unit {0}
StartBased trace past number (Kept generation rec) = 0 < number → HasBase trace past number rec.as_of rec.bound

-- a publication in hand has the base of the incarnation, and when it ends it stands among the events itself
abbrev pub WritingBased : Trace → List Event → Publication → (marked_at replied_at : ℕ) → Option Life → Type 0
WritingBased trace past publication marked_at replied_at None = ⊥
WritingBased trace past publication marked_at replied_at (Some life) =
    FitsBase publication (base_at life.from life.past)
    × ((position : ℕ) → BaseHolds trace (Published position publication marked_at replied_at ∷ past) (base_at life.from life.past))

abbrev pub WorkBased : Trace → List Event → Option Life → ℕ → Work → Type 0
WorkBased trace past life number Resting = LifeBased trace past life
WorkBased trace past life number (Opening start old steps) = StartBased trace past number start
WorkBased trace past life number Asking = LifeBased trace past life
WorkBased trace past life number (Looking row reading marked_at) = LifeBased trace past life
WorkBased trace past life number (Taking asked) = LifeBased trace past life
WorkBased trace past life number (Writing storing) = WritingBased trace past storing.publication storing.marked_at storing.replied_at life

-- the record that stands has the last publication's base
pub record SegmentBased (trace : Trace) (past : List Event) (number : ℕ) (segment : SegmentRun) : Type 0 where
  pub known : length segment.history + segment.base ≡ segment.position
  pub last : 0 < number → HasBase trace past number (published_at segment segment.position).rec.as_of (published_at segment segment.position).rec.bound

pub record Based (trace : Trace) (segment : SegmentRun) (daemon : DaemonRun) (past : List Event) : Type 0 where
  pub stands : SegmentBased trace past daemon.base segment
  pub work : WorkBased trace past daemon.life daemon.base daemon.work
  pub all : AllBased trace past

-- ---- more events of other kinds

life_same : (trace : Trace) (past more : List Event) (life : Option Life) → AreSame past more → LifeBased trace past life → LifeBased trace more life
life_same trace past more None same is = tt
life_same trace past more (Some life) same is = base_same trace past more (base_at life.from life.past) same is

start_same : (trace : Trace) (past more : List Event) (number : ℕ) (begins : Start) → AreSame past more → StartBased trace past number begins → StartBased trace more number begins
start_same trace past more number Fresh same is = tt
start_same trace past more number (Torn generation) same is = tt
start_same trace past more number (Kept generation rec) same is = λ some. has_same trace past more number rec.as_of rec.bound same (is some)

published_same : (past more : List Event) (position : ℕ) (publication : Publication) (marked_at replied_at : ℕ) → AreSame past more
    → AreSame (Published position publication marked_at replied_at ∷ past) (Published position publication marked_at replied_at ∷ more)
published_same past more position publication marked_at replied_at same =
    λ n. ap (λ (o : Option PublishedEvent). if publication.poll == n then Some (record { position = position; publication = publication; marked_at = marked_at; replied_at = replied_at }) else o) (same n)

writing_same : (trace : Trace) (past more : List Event) (publication : Publication) (marked_at replied_at : ℕ) (life : Option Life) → AreSame past more
    → WritingBased trace past publication marked_at replied_at life → WritingBased trace more publication marked_at replied_at life
writing_same trace past more publication marked_at replied_at None same is = absurd is
writing_same trace past more publication marked_at replied_at (Some life) same is = (
  is.0,
  λ position. base_same trace (Published position publication marked_at replied_at ∷ past) (Published position publication marked_at replied_at ∷ more) (base_at life.from life.past)
      (published_same past more position publication marked_at replied_at same) (is.1 position),
)

work_same : (trace : Trace) (past more : List Event) (life : Option Life) (number : ℕ) (work : Work) → AreSame past more → WorkBased trace past life number work → WorkBased trace more life number work
work_same trace past more life number Resting same is = life_same trace past more life same is
work_same trace past more life number (Opening begins old steps) same is = start_same trace past more number begins same is
work_same trace past more life number Asking same is = life_same trace past more life same is
work_same trace past more life number (Looking row reading marked_at) same is = life_same trace past more life same is
work_same trace past more life number (Taking asked) same is = life_same trace past more life same is
work_same trace past more life number (Writing storing) same is = writing_same trace past more storing.publication storing.marked_at storing.replied_at life same is

segment_same : (trace : Trace) (past more : List Event) (number : ℕ) (segment : SegmentRun) → AreSame past more → SegmentBased trace past number segment → SegmentBased trace more number segment
segment_same trace past more number segment same is =
    record {
      known = is.known;
      last = λ some. has_same trace past more number (published_at segment segment.position).rec.as_of (published_at segment segment.position).rec.bound same (is.last some);
    }

pub based_same : (trace : Trace) (segment : SegmentRun) (daemon : DaemonRun) (past more : List Event) → AreSame past more → AllBased trace more → Based trace segment daemon past → Based trace segment daemon more
based_same trace segment daemon past more same all is =
    record { stands = segment_same trace past more daemon.base segment same is.stands; work = work_same trace past more daemon.life daemon.base daemon.work same is.work; all = all }

-- ---- a turn

module _ (trace : Trace) (past : List Event) where
  abbrev pub TurnBased : DaemonTurn → Type 0
  TurnBased next = Based trace next.segment next.daemon (reverse next.events ++ past)

  either_turn : (test : Bool) (one other : DaemonTurn) → TurnBased one → TurnBased other → TurnBased (if test then one else other)
  either_turn true one other first second = first
  either_turn false one other first second = second

  off_turn : (test : Bool) (one other : DaemonTurn) → test ≡ false → TurnBased other → TurnBased (if test then one else other)
  off_turn test one other off second = rw off second

  either_segment : (number : ℕ) (test : Bool) (one other : SegmentRun) → SegmentBased trace past number one → SegmentBased trace past number other → SegmentBased trace past number (if test then one else other)
  either_segment number true one other first second = first
  either_segment number false one other first second = second

  kept_segment : (number : ℕ) (segment : SegmentRun) (ten eleven : Bool) → eleven ≡ false → SegmentBased trace past number segment
      → SegmentBased trace past number (if ten then opened_update segment else if eleven then moved_once segment else segment)
  kept_segment number segment ten true off is = absurd (cc off)
  kept_segment number segment true false off is = record { known = is.known; last = is.last }
  kept_segment number segment false false off is = is

  -- the base that an opening begins with
  status_holds : (status : ClockStatus) (base : Base) → BaseHolds trace past (Some base) → BaseHolds trace past (base_by_status status base)
  status_holds Unknown base holds = tt
  status_holds Synchronized base holds = holds
  status_holds FreeRunning base holds = holds
  status_holds Disrupted base holds = holds

  begins_holds : (begins : Start) (number : ℕ) → StartBased trace past number begins → BaseHolds trace past (start_base begins number)
  begins_holds Fresh number is = tt
  begins_holds (Torn generation) number is = tt
  begins_holds (Kept generation rec) number is = status_holds rec.status (record { as_of = rec.as_of; bound = rec.bound; poll = number }) is

  step_based : (after : SegmentRun) (daemon : DaemonRun) (begins : Start) (old test : Bool) (steps : ℕ) → SegmentBased trace past daemon.base after → StartBased trace past daemon.base begins → AllBased trace past
      → TurnBased (if test then run_daemon.opening_ends trace after daemon begins false else record { segment = after; daemon = record daemon { work = Opening begins old (steps + 1) }; events = [] })
  step_based after daemon begins old true steps is begun all =
      record {
        stands = segment_same trace past (Opened daemon.polled begins ∷ past) daemon.base after (λ n. refl) is;
        work = base_same trace past (Opened daemon.polled begins ∷ past) (start_base begins daemon.base) (λ n. refl) (begins_holds begins daemon.base begun);
        all = all;
      }
  step_based after daemon begins old false steps is begun all = record { stands = is; work = begun; all = all }

  zero_based : (more : List Event) (begins : Start) → StartBased trace more 0 begins
  zero_based more Fresh = tt
  zero_based more (Torn generation) = tt
  zero_based more (Kept generation rec) = λ some. absurd (omega (arith, some))

  moves_based : (segment : SegmentRun) (daemon : DaemonRun) (begins : Start) → SegmentBased trace past daemon.base segment → AllBased trace past
      → TurnBased (run_daemon.opening_ends trace (moved_once segment) daemon begins true)
  moves_based segment daemon begins is all =
      let known = is.known in
      record {
        stands = record { known = rw length-append (omega (arith, known)); last = λ some. absurd (omega (arith, some)) };
        work = base_same trace past (Moved daemon.polled (segment.position + 1) (number_shown (moved_once segment)) ∷ Opened daemon.polled begins ∷ past) (start_base begins 0) (λ n. refl)
            (begins_holds begins 0 (zero_based past begins));
        all = all;
      }

  opening_based : (segment : SegmentRun) (daemon : DaemonRun) (begins : Start) (old : Bool) (steps : ℕ) → SegmentBased trace past daemon.base segment → StartBased trace past daemon.base begins → AllBased trace past
      → steps < opening_length old begins → TurnBased (run_daemon.opening_step trace segment daemon begins old steps)
  opening_based segment daemon Fresh old steps is begun all low =
      step_based (opening_effect Fresh steps segment) daemon Fresh old (steps + 1 == 4) steps
      (either_segment daemon.base (steps == 3) (headed segment) segment (record { known = is.known; last = is.last }) is) begun all
  opening_based segment daemon (Torn generation) old steps is begun all low =
      step_based (opening_effect (Torn generation) steps segment) daemon (Torn generation) old (steps + 1 == opening_length old (Torn generation)) steps
      (either_segment daemon.base (steps == 2) (headed segment) segment (record { known = is.known; last = is.last }) is) begun all
  opening_based segment daemon (Kept generation rec) false steps is begun all low =
      let off : (steps == 11) ≡ false = grind (arith, nat_tests, low) in
      step_based (opening_effect (Kept generation rec) steps segment) daemon (Kept generation rec) false (steps + 1 == 10) steps
      (kept_segment daemon.base segment (steps == 10) (steps == 11) off is) begun all
  opening_based segment daemon (Kept generation rec) true steps is begun all low = elim (cases_eq steps 11) [
    | inl same ↦
        subst (λ (n : ℕ). TurnBased (run_daemon.opening_step trace segment daemon (Kept generation rec) true n)) (sym same)
        (moves_based segment daemon (Kept generation rec) is all)
    | inr differs ↦
        (let off : (steps == 11) ≡ false = grind (arith, nat_tests, differs) in
        let more : (steps + 1 == 12) ≡ false = grind (arith, nat_tests, differs) in
        off_turn (steps + 1 == 12) _ (record { segment = opening_effect (Kept generation rec) steps segment; daemon = record daemon { work = Opening (Kept generation rec) true (steps + 1) }; events = [] }) more
        (record { stands = kept_segment daemon.base segment (steps == 10) (steps == 11) off is; work = begun; all = all }))
  ]

  -- ---- a publication

  -- its base, once it stands among the events
  own_based : (position : ℕ) (publication : Publication) (marked_at replied_at : ℕ) (life : Option Life) → WritingBased trace past publication marked_at replied_at life
      → 0 < publication.base → HasBase trace (Published position publication marked_at replied_at ∷ past) publication.base publication.rec.as_of publication.rec.bound
  own_based position publication marked_at replied_at None is = absurd is
  own_based position publication marked_at replied_at (Some life) is =
      based_of trace (Published position publication marked_at replied_at ∷ past) publication (base_at life.from life.past) is.0 (is.1 position)

  own_life : (position : ℕ) (publication : Publication) (marked_at replied_at : ℕ) (life : Option Life) → WritingBased trace past publication marked_at replied_at life
      → LifeBased trace (Published position publication marked_at replied_at ∷ past) life
  own_life position publication marked_at replied_at None is = tt
  own_life position publication marked_at replied_at (Some life) is = is.1 position

  ended_segment : (segment : SegmentRun) (number : ℕ) (publication : Publication) (marked_at replied_at : ℕ) (life : Option Life) → SegmentBased trace past number segment
      → WritingBased trace past publication marked_at replied_at life
      → SegmentBased trace (Published (segment.position + 1) publication marked_at replied_at ∷ past) publication.base (stored segment publication 9)
  ended_segment segment number publication marked_at replied_at life is writing =
      let known = is.known in
      let newest : published_at (stored segment publication 9) (segment.position + 1) ≡ publication =
      after_update_newest segment publication (one_store_more segment.begun) (segment.position + 1) is.known refl in
      record {
        known = rw length-append (omega (arith, known));
        last = λ some.
            subst (λ (p : Publication). HasBase trace (Published (segment.position + 1) publication marked_at replied_at ∷ past) publication.base p.rec.as_of p.rec.bound) (sym newest)
            (own_based (segment.position + 1) publication marked_at replied_at life writing some);
      }

  stored_segment : (segment : SegmentRun) (number : ℕ) (publication : Publication) (zero_ nine : Bool) → nine ≡ false → SegmentBased trace past number segment
      → SegmentBased trace past number
      (if zero_ then record segment { is_headed = true; is_writing = true; begun = record { rec = publication.rec; stores = 1 } ∷ segment.begun }
      else if nine then record segment { position = segment.position + 1; is_writing = false; history = segment.history ++ publication ∷ []; begun = one_store_more segment.begun }
      else record segment { begun = one_store_more segment.begun })
  stored_segment segment number publication zero_ true off is = absurd (cc off)
  stored_segment segment number publication true false off is = record { known = is.known; last = is.last }
  stored_segment segment number publication false false off is = record { known = is.known; last = is.last }

  goes_based : (segment : SegmentRun) (daemon : DaemonRun) (storing : Storing) → SegmentBased trace past daemon.base segment → AllBased trace past
      → WritingBased trace past storing.publication storing.marked_at storing.replied_at daemon.life
      → (storing.stores == 10) ≡ false → TurnBased (run_daemon.after_stores trace segment daemon storing)
  goes_based segment daemon storing is all writing off =
      off_turn (storing.stores == 10) _ _ off
      (either_turn (run_daemon.is_stop (run_daemon.poll_row trace daemon).stop storing.stores) _ _
      (record { stands = segment_same trace past (Stopped daemon.polled storing.stores ∷ past) daemon.base segment (λ n. refl) is; work = tt; all = all })
      (record { stands = is; work = writing; all = all }))

  store_based : (segment : SegmentRun) (daemon : DaemonRun) (publication : Publication) (stores marked_at replied_at : ℕ) → SegmentBased trace past daemon.base segment → AllBased trace past
      → WritingBased trace past publication marked_at replied_at daemon.life
      → TurnBased (run_daemon.store_step trace segment daemon (record { publication = publication; stores = stores; marked_at = marked_at; replied_at = replied_at }))
  store_based segment daemon publication stores marked_at replied_at is all writing = elim (cases_eq stores 9) [
    | inl same ↦
        (let more : List Event = Published (segment.position + 1) publication marked_at replied_at ∷ past in
        let ended = ended_segment segment daemon.base publication marked_at replied_at daemon.life is writing in
        let every : AllBased trace more = (own_based (segment.position + 1) publication marked_at replied_at daemon.life writing, all) in
        subst (λ (n : ℕ). TurnBased (run_daemon.store_step trace segment daemon (record { publication = publication; stores = n; marked_at = marked_at; replied_at = replied_at }))) (sym same)
        (either_turn (run_daemon.is_stop (run_daemon.poll_row trace daemon).stop 10) _ _
        (record { stands = segment_same trace more (Stopped daemon.polled 10 ∷ more) publication.base (stored segment publication 9) (λ n. refl) ended; work = tt; all = every })
        (record { stands = ended; work = own_life (segment.position + 1) publication marked_at replied_at daemon.life writing; all = every })))
    | inr differs ↦
        (let off : (stores == 9) ≡ false = grind (arith, nat_tests, differs) in
        let more : (stores + 1 == 10) ≡ false = grind (arith, nat_tests, differs) in
        goes_based (stored segment publication stores) daemon (record { publication = publication; stores = stores + 1; marked_at = marked_at; replied_at = replied_at })
        (stored_segment segment daemon.base publication (stores == 0) (stores == 9) off is) all writing more)
  ]

  -- ---- the reply is taken

  fits_by : (publication : Publication) (base : Option Base) (mono : ℕ) → publication.base ≡ base_number base → publication.rec.as_of ≡ as_of_by base mono → publication.rec.bound ≡ bound_by base
      → FitsBase publication base
  fits_by publication None mono number as_of bound = number
  fits_by publication (Some base) mono number as_of bound = (sym number, sym as_of, sym bound)

  own_found : (test : Bool) (one : PublishedEvent) (rest : Option PublishedEvent) → test ≡ true → (if test then Some one else rest) ≡ Some one
  own_found test one rest on = rw on refl

  gives_own : (position : ℕ) (publication : Publication) (marked_at replied_at : ℕ) (given : Option Base) → given_by trace publication ≡ given
      → ((base : Base) → given ≡ Some base → base.poll ≡ publication.poll) → FitsBase publication given → BaseHolds trace (Published position publication marked_at replied_at ∷ past) given
  gives_own position publication marked_at replied_at None gives numbered fits = tt
  gives_own position publication marked_at replied_at (Some base) gives numbered fits =
      let same : base.poll ≡ publication.poll = numbered base refl in
      let on : (publication.poll == base.poll) ≡ true = grind (arith, nat_tests, same) in
      let one : PublishedEvent = record { position = position; publication = publication; marked_at = marked_at; replied_at = replied_at } in
      λ some. record {
        told = one;
        found = own_found (publication.poll == base.poll) one (told_by base.poll past) on;
        own = sym fits.0;
        from = sym fits.1;
        same_bound = sym fits.2;
        gives = gives;
      }

  holds_later : (position : ℕ) (publication : Publication) (marked_at replied_at least done : ℕ) (held : Option Base) → AllEarlier least publication.poll done past
      → BaseHolds trace past held → BaseHolds trace (Published position publication marked_at replied_at ∷ past) held
  holds_later position publication marked_at replied_at least done None earlier holds = tt
  holds_later position publication marked_at replied_at least done (Some base) earlier holds =
      λ some. has_later trace past position publication marked_at replied_at least done base.poll base.as_of base.bound earlier (holds some)

  either_holds : (test : Bool) (position : ℕ) (publication : Publication) (marked_at replied_at least done : ℕ) (given held : Option Base) → given_by trace publication ≡ given
      → ((base : Base) → given ≡ Some base → base.poll ≡ publication.poll) → AllEarlier least publication.poll done past → BaseHolds trace past held
      → FitsBase publication (if test then given else held) → BaseHolds trace (Published position publication marked_at replied_at ∷ past) (if test then given else held)
  either_holds true position publication marked_at replied_at least done given held gives numbered earlier holds fits = gives_own position publication marked_at replied_at given gives numbered fits
  either_holds false position publication marked_at replied_at least done given held gives numbered earlier holds fits = holds_later position publication marked_at replied_at least done held earlier holds

  taken_based : (segment : SegmentRun) (daemon : DaemonRun) (asked : Asked) (life : Life) (replied replied_at done : ℕ) → SegmentBased trace past daemon.base segment → AllBased trace past
      → LifeBased trace past (Some life) → AllEarlier (segment.position + 1) daemon.polled done past
      → TurnBased (run_daemon.taken trace segment daemon asked (run_daemon.poll_of trace daemon asked) replied replied_at (Some life))
  taken_based segment daemon asked life replied replied_at done is all held earlier =
      let poll : Poll = run_daemon.poll_of trace daemon asked in
      let publication : Publication = run_daemon.publication_of segment life poll asked replied in
      let fits : FitsBase publication (base_at life.from (poll ∷ life.past)) = fits_by publication (base_at life.from (poll ∷ life.past)) poll.reading.mono refl refl refl in
      goes_based segment (record daemon { life = Some (record life { past = poll ∷ life.past }) })
      (record { publication = publication; stores = 0; marked_at = asked.marked_at; replied_at = replied_at }) is all (
        fits,
        λ position.
            either_holds (not (is_disrupted life.from.start (poll ∷ life.past)) && is_good poll) position publication asked.marked_at replied_at (segment.position + 1) done
            (base_of_poll poll) (base_at life.from life.past)
            (base_of_poll-unmarked daemon.polled (reading_at trace.clock asked.row) asked.marker (heard_of (run_daemon.poll_row trace daemon).reply))
            (λ base given. base_of_poll-number poll base given) earlier held fits,
      )
      refl

  -- ---- the loads of a poll

  look_based : (segment : SegmentRun) (daemon : DaemonRun) (row marked_at : ℕ) (after : PageAfter) → SegmentBased trace past daemon.base segment → AllBased trace past → LifeBased trace past daemon.life
      → TurnBased (run_daemon.look_by trace segment daemon row marked_at after)
  look_based segment daemon row marked_at (Looks reading) is all held = record { stands = is; work = held; all = all }
  look_based segment daemon row marked_at (Saw page) is all held = record { stands = is; work = held; all = all }
  look_based segment daemon row marked_at (Missed first last) is all held =
      record {
        stands = segment_same trace past (Skipped daemon.polled first last ∷ past) daemon.base segment (λ n. refl) is;
        work = life_same trace past (Skipped daemon.polled first last ∷ past) daemon.life (λ n. refl) held;
        all = all;
      }

  ask_based : (segment : SegmentRun) (daemon : DaemonRun) (row done : ℕ) (page : Option (List ℕ)) → SegmentBased trace past daemon.base segment → AllBased trace past → LifeBased trace past daemon.life
      → TurnBased (run_daemon.ask_by trace segment daemon row done page)
  ask_based segment daemon row done None is all held = record { stands = is; work = held; all = all }
  ask_based segment daemon row done (Some page) is all held = record { stands = is; work = held; all = all }

-- ---- a turn of the daemon

module _ (trace : Trace) (host : HostRun) (segment : SegmentRun) (daemon : DaemonRun) (past : List Event) (h : Based trace segment daemon past) where
  abbrev Turns : DaemonTurn → Type 0
  Turns next = TurnBased trace past next

  -- what an opening finds has the base of the last publication
  found_by : (writes none : Bool) (number generation : ℕ) → StartBased trace past daemon.base
      (if writes then Torn number else if none then Fresh else Kept generation (published_at segment segment.position).rec)
  found_by true none number generation = tt
  found_by false true number generation = tt
  found_by false false number generation = h.stands.last

  found_based : StartBased trace past daemon.base (start_found segment)
  found_based = found_by segment.is_writing (segment.position == 0) (number_shown segment) (number_shown segment)

  begins_based : (life : Option Life) → LifeBased trace past daemon.life → Turns (run_daemon.poll_begins trace host segment (record daemon { polled = daemon.polled + 1 }) life)
  begins_based None held =
      opening_based trace past segment (record daemon { polled = daemon.polled + 1 }) (start_found segment) (is_old segment) 0 h.stands found_based h.all (opening_some (start_found segment) (is_old segment))
  begins_based (Some life) held = ask_based trace past segment (record daemon { polled = daemon.polled + 1 }) (clocks_at trace.host host.done) host.done trace.page h.stands h.all held

  next_based : (poll : Option PollRow) → LifeBased trace past daemon.life → Turns (run_daemon.next_poll trace host segment daemon poll)
  next_based None held = h
  next_based (Some row) held = begins_based daemon.life held

  takes_based : (asked : Asked) (life : Option Life) → LifeBased trace past life → AllEarlier (segment.position + 1) daemon.polled host.done past
      → Turns (run_daemon.taken trace segment daemon asked (run_daemon.poll_of trace daemon asked) (clocks_at trace.host host.done) host.done life)
  takes_based asked None held earlier = h
  takes_based asked (Some life) held earlier = taken_based trace past segment daemon asked life (clocks_at trace.host host.done) host.done host.done h.stands h.all held earlier

  work_based : (work : Work) → WorkFits trace segment.position host.done daemon.polled past work → AllEarlier (segment.position + 1) (next_number daemon.polled work) host.done past
      → WorkBased trace past daemon.life daemon.base work → Turns (run_daemon.daemon_turn_by trace host segment daemon work)
  work_based Resting fits earlier held = next_based (slice_get trace.polls daemon.polled) held
  work_based (Opening begins old steps) fits earlier held = opening_based trace past segment daemon begins old steps h.stands held h.all fits
  work_based Asking fits earlier held = ask_based trace past segment daemon (clocks_at trace.host host.done) host.done trace.page h.stands h.all held
  work_based (Looking row reading marked_at) fits earlier held =
      look_based trace past segment daemon row (marked_by (is_marker_next reading.try) host.done marked_at) (page_load (count_of trace.page) (page_shown trace.host host) reading) h.stands h.all held
  work_based (Taking asked) fits earlier held = takes_based asked daemon.life held earlier
  work_based (Writing storing) fits earlier held = store_based trace past segment daemon storing.publication storing.stores storing.marked_at storing.replied_at h.stands h.all held

  pub daemon_based : DaemonHolds trace segment.base segment.position segment.is_writing host.done daemon.polled daemon.work past → Based trace (daemon_turn trace host segment daemon).segment (daemon_turn trace host segment daemon).daemon (reverse (daemon_turn trace host segment daemon).events ++ past)
  daemon_based holds = work_based daemon.work holds.fits holds.earlier h.work
