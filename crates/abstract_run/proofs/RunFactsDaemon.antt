-- Each turn of the daemon keeps what the events tell, and what its poll in hand has seen.
use Rattle.std.proofs.Common.{◌≡◌, ℕ, ◌+◌, ◌≤◌, ◌<◌, Bool, true, false, List, [], ◌∷◌, ◌++◌, length, Option, Some, None, refl, sym, ◌∙◌, subst, arith, inl, inr}
use Rattle.std.specs.Prelude.{◌==◌, reverse, slice_get, if◌then◌else◌}
use Rattle.std.proofs.lemmas.Bool.{cases_eq}
use Rattle.std.proofs.lemmas.Bool.Decides.{nat_tests}
use Rattle.clock_gate.specs.declared.trace.PollRow.{PollRow}
use Rattle.clock_gate.specs.declared.trace.Trace.{Trace}
use Rattle.vmclock_page.specs.Host.{count_of}
use Rattle.segment_layout.specs.declared.publication.Publication.{Publication}
use Rattle.segment_layout.specs.declared.start.Start.{Start}
use Rattle.segment_layout.specs.declared.start.Start.TheVariants.{Fresh, Kept, Torn}
use Rattle.status_machine.specs.declared.poll.Poll.{Poll}
use Rattle.segment_run.specs.SegmentRun.{SegmentRun, opening_effect, opening_length, headed, opened_update, moved_once, stored, is_old, start_found, one_store_more, number_shown}
use Rattle.abstract_run.specs.declared.event.Event.{Event}
use Rattle.abstract_run.specs.declared.event.Event.TheVariants.{Opened, Published, Skipped, Stopped}
use Rattle.abstract_run.specs.HostRun.{HostRun, clocks_at, page_shown}
use Rattle.abstract_run.specs.PageReading as run_page
use Rattle.abstract_run.specs.PageReading.{PageReading, PageAfter, Looks, Saw, Missed, page_load, is_marker_next}
use Rattle.abstract_run.specs.DaemonRun as run_daemon
use Rattle.abstract_run.specs.DaemonRun.{Life, Asked, Storing, Work, Resting, Opening, Asking, Looking, Taking, Writing, DaemonRun, DaemonTurn, daemon_turn, marked_by}
use Rattle.abstract_run.specs.RunFacts.{made_by, AllEarlier, IsAsked, PublishedTells, StoodAt, AllTell}
use Rattle.abstract_run.proofs.RunFactsPast.{earlier_more, stood_moved, stood_other, Stands, stands_open, stands_published, stands_moved}

-- ---- what the poll in hand has seen

-- the number of the next poll that can be published
abbrev pub next_number : ℕ → Work → ℕ
next_number polled Resting = polled + 1
next_number polled (Opening start old steps) = polled
next_number polled Asking = polled
next_number polled (Looking row reading marked_at) = polled
next_number polled (Taking asked) = polled
next_number polled (Writing storing) = polled

-- a publication in hand, at this position
pub record StoringFits (trace : Trace) (position done polled : ℕ) (publication : Publication) (marked_at replied_at : ℕ) (past : List Event) : Type 0 where
  pub asked : IsAsked trace publication.asked marked_at
  pub marked : marked_at ≤ replied_at
  pub replied : publication.replied ≡ clocks_at trace.host replied_at
  pub taken : replied_at ≤ done
  pub numbered : publication.poll ≡ polled
  pub earlier : AllEarlier (position + 1) publication.poll replied_at past

abbrev pub WorkFits : Trace → (position done polled : ℕ) → List Event → Work → Type 0
WorkFits trace position done polled past Resting = Unit {0}
WorkFits trace position done polled past (Opening start old steps) = steps < opening_length old start
WorkFits trace position done polled past Asking = Unit {0}
WorkFits trace position done polled past (Looking row reading marked_at) = IsAsked trace row marked_at × (marked_at ≤ done)
WorkFits trace position done polled past (Taking asked) = IsAsked trace asked.row asked.marked_at × (asked.marked_at ≤ done)
WorkFits trace position done polled past (Writing storing) =
    StoringFits trace position done polled storing.publication storing.marked_at storing.replied_at past

pub record DaemonHolds (trace : Trace) (base position : ℕ) (is_writing : Bool) (done polled : ℕ) (work : Work) (past : List Event) : Type 0 where
  pub stands : Stands trace base position is_writing done past
  pub earlier : AllEarlier (position + 1) (next_number polled work) done past
  pub fits : WorkFits trace position done polled past work
  pub tells : AllTell trace past

-- what a client saw of the positions stays
pub record Grows (trace : Trace) (base position : ℕ) (past : List Event) (later high : ℕ) (more : List Event) : Type 0 where
  pub same : later ≡ base
  pub rises : position ≤ high
  pub made : made_by past ≤ made_by more
  pub stood : (n clock_at : ℕ) → n ≤ position → StoodAt trace past n clock_at → StoodAt trace more n clock_at

-- ---- a turn

module _ (trace : Trace) (base position : ℕ) (is_writing : Bool) (done : ℕ) (past : List Event) (has_done : (0 < done) × (done ≤ length trace.host)) where
  pub record TurnTells (next : DaemonTurn) : Type 0 where
    pub holds : DaemonHolds trace next.segment.base next.segment.position next.segment.is_writing done next.daemon.polled next.daemon.work (reverse next.events ++ past)
    pub grows : Grows trace base position past next.segment.base next.segment.position (reverse next.events ++ past)

  either_tells : (test : Bool) (one other : DaemonTurn) → TurnTells one → TurnTells other → TurnTells (if test then one else other)
  either_tells true one other first second = first
  either_tells false one other first second = second

  -- a segment after a step that makes no position
  record Leaves (number : ℕ) (after : SegmentRun) : Type 0 where
    stands : Stands trace after.base after.position after.is_writing done past
    earlier : AllEarlier (after.position + 1) number done past
    same : after.base ≡ base
    stays : after.position ≡ position

  either_leaves : (number : ℕ) (test : Bool) (one other : SegmentRun) → Leaves number one → Leaves number other → Leaves number (if test then one else other)
  either_leaves number true one other first second = first
  either_leaves number false one other first second = second

  leaves_headed : (number : ℕ) (segment : SegmentRun) → Leaves number segment → Leaves number (headed segment)
  leaves_headed number segment is = record { stands = is.stands; earlier = is.earlier; same = is.same; stays = is.stays }

  leaves_open : (number : ℕ) (segment : SegmentRun) → Leaves number segment → Leaves number (opened_update segment)
  leaves_open number segment is =
      record { stands = stands_open trace segment.base segment.position segment.is_writing done past is.stands; earlier = is.earlier; same = is.same; stays = is.stays }

  leaves_number : (low number : ℕ) (segment : SegmentRun) → low ≤ number → Leaves low segment → Leaves number segment
  leaves_number low number segment le is =
      record { stands = is.stands; earlier = earlier_more (segment.position + 1) low done (segment.position + 1) number done past (omega arith) le (omega arith) is.earlier; same = is.same; stays = is.stays }

  -- an event that makes no position, or none
  told_silent : (number : ℕ) (after : SegmentRun) (daemon : DaemonRun) → Leaves number after → next_number daemon.polled daemon.work ≡ number → AllTell trace past
      → WorkFits trace after.position done daemon.polled past daemon.work
      → TurnTells (record { segment = after; daemon = daemon; events = [] })
  told_silent number after daemon is next tells fits =
      let stays = is.stays in
      record {
        holds = record { stands = is.stands; earlier = subst (λ (n : ℕ). AllEarlier (after.position + 1) n done past) (sym next) is.earlier; fits = fits; tells = tells };
        grows = record { same = is.same; rises = omega (arith, stays); made = omega arith; stood = λ n clock_at low stood. stood };
      }

  told_opened : (number : ℕ) (after : SegmentRun) (daemon : DaemonRun) (poll : ℕ) (begins : Start) → Leaves number after → next_number daemon.polled daemon.work ≡ number → AllTell trace past
      → WorkFits trace after.position done daemon.polled (Opened poll begins ∷ past) daemon.work
      → TurnTells (record { segment = after; daemon = daemon; events = Opened poll begins ∷ [] })
  told_opened number after daemon poll begins is next tells fits =
      let stays = is.stays in
      record {
        holds = record {
          stands = record { within = is.stands.within; readable = is.stands.readable; few = is.stands.few; stood = is.stands.stood };
          earlier = subst (λ (n : ℕ). AllEarlier (after.position + 1) n done past) (sym next) is.earlier;
          fits = fits;
          tells = tells;
        };
        grows = record { same = is.same; rises = omega (arith, stays); made = omega arith; stood = λ n clock_at low stood. stood };
      }

  told_skipped : (number : ℕ) (after : SegmentRun) (daemon : DaemonRun) (poll first last : ℕ) → Leaves number after → next_number daemon.polled daemon.work ≡ number → AllTell trace past
      → WorkFits trace after.position done daemon.polled (Skipped poll first last ∷ past) daemon.work
      → TurnTells (record { segment = after; daemon = daemon; events = Skipped poll first last ∷ [] })
  told_skipped number after daemon poll first last is next tells fits =
      let stays = is.stays in
      record {
        holds = record {
          stands = record { within = is.stands.within; readable = is.stands.readable; few = is.stands.few; stood = is.stands.stood };
          earlier = subst (λ (n : ℕ). AllEarlier (after.position + 1) n done past) (sym next) is.earlier;
          fits = fits;
          tells = tells;
        };
        grows = record { same = is.same; rises = omega (arith, stays); made = omega arith; stood = λ n clock_at low stood. stood };
      }

  told_stopped : (number : ℕ) (after : SegmentRun) (daemon : DaemonRun) (poll stores : ℕ) → Leaves number after → next_number daemon.polled daemon.work ≡ number → AllTell trace past
      → WorkFits trace after.position done daemon.polled (Stopped poll stores ∷ past) daemon.work
      → TurnTells (record { segment = after; daemon = daemon; events = Stopped poll stores ∷ [] })
  told_stopped number after daemon poll stores is next tells fits =
      let stays = is.stays in
      record {
        holds = record {
          stands = record { within = is.stands.within; readable = is.stands.readable; few = is.stands.few; stood = is.stands.stood };
          earlier = subst (λ (n : ℕ). AllEarlier (after.position + 1) n done past) (sym next) is.earlier;
          fits = fits;
          tells = tells;
        };
        grows = record { same = is.same; rises = omega (arith, stays); made = omega arith; stood = λ n clock_at low stood. stood };
      }

  off_tells : (test : Bool) (one other : DaemonTurn) → test ≡ false → TurnTells other → TurnTells (if test then one else other)
  off_tells test one other off second = rw off second

  -- ---- an opening

  still_fits : (steps count : ℕ) → steps < count → (steps + 1 == count) ≡ false → steps + 1 < count
  still_fits steps count low off = elim (cases_eq (steps + 1) count) [
    | inl same ↦ (let on : (steps + 1 == count) ≡ true = grind (arith, nat_tests, same) in absurd (cc (on, off)))
    | inr differs ↦ omega (arith, low, differs)
  ]

  -- a step of an opening that makes no position
  step_tells : (after : SegmentRun) (daemon : DaemonRun) (begins : Start) (old test : Bool) (steps : ℕ) → Leaves daemon.polled after → AllTell trace past
      → (test ≡ false → steps + 1 < opening_length old begins)
      → TurnTells (if test then run_daemon.opening_ends trace after daemon begins false else record { segment = after; daemon = record daemon { work = Opening begins old (steps + 1) }; events = [] })
  step_tells after daemon begins old true steps is tells fits =
      told_opened daemon.polled after (record daemon { life = Some (run_daemon.life_from trace begins daemon.base); work = Asking; base = daemon.base }) daemon.polled begins is refl tells tt
  step_tells after daemon begins old false steps is tells fits =
      told_silent daemon.polled after (record daemon { work = Opening begins old (steps + 1) }) is refl tells (fits refl)

  kept_leaves : (number : ℕ) (segment : SegmentRun) (ten eleven : Bool) → eleven ≡ false → Leaves number segment
      → Leaves number (if ten then opened_update segment else if eleven then moved_once segment else segment)
  kept_leaves number segment ten true off is = absurd (cc off)
  kept_leaves number segment true false off is = leaves_open number segment is
  kept_leaves number segment false false off is = is

  -- the move
  moves_tell : (segment : SegmentRun) (daemon : DaemonRun) (begins : Start) → Leaves daemon.polled segment → AllTell trace past
      → TurnTells (run_daemon.opening_ends trace (moved_once segment) daemon begins true)
  moves_tell segment daemon begins is tells =
      let stays = is.stays in
      let before : Stands trace segment.base segment.position segment.is_writing done (Opened daemon.polled begins ∷ past) =
      record { within = is.stands.within; readable = is.stands.readable; few = is.stands.few; stood = is.stands.stood } in
      let generation : ℕ = number_shown (moved_once segment) in
      record {
        holds = record {
          stands = stands_moved trace segment.base segment.position segment.is_writing done (Opened daemon.polled begins ∷ past) daemon.polled generation daemon.polled done is.earlier before;
          earlier = (omega arith, earlier_more (segment.position + 1) daemon.polled done (segment.position + 1 + 1) daemon.polled done past (omega arith) (omega arith) (omega arith) is.earlier);
          fits = tt;
          tells = tells;
        };
        grows = record {
          same = is.same;
          rises = omega (arith, stays);
          made = omega arith;
          stood = λ n clock_at low stood. stood_moved trace (Opened daemon.polled begins ∷ past) daemon.polled (segment.position + 1) generation n clock_at stood;
        };
      }

  opening_tells : (segment : SegmentRun) (daemon : DaemonRun) (begins : Start) (old : Bool) (steps : ℕ) → Leaves daemon.polled segment → AllTell trace past
      → steps < opening_length old begins → TurnTells (run_daemon.opening_step trace segment daemon begins old steps)
  opening_tells segment daemon Fresh old steps is tells low =
      step_tells (opening_effect Fresh steps segment) daemon Fresh old (steps + 1 == 4) steps
      (either_leaves daemon.polled (steps == 3) (headed segment) segment (leaves_headed daemon.polled segment is) is) tells (still_fits steps 4 low)
  opening_tells segment daemon (Torn generation) old steps is tells low =
      step_tells (opening_effect (Torn generation) steps segment) daemon (Torn generation) old (steps + 1 == opening_length old (Torn generation)) steps
      (either_leaves daemon.polled (steps == 2) (headed segment) segment (leaves_headed daemon.polled segment is) is) tells (still_fits steps (opening_length old (Torn generation)) low)
  opening_tells segment daemon (Kept generation rec) false steps is tells low =
      let off : (steps == 11) ≡ false = grind (arith, nat_tests, low) in
      step_tells (opening_effect (Kept generation rec) steps segment) daemon (Kept generation rec) false (steps + 1 == 10) steps
      (kept_leaves daemon.polled segment (steps == 10) (steps == 11) off is) tells (still_fits steps 10 low)
  opening_tells segment daemon (Kept generation rec) true steps is tells low = elim (cases_eq steps 11) [
    | inl same ↦
        subst (λ (n : ℕ). TurnTells (run_daemon.opening_step trace segment daemon (Kept generation rec) true n)) (sym same)
        (moves_tell segment daemon (Kept generation rec) is tells)
    | inr differs ↦
        (let off : (steps == 11) ≡ false = grind (arith, nat_tests, differs) in
        let more : (steps + 1 == 12) ≡ false = grind (arith, nat_tests, differs) in
        off_tells (steps + 1 == 12) _ _ more
        (told_silent daemon.polled (opening_effect (Kept generation rec) steps segment) (record daemon { work = Opening (Kept generation rec) true (steps + 1) })
        (kept_leaves daemon.polled segment (steps == 10) (steps == 11) off is) refl tells (omega (arith, low, differs))))
  ]

  -- ---- a publication

  -- the publication has ended
  ends_tell : (after : SegmentRun) (daemon : DaemonRun) (life : Option Life) (segment : SegmentRun) (publication : Publication) (marked_at replied_at : ℕ)
      → after.base ≡ segment.base → after.position ≡ segment.position + 1 → after.is_writing ≡ false
      → Leaves daemon.polled segment → AllTell trace past → StoringFits trace segment.position done daemon.polled publication marked_at replied_at past
      → TurnTells (record { segment = after; daemon = record daemon { life = life; work = Resting; base = publication.base }; events = Published after.position publication marked_at replied_at ∷ [] })
  ends_tell after daemon life segment publication marked_at replied_at base_is at off is tells fits =
      let stays = is.stays in
      let numbered = fits.numbered in
      let taken = fits.taken in
      let high = has_done.1 in
      let one : Stands trace segment.base (segment.position + 1) false done (Published (segment.position + 1) publication marked_at replied_at ∷ past) =
      stands_published trace segment.base segment.position segment.is_writing done past publication marked_at replied_at fits.taken is.stands in
      let earlier : AllEarlier (segment.position + 1 + 1) (daemon.polled + 1) done (Published (segment.position + 1) publication marked_at replied_at ∷ past) =
      (omega arith, omega (arith, numbered), taken, earlier_more (segment.position + 1) daemon.polled done (segment.position + 1 + 1) (daemon.polled + 1) done past (omega arith) (omega arith) (omega arith) is.earlier) in
      let tell : PublishedTells trace past (segment.position + 1) publication marked_at replied_at =
      record { asked = fits.asked; marked = fits.marked; replied = fits.replied; done = omega (arith, taken, high); earlier = fits.earlier } in
      let stood : (n clock_at : ℕ) → n ≤ position → StoodAt trace past n clock_at → StoodAt trace (Published (segment.position + 1) publication marked_at replied_at ∷ past) n clock_at =
      λ n clock_at low stood. stood_other trace past (segment.position + 1) publication marked_at replied_at n clock_at (λ e. omega (arith, e, low, stays)) stood in
      rw (base_is, at, off)
      (record {
        holds = record { stands = one; earlier = earlier; fits = tt; tells = (tell, tells) };
        grows = record { same = is.same; rises = omega (arith, stays); made = omega arith; stood = stood };
      })

  -- and the daemon stops there
  and_stopped : (after : SegmentRun) (daemon : DaemonRun) (publication : Publication) (marked_at replied_at poll stores : ℕ) → daemon.work ≡ Resting
      → TurnTells (record { segment = after; daemon = daemon; events = Published after.position publication marked_at replied_at ∷ [] })
      → TurnTells (record { segment = after; daemon = daemon; events = Published after.position publication marked_at replied_at ∷ Stopped poll stores ∷ [] })
  and_stopped after daemon publication marked_at replied_at poll stores rests is =
      let fits : WorkFits trace after.position done daemon.polled (Stopped poll stores ∷ Published after.position publication marked_at replied_at ∷ past) daemon.work = rw rests tt in
      record {
        holds = record {
          stands = record { within = is.holds.stands.within; readable = is.holds.stands.readable; few = is.holds.stands.few; stood = is.holds.stands.stood };
          earlier = is.holds.earlier;
          fits = fits;
          tells = is.holds.tells;
        };
        grows = record { same = is.grows.same; rises = is.grows.rises; made = is.grows.made; stood = is.grows.stood };
      }

  stored_leaves : (number : ℕ) (segment : SegmentRun) (publication : Publication) (zero_ nine : Bool) → nine ≡ false → Leaves number segment
      → Leaves number
      (if zero_ then record segment { is_headed = true; is_writing = true; begun = record { rec = publication.rec; stores = 1 } ∷ segment.begun }
      else if nine then record segment { position = segment.position + 1; is_writing = false; history = segment.history ++ publication ∷ []; begun = one_store_more segment.begun }
      else record segment { begun = one_store_more segment.begun })
  stored_leaves number segment publication zero_ true off is = absurd (cc off)
  stored_leaves number segment publication true false off is =
      record { stands = stands_open trace segment.base segment.position segment.is_writing done past is.stands; earlier = is.earlier; same = is.same; stays = is.stays }
  stored_leaves number segment publication false false off is = record { stands = is.stands; earlier = is.earlier; same = is.same; stays = is.stays }

  -- a publication in hand goes on, or the daemon stops in it
  goes_on : (segment : SegmentRun) (daemon : DaemonRun) (storing : Storing) → Leaves daemon.polled segment → AllTell trace past
      → StoringFits trace segment.position done daemon.polled storing.publication storing.marked_at storing.replied_at past
      → (storing.stores == 10) ≡ false → TurnTells (run_daemon.after_stores trace segment daemon storing)
  goes_on segment daemon storing is tells fits off =
      off_tells (storing.stores == 10) _ _ off
      (either_tells (run_daemon.is_stop (run_daemon.poll_row trace daemon).stop storing.stores) _ _
      (told_stopped (daemon.polled + 1) segment (record daemon { life = None; work = Resting }) daemon.polled storing.stores
      (leaves_number daemon.polled (daemon.polled + 1) segment (omega arith) is) refl tells tt)
      (told_silent daemon.polled segment (record daemon { work = Writing storing }) is refl tells fits))

  store_tells : (segment : SegmentRun) (daemon : DaemonRun) (publication : Publication) (stores marked_at replied_at : ℕ) → Leaves daemon.polled segment → AllTell trace past
      → StoringFits trace segment.position done daemon.polled publication marked_at replied_at past
      → TurnTells (run_daemon.store_step trace segment daemon (record { publication = publication; stores = stores; marked_at = marked_at; replied_at = replied_at }))
  store_tells segment daemon publication stores marked_at replied_at is tells fits = elim (cases_eq stores 9) [
    | inl same ↦
        subst (λ (n : ℕ). TurnTells (run_daemon.store_step trace segment daemon (record { publication = publication; stores = n; marked_at = marked_at; replied_at = replied_at }))) (sym same)
        (either_tells (run_daemon.is_stop (run_daemon.poll_row trace daemon).stop 10) _ _
        (and_stopped (stored segment publication 9) (record daemon { life = None; work = Resting; base = publication.base }) publication marked_at replied_at daemon.polled 10 refl
        (ends_tell (stored segment publication 9) daemon None segment publication marked_at replied_at refl refl refl is tells fits))
        (ends_tell (stored segment publication 9) daemon daemon.life segment publication marked_at replied_at refl refl refl is tells fits))
    | inr differs ↦
        (let off : (stores == 9) ≡ false = grind (arith, nat_tests, differs) in
        let more : (stores + 1 == 10) ≡ false = grind (arith, nat_tests, differs) in
        let after : Leaves daemon.polled (stored segment publication stores) = stored_leaves daemon.polled segment publication (stores == 0) (stores == 9) off is in
        let at : segment.position ≡ (stored segment publication stores).position = is.stays ∙ sym after.stays in
        goes_on (stored segment publication stores) daemon (record { publication = publication; stores = stores + 1; marked_at = marked_at; replied_at = replied_at }) after tells
        (subst (λ (n : ℕ). StoringFits trace n done daemon.polled publication marked_at replied_at past) at fits) more)
  ]

  -- ---- a poll

  asked_more : (row low more : ℕ) → low ≤ more → IsAsked trace row low → IsAsked trace row more
  asked_more row low more le is = let before = is.before in record { asked_at = is.asked_at; some = is.some; read = is.read; before = omega (arith, le, before) }

  marked_bounds : (is_marker : Bool) (before : ℕ) → before ≤ done → (before ≤ marked_by is_marker done before) × (marked_by is_marker done before ≤ done)
  marked_bounds true before le = (le, omega arith)
  marked_bounds false before le = (omega arith, le)

  -- the reply is taken
  taken_tells : (segment : SegmentRun) (daemon : DaemonRun) (asked : Asked) (poll : Poll) (life : Life) → poll.number ≡ daemon.polled → Leaves daemon.polled segment → AllTell trace past
      → IsAsked trace asked.row asked.marked_at → asked.marked_at ≤ done
      → TurnTells (run_daemon.taken trace segment daemon asked poll (clocks_at trace.host done) done (Some life))
  taken_tells segment daemon asked poll life numbered is tells fits before =
      goes_on segment (record daemon { life = Some (record life { past = poll ∷ life.past }) })
      (record { publication = run_daemon.publication_of segment life poll asked (clocks_at trace.host done); stores = 0; marked_at = asked.marked_at; replied_at = done })
      (record { stands = is.stands; earlier = is.earlier; same = is.same; stays = is.stays }) tells
      (record {
        asked = fits;
        marked = before;
        replied = refl;
        taken = omega arith;
        numbered = numbered;
        earlier = subst (λ (n : ℕ). AllEarlier (segment.position + 1) n done past) (sym numbered) is.earlier;
      })
      refl

  look_tells : (segment : SegmentRun) (daemon : DaemonRun) (row marked_at : ℕ) (after : PageAfter) → Leaves daemon.polled segment → AllTell trace past
      → IsAsked trace row marked_at → marked_at ≤ done → TurnTells (run_daemon.look_by trace segment daemon row marked_at after)
  look_tells segment daemon row marked_at (Looks reading) is tells fits before =
      told_silent daemon.polled segment (record daemon { work = Looking row reading marked_at }) is refl tells (fits, before)
  look_tells segment daemon row marked_at (Saw page) is tells fits before =
      told_silent daemon.polled segment (record daemon { work = Taking _ }) is refl tells (fits, before)
  look_tells segment daemon row marked_at (Missed first last) is tells fits before =
      told_skipped (daemon.polled + 1) segment (record daemon { work = Resting }) daemon.polled first last
      (leaves_number daemon.polled (daemon.polled + 1) segment (omega arith) is) refl tells tt

  ask_tells : (segment : SegmentRun) (daemon : DaemonRun) (page : Option (List ℕ)) → Leaves daemon.polled segment → AllTell trace past
      → TurnTells (run_daemon.ask_by trace segment daemon (clocks_at trace.host done) done page)
  ask_tells segment daemon None is tells =
      told_silent daemon.polled segment (record daemon { work = Taking _ }) is refl tells (record { asked_at = done; some = has_done.0; read = refl; before = omega arith }, omega arith)
  ask_tells segment daemon (Some page) is tells =
      told_silent daemon.polled segment (record daemon { work = Looking (clocks_at trace.host done) (run_page.page_reading trace.tries) done }) is refl tells
      (record { asked_at = done; some = has_done.0; read = refl; before = omega arith }, omega arith)

-- ---- a turn of the daemon

pub opening_some : (begins : Start) (old : Bool) → 0 < opening_length old begins
opening_some Fresh old = omega arith
opening_some (Torn generation) true = omega arith
opening_some (Torn generation) false = omega arith
opening_some (Kept generation rec) true = omega arith
opening_some (Kept generation rec) false = omega arith

module _ (trace : Trace) (host : HostRun) (segment : SegmentRun) (daemon : DaemonRun) (past : List Event) (has_done : (0 < host.done) × (host.done ≤ length trace.host))
    (h : DaemonHolds trace segment.base segment.position segment.is_writing host.done daemon.polled daemon.work past) where
  abbrev Tells : DaemonTurn → Type 0
  Tells next = TurnTells trace segment.base segment.position segment.is_writing host.done past has_done next

  stays_so : (number : ℕ) → AllEarlier (segment.position + 1) number host.done past → Leaves trace segment.base segment.position segment.is_writing host.done past has_done number segment
  stays_so number earlier = record { stands = h.stands; earlier = earlier; same = refl; stays = refl }

  idle_tells : Tells (record { segment = segment; daemon = daemon; events = [] })
  idle_tells =
      told_silent trace segment.base segment.position segment.is_writing host.done past has_done (next_number daemon.polled daemon.work) segment daemon
      (stays_so (next_number daemon.polled daemon.work) h.earlier) refl h.tells h.fits

  begins_tell : (life : Option Life) → AllEarlier (segment.position + 1) (daemon.polled + 1) host.done past
      → Tells (run_daemon.poll_begins trace host segment (record daemon { polled = daemon.polled + 1 }) life)
  begins_tell None earlier =
      opening_tells trace segment.base segment.position segment.is_writing host.done past has_done segment (record daemon { polled = daemon.polled + 1 })
      (start_found segment) (is_old segment) 0 (stays_so (daemon.polled + 1) earlier) h.tells (opening_some (start_found segment) (is_old segment))
  begins_tell (Some life) earlier =
      ask_tells trace segment.base segment.position segment.is_writing host.done past has_done segment (record daemon { polled = daemon.polled + 1 }) trace.page
      (stays_so (daemon.polled + 1) earlier) h.tells

  next_tells : (poll : Option PollRow) → AllEarlier (segment.position + 1) (daemon.polled + 1) host.done past → Tells (run_daemon.next_poll trace host segment daemon poll)
  next_tells None earlier = idle_tells
  next_tells (Some row) earlier = begins_tell daemon.life earlier

  takes_tell : (asked : Asked) (life : Option Life) → AllEarlier (segment.position + 1) daemon.polled host.done past → IsAsked trace asked.row asked.marked_at → asked.marked_at ≤ host.done
      → Tells (run_daemon.taken trace segment daemon asked (run_daemon.poll_of trace daemon asked) (clocks_at trace.host host.done) host.done life)
  takes_tell asked None earlier fits before = idle_tells
  takes_tell asked (Some life) earlier fits before =
      taken_tells trace segment.base segment.position segment.is_writing host.done past has_done segment daemon asked (run_daemon.poll_of trace daemon asked) life refl
      (stays_so daemon.polled earlier) h.tells fits before

  looks_tell : (row marked_at : ℕ) (reading : PageReading) → AllEarlier (segment.position + 1) daemon.polled host.done past → IsAsked trace row marked_at → marked_at ≤ host.done
      → Tells (run_daemon.daemon_turn_by trace host segment daemon (Looking row reading marked_at))
  looks_tell row marked_at reading earlier fits before =
      let bounds = marked_bounds trace segment.base segment.position segment.is_writing host.done past has_done (is_marker_next reading.try) marked_at before in
      look_tells trace segment.base segment.position segment.is_writing host.done past has_done segment daemon row (marked_by (is_marker_next reading.try) host.done marked_at)
      (page_load (count_of trace.page) (page_shown trace.host host) reading) (stays_so daemon.polled earlier) h.tells
      (asked_more trace segment.base segment.position segment.is_writing host.done past has_done row marked_at (marked_by (is_marker_next reading.try) host.done marked_at) bounds.0 fits) bounds.1

  work_tells : (work : Work) → WorkFits trace segment.position host.done daemon.polled past work → AllEarlier (segment.position + 1) (next_number daemon.polled work) host.done past
      → Tells (run_daemon.daemon_turn_by trace host segment daemon work)
  work_tells Resting fits earlier = next_tells (slice_get trace.polls daemon.polled) earlier
  work_tells (Opening begins old steps) fits earlier =
      opening_tells trace segment.base segment.position segment.is_writing host.done past has_done segment daemon begins old steps (stays_so daemon.polled earlier) h.tells fits
  work_tells Asking fits earlier =
      ask_tells trace segment.base segment.position segment.is_writing host.done past has_done segment daemon trace.page (stays_so daemon.polled earlier) h.tells
  work_tells (Looking row reading marked_at) fits earlier = looks_tell row marked_at reading earlier fits.0 fits.1
  work_tells (Taking asked) fits earlier = takes_tell asked daemon.life earlier fits.0 fits.1
  work_tells (Writing storing) fits earlier =
      store_tells trace segment.base segment.position segment.is_writing host.done past has_done segment daemon storing.publication storing.stores storing.marked_at storing.replied_at
      (stays_so daemon.polled earlier) h.tells fits

  pub daemon_tells : TurnTells trace segment.base segment.position segment.is_writing host.done past has_done (daemon_turn trace host segment daemon)
  daemon_tells = work_tells daemon.work h.fits h.earlier
