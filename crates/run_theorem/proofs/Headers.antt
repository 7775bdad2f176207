-- While the daemon lives word 1 is a header of the run's own layout: an opening that finds another stores it.
use Rattle.std.proofs.Common.{◌≡◌, ℕ, ◌+◌, ◌*◌, ◌<◌, Bool, true, false, List, [], ◌∷◌, Option, Some, None, is_some, refl, ap, subst, sym, ◌∙◌, arith, inl, inr}
use Rattle.std.specs.Prelude.{◌==◌, ◌⊎◌, ◌&&◌, ◌%◌, ◌/◌, not, ◌^◌, slice_get, slice_index, if◌then◌else◌}
use Rattle.std.proofs.lemmas.Bool.{cases_eq}
use Rattle.std.proofs.lemmas.Bool.Decides.{nat_tests}
use Rattle.generation_word.specs.declared.header.TheConstants.{LOW_HALF_THREE}
use Rattle.generation_word.specs.declared.layout.Layout.{Layout}
use Rattle.generation_word.specs.declared.layout.Layout.TheVariants.{Two, Three}
use Rattle.generation_word.specs.Layout.{period_of}
use Rattle.generation_word.specs.Header.{word1_of}
use Rattle.clock_gate.specs.declared.trace.Party.{Party}
use Rattle.clock_gate.specs.declared.trace.Party.TheVariants.{Host, Daemon, Client}
use Rattle.clock_gate.specs.declared.trace.PollRow.{PollRow}
use Rattle.clock_gate.specs.declared.trace.Trace.{Trace}
use Rattle.vmclock_page.specs.Host.{count_of}
use Rattle.segment_layout.specs.declared.publication.Publication.{Publication}
use Rattle.segment_layout.specs.declared.start.Start.{Start}
use Rattle.segment_layout.specs.declared.start.Start.TheVariants.{Fresh, Kept, Torn}
use Rattle.segment_layout.specs.History.{header_seen}
use Rattle.segment_layout.specs.Image.{is_old_header, IsHeaderFor}
use Rattle.segment_layout.specs.Record.{RecordFields}
use Rattle.status_machine.specs.declared.poll.Poll.{Poll}
use Rattle.segment_run.specs.SegmentRun.{SegmentRun, abstract_of, number_shown, header_shown, opening_effect, opening_length, headed, moved_once, opened_update, ended_update, one_store_more, stored, is_old, start_found, published_at}
use Rattle.segment_run.specs.ShowsSegment.{IsSegment}
use Rattle.abstract_run.specs.Given.{IsGiven}
use Rattle.abstract_run.specs.Run.{Run, turn, turns_by, start, client_turn_in, client_at}
use Rattle.abstract_run.specs.HostRun.{HostRun, clocks_at, page_shown}
use Rattle.abstract_run.specs.PageReading.{PageAfter, Looks, Saw, Missed, page_load, is_marker_next}
use Rattle.abstract_run.specs.DaemonRun as run_daemon
use Rattle.abstract_run.specs.DaemonRun.{Life, Asked, Storing, Work, Resting, Opening, Asking, Looking, Taking, Writing, DaemonRun, DaemonTurn, daemon_turn, marked_by}
use Rattle.abstract_run.specs.ClientRun.{ClientRun}
use Rattle.run_theorem.proofs.Shown.{SegmentFits, segments_fit}

-- something was published, or an update is open
abbrev HasNumber : SegmentRun → Type 0
HasNumber segment = (0 < segment.position) ⊎ (segment.is_writing ≡ true)

-- word 1 was stored, or it is the image's, which is not old and tells a number
abbrev pub IsNew : SegmentRun → Type 0
IsNew segment = (segment.is_headed ≡ true) ⊎ ((is_old_header segment.layout (slice_index segment.image 1) ≡ false) × HasNumber segment)

-- an opening that found this, under an old header or not
abbrev OpeningNew : SegmentRun → Start → (old : Bool) → Type 0
OpeningNew segment Fresh old = Unit {0}
OpeningNew segment other old = old ≡ false → IsNew segment

-- by the poll in hand; a stopped daemon alone opens, and the move's last step comes after the header's
abbrev pub WorkNew : SegmentRun → (has_life : Bool) → Work → Type 0
WorkNew segment has_life Resting = has_life ≡ true → IsNew segment
WorkNew segment has_life (Opening found old steps) = (has_life ≡ false) × (steps < opening_length old found) × (10 < steps → segment.is_headed ≡ true) × OpeningNew segment found old
WorkNew segment has_life other = IsNew segment

abbrev pub TurnNew : DaemonTurn → Type 0
TurnNew next = WorkNew next.segment (is_some next.daemon.life) next.daemon.work

either : (test : Bool) (one other : DaemonTurn) → (test ≡ true → TurnNew one) → (test ≡ false → TurnNew other) → TurnNew (if test then one else other)
either true one other first second = first refl
either false one other first second = second refl

either_new : (test : Bool) (one other : SegmentRun) → IsNew one → IsNew other → IsNew (if test then one else other)
either_new true one other first second = first
either_new false one other first second = second

same_by : (n m : ℕ) → (n == m) ≡ true → n ≡ m
same_by n m on = grind (arith, nat_tests, on)

-- ---- an opening

ended_new : (segment : SegmentRun) (publication : Publication) → IsNew segment → IsNew (ended_update segment publication)
ended_new segment publication (inl on) = inl on
ended_new segment publication (inr is) = inr (is.0, inl (omega arith))

-- a step leaves a new header
stays_new : (found : Start) (steps : ℕ) (segment : SegmentRun) → IsNew segment → IsNew (opening_effect found steps segment)
stays_new Fresh steps segment is = either_new (steps == 3) (headed segment) segment (inl refl) is
stays_new (Torn generation) steps segment is = either_new (steps == 2) (headed segment) segment (inl refl) is
stays_new (Kept generation rec) steps segment is =
    either_new (steps == 10) (opened_update segment) (if steps == 11 then moved_once segment else segment) (inl refl)
    (either_new (steps == 11) (moved_once segment) segment (ended_new segment (published_at segment segment.position) is) is)

opening_stays : (found : Start) (old : Bool) (steps : ℕ) (segment : SegmentRun) → OpeningNew segment found old → OpeningNew (opening_effect found steps segment) found old
opening_stays Fresh old steps segment is = tt
opening_stays (Torn generation) old steps segment is = λ off. stays_new (Torn generation) steps segment (is off)
opening_stays (Kept generation rec) old steps segment is = λ off. stays_new (Kept generation rec) steps segment (is off)

-- the last one: a fresh or a torn segment gets its header with it, a moved record had it before
last_new : (found : Start) (old : Bool) (steps : ℕ) (segment : SegmentRun) → steps + 1 ≡ opening_length old found → OpeningNew segment found old → (10 < steps → segment.is_headed ≡ true)
    → IsNew (opening_effect found steps segment)
last_new Fresh old steps segment last new late = let three : steps ≡ 3 = omega (arith, last) in subst (λ (n : ℕ). IsNew (opening_effect Fresh n segment)) (sym three) (inl refl)
last_new (Torn generation) false steps segment last new late = stays_new (Torn generation) steps segment (new refl)
last_new (Torn generation) true steps segment last new late =
    let two : steps ≡ 2 = omega (arith, last) in subst (λ (n : ℕ). IsNew (opening_effect (Torn generation) n segment)) (sym two) (inl refl)
last_new (Kept generation rec) false steps segment last new late = stays_new (Kept generation rec) steps segment (new refl)
last_new (Kept generation rec) true steps segment last new late = stays_new (Kept generation rec) steps segment (inl (late (omega (arith, last))))

-- no opening but a move's has an eleventh step, and that stores the header
late_new : (found : Start) (old : Bool) (steps : ℕ) (segment : SegmentRun) → steps + 1 < opening_length old found → 10 < steps + 1 → (opening_effect found steps segment).is_headed ≡ true
late_new Fresh old steps segment low late = absurd (omega (arith, low, late))
late_new (Torn generation) true steps segment low late = absurd (omega (arith, low, late))
late_new (Torn generation) false steps segment low late = absurd (omega (arith, low, late))
late_new (Kept generation rec) false steps segment low late = absurd (omega (arith, low, late))
late_new (Kept generation rec) true steps segment low late =
    let ten : steps ≡ 10 = omega (arith, low, late) in subst (λ (n : ℕ). (opening_effect (Kept generation rec) n segment).is_headed ≡ true) (sym ten) refl

still_fits : (steps count : ℕ) → steps < count → (steps + 1 == count) ≡ false → steps + 1 < count
still_fits steps count low off = elim (cases_eq (steps + 1) count) [
  | inl same ↦ (let on : (steps + 1 == count) ≡ true = grind (arith, nat_tests, same) in absurd (cc (on, off)))
  | inr differs ↦ omega (arith, low, differs)
]

-- what an opening finds has a number, unless it is fresh; where it is not old, it is new
begins_by : (segment : SegmentRun) (rec : RecordFields) (writes none is_headed : Bool) (number : ℕ) → segment.is_writing ≡ writes → (segment.position == 0) ≡ none → segment.is_headed ≡ is_headed
    → OpeningNew segment (if writes then Torn number else if none then Fresh else Kept number rec) (not is_headed && is_old_header segment.layout (slice_index segment.image 1))
begins_by segment rec writes none true number at place on = fits writes none
  where
    fits : (torn fresh : Bool) → OpeningNew segment (if torn then Torn number else if fresh then Fresh else Kept number rec) false
    fits true fresh = λ off. inl on
    fits false true = tt
    fits false false = λ off. inl on
begins_by segment rec true none false number at place on = λ off. inr (off, inr at)
begins_by segment rec false true false number at place on = tt
begins_by segment rec false false false number at place on = λ off. inr (
  off,
  inl (elim (cases_eq segment.position 0) [
    | inl same ↦ (let is : (segment.position == 0) ≡ true = grind (arith, nat_tests, same) in absurd (cc (is, place)))
    | inr differs ↦ omega (arith, differs)
  ]),
)

some_steps : (found : Start) (old : Bool) → 0 < opening_length old found
some_steps Fresh old = omega arith
some_steps (Torn generation) true = omega arith
some_steps (Torn generation) false = omega arith
some_steps (Kept generation rec) true = omega arith
some_steps (Kept generation rec) false = omega arith

module _ (trace : Trace) where
  opening : (segment : SegmentRun) (daemon : DaemonRun) (found : Start) (old : Bool) (steps : ℕ) → is_some daemon.life ≡ false → steps < opening_length old found → (10 < steps → segment.is_headed ≡ true)
      → OpeningNew segment found old → TurnNew (run_daemon.opening_step trace segment daemon found old steps)
  opening segment daemon found old steps none low late new =
      either (steps + 1 == opening_length old found) (run_daemon.opening_ends trace (opening_effect found steps segment) daemon found (run_daemon.is_move old found)) _
      (λ on. last_new found old steps segment (same_by (steps + 1) (opening_length old found) on) new late)
      (λ off. (let fits = still_fits steps (opening_length old found) low off in (none, fits, late_new found old steps segment fits, opening_stays found old steps segment new)))

  -- ---- a publication

  stored_new : (segment : SegmentRun) (publication : Publication) (stores : ℕ) → IsNew segment → IsNew (stored segment publication stores)
  stored_new segment publication stores is = by_test (stores == 0) (stores == 9)
    where
      by_test : (first last : Bool) → IsNew (if first then record (opened_update segment) { begun = record { rec = publication.rec; stores = 1 } ∷ segment.begun } else
          if last then record (ended_update segment publication) { begun = one_store_more segment.begun } else record segment { begun = one_store_more segment.begun })
      by_test true last = inl refl
      by_test false true = ended_new segment publication is
      by_test false false = is

  after : (segment : SegmentRun) (daemon : DaemonRun) (storing : Storing) → IsNew segment → TurnNew (run_daemon.after_stores trace segment daemon storing)
  after segment daemon storing is =
      either (storing.stores == 10) (run_daemon.publication_ends trace segment daemon storing) _
      (λ all. either (run_daemon.is_stop (run_daemon.poll_row trace daemon).stop 10) _ _ (λ on has. is) (λ off has. is))
      (λ few. either (run_daemon.is_stop (run_daemon.poll_row trace daemon).stop storing.stores) _ _ (λ on has. is) (λ off. is))

  -- ---- a poll

  taken : (segment : SegmentRun) (daemon : DaemonRun) (asked : Asked) (poll : Poll) (replied replied_at : ℕ) (life : Option Life) → IsNew segment → WorkNew segment (is_some daemon.life) daemon.work
      → TurnNew (run_daemon.taken trace segment daemon asked poll replied replied_at life)
  taken segment daemon asked poll replied replied_at None is held = held
  taken segment daemon asked poll replied replied_at (Some life) is held =
      after segment (record daemon { life = Some (record life { past = poll ∷ life.past }) })
      (record { publication = run_daemon.publication_of segment life poll asked replied; stores = 0; marked_at = asked.marked_at; replied_at = replied_at }) is

  look : (segment : SegmentRun) (daemon : DaemonRun) (row marked_at : ℕ) (seen : PageAfter) → IsNew segment → TurnNew (run_daemon.look_by trace segment daemon row marked_at seen)
  look segment daemon row marked_at (Looks reading) is = is
  look segment daemon row marked_at (Saw page) is = is
  look segment daemon row marked_at (Missed first last) is = λ has. is

  ask : (segment : SegmentRun) (daemon : DaemonRun) (row done : ℕ) (page : Option (List ℕ)) → IsNew segment → TurnNew (run_daemon.ask_by trace segment daemon row done page)
  ask segment daemon row done None is = is
  ask segment daemon row done (Some page) is = is

  -- ---- a turn

  begins : (host : HostRun) (segment : SegmentRun) (daemon : DaemonRun) (life : Option Life) → daemon.life ≡ life → (is_some life ≡ true → IsNew segment) → TurnNew (run_daemon.poll_begins trace host segment daemon life)
  begins host segment daemon None same is =
      opening segment daemon (start_found segment) (is_old segment) 0 (ap is_some same) (some_steps (start_found segment) (is_old segment)) (λ late. absurd (omega (arith, late)))
      (begins_by segment (published_at segment segment.position).rec segment.is_writing (segment.position == 0) segment.is_headed (number_shown segment) refl refl refl)
  begins host segment daemon (Some life) same is = ask segment daemon (clocks_at trace.host host.done) host.done trace.page (is refl)

  next : (host : HostRun) (segment : SegmentRun) (daemon : DaemonRun) (poll : Option PollRow) → (is_some daemon.life ≡ true → IsNew segment) → WorkNew segment (is_some daemon.life) daemon.work
      → TurnNew (run_daemon.next_poll trace host segment daemon poll)
  next host segment daemon None is held = held
  next host segment daemon (Some row) is held = begins host segment (record daemon { polled = daemon.polled + 1 }) daemon.life refl is

  by_work : (host : HostRun) (segment : SegmentRun) (daemon : DaemonRun) (work : Work) → WorkNew segment (is_some daemon.life) work → WorkNew segment (is_some daemon.life) daemon.work
      → TurnNew (run_daemon.daemon_turn_by trace host segment daemon work)
  by_work host segment daemon Resting is held = next host segment daemon (slice_get trace.polls daemon.polled) is held
  by_work host segment daemon (Opening found old steps) is held = opening segment daemon found old steps is.0 is.1 is.2 is.3
  by_work host segment daemon Asking is held = ask segment daemon (clocks_at trace.host host.done) host.done trace.page is
  by_work host segment daemon (Looking row reading marked_at) is held =
      look segment daemon row (marked_by (is_marker_next reading.try) host.done marked_at) (page_load (count_of trace.page) (page_shown trace.host host) reading) is
  by_work host segment daemon (Taking asked) is held =
      taken segment daemon asked (run_daemon.poll_of trace daemon asked) (clocks_at trace.host host.done) host.done daemon.life is held
  by_work host segment daemon (Writing storing) is held =
      after (stored segment storing.publication storing.stores) daemon (record storing { stores = storing.stores + 1 }) (stored_new segment storing.publication storing.stores is)

  -- ---- any turns

  abbrev RunNew : Run → Type 0
  RunNew run = WorkNew run.segment (is_some run.daemon.life) run.daemon.work

  client_new : (run : Run) (client : ℕ) (state : Option ClientRun) → RunNew run → RunNew (client_turn_in trace run client state)
  client_new run client None is = is
  client_new run client (Some state) is = is

  run_new : (run : Run) (who : Party) → RunNew run → RunNew (turn trace run who)
  run_new run Host is = is
  run_new run Daemon is = by_work run.host run.segment run.daemon run.daemon.work is is
  run_new run (Client client) is = client_new run client (client_at run.clients client) is

  turns_new : (turns : List Party) (run : Run) → RunNew run → RunNew (turns_by trace run turns)
  turns_new [] run is = is
  turns_new (who ∷ turns) run is = turns_new turns (turn trace run who) (run_new run who is)

-- while the daemon lives
living_new : (segment : SegmentRun) (has_life : Bool) (work : Work) → has_life ≡ true → WorkNew segment has_life work → IsNew segment
living_new segment has_life Resting on is = is on
living_new segment has_life (Opening found old steps) on is = let off = is.0 in absurd (cc (on, off))
living_new segment has_life Asking on is = is
living_new segment has_life (Looking row reading marked_at) on is = is
living_new segment has_life (Taking asked) on is = is
living_new segment has_life (Writing storing) on is = is

-- ---- the header

old_two : (g : ℕ) → is_old_header Three (word1_of Two g) ≡ true
old_two g =
    let low : (80 + 2 * 2 ^ 32 + g * 2 ^ 48) % 2 ^ 32 ≡ 80 = omega arith in
    let version : (80 + 2 * 2 ^ 32 + g * 2 ^ 48) / 2 ^ 32 % 2 ^ 16 ≡ 2 = omega arith in
    rw (low, version) refl

-- a header for this number that is not old is the layout's own
own_header : (layout : Layout) (word number : ℕ) → is_old_header layout word ≡ false → IsHeaderFor layout word number → word ≡ word1_of layout number
own_header Two word number new is = is
own_header Three word number new (inl is) = let old = ap (is_old_header Three) is ∙ old_two number in absurd (cc (new, old))
own_header Three word number new (inr is) = is

numbered : (segment : SegmentRun) → HasNumber segment → (segment.position ≡ 0) × (segment.is_writing ≡ false) → ⊥
numbered segment (inl some) none = let zero = none.0 in absurd (omega (arith, some, zero))
numbered segment (inr on) none = let off = none.1 in absurd (cc (on, off))

header_by : (segment : SegmentRun) (is_headed : Bool) → segment.is_headed ≡ is_headed → IsSegment segment → IsNew segment → header_shown segment ≡ header_seen segment.layout (abstract_of segment)
header_by segment true on is new = rw on refl
header_by segment false off is (inl on) = absurd (cc (on, off))
header_by segment false off is (inr new) =
    let image : header_shown segment ≡ slice_index segment.image 1 = rw off refl in
    elim is.header [
      | inl zero ↦ absurd (numbered segment new.1 (is.none zero))
      | inr fits ↦ own_header segment.layout (header_shown segment) (number_shown segment) (ap (is_old_header segment.layout) image ∙ new.0) fits
    ]

pub headers_fit : (trace : Trace) → IsGiven trace → (turns : List Party) → is_some (turns_by trace (start trace) turns).daemon.life ≡ true
    → header_shown (turns_by trace (start trace) turns).segment ≡ header_seen trace.layout (abstract_of (turns_by trace (start trace) turns).segment)
headers_fit trace given turns on =
    let run : Run = turns_by trace (start trace) turns in
    let fits : SegmentFits trace run = segments_fit trace given turns in
    let new : IsNew run.segment = living_new run.segment (is_some run.daemon.life) run.daemon.work on (turns_new trace turns (start trace) (λ has. absurd (cc has))) in
    header_by run.segment run.segment.is_headed refl fits.is new ∙ ap (λ (layout : Layout). header_seen layout (abstract_of run.segment)) fits.layout
