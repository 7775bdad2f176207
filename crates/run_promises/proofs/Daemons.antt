-- Each turn of the daemon keeps what its events tell of markers, and that they stand at their positions.
use Rattle.std.proofs.Common.{◌≡◌, ◌≢◌, ℕ, ◌+◌, ◌<◌, Bool, true, false, List, [], ◌∷◌, ◌++◌, Option, Some, None, is_some, refl, ap, sym, ◌∙◌, subst, arith, inl, inr, length-append, append_assoc, append-nil, true≢false}
use Rattle.std.specs.Prelude.{◌==◌, ◌&&◌, not, reverse, slice_get, if◌then◌else◌}
use Rattle.std.proofs.lemmas.Bool.{cases_eq, cases_lt}
use Rattle.std.proofs.lemmas.Bool.Decides.{nat_tests}
use Rattle.clock_gate.specs.declared.clock_status.ClockStatus.{ClockStatus}
use Rattle.clock_gate.specs.declared.clock_status.ClockStatus.TheVariants.{Unknown, Synchronized, FreeRunning, Disrupted}
use Rattle.clock_gate.specs.declared.trace.PollRow.{PollRow}
use Rattle.clock_gate.specs.declared.trace.Trace.{Trace}
use Rattle.vmclock_page.specs.Host.{count_of}
use Rattle.segment_layout.specs.declared.publication.Publication.{Publication}
use Rattle.segment_layout.specs.declared.start.Start.{Start}
use Rattle.segment_layout.specs.declared.start.Start.TheVariants.{Fresh, Kept, Torn}
use Rattle.segment_layout.specs.Record.{RecordFields}
use Rattle.status_machine.specs.Poll.{base_of_poll, is_good}
use Rattle.status_machine.specs.declared.base.Base.{Base}
use Rattle.status_machine.specs.declared.poll.Poll.{Poll}
use Rattle.status_machine.specs.Incarnation as incarnation
use Rattle.status_machine.specs.Incarnation.{base_at, start_base, base_by_status, since_disrupted, is_unabsorbed, is_disrupted, status_by}
use Rattle.status_machine.proofs.BaseMarker.{marker_before}
use Rattle.segment_layout.specs.Image.{is_old_header}
use Rattle.segment_run.specs.SegmentRun.{SegmentRun, opening_effect, opening_length, headed, opened_update, moved_once, stored, is_old, start_found, one_store_more, number_shown, published_at}
use Rattle.abstract_run.specs.RunWhole.{is_resting}
use Rattle.abstract_run.specs.declared.event.Event.{Event}
use Rattle.abstract_run.specs.declared.event.Event.TheVariants.{Opened, Moved, Published, Skipped, Stopped}
use Rattle.abstract_run.specs.HostRun.{HostRun, clocks_at, pages_at, page_shown, marker_of, marker_by, marker_at}
use Rattle.abstract_run.specs.PageReading.{PageAfter, Looks, Saw, Missed, page_load, is_marker_next}
use Rattle.abstract_run.specs.DaemonRun as run_daemon
use Rattle.abstract_run.specs.DaemonRun.{Life, Asked, Storing, Work, Resting, Opening, Asking, Looking, Taking, Writing, DaemonRun, DaemonTurn, daemon_turn, marked_by}
use Rattle.status_machine.specs.Base.{base_number}
use Rattle.abstract_run.specs.RunFacts.{PublishedEvent, told_at, AllEarlier}
use Rattle.abstract_run.proofs.RunFactsDaemon.{next_number, WorkFits, opening_some}
use Rattle.run_promises.specs.Told.{IsMarkOf, KeepsMarker, AllMarked, IsFresh, KnowsPoll}
use Rattle.run_promises.proofs.PollNumbers.{Numbered, IsBegun}
use Rattle.run_promises.proofs.Marks.{BaseMarked, LifeMarked, poll_marked, BaseKnown, poll_known}
use Rattle.run_promises.proofs.PageReads.{LookAfter, look_fits}
use Rattle.run_promises.proofs.Segments.{entry_at, IsEntry, AllStand, entry_more, stand_more, newest}
use Rattle.run_promises.proofs.DaemonStates.{named_marker, Later, SegmentMarked, LifeOf, StartMarked, is_kept, OldFits, WritingMarked, WorkMarked, DaemonMarked, AreSame, base_same, life_same, segment_same}

-- ---- a turn

module _ (trace : Trace) (host : HostRun) (from : SegmentRun) (past : List Event) where
  -- a segment on the way
  pub record Left (told : List Event) (number : ℕ) (segment : SegmentRun) : Type 0 where
    pub later : Later from.layout segment.layout from.base segment.base from.history segment.history
    pub marked : SegmentMarked trace told number segment.base segment.position segment.is_headed segment.history

  pub record TurnMarked (next : DaemonTurn) : Type 0 where
    pub left : Left (reverse next.events ++ past) next.daemon.base next.segment
    pub work : WorkMarked trace host next.segment.is_headed (reverse next.events ++ past) next.daemon.life next.daemon.base next.daemon.work
    pub all : AllMarked trace (reverse next.events ++ past)

  either_turn : (test : Bool) (one other : DaemonTurn) → TurnMarked one → TurnMarked other → TurnMarked (if test then one else other)
  either_turn true one other first second = first
  either_turn false one other first second = second

  off_turn : (test : Bool) (one other : DaemonTurn) → test ≡ false → TurnMarked other → TurnMarked (if test then one else other)
  off_turn test one other off second = rw off second

  either_left : (number : ℕ) (test : Bool) (one other : SegmentRun) → Left past number one → Left past number other → Left past number (if test then one else other)
  either_left number true one other first second = first
  either_left number false one other first second = second

  left_headed : (number : ℕ) (segment : SegmentRun) → Left past number segment → Left past number (headed segment)
  left_headed number segment is =
      record {
        later = is.later;
        marked = record {
          known = is.marked.known;
          stand = is.marked.stand;
          top = is.marked.top;
          fresh = λ off. absurd (cc off);
          unheaded = λ none off. absurd (cc off);
          knows = is.marked.knows;
          others = is.marked.others;
          last = is.marked.last;
        };
      }

  left_open : (number : ℕ) (segment : SegmentRun) → Left past number segment → Left past number (opened_update segment)
  left_open number segment is =
      record {
        later = is.later;
        marked = record {
          known = is.marked.known;
          stand = is.marked.stand;
          top = is.marked.top;
          fresh = λ off. absurd (cc off);
          unheaded = λ none off. absurd (cc off);
          knows = is.marked.knows;
          others = is.marked.others;
          last = is.marked.last;
        };
      }

  left_same : (more : List Event) (number : ℕ) (segment : SegmentRun) → AreSame past more → AllStand segment.base segment.history more → Left past number segment → Left more number segment
  left_same more number segment same stand is =
      record { later = is.later; marked = segment_same trace past more number segment.base segment.position segment.is_headed segment.history same stand is.marked }

  kept_left : (number : ℕ) (segment : SegmentRun) (ten eleven : Bool) → eleven ≡ false → Left past number segment
      → Left past number (if ten then opened_update segment else if eleven then moved_once segment else segment)
  kept_left number segment ten true off is = absurd (cc off)
  kept_left number segment true false off is = left_open number segment is
  kept_left number segment false false off is = is

  -- ---- an opening

  status_marked : (status : ClockStatus) (base : Base) (marker : Option ℕ) → KeepsMarker trace past base.poll status marker → is_unabsorbed (since_disrupted status) ≡ false
      → BaseMarked trace past (base_by_status status base) marker
  status_marked Unknown base marker is calm = tt
  status_marked Synchronized base marker is calm = λ some. is some (λ e. cc e)
  status_marked FreeRunning base marker is calm = λ some. is some (λ e. cc e)
  status_marked Disrupted base marker is calm = absurd (true≢false calm)

  begins_marked : (begins : Start) (number : ℕ) → StartMarked trace past number begins → is_disrupted begins [] ≡ false → BaseMarked trace past (start_base begins number) (marker_before begins [])
  begins_marked Fresh number is calm = tt
  begins_marked (Torn generation) number is calm = tt
  begins_marked (Kept generation rec) number is calm = status_marked rec.status (record { as_of = rec.as_of; bound = rec.bound; poll = number }) (named_marker rec) is.0 calm

  status_known : (status : ClockStatus) (base : Base) → KnowsPoll status base.poll → is_unabsorbed (since_disrupted status) ≡ false → BaseKnown (base_by_status status base)
  status_known Unknown base is calm = tt
  status_known Synchronized base is calm = is (λ e. cc e) (λ e. cc e)
  status_known FreeRunning base is calm = is (λ e. cc e) (λ e. cc e)
  status_known Disrupted base is calm = absurd (true≢false calm)

  begins_known : (begins : Start) (number : ℕ) → StartMarked trace past number begins → IsFresh trace → is_disrupted begins [] ≡ false → BaseKnown (start_base begins number)
  begins_known Fresh number is none calm = tt
  begins_known (Torn generation) number is none calm = tt
  begins_known (Kept generation rec) number is none calm = status_known rec.status (record { as_of = rec.as_of; bound = rec.bound; poll = number }) (is.1 none) calm

  begins_life : (more : List Event) (begins : Start) (number : ℕ) → AreSame past more → StartMarked trace past number begins → LifeOf trace more (Some (run_daemon.life_from trace begins number))
  begins_life more begins number same is =
      (refl, refl, λ calm. base_same trace past more (start_base begins number) (marker_before begins []) same (begins_marked begins number is calm), λ none calm. begins_known begins number is none calm)

  opened_same : (poll : ℕ) (begins : Start) → AreSame past (Opened poll begins ∷ past)
  opened_same poll begins = record { by = λ n. refl; at = λ n. refl }

  step_marked : (after : SegmentRun) (daemon : DaemonRun) (begins : Start) (old test : Bool) (steps : ℕ) → Left past daemon.base after → StartMarked trace past daemon.base begins
      → OldFits trace daemon.base begins old → AllMarked trace past
      → TurnMarked (if test then run_daemon.opening_ends trace after daemon begins false else record { segment = after; daemon = record daemon { work = Opening begins old (steps + 1) }; events = [] })
  step_marked after daemon begins old true steps is begun none all =
      record {
        left = left_same (Opened daemon.polled begins ∷ past) daemon.base after (opened_same daemon.polled begins) is.marked.stand is;
        work = begins_life (Opened daemon.polled begins ∷ past) begins daemon.base (opened_same daemon.polled begins) begun;
        all = all;
      }
  step_marked after daemon begins old false steps is begun none all = record { left = is; work = (begun, none); all = all }

  zero_marked : (begins : Start) → (IsFresh trace → ⊥) → StartMarked trace past 0 begins
  zero_marked Fresh of_image = tt
  zero_marked (Torn generation) of_image = tt
  zero_marked (Kept generation rec) of_image = (λ some. absurd (omega (arith, some)), λ none. absurd (of_image none))

  -- the same record once more, whose base isn't of a poll
  moved_left : (more : List Event) (number : ℕ) (segment : SegmentRun) → AreSame past more → AllStand segment.base segment.history more → number ≡ 0 → (IsFresh trace → ⊥)
      → Left past number segment → Left more 0 (moved_once segment)
  moved_left more number segment same stand none of_image is =
      let known = is.marked.known in
      let longer = is.later.longer in
      let last : Publication = published_at segment segment.position in
      let new : IsEntry segment.base (segment.history ++ last ∷ []) (segment.position + 1) last = newest segment.base segment.history segment.position last is.marked.known in
      let plain : (entry_at segment.base (segment.history ++ last ∷ []) (segment.position + 1)).base ≡ 0 = ap (λ (p : Publication). p.base) new.is ∙ is.marked.top ∙ none in
      record {
        later = record {
          same_layout = is.later.same_layout;
          same_base = is.later.same_base;
          more = is.later.more ++ last ∷ [];
          longer = ap (λ (h : List Publication). h ++ last ∷ []) longer ∙ append_assoc from.history is.later.more (last ∷ []);
        };
        marked = record {
          known = rw length-append (omega (arith, known));
          stand = stand_more segment.base segment.history (last ∷ []) more stand;
          top = plain;
          fresh = λ off. refl;
          unheaded = λ none. absurd (of_image none);
          knows = λ none. absurd (of_image none);
          others = λ n low high untold. elim (cases_lt segment.position n) [
            | inl past_it ↦
                (let at : segment.position + 1 ≡ n = omega (arith, past_it, high) in
                subst (λ (k : ℕ). (entry_at segment.base (segment.history ++ last ∷ []) k).base ≡ 0) at plain)
            | inr before ↦
                ap (λ (p : Publication). p.base) (entry_more segment.base segment.history (last ∷ []) n low (omega (arith, before, known)))
                ∙ is.marked.others n low (omega (arith, before)) (sym (same.at n) ∙ untold)
          ];
          last = λ some. absurd (omega (arith, some));
        };
      }

  moves_marked : (segment : SegmentRun) (daemon : DaemonRun) (begins : Start) → Left past daemon.base segment → daemon.base ≡ 0 → (IsFresh trace → ⊥) → AllMarked trace past
      → TurnMarked (run_daemon.opening_ends trace (moved_once segment) daemon begins true)
  moves_marked segment daemon begins is none of_image all =
      let more : List Event = Moved daemon.polled (segment.position + 1) (number_shown (moved_once segment)) ∷ Opened daemon.polled begins ∷ past in
      let same : AreSame past more = record { by = λ n. refl; at = λ n. refl } in
      record {
        left = moved_left more daemon.base segment same is.marked.stand none of_image is;
        work = begins_life more begins 0 same (zero_marked begins of_image);
        all = (of_image, all);
      }

  opening_marked : (segment : SegmentRun) (daemon : DaemonRun) (begins : Start) (old : Bool) (steps : ℕ) → Left past daemon.base segment → StartMarked trace past daemon.base begins
      → OldFits trace daemon.base begins old → AllMarked trace past → steps < opening_length old begins → TurnMarked (run_daemon.opening_step trace segment daemon begins old steps)
  opening_marked segment daemon Fresh old steps is begun none all low =
      step_marked (opening_effect Fresh steps segment) daemon Fresh old (steps + 1 == 4) steps
      (either_left daemon.base (steps == 3) (headed segment) segment (left_headed daemon.base segment is) is) begun none all
  opening_marked segment daemon (Torn generation) old steps is begun none all low =
      step_marked (opening_effect (Torn generation) steps segment) daemon (Torn generation) old (steps + 1 == opening_length old (Torn generation)) steps
      (either_left daemon.base (steps == 2) (headed segment) segment (left_headed daemon.base segment is) is) begun none all
  opening_marked segment daemon (Kept generation rec) false steps is begun none all low =
      let off : (steps == 11) ≡ false = grind (arith, nat_tests, low) in
      step_marked (opening_effect (Kept generation rec) steps segment) daemon (Kept generation rec) false (steps + 1 == 10) steps
      (kept_left daemon.base segment (steps == 10) (steps == 11) off is) begun none all
  opening_marked segment daemon (Kept generation rec) true steps is begun none all low = elim (cases_eq steps 11) [
    | inl same ↦
        subst (λ (n : ℕ). TurnMarked (run_daemon.opening_step trace segment daemon (Kept generation rec) true n)) (sym same)
        (moves_marked segment daemon (Kept generation rec) is (none.plain refl) (λ fresh. true≢false (none.image fresh refl)) all)
    | inr differs ↦
        (let off : (steps == 11) ≡ false = grind (arith, nat_tests, differs) in
        let more : (steps + 1 == 12) ≡ false = grind (arith, nat_tests, differs) in
        off_turn (steps + 1 == 12) _ (record { segment = opening_effect (Kept generation rec) steps segment; daemon = record daemon { work = Opening (Kept generation rec) true (steps + 1) }; events = [] }) more
        (record { left = kept_left daemon.base segment (steps == 10) (steps == 11) off is; work = (begun, none); all = all }))
  ]

  -- ---- a publication

  named_is : (trace_page : Option (List ℕ)) (rec : RecordFields) (marked_at : ℕ) → rec.marker ≡ incarnation.marker_or_zero (marker_by trace marked_at trace_page) → rec.support ≡ is_some trace_page
      → named_marker rec ≡ marker_by trace marked_at trace_page
  named_is None rec marked_at marker support = rw support refl
  named_is (Some page) rec marked_at marker support = rw support (ap Some marker)

  other_none : (position n : ℕ) (one : PublishedEvent) (rest : Option PublishedEvent) → (if position == n then Some one else rest) ≡ None → (position ≢ n) × (rest ≡ None)
  other_none position n one rest is = elim (cases_eq position n) [
    | inl same ↦ (let on : (position == n) ≡ true = grind (arith, nat_tests, same) in absurd (cc (is, on)))
    | inr differs ↦ (let off : (position == n) ≡ false = grind (arith, nat_tests, differs) in (differs, cc (is, off)))
  ]

  ended_left : (segment : SegmentRun) (number : ℕ) (publication : Publication) (marked_at replied_at : ℕ) (life : Option Life) → segment.is_headed ≡ true → Left past number segment
      → WritingMarked trace past publication marked_at replied_at life
      → Left (Published (segment.position + 1) publication marked_at replied_at ∷ past) publication.base (stored segment publication 9)
  ended_left segment number publication marked_at replied_at life on is writing =
      let known = is.marked.known in
      let longer = is.later.longer in
      let one : PublishedEvent = record { position = segment.position + 1; publication = publication; marked_at = marked_at; replied_at = replied_at } in
      let more : List Event = Published (segment.position + 1) publication marked_at replied_at ∷ past in
      let new : IsEntry segment.base (segment.history ++ publication ∷ []) (segment.position + 1) publication = newest segment.base segment.history segment.position publication is.marked.known in
      record {
        later = record {
          same_layout = is.later.same_layout;
          same_base = is.later.same_base;
          more = is.later.more ++ publication ∷ [];
          longer = ap (λ (h : List Publication). h ++ publication ∷ []) longer ∙ append_assoc from.history is.later.more (publication ∷ []);
        };
        marked = record {
          known = rw length-append (omega (arith, known));
          stand = (new, stand_more segment.base segment.history (publication ∷ []) past is.marked.stand);
          top = ap (λ (p : Publication). p.base) new.is;
          fresh = λ off. absurd (cc (on, off));
          unheaded = λ none off. absurd (cc (on, off));
          knows = λ none. subst (λ (p : Publication). KnowsPoll p.rec.status publication.base) (sym new.is) (writing.knows none);
          others = λ n low high untold. (
              let other : (segment.position + 1 ≢ n) × (told_at n past ≡ None) = other_none (segment.position + 1) n one (told_at n past) untold in
              let differs : segment.position + 1 ≢ n = other.0 in
              ap (λ (p : Publication). p.base) (entry_more segment.base segment.history (publication ∷ []) n low (omega (arith, known, high, differs)))
              ∙ is.marked.others n low (omega (arith, high, differs)) other.1);
          last = subst (λ (p : Publication). KeepsMarker trace more publication.base p.rec.status (named_marker p.rec)) (sym new.is)
              (λ some calm. subst (λ (marker : Option ℕ). IsMarkOf trace more publication.base marker)
              (sym (named_is trace.page publication.rec marked_at writing.marked.marker writing.marked.support)) (writing.keeps (segment.position + 1) some calm));
        };
      }

  stored_left : (segment : SegmentRun) (number : ℕ) (publication : Publication) (zero_ nine : Bool) → nine ≡ false → Left past number segment
      → Left past number
      (if zero_ then record segment { is_headed = true; is_writing = true; begun = record { rec = publication.rec; stores = 1 } ∷ segment.begun }
      else if nine then record segment { position = segment.position + 1; is_writing = false; history = segment.history ++ publication ∷ []; begun = one_store_more segment.begun }
      else record segment { begun = one_store_more segment.begun })
  stored_left segment number publication zero_ true off is = absurd (cc off)
  stored_left segment number publication true false off is =
      record {
        later = is.later;
        marked = record {
          known = is.marked.known;
          stand = is.marked.stand;
          top = is.marked.top;
          fresh = λ off. absurd (cc off);
          unheaded = λ none off. absurd (cc off);
          knows = is.marked.knows;
          others = is.marked.others;
          last = is.marked.last;
        };
      }
  stored_left segment number publication false false off is = record { later = is.later; marked = is.marked }

  -- word 1 is stored by the first store
  stored_headed : (segment : SegmentRun) (publication : Publication) (stores : ℕ) → (0 < stores → segment.is_headed ≡ true) → (stored segment publication stores).is_headed ≡ true
  stored_headed segment publication stores on = elim (cases_eq stores 0) [
    | inl none ↦ subst (λ (n : ℕ). (stored segment publication n).is_headed ≡ true) (sym none) refl
    | inr some ↦
        (let off : (stores == 0) ≡ false = grind (arith, nat_tests, some) in
        let headed_before : segment.is_headed ≡ true = on (omega (arith, some)) in
        rw off (by_headed (stores == 9) headed_before))
  ]
    where
      by_headed : (nine : Bool) → segment.is_headed ≡ true
          → (if nine then record segment { position = segment.position + 1; is_writing = false; history = segment.history ++ publication ∷ []; begun = one_store_more segment.begun }
          else record segment { begun = one_store_more segment.begun }).is_headed ≡ true
      by_headed true is = is
      by_headed false is = is

  stopped_same : (more : List Event) (poll stores : ℕ) → AreSame more (Stopped poll stores ∷ more)
  stopped_same more poll stores = record { by = λ n. refl; at = λ n. refl }

  goes_marked : (segment : SegmentRun) (daemon : DaemonRun) (storing : Storing) → Left past daemon.base segment → AllMarked trace past
      → WritingMarked trace past storing.publication storing.marked_at storing.replied_at daemon.life → (0 < storing.stores → segment.is_headed ≡ true)
      → (storing.stores == 10) ≡ false → TurnMarked (run_daemon.after_stores trace segment daemon storing)
  goes_marked segment daemon storing is all writing on off =
      off_turn (storing.stores == 10) _ _ off
      (either_turn (run_daemon.is_stop (run_daemon.poll_row trace daemon).stop storing.stores) _ _
      (record { left = left_same (Stopped daemon.polled storing.stores ∷ past) daemon.base segment (stopped_same past daemon.polled storing.stores) is.marked.stand is; work = tt; all = all })
      (record { left = is; work = (writing, on); all = all }))

  store_marked : (segment : SegmentRun) (daemon : DaemonRun) (publication : Publication) (stores marked_at replied_at : ℕ) → Left past daemon.base segment → AllMarked trace past
      → WritingMarked trace past publication marked_at replied_at daemon.life → (0 < stores → segment.is_headed ≡ true)
      → TurnMarked (run_daemon.store_step trace segment daemon (record { publication = publication; stores = stores; marked_at = marked_at; replied_at = replied_at }))
  store_marked segment daemon publication stores marked_at replied_at is all writing on = elim (cases_eq stores 9) [
    | inl same ↦
        (let more : List Event = Published (segment.position + 1) publication marked_at replied_at ∷ past in
        let ended : Left more publication.base (stored segment publication 9) =
        ended_left segment daemon.base publication marked_at replied_at daemon.life (on (omega (arith, same))) is writing in
        let every : AllMarked trace more = (record { begun = writing.begun; marked = writing.marked; keeps = writing.keeps (segment.position + 1); numbered = writing.numbered; among = writing.among; knows = writing.knows }, all) in
        subst (λ (n : ℕ). TurnMarked (run_daemon.store_step trace segment daemon (record { publication = publication; stores = n; marked_at = marked_at; replied_at = replied_at }))) (sym same)
        (either_turn (run_daemon.is_stop (run_daemon.poll_row trace daemon).stop 10) _ _
        (record {
          left = record {
            later = ended.later;
            marked = segment_same trace more (Stopped daemon.polled 10 ∷ more) publication.base segment.base (segment.position + 1) segment.is_headed (segment.history ++ publication ∷ [])
                (stopped_same more daemon.polled 10) ended.marked.stand ended.marked;
          };
          work = tt;
          all = every;
        })
        (record { left = ended; work = writing.lives (segment.position + 1); all = every })))
    | inr differs ↦
        (let off : (stores == 9) ≡ false = grind (arith, nat_tests, differs) in
        let more : (stores + 1 == 10) ≡ false = grind (arith, nat_tests, differs) in
        goes_marked (stored segment publication stores) daemon (record { publication = publication; stores = stores + 1; marked_at = marked_at; replied_at = replied_at })
        (stored_left segment daemon.base publication (stores == 0) (stores == 9) off is) all writing (λ some. stored_headed segment publication stores on) more)
  ]

  -- ---- the reply is taken

  calm_by : (disrupted good has : Bool) → status_by disrupted good has ≢ Disrupted → disrupted ≡ false
  calm_by true good has calm = absurd (calm refl)
  calm_by false good has calm = refl

  number_marked : (more : List Event) (base : Option Base) (own marker : Option ℕ) → own ≡ marker → BaseMarked trace more base own → 0 < base_number base → IsMarkOf trace more (base_number base) marker
  number_marked more None own marker same is some = absurd (omega (arith, some))
  number_marked more (Some base) own marker same is some = let one : IsMarkOf trace more base.poll own = is some in record { told = one.told; found = one.found; same = sym same ∙ one.same }

  -- a status that is known is that of a base
  some_base : (disrupted good has : Bool) (given held : Option Base) → is_some given ≡ good → is_some (if not disrupted && good then given else held) ≡ has → status_by disrupted good has ≢ Unknown
      → disrupted ≡ false → has ≡ true
  some_base true good has given held gives based some calm = absurd (true≢false calm)
  some_base false true has given held gives based some calm = sym based ∙ gives
  some_base false false true given held gives based some calm = refl
  some_base false false false given held gives based some calm = absurd (some refl)

  number_known : (base : Option Base) → is_some base ≡ true → BaseKnown base → 0 < base_number base
  number_known None has is = absurd (cc has)
  number_known (Some base) has is = is

  taken_marked : (segment : SegmentRun) (daemon : DaemonRun) (asked : Asked) (life : Life) (replied replied_at done : ℕ) → Left past daemon.base segment → AllMarked trace past
      → LifeOf trace past (Some life) → asked.marker ≡ marker_at trace asked.marked_at → AllEarlier (segment.position + 1) daemon.polled done past → 0 < replied_at → IsBegun trace daemon.polled
      → TurnMarked (run_daemon.taken trace segment daemon asked (run_daemon.poll_of trace daemon asked) replied replied_at (Some life))
  taken_marked segment daemon asked life replied replied_at done is all held own earlier begun numbered =
      let poll : Poll = run_daemon.poll_of trace daemon asked in
      let publication : Publication = run_daemon.publication_of segment life poll asked replied in
      let lives : (position : ℕ) → LifeMarked trace (Published position publication asked.marked_at replied_at ∷ past) (record life { past = poll ∷ life.past }) =
      λ position. poll_marked trace past position publication asked.marked_at replied_at (segment.position + 1) done life poll refl own earlier held.2 in
      goes_marked segment (record daemon { life = Some (record life { past = poll ∷ life.past }) })
      (record { publication = publication; stores = 0; marked_at = asked.marked_at; replied_at = replied_at }) is all
      (record {
        begun = begun;
        marked = record { marker = ap incarnation.marker_or_zero own; support = held.0; drift = held.1 };
        keeps = λ position some calm.
            number_marked (Published position publication asked.marked_at replied_at ∷ past) (base_at life.from (poll ∷ life.past)) asked.marker (marker_at trace asked.marked_at) own
            (lives position (calm_by (is_disrupted life.from.start (poll ∷ life.past)) _ _ calm)) some;
        lives = λ position. (held.0, held.1, lives position, λ none. poll_known life poll numbered.some (held.3 none));
        numbered = numbered.some;
        among = numbered.most;
        knows = λ none known calm. (
            let quiet : is_disrupted life.from.start (poll ∷ life.past) ≡ false = calm_by (is_disrupted life.from.start (poll ∷ life.past)) _ _ calm in
            number_known (base_at life.from (poll ∷ life.past))
            (some_base (is_disrupted life.from.start (poll ∷ life.past)) (is_good poll) (is_some (base_at life.from (poll ∷ life.past))) (base_of_poll poll) (base_at life.from life.past) refl refl known quiet)
            (poll_known life poll numbered.some (held.3 none) quiet));
      })
      (λ some. absurd (omega (arith, some))) refl

  -- ---- the loads of a poll

  page_marked : (page : Option (List ℕ)) (seen marked_at : ℕ) → is_some page ≡ true → seen ≡ pages_at trace.host marked_at → Some (marker_of trace.page trace.host seen) ≡ marker_by trace marked_at page
  page_marked None seen marked_at has same = absurd (cc has)
  page_marked (Some page) seen marked_at has same = ap (λ (g : ℕ). Some (marker_of trace.page trace.host g)) same

  look_marked : (segment : SegmentRun) (daemon : DaemonRun) (row marked_at : ℕ) (after : PageAfter) → Left past daemon.base segment → AllMarked trace past → LifeOf trace past daemon.life
      → is_some trace.page ≡ true → LookAfter trace.host host marked_at after
      → TurnMarked (run_daemon.look_by trace segment daemon row marked_at after)
  look_marked segment daemon row marked_at (Looks reading) is all held has fits = record { left = is; work = (held, has, fits); all = all }
  look_marked segment daemon row marked_at (Saw page) is all held has fits = record { left = is; work = (held, page_marked trace.page page marked_at has fits); all = all }
  look_marked segment daemon row marked_at (Missed first last) is all held has fits =
      let more : List Event = Skipped daemon.polled first last ∷ past in
      let same : AreSame past more = record { by = λ n. refl; at = λ n. refl } in
      record { left = left_same more daemon.base segment same is.marked.stand is; work = life_same trace past more daemon.life same held; all = all }

  ask_marked : (segment : SegmentRun) (daemon : DaemonRun) (row : ℕ) (page : Option (List ℕ)) → trace.page ≡ page → Left past daemon.base segment → AllMarked trace past → LifeOf trace past daemon.life
      → TurnMarked (run_daemon.ask_by trace segment daemon row host.done page)
  ask_marked segment daemon row None none is all held = record { left = is; work = (held, sym (ap (marker_by trace host.done) none)); all = all }
  ask_marked segment daemon row (Some page) has is all held =
      record { left = is; work = (held, ap is_some has, record { within = omega arith; fits = tt }); all = all }

-- ---- a turn of the daemon

module _ (trace : Trace) (host : HostRun) (segment : SegmentRun) (daemon : DaemonRun) (past : List Event) (h : DaemonMarked trace host segment daemon past) where
  abbrev Turns : DaemonTurn → Type 0
  Turns next = TurnMarked trace host segment past next

  begun : Left trace host segment past past daemon.base segment
  begun = record { later = record { same_layout = refl; same_base = refl; more = []; longer = sym (append-nil segment.history) }; marked = h.stands }

  -- what an opening finds
  found_by : (writes none : Bool) (number generation : ℕ) → StartMarked trace past daemon.base
      (if writes then Torn number else if none then Fresh else Kept generation (published_at segment segment.position).rec)
  found_by true none number generation = tt
  found_by false true number generation = tt
  found_by false false number generation = (h.stands.last, h.stands.knows)

  found_marked : StartMarked trace past daemon.base (start_found segment)
  found_marked = found_by segment.is_writing (segment.position == 0) (number_shown segment) (number_shown segment)

  -- an old header stands only where nothing was published
  old_by : (is_headed old : Bool) → segment.is_headed ≡ is_headed → (not is_headed && old) ≡ true → daemon.base ≡ 0
  old_by true old same is = absurd (cc is)
  old_by false old same is = h.stands.fresh same

  found_old : (writes none old : Bool) (number generation : ℕ) → (segment.position == 0) ≡ none → (old ≡ true → segment.is_headed ≡ false) → IsFresh trace → old ≡ true
      → is_kept (if writes then Torn number else if none then Fresh else Kept generation (published_at segment segment.position).rec) ≡ false
  found_old true none old number generation at unheaded fresh is = refl
  found_old false true old number generation at unheaded fresh is = refl
  found_old false false old number generation at unheaded fresh is =
      let first : segment.position ≡ 0 = h.stands.unheaded fresh (unheaded is) in
      let none : (segment.position == 0) ≡ true = grind (arith, nat_tests, first) in
      absurd (cc (none, at))

  old_unheaded : (is_headed old : Bool) → (not is_headed && old) ≡ true → is_headed ≡ false
  old_unheaded true old is = absurd (cc is)
  old_unheaded false old is = refl

  old_fits : OldFits trace daemon.base (start_found segment) (is_old segment)
  old_fits =
      record {
        plain = λ is. old_by segment.is_headed (is_old_header segment.layout _) refl is;
        image = found_old segment.is_writing (segment.position == 0) (is_old segment) (number_shown segment) (number_shown segment) refl (λ is. old_unheaded segment.is_headed (is_old_header segment.layout _) is);
      }

  begins_by : (life : Option Life) → LifeOf trace past daemon.life → Turns (run_daemon.poll_begins trace host segment (record daemon { polled = daemon.polled + 1 }) life)
  begins_by None held =
      opening_marked trace host segment past segment (record daemon { polled = daemon.polled + 1 }) (start_found segment) (is_old segment) 0 begun found_marked
      old_fits h.all (opening_some (start_found segment) (is_old segment))
  begins_by (Some life) held = ask_marked trace host segment past segment (record daemon { polled = daemon.polled + 1 }) (clocks_at trace.host host.done) trace.page refl begun h.all held

  next_by : (poll : Option PollRow) → LifeOf trace past daemon.life → Turns (run_daemon.next_poll trace host segment daemon poll)
  next_by None held = record { left = begun; work = h.work; all = h.all }
  next_by (Some row) held = begins_by daemon.life held

  takes_by : (asked : Asked) (life : Option Life) → LifeOf trace past life → asked.marker ≡ marker_at trace asked.marked_at → AllEarlier (segment.position + 1) daemon.polled host.done past → 0 < host.done → IsBegun trace daemon.polled
      → Turns (run_daemon.taken trace segment daemon asked (run_daemon.poll_of trace daemon asked) (clocks_at trace.host host.done) host.done life)
  takes_by asked None held own earlier some numbered = record { left = begun; work = h.work; all = h.all }
  takes_by asked (Some life) held own earlier some numbered = taken_marked trace host segment past segment daemon asked life (clocks_at trace.host host.done) host.done host.done begun h.all held own earlier some numbered

  work_marked : (work : Work) → WorkFits trace segment.position host.done daemon.polled past work → AllEarlier (segment.position + 1) (next_number daemon.polled work) host.done past
      → 0 < host.done → (is_resting work ≡ false → IsBegun trace daemon.polled) → WorkMarked trace host segment.is_headed past daemon.life daemon.base work → Turns (run_daemon.daemon_turn_by trace host segment daemon work)
  work_marked Resting fits earlier some numbered held = next_by (slice_get trace.polls daemon.polled) held
  work_marked (Opening begins old steps) fits earlier some numbered held = opening_marked trace host segment past segment daemon begins old steps begun held.0 held.1 h.all fits
  work_marked Asking fits earlier some numbered held = ask_marked trace host segment past segment daemon (clocks_at trace.host host.done) trace.page refl begun h.all held
  work_marked (Looking row reading marked_at) fits earlier some numbered held =
      look_marked trace host segment past segment daemon row (marked_by (is_marker_next reading.try) host.done marked_at) (page_load (count_of trace.page) (page_shown trace.host host) reading) begun h.all held.0 held.1
      (look_fits (count_of trace.page) trace.host host reading marked_at held.2)
  work_marked (Taking asked) fits earlier some numbered held = takes_by asked daemon.life held.0 held.1 earlier some (numbered refl)
  work_marked (Writing storing) fits earlier some numbered held =
      store_marked trace host segment past segment daemon storing.publication storing.stores storing.marked_at storing.replied_at begun h.all held.0 held.1

  pub daemon_marked : WorkFits trace segment.position host.done daemon.polled past daemon.work → AllEarlier (segment.position + 1) (next_number daemon.polled daemon.work) host.done past → 0 < host.done → Numbered trace daemon
      → TurnMarked trace host segment past (daemon_turn trace host segment daemon)
  daemon_marked fits earlier some numbered = work_marked daemon.work fits earlier some (λ off. record { most = numbered.most; some = numbered.begun off }) h.work
