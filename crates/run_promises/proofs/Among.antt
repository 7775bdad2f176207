-- The events before an answer or a publication, in order and from the newest on: a publication with a position or of a poll is the one that
-- is told of it, and what each event tells is of those before it.
use Rattle.std.proofs.Common.{◌≡◌, ℕ, ◌<◌, ◌≤◌, Bool, true, false, cond, nat_eq, List, [], ◌∷◌, ◌++◌, reverse, Option, Some, is_some, refl, sym, ap, ◌∙◌, subst, arith, inl, inr, true≢false, append_assoc}
use Rattle.std.specs.Prelude.{◌||◌, ◌≢◌}
use Rattle.std.proofs.lemmas.Bool.{cases_Bool, eq-eqb, ne_eqb, eqb-true}
use Rattle.std.proofs.lemmas.List.{reverse-append, reverse-reverse}
use Rattle.clock_gate.specs.declared.trace.Trace.{Trace}
use Rattle.segment_layout.specs.declared.publication.Publication.{Publication}
use Rattle.interval_now.specs.declared.answers.Answer.{Answer}
use Rattle.abstract_run.specs.declared.event.Event.{Event}
use Rattle.abstract_run.specs.declared.event.Event.TheVariants.{Opened, Moved, Published, Skipped, Stopped, Answered}
use Rattle.abstract_run.specs.declared.event.Trail.{Trail}
use Rattle.abstract_run.specs.RunFacts.{PublishedEvent, HasPublication, told_at, told_by, is_moved_to, AllEarlier, AllTell, PublishedTells, TrailTells}

-- ---- lists told by a place in them

pub reverse_split : {A : Type 0} (before after : List A) (x : A) → reverse (before ++ x ∷ after) ≡ reverse after ++ x ∷ reverse before
reverse_split before after x =
    reverse-append before (x ∷ after)
    ∙ (ap (λ l. l ++ reverse before) (reverse-append (x ∷ []) after)
    ∙ append_assoc (reverse after) (x ∷ []) (reverse before))

-- a list told from its end, told from its start
pub told_back : {A : Type 0} (events later past : List A) (x : A) → reverse events ≡ later ++ x ∷ past → events ≡ reverse past ++ x ∷ reverse later
told_back events later past x is = sym (reverse-reverse events) ∙ (ap reverse is ∙ reverse_split later past x)

-- ---- publications

abbrev pub publication_event : PublishedEvent → Event
publication_event ended = Published ended.position ended.publication ended.marked_at ended.replied_at

-- ---- the newest first: an earlier one has a lesser position, and is of a lesser poll

earlier_at : (later past : List Event) (position poll replied_at : ℕ) (ended : PublishedEvent) → AllEarlier position poll replied_at (later ++ publication_event ended ∷ past)
    → (ended.position < position) × (ended.publication.poll < poll) × (ended.replied_at ≤ replied_at)
earlier_at [] past position poll replied_at ended all = (all.0, all.1, all.2)
earlier_at (Opened which begins ∷ later) past position poll replied_at ended all = earlier_at later past position poll replied_at ended all
earlier_at (Moved which to generation ∷ later) past position poll replied_at ended all = earlier_at later past position poll replied_at ended all.1
earlier_at (Published to publication marked_at before ∷ later) past position poll replied_at ended all = earlier_at later past position poll replied_at ended all.3
earlier_at (Skipped which first last ∷ later) past position poll replied_at ended all = earlier_at later past position poll replied_at ended all
earlier_at (Stopped which stores ∷ later) past position poll replied_at ended all = earlier_at later past position poll replied_at ended all
earlier_at (Answered client call answer trail ∷ later) past position poll replied_at ended all = earlier_at later past position poll replied_at ended all

more_than : (n m : ℕ) → n < m → nat_eq m n ≡ false
more_than n m lt = ne_eqb m n (λ same. (let most = lt in absurd (omega (arith, most, same))))

told_at_it : (trace : Trace) (later past : List Event) (ended : PublishedEvent) → AllTell trace (later ++ publication_event ended ∷ past)
    → told_at ended.position (later ++ publication_event ended ∷ past) ≡ Some ended
told_at_it trace [] past ended all = ap (λ (b : Bool). cond b (Some ended) (told_at ended.position past)) (eq-eqb ended.position ended.position refl)
told_at_it trace (Opened which begins ∷ later) past ended all = told_at_it trace later past ended all
told_at_it trace (Moved which to generation ∷ later) past ended all = told_at_it trace later past ended all
told_at_it trace (Published to publication marked_at before ∷ later) past ended all =
    ap (λ (b : Bool). cond b (Some (record { position = to; publication = publication; marked_at = marked_at; replied_at = before })) (told_at ended.position (later ++ publication_event ended ∷ past)))
    (more_than ended.position to (earlier_at later past to publication.poll before ended all.0.earlier).0)
    ∙ told_at_it trace later past ended all.1
told_at_it trace (Skipped which first last ∷ later) past ended all = told_at_it trace later past ended all
told_at_it trace (Stopped which stores ∷ later) past ended all = told_at_it trace later past ended all
told_at_it trace (Answered client call answer trail ∷ later) past ended all = told_at_it trace later past ended all.1

told_by_it : (trace : Trace) (later past : List Event) (ended : PublishedEvent) → AllTell trace (later ++ publication_event ended ∷ past)
    → told_by ended.publication.poll (later ++ publication_event ended ∷ past) ≡ Some ended
told_by_it trace [] past ended all = ap (λ (b : Bool). cond b (Some ended) (told_by ended.publication.poll past)) (eq-eqb ended.publication.poll ended.publication.poll refl)
told_by_it trace (Opened which begins ∷ later) past ended all = told_by_it trace later past ended all
told_by_it trace (Moved which to generation ∷ later) past ended all = told_by_it trace later past ended all
told_by_it trace (Published to publication marked_at before ∷ later) past ended all =
    ap (λ (b : Bool). cond b (Some (record { position = to; publication = publication; marked_at = marked_at; replied_at = before })) (told_by ended.publication.poll (later ++ publication_event ended ∷ past)))
    (more_than ended.publication.poll publication.poll (earlier_at later past to publication.poll before ended all.0.earlier).1)
    ∙ told_by_it trace later past ended all.1
told_by_it trace (Skipped which first last ∷ later) past ended all = told_by_it trace later past ended all
told_by_it trace (Stopped which stores ∷ later) past ended all = told_by_it trace later past ended all
told_by_it trace (Answered client call answer trail ∷ later) past ended all = told_by_it trace later past ended all.1

-- ---- and one that is told is among them

record IsAmong (past : List Event) (ended : PublishedEvent) : Type 0 where
  later : List Event
  earlier : List Event
  stands : past ≡ later ++ publication_event ended ∷ earlier

among_more : (event : Event) (past : List Event) (ended : PublishedEvent) → IsAmong past ended → IsAmong (event ∷ past) ended
among_more event past ended is = record { later = event ∷ is.later; earlier = is.earlier; stands = ap (λ l. event ∷ l) is.stands }

some_same : (one other : PublishedEvent) → Some one ≡ Some other → one ≡ other
some_same one other same = cc same

among_here : (one ended : PublishedEvent) (past : List Event) → Some one ≡ Some ended → IsAmong (publication_event one ∷ past) ended
among_here one ended past same = record { later = []; earlier = past; stands = ap (λ (e : PublishedEvent). publication_event e ∷ past) (some_same one ended same) }

among_at : (n : ℕ) (past : List Event) (ended : PublishedEvent) → told_at n past ≡ Some ended → IsAmong past ended × (ended.position ≡ n)
among_at n [] ended found = absurd (true≢false (sym (ap is_some found)))
among_at n (Opened which begins ∷ past) ended found = let rest = among_at n past ended found in (among_more (Opened which begins) past ended rest.0, rest.1)
among_at n (Moved which to generation ∷ past) ended found = let rest = among_at n past ended found in (among_more (Moved which to generation) past ended rest.0, rest.1)
among_at n (Published to publication marked_at before ∷ past) ended found =
    elim (cases_Bool (nat_eq to n)) [
      | inl here ↦
          (let one : PublishedEvent = record { position = to; publication = publication; marked_at = marked_at; replied_at = before } in
          let same : Some (record { position = to; publication = publication; marked_at = marked_at; replied_at = before }) ≡ Some ended =
          sym (ap (λ (b : Bool). cond b (Some (record { position = to; publication = publication; marked_at = marked_at; replied_at = before })) (told_at n past)) here) ∙ found in (
            among_here (record { position = to; publication = publication; marked_at = marked_at; replied_at = before }) ended past same,
            ap (λ (e : PublishedEvent). e.position) (sym (some_same (record { position = to; publication = publication; marked_at = marked_at; replied_at = before }) ended same)) ∙ eqb-true to n here,
          ))
      | inr other ↦
          (let rest = among_at n past ended (sym (ap (λ (b : Bool). cond b (Some (record { position = to; publication = publication; marked_at = marked_at; replied_at = before })) (told_at n past)) other) ∙ found) in
          (among_more (Published to publication marked_at before) past ended rest.0, rest.1))
    ]
among_at n (Skipped which first last ∷ past) ended found = let rest = among_at n past ended found in (among_more (Skipped which first last) past ended rest.0, rest.1)
among_at n (Stopped which stores ∷ past) ended found = let rest = among_at n past ended found in (among_more (Stopped which stores) past ended rest.0, rest.1)
among_at n (Answered client call answer trail ∷ past) ended found = let rest = among_at n past ended found in (among_more (Answered client call answer trail) past ended rest.0, rest.1)

among_by : (n : ℕ) (past : List Event) (ended : PublishedEvent) → told_by n past ≡ Some ended → IsAmong past ended × (ended.publication.poll ≡ n)
among_by n [] ended found = absurd (true≢false (sym (ap is_some found)))
among_by n (Opened which begins ∷ past) ended found = let rest = among_by n past ended found in (among_more (Opened which begins) past ended rest.0, rest.1)
among_by n (Moved which to generation ∷ past) ended found = let rest = among_by n past ended found in (among_more (Moved which to generation) past ended rest.0, rest.1)
among_by n (Published to publication marked_at before ∷ past) ended found =
    elim (cases_Bool (nat_eq publication.poll n)) [
      | inl here ↦
          (let same : Some (record { position = to; publication = publication; marked_at = marked_at; replied_at = before }) ≡ Some ended =
          sym (ap (λ (b : Bool). cond b (Some (record { position = to; publication = publication; marked_at = marked_at; replied_at = before })) (told_by n past)) here) ∙ found in (
            among_here (record { position = to; publication = publication; marked_at = marked_at; replied_at = before }) ended past same,
            ap (λ (e : PublishedEvent). e.publication.poll) (sym (some_same (record { position = to; publication = publication; marked_at = marked_at; replied_at = before }) ended same)) ∙ eqb-true publication.poll n here,
          ))
      | inr other ↦
          (let rest = among_by n past ended (sym (ap (λ (b : Bool). cond b (Some (record { position = to; publication = publication; marked_at = marked_at; replied_at = before })) (told_by n past)) other) ∙ found) in
          (among_more (Published to publication marked_at before) past ended rest.0, rest.1))
    ]
among_by n (Skipped which first last ∷ past) ended found = let rest = among_by n past ended found in (among_more (Skipped which first last) past ended rest.0, rest.1)
among_by n (Stopped which stores ∷ past) ended found = let rest = among_by n past ended found in (among_more (Stopped which stores) past ended rest.0, rest.1)
among_by n (Answered client call answer trail ∷ past) ended found = let rest = among_by n past ended found in (among_more (Answered client call answer trail) past ended rest.0, rest.1)

-- ---- a move that is told is among them

record IsMoveAmong (past : List Event) (n : ℕ) : Type 0 where
  later : List Event
  earlier : List Event
  poll : ℕ
  generation : ℕ
  stands : past ≡ later ++ Moved poll n generation ∷ earlier

move_more : (event : Event) (past : List Event) (n : ℕ) → IsMoveAmong past n → IsMoveAmong (event ∷ past) n
move_more event past n is = record { later = event ∷ is.later; earlier = is.earlier; poll = is.poll; generation = is.generation; stands = ap (λ l. event ∷ l) is.stands }

move_among : (n : ℕ) (past : List Event) → is_moved_to n past ≡ true → IsMoveAmong past n
move_among n [] is = absurd (true≢false (sym is))
move_among n (Opened which begins ∷ past) is = move_more (Opened which begins) past n (move_among n past is)
move_among n (Moved which to generation ∷ past) is =
    elim (cases_Bool (nat_eq to n)) [
      | inl here ↦
          (let same : to ≡ n = eqb-true to n here in
          subst (λ (k : ℕ). IsMoveAmong (Moved which to generation ∷ past) k) same (record { later = []; earlier = past; poll = which; generation = generation; stands = refl }))
      | inr other ↦ move_more (Moved which to generation) past n (move_among n past (ap (λ (b : Bool). b || is_moved_to n past) (sym other) ∙ is))
    ]
move_among n (Published to publication marked_at before ∷ past) is = move_more (Published to publication marked_at before) past n (move_among n past is)
move_among n (Skipped which first last ∷ past) is = move_more (Skipped which first last) past n (move_among n past is)
move_among n (Stopped which stores ∷ past) is = move_more (Stopped which stores) past n (move_among n past is)
move_among n (Answered client call answer trail ∷ past) is = move_more (Answered client call answer trail) past n (move_among n past is)

-- ---- in both orders

-- of all events that were told, the newest first: what one of them tells
told_last : (trace : Trace) (later past : List Event) → AllTell trace (later ++ past) → AllTell trace past
told_last trace [] past all = all
told_last trace (Opened which begins ∷ later) past all = told_last trace later past all
told_last trace (Moved which to generation ∷ later) past all = told_last trace later past all
told_last trace (Published to publication marked_at before ∷ later) past all = told_last trace later past all.1
told_last trace (Skipped which first last ∷ later) past all = told_last trace later past all
told_last trace (Stopped which stores ∷ later) past all = told_last trace later past all
told_last trace (Answered client call answer trail ∷ later) past all = told_last trace later past all.1

module _ (trace : Trace) (told : List Event) (all : AllTell trace (reverse told)) (before after : List Event) where
  told_there : (event : Event) → told ≡ before ++ event ∷ after → AllTell trace (event ∷ reverse before)
  told_there event is = told_last trace (reverse after) (event ∷ reverse before) (subst (AllTell trace) (ap reverse is ∙ reverse_split before after event) all)

  pub publication_tells : (position : ℕ) (publication : Publication) (marked_at replied_at : ℕ) → told ≡ before ++ Published position publication marked_at replied_at ∷ after
      → PublishedTells trace (reverse before) position publication marked_at replied_at
  publication_tells position publication marked_at replied_at is = (told_there (Published position publication marked_at replied_at) is).0

  pub answer_tells : (client call : ℕ) (answer : Answer) (trail : Option Trail) → told ≡ before ++ Answered client call answer trail ∷ after → TrailTells trace (reverse before) answer trail
  answer_tells client call answer trail is = (told_there (Answered client call answer trail) is).0

  pub tells_before : (event : Event) → told ≡ before ++ event ∷ after → AllTell trace (reverse before)
  tells_before event is = told_last trace (event ∷ []) (reverse before) (told_there event is)

module _ (before : List Event) where
  placed : (ended : PublishedEvent) (is : HasPublication before ended) → reverse before ≡ reverse is.1.0 ++ publication_event ended ∷ reverse is.0
  placed ended is = ap reverse is.1.1 ∙ reverse_split is.0 is.1.0 (publication_event ended)

  pub at_it : (trace : Trace) (ended : PublishedEvent) → AllTell trace (reverse before) → HasPublication before ended → told_at ended.position (reverse before) ≡ Some ended
  at_it trace ended all is =
      ap (told_at ended.position) (placed ended is) ∙ told_at_it trace (reverse is.1.0) (reverse is.0) ended (subst (λ (l : List Event). AllTell trace l) (placed ended is) all)

  pub by_it : (trace : Trace) (ended : PublishedEvent) → AllTell trace (reverse before) → HasPublication before ended → told_by ended.publication.poll (reverse before) ≡ Some ended
  by_it trace ended all is =
      ap (told_by ended.publication.poll) (placed ended is) ∙ told_by_it trace (reverse is.1.0) (reverse is.0) ended (subst (λ (l : List Event). AllTell trace l) (placed ended is) all)

  pub all_earlier : (position poll replied_at : ℕ) (ended : PublishedEvent) → AllEarlier position poll replied_at (reverse before) → HasPublication before ended
      → (ended.position < position) × (ended.publication.poll < poll) × (ended.replied_at ≤ replied_at)
  all_earlier position poll replied_at ended all is = earlier_at (reverse is.1.0) (reverse is.0) position poll replied_at ended (subst (AllEarlier position poll replied_at) (placed ended is) all)

  published_in : (ended : PublishedEvent) → IsAmong (reverse before) ended → HasPublication before ended
  published_in ended is = (reverse is.earlier, (reverse is.later, told_back before is.later is.earlier (publication_event ended) is.stands))

  pub publication_at : (n : ℕ) (ended : PublishedEvent) → told_at n (reverse before) ≡ Some ended → HasPublication before ended × (ended.position ≡ n)
  publication_at n ended found = let at = among_at n (reverse before) ended found in (published_in ended at.0, at.1)

  pub publication_by : (n : ℕ) (ended : PublishedEvent) → told_by n (reverse before) ≡ Some ended → HasPublication before ended × (ended.publication.poll ≡ n)
  publication_by n ended found = let by = among_by n (reverse before) ended found in (published_in ended by.0, by.1)

  pub moved_in : (n : ℕ) → is_moved_to n (reverse before) ≡ true → (earlier : List Event) × ((later : List Event) × ((poll : ℕ) × ((generation : ℕ) × (before ≡ earlier ++ Moved poll n generation ∷ later))))
  moved_in n moved =
      let is = move_among n (reverse before) moved in
      (reverse is.earlier, (reverse is.later, (is.poll, (is.generation, told_back before is.later is.earlier (Moved is.poll n is.generation) is.stands))))
