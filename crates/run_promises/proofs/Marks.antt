-- A poll that isn't disrupted has the marker under which its base was taken: over the polls of one incarnation.
use Rattle.std.proofs.Common.{◌≡◌, ℕ, ◌<◌, Bool, true, false, not, ◌&&◌, ◌||◌, ◌==◌, if◌then◌else◌, List, [], ◌∷◌, Option, Some, None, is_some, refl, ap, sym, ◌∙◌, inl, inr, arith, true≢false}
use Rattle.std.proofs.lemmas.Bool.{cases_Bool, not-false}
use Rattle.std.proofs.lemmas.Bool.Decides.{nat_tests}
use Rattle.clock_gate.specs.declared.trace.Trace.{Trace}
use Rattle.candm_codec.specs.declared.tracking.RefTime.{RefTime}
use Rattle.segment_layout.specs.declared.publication.Publication.{Publication}
use Rattle.segment_layout.specs.Record.{RecordFields}
use Rattle.segment_layout.specs.declared.start.Start.{Start}
use Rattle.segment_layout.specs.declared.start.Start.TheVariants.{Fresh, Kept, Torn}
use Rattle.status_machine.specs.declared.base.Base.{Base}
use Rattle.status_machine.specs.declared.poll.Poll.{Poll}
use Rattle.status_machine.specs.Poll.{reference_of, has_other_time, base_of_poll, is_good}
use Rattle.status_machine.specs.Incarnation.{Incarnation, is_other, marks, one_later, since_mark, guard_of, is_absorbed, is_unabsorbed, is_disrupted, base_at, start_base}
use Rattle.status_machine.specs.BaseMarker.{start_marker}
use Rattle.status_machine.proofs.BaseMarker.{marker_before}
use Rattle.status_machine.proofs.BaseOfPoll.{base_of_poll-number}
use Rattle.status_machine.proofs.LookBack.{absorbs, absorbed_none, is_absorbed-append}
use Rattle.abstract_run.specs.declared.event.Event.{Event}
use Rattle.abstract_run.specs.declared.event.Event.TheVariants.{Published}
use Rattle.abstract_run.specs.DaemonRun.{Life}
use Rattle.abstract_run.specs.RunFacts.{PublishedEvent, told_by, AllEarlier}
use Rattle.abstract_run.specs.HostRun.{marker_by, marker_at}
use Rattle.abstract_run.proofs.RunFactsBases.{told_below, other_found}
use Rattle.run_promises.specs.Told.{IsMarkOf}

-- ---- a poll that doesn't mark leaves a mark as it is, unless it is good

and_first : (a b : Bool) → (a && b) ≡ true → a ≡ true
and_first true b t = refl
and_first false b t = t

or_first : (a b : Bool) → (a || b) ≡ true → b ≡ false → a ≡ true
or_first true b t f = refl
or_first false b t f = absurd (true≢false (sym t ∙ f))

not_true : (b : Bool) → (b ≡ true → false ≡ true) → b ≡ false
not_true true h = absurd (true≢false (sym (h refl)))
not_true false h = refl

absorbs_good : (guard : Option RefTime) (poll : Poll) → absorbs guard poll ≡ true → is_good poll ≡ true
unfolding absorbs
absorbs_good None poll t = absurd (true≢false (sym t))
absorbs_good (Some guard) poll t = and_first (is_good poll) (has_other_time guard (reference_of poll.heard)) t

earlier_absorbed : (since : Option (List Poll)) (poll : Poll) → is_unabsorbed (one_later since poll) ≡ false → is_good poll ≡ false → is_unabsorbed since ≡ false
earlier_absorbed None poll calm bad = refl
earlier_absorbed (Some polls) poll calm bad =
    ap not (or_first (is_absorbed polls) (absorbs (guard_of polls) poll) (sym (is_absorbed-append polls poll) ∙ not-false _ calm)
    (not_true _ (λ t. sym bad ∙ absorbs_good (guard_of polls) poll t)))

not_good : (disrupted good : Bool) → disrupted ≡ false → (not disrupted && good) ≡ false → good ≡ false
not_good false good calm test = test
not_good true good calm test = absurd (true≢false calm)

marking_disrupts : (start : Start) (past : List Poll) (poll : Poll) → marks start past poll.marker ≡ true → is_disrupted start (poll ∷ past) ≡ true
marking_disrupts start past poll marking = rw marking (ap not (absorbed_none (reference_of poll.heard)))

calm_before : (start : Start) (past : List Poll) (poll : Poll) → marks start past poll.marker ≡ false → is_disrupted start (poll ∷ past) ≡ false
    → (not (is_disrupted start (poll ∷ past)) && is_good poll) ≡ false → is_disrupted start past ≡ false
calm_before start past poll quiet calm test =
    let later : is_disrupted start (poll ∷ past) ≡ is_unabsorbed (one_later (since_mark start past) poll) = rw quiet refl in
    earlier_absorbed (since_mark start past) poll (sym later ∙ calm) (not_good (is_disrupted start (poll ∷ past)) (is_good poll) calm test)

-- ---- a poll that doesn't mark has the marker before

same_number : (held x : ℕ) → not (held == x) ≡ false → held ≡ x
same_number held x test = grind (arith, nat_tests, test)

same_as_held : (held marker : Option ℕ) (marking : Bool) → is_some marker ≡ is_some held → ((x : ℕ) → marker ≡ Some x → marking ≡ is_other held x) → marking ≡ false → marker ≡ held
same_as_held None None marking same tests quiet = refl
same_as_held (Some y) None marking same tests quiet = absurd (true≢false (sym same))
same_as_held None (Some x) marking same tests quiet = absurd (true≢false same)
same_as_held (Some y) (Some x) marking same tests quiet = ap Some (sym (same_number y x (sym (tests x refl) ∙ quiet)))

kept_other : (support : Bool) (marker x : ℕ) → is_some (if support then Some marker else None) ≡ true → (not support || not (marker == x)) ≡ is_other (if support then Some marker else None) x
kept_other true marker x is = refl
kept_other false marker x is = absurd (true≢false (sym is))

kept_same : (generation : ℕ) (rec : RecordFields) (marker : Option ℕ) → is_some marker ≡ is_some (start_marker (Kept generation rec)) → marks (Kept generation rec) [] marker ≡ false
    → marker ≡ start_marker (Kept generation rec)
kept_same generation rec None same quiet = same_as_held (start_marker (Kept generation rec)) None false same (λ x e. absurd (true≢false (ap is_some (sym e)))) refl
kept_same generation rec (Some x) same quiet =
    same_as_held (start_marker (Kept generation rec)) (Some x) (marks (Kept generation rec) [] (Some x)) same
    (λ y e. ap (marks (Kept generation rec) []) e ∙ kept_other rec.support rec.marker y (sym same)) quiet

start_same : (start : Start) (number : ℕ) (marker : Option ℕ) → is_some marker ≡ is_some (start_marker start) → is_some (start_base start number) ≡ true → marks start [] marker ≡ false
    → marker ≡ start_marker start
start_same Fresh number marker same based quiet = absurd (true≢false (sym based))
start_same (Torn generation) number marker same based quiet = absurd (true≢false (sym based))
start_same (Kept generation rec) number marker same based quiet = kept_same generation rec marker same quiet

unmarked_same : (from : Incarnation) (past : List Poll) (marker : Option ℕ) → is_some marker ≡ is_some (marker_before from.start past) → is_some (base_at from past) ≡ true
    → marks from.start past marker ≡ false → marker ≡ marker_before from.start past
unmarked_same from [] marker same based quiet = start_same from.start from.base marker same based quiet
unmarked_same from (last ∷ past) marker same based quiet = same_as_held last.marker marker (marks from.start (last ∷ past) marker) same (λ x e. ap (marks from.start (last ∷ past)) e) quiet

-- ---- the marker under which a base was taken

abbrev pub BaseMarked : Trace → List Event → Option Base → Option ℕ → Type 0
BaseMarked trace past None marker = Unit {0}
BaseMarked trace past (Some base) marker = 0 < base.poll → IsMarkOf trace past base.poll marker

-- while an incarnation isn't disrupted, its last marker is the one under which its base was taken
abbrev pub LifeMarked : Trace → List Event → Life → Type 0
LifeMarked trace past life = is_disrupted life.from.start life.past ≡ false → BaseMarked trace past (base_at life.from life.past) (marker_before life.from.start life.past)

some_marker : (trace : Trace) (one other : ℕ) (page : Option (List ℕ)) → is_some (marker_by trace one page) ≡ is_some (marker_by trace other page)
some_marker trace one other None = refl
some_marker trace one other (Some page) = refl

own_found : (test : Bool) (one : PublishedEvent) (rest : Option PublishedEvent) → test ≡ true → (if test then Some one else rest) ≡ Some one
own_found test one rest on = rw on refl

module _ (trace : Trace) (past : List Event) (position : ℕ) (publication : Publication) (marked_at replied_at : ℕ) where
  abbrev one : PublishedEvent
  one = record { position = position; publication = publication; marked_at = marked_at; replied_at = replied_at }

  abbrev more : List Event
  more = Published position publication marked_at replied_at ∷ past

  -- an earlier poll's publication isn't hidden
  pub mark_later : (least done poll : ℕ) (marker : Option ℕ) → AllEarlier least publication.poll done past → IsMarkOf trace past poll marker → IsMarkOf trace more poll marker
  mark_later least done poll marker earlier is =
      let below : poll < publication.poll = told_below least publication.poll done poll past is.told earlier is.found in
      let off : (publication.poll == poll) ≡ false = grind (arith, nat_tests, below) in
      record { told = is.told; found = other_found (publication.poll == poll) one is.told (told_by poll past) off is.found; same = is.same }

  -- a poll that gives the base is published now
  given_marked : (marker : Option ℕ) (given : Option Base) → marker ≡ marker_at trace marked_at → ((base : Base) → given ≡ Some base → base.poll ≡ publication.poll) → BaseMarked trace more given marker
  given_marked marker None same numbered = tt
  given_marked marker (Some base) same numbered =
      let number : base.poll ≡ publication.poll = numbered base refl in
      let on : (publication.poll == base.poll) ≡ true = grind (arith, nat_tests, number) in
      λ some. record { told = one; found = own_found (publication.poll == base.poll) one (told_by base.poll past) on; same = same }

  -- an earlier base, whose marker a poll has too
  earlier_marked : (least done : ℕ) (marker before : Option ℕ) (base : Option Base) → AllEarlier least publication.poll done past → marker ≡ marker_at trace marked_at
      → (is_some marker ≡ is_some before → is_some base ≡ true → marker ≡ before) → BaseMarked trace past base before → BaseMarked trace more base marker
  earlier_marked least done marker before None earlier own same held = tt
  earlier_marked least done marker before (Some base) earlier own same held = λ some. (
      let is : IsMarkOf trace past base.poll before = held some in
      let both : is_some marker ≡ is_some before =
      ap is_some own ∙ some_marker trace marked_at is.told.marked_at trace.page ∙ sym (ap is_some is.same) in
      mark_later least done base.poll marker earlier (record { told = is.told; found = is.found; same = same both refl ∙ is.same }))

  either_marked : (least done : ℕ) (from : Incarnation) (polls : List Poll) (poll : Poll) (test : Bool) → (not (is_disrupted from.start (poll ∷ polls)) && is_good poll) ≡ test
      → poll.number ≡ publication.poll → poll.marker ≡ marker_at trace marked_at → AllEarlier least publication.poll done past → LifeMarked trace past (record { from = from; past = polls })
      → is_disrupted from.start (poll ∷ polls) ≡ false → BaseMarked trace more (if test then base_of_poll poll else base_at from polls) poll.marker
  either_marked least done from polls poll true is number own earlier held calm = given_marked poll.marker (base_of_poll poll) own (λ base given. base_of_poll-number poll base given ∙ number)
  either_marked least done from polls poll false is number own earlier held calm = elim (cases_Bool (marks from.start polls poll.marker)) [
    | inl marking ↦ absurd (true≢false (sym (marking_disrupts from.start polls poll marking) ∙ calm))
    | inr quiet ↦
        earlier_marked least done poll.marker (marker_before from.start polls) (base_at from polls) earlier own
        (λ same based. unmarked_same from polls poll.marker same based quiet) (held (calm_before from.start polls poll quiet calm is))
  ]

  -- when its poll is published, an incarnation is marked as before
  pub poll_marked : (least done : ℕ) (life : Life) (poll : Poll) → poll.number ≡ publication.poll → poll.marker ≡ marker_at trace marked_at → AllEarlier least publication.poll done past
      → LifeMarked trace past life → LifeMarked trace more (record life { past = poll ∷ life.past })
  poll_marked least done life poll number own earlier held =
      λ calm. either_marked least done life.from life.past poll (not (is_disrupted life.from.start (poll ∷ life.past)) && is_good poll) refl number own earlier held calm

-- ---- the number of a base

abbrev pub BaseKnown : Option Base → Type 0
BaseKnown None = Unit {0}
BaseKnown (Some base) = 0 < base.poll

-- while an incarnation isn't disrupted, its base is that of a poll
abbrev pub LifeKnown : Life → Type 0
LifeKnown life = is_disrupted life.from.start life.past ≡ false → BaseKnown (base_at life.from life.past)

given_known : (poll : Poll) (given : Option Base) → base_of_poll poll ≡ given → 0 < poll.number → BaseKnown given
given_known poll None is some = tt
given_known poll (Some base) is some = let same : base.poll ≡ poll.number = base_of_poll-number poll base is in omega (arith, same, some)

known_by : (from : Incarnation) (polls : List Poll) (poll : Poll) (test : Bool) → (not (is_disrupted from.start (poll ∷ polls)) && is_good poll) ≡ test → 0 < poll.number
    → LifeKnown (record { from = from; past = polls }) → is_disrupted from.start (poll ∷ polls) ≡ false → BaseKnown (if test then base_of_poll poll else base_at from polls)
known_by from polls poll true is some held calm = given_known poll (base_of_poll poll) refl some
known_by from polls poll false is some held calm = elim (cases_Bool (marks from.start polls poll.marker)) [
  | inl marking ↦ absurd (true≢false (sym (marking_disrupts from.start polls poll marking) ∙ calm))
  | inr quiet ↦ held (calm_before from.start polls poll quiet calm is)
]

pub poll_known : (life : Life) (poll : Poll) → 0 < poll.number → LifeKnown life → LifeKnown (record life { past = poll ∷ life.past })
poll_known life poll some held = λ calm. known_by life.from life.past poll (not (is_disrupted life.from.start (poll ∷ life.past)) && is_good poll) refl some held calm
