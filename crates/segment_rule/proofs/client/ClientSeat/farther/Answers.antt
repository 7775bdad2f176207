use Rattle.std.proofs.Common.{◌≡◌, sym, subst, ap, ◌∙◌, ◌≤◌, arith}
use Rattle.std.specs.Prelude.{is_some}
use Rattle.clock_gate.specs.declared.act.Act.TheVariants.{Load}
use Rattle.clock_gate.specs.declared.limits.TheConstants.{MOST_HOST_ROWS, MOST_CLIENTS}
use Rattle.interval_now.specs.Call.{Call, act_of}
use Rattle.segment_views.specs.declared.setup.Setup.{Setup}
use Rattle.segment_rule.specs.Calls.{Going}
use Rattle.segment_rule.proofs.Stepping.{data_known}
use Rattle.segment_rule.specs.Calls.{Stays}
use Rattle.segment_rule.proofs.LoadedWords.{stays, good_loaded, going_words, no_reading}
use Rattle.segment_rule.proofs.client.ClientSeat.farther.Goals as goal
use Rattle.segment_rule.proofs.client.ClientSeat.farther.Goals.{After-load_words-words, After-give_words}

-- the call that is under way before the loads
here : (c : After-load_words-words) → Going c.self.inside.tries c.self.inside.machine c.self.inside.seat.me.0
here c = c.self.invariant.3.going (ap (λ x. x.in_hand) c.self.view_is ∙ c.requires.hand.0) (ap (λ x. x.begun) c.self.view_is ∙ c.requires.hand.1)

wants : (c : After-load_words-words) → act_of c.self.inside.machine ≡ Load 2
wants c = c.wants_words.ensures.0 c.if-not-wants_words.false

pub give_words-requires-clause-good : goal.give_words-requires-clause-good
give_words-requires-clause-good c =
    let s = (goal.at.give_words-requires-clause-good c).After-load_words-words in
    let g = here s in
    let eight = c.load_words-words.ensures.eight in
    let known = data_known c.self.inside.machine.stage 2 c.self.inside.seat.me.0 g.is.stage g.tied (wants s) (omega arith) (omega arith) in
    good_loaded 2 c.load_words-words.result c.self.inside.seat.me.0 c.load_words-words.new.seat.me.0 c.load_words-words.ensures.told (omega arith) (omega (arith, eight)) known

going : (c : After-give_words) → Going c.self.inside.tries c.give_words.new.self c.load_words-words.new.seat.me.0
going c =
    let g = c.self.invariant.3.going (ap (λ x. x.in_hand) c.self.view_is ∙ c.requires.hand.0) (ap (λ x. x.begun) c.self.view_is ∙ c.requires.hand.1) in
    let eight = c.load_words-words.ensures.eight in
    let rows = c.requires.clock ∙ sym (ap (λ x. x.view.setup.rows) c.self.view_is) in
    subst (λ (call : Call). Going c.self.inside.tries call c.load_words-words.new.seat.me.0) (sym (c.give_words.ensures.value c.args.clock.now))
    (going_words c.args.clock.now c.self.inside.tries c.self.inside.machine c.self.inside.seat.me.0 c.load_words-words.new.seat.me.0 2 c.load_words-words.result
    c.requires.moments rows g (c.wants_words.ensures.0 c.if-not-wants_words.false) (omega arith) (omega (arith, eight)) c.load_words-words.ensures.told)

pub invariant_of-self : goal.invariant_of-self
invariant_of-self c =
    let inv = c.self.invariant in
    let kept = stays 2 c.load_words-words.result c.self.inside.seat.me.0 c.load_words-words.new.seat.me.0 c.load_words-words.ensures.told in
    let on = ap (λ x. x.begun) c.self.view_is ∙ c.requires.hand.1 in (
      c.load_words-words.ensures.slots ∙ inv.0,
      kept.seated ∙ inv.1,
      inv.2 ∙ ap (λ x. is_some x.page) (sym kept.setup),
      record {
        rows = subst (λ (setup : Setup). setup.rows ≤ MOST_HOST_ROWS) (sym kept.setup) inv.3.rows;
        fresh = λ i o. absurd (cc (sym on ∙ o));
        going = λ i o. going (goal.at.invariant_of-self c).After-give_words;
      },
      subst (λ (setup : Setup). setup.clients ≤ MOST_CLIENTS) (sym kept.setup) inv.4,
    )

-- what the loads leave
same : (c : After-give_words) → Stays c.self.inside.seat.me.0 c.load_words-words.new.seat.me.0
same c = stays 2 c.load_words-words.result c.self.inside.seat.me.0 c.load_words-words.new.seat.me.0 c.load_words-words.ensures.told

pub returns-clause-same : goal.returns-clause-same
returns-clause-same c =
    record {
      table = c.load_words-words.ensures.table ∙ ap (λ x. x.table) c.self.view_is;
      is_first = ap (λ x. x.is_first) c.self.view_is;
      splits = ap (λ x. x.splits) c.self.view_is;
      setup = (same c).setup ∙ ap (λ x. x.view.setup) c.self.view_is;
    }

pub returns-clause-reading : goal.returns-clause-reading
returns-clause-reading c = no_reading c.args.clock.now c.give_words.new.self.stage (going c).is.stage c.give_words.ensures.next

pub returns-clause-calls : goal.returns-clause-calls
returns-clause-calls c = (same c).calls ∙ ap (λ x. x.view.calls) c.self.view_is

pub returns-clause-before : goal.returns-clause-before
returns-clause-before c = (same c).before ∙ ap (λ x. x.view.before) c.self.view_is
