-- What is known of a run over plain words after any turns: its words show the abstract run, whose data words are good while a record is
-- known, and so many events are still to come.
use Rattle.std.proofs.Common.{◌≡◌, ℕ, ◌+◌, ◌-◌, ◌*◌, ◌/◌, ◌^◌, ◌<◌, ◌≤◌, List, [], ◌∷◌, ◌++◌, length, Option, Some, None, refl, sym, ap, ◌∙◌, subst, arith}
use Rattle.std.specs.Prelude.{slice_index}
use Rattle.std.proofs.lemmas.List.{get_or_append_left}
use Rattle.generation_word.specs.declared.layout.Layout.{Layout}
use Rattle.generation_word.specs.declared.layout.Layout.TheVariants.{Two, Three}
use Rattle.generation_word.specs.Layout.{period_of}
use Rattle.generation_word.specs.Header.{generation_in}
use Rattle.clock_gate.specs.declared.trace.Party.{Party}
use Rattle.clock_gate.specs.declared.trace.Party.TheVariants.{Host, Daemon, Client}
use Rattle.clock_gate.specs.declared.trace.Trace.{Trace}
use Rattle.clock_gate.specs.Trace.{IsLawfulTrace}
use Rattle.segment_run.specs.SegmentRun.{number_shown}
use Rattle.segment_run.proofs.SegmentHeader.{number_told}
use Rattle.abstract_run.specs.Given.{IsGiven}
use Rattle.abstract_run.specs.Run.{Run, client_at, start, turn, turns_by}
use Rattle.step_core.specs.SharedClient.{ClientState}
use Rattle.step_core.specs.Shared.{Shared, client_turn, page_part, shared_start, shared_turn}
use Rattle.step_core.specs.Shows.{Shows}
use Rattle.step_core.specs.WordsShow.{words_by}
use Rattle.step_core.specs.Reached.{IsReached}
use Rattle.step_core.proofs.Admits.{number_most}
use Rattle.step_core.proofs.Owes.{owed, turn_spends}
use Rattle.step_core.proofs.Starts.{start_owes}
use Rattle.step_core.proofs.Stores.{GoodStores, start_good, turn_good}
use Rattle.step_core.proofs.Turn.{start_shows, turn_shows}
use Rattle.step_core.proofs.WordsShown.{words_by_more}

-- ---- one turn more

found_trace : (w : Shared) (place : ℕ) (found : Option ClientState) → (client_turn w place found).trace ≡ w.trace
found_trace w place None = refl
found_trace w place (Some client) = refl

turn_trace : (w : Shared) (who : Party) → (shared_turn w who).trace ≡ w.trace
turn_trace w Host = refl
turn_trace w Daemon = refl
turn_trace w (Client number) = found_trace w (number - 1) (client_at w.clients number)

pub reached_turn : (w : Shared) (who : Party) → IsReached w → IsReached (shared_turn w who)
reached_turn w who reached =
    let same = turn_trace w who in
    record {
      given = subst IsGiven (sym same) reached.given;
      turns = reached.turns ++ who ∷ [];
      is = subst (λ (trace : Trace). words_by (shared_start trace) (reached.turns ++ who ∷ []) ≡ shared_turn w who) (sym same)
          (words_by_more (shared_start w.trace) reached.turns who ∙ ap (λ (before : Shared). shared_turn before who) reached.is);
    }

-- ---- what is known

pub record Knows (trace : Trace) (run : Run) (w : Shared) : Type 0 where
  pub shows : Shows trace run w
  pub stores : GoodStores run.segment
  pub small : w.daemon.position + owed w < 2 ^ 63
  pub room : length w.events + owed w ≤ 4 * length trace.polls + length trace.calls

turns_know : (trace : Trace) → IsLawfulTrace trace → (turns : List Party) (run : Run) (w : Shared) → Knows trace run w → Knows trace (turns_by trace run turns) (words_by w turns)
turns_know trace lawful [] run w knows = knows
turns_know trace lawful (who ∷ later) run w knows =
    let spends = turn_spends w who in
    turns_know trace lawful later (turn trace run who) (shared_turn w who)
    (record {
      shows = turn_shows trace lawful run w who knows.shows;
      stores = turn_good trace run w who knows.shows knows.stores;
      small = omega (arith, spends.position, knows.small);
      room = omega (arith, spends.owes, knows.room);
    })

few_positions : (layout : Layout) (number : ℕ) → number ≤ 2 * period_of layout + 1 → number / 2 ≤ 2147483647
few_positions Two number bound = omega arith
few_positions Three number bound = omega arith

start_knows : (trace : Trace) → IsGiven trace → Knows trace (start trace) (shared_start trace)
start_knows trace given =
    let shows = start_shows trace given in
    let ten = given.ten in
    let polls = given.can.lawful.polls_few in
    let calls = given.can.lawful.calls_few in
    let owes = start_owes trace in
    let told : generation_in (slice_index trace.image 1) ≡ number_shown (start trace).segment =
    ap generation_in (sym (get_or_append_left trace.image (page_part trace.page ++ 1 ∷ []) 0 1 (omega (arith, ten))) ∙ shows.segment.header) ∙ number_told (start trace).segment shows.segment.is in
    let most : number_shown (start trace).segment ≤ 2 * period_of trace.layout + 1 = subst (λ (layout : Layout). number_shown (start trace).segment ≤ 2 * period_of layout + 1) shows.same_layout (number_most (start trace).segment) in
    let few = few_positions trace.layout (generation_in (slice_index trace.image 1)) (omega (arith, told, most)) in
    record { shows = shows; stores = start_good trace given; small = omega (arith, few, owes, polls, calls); room = omega (arith, owes) }

-- what is known of a run that was reached
pub record Known (w : Shared) : Type 0 where
  pub run : Run
  pub knows : Knows w.trace run w

pub known_at : (w : Shared) → IsReached w → Known w
known_at w reached =
    record {
      run = turns_by w.trace (start w.trace) reached.turns;
      knows = subst (λ (after : Shared). Knows w.trace (turns_by w.trace (start w.trace) reached.turns) after) reached.is
          (turns_know w.trace reached.given.can.lawful reached.turns (start w.trace) (shared_start w.trace) (start_knows w.trace reached.given));
    }
