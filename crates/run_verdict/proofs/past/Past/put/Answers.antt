use Rattle.std.proofs.Common.{◌≡◌, nat_eq, slice_index_or, Some, sym, ◌∙◌, ap}
use Rattle.std.proofs.lemmas.List.{get_or_default}
use Rattle.std.specs.HashMap.{get}
use Rattle.abstract_run.specs.RunFacts.{PublishedEvent}
use Rattle.run_verdict.specs.Past.{no_event, ended_in}
use Rattle.run_verdict.proofs.PastNext.{read_next, base_next, before_next}
use Rattle.run_verdict.proofs.past.Past.put.Goals as goal

pub returns-in_ok-insert-2 : goal.returns-in_ok-insert-2
returns-in_ok-insert-2 c =
    let events = c.args.events.now in
    let place = c.args.place in
    let i = c.ended.inside in
    let ended : PublishedEvent = record { position = i.position; publication = i.publication; marked_at = i.marked_at; replied_at = i.replied_at } in
    let here : ended_in (slice_index_or events place no_event) ≡ Some ended =
    ap ended_in (get_or_default events place no_event c.index-events-place.result c.requires.here ∙ sym c.index-events-place.is) ∙ sym c.ended_in.ensures ∙ c.in-Some.is ∙ ap (λ (e : PublishedEvent). Some e) (sym c.ended.view_is) in
    let old = c.requires.shows in
    record {
      read = λ n. read_next events place n ended (get nat_eq c.args.self.now.by_position n) (get nat_eq c.insert.new.self n) here (old.read n) (c.in_ok-insert.ensures.updates.0 n);
      base = λ n. base_next events place n ended (get nat_eq c.args.self.now.by_poll n) (get nat_eq c.insert-in-Some.new.self n) here (old.base n) (c.in_ok-insert-2.ensures.updates.0 n);
      read_before = λ n at. before_next place at (nat_eq ended.position n) (get nat_eq c.args.self.now.by_position n) (get nat_eq c.insert.new.self n) (old.read_before n at) (c.in_ok-insert.ensures.updates.0 n);
      base_before = λ n at. before_next place at (nat_eq ended.publication.poll n) (get nat_eq c.args.self.now.by_poll n) (get nat_eq c.insert-in-Some.new.self n) (old.base_before n at) (c.in_ok-insert-2.ensures.updates.0 n);
    }
