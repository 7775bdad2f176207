use Rattle.std.proofs.Common.{slice_index_or, ◌≡◌, ◌+◌, ◌-◌, List, [], ◌∷◌, drop, length, arith, ap, sym, ◌∙◌}
use Rattle.std.proofs.lemmas.List.{drop_all, drop_more}
use Rattle.interval_now.specs.declared.answers.Answer.{Answer}
use Rattle.lawful_report.specs.declared.counts.Counts.{Counts}
use Rattle.live_report.specs.declared.limits.TheConstants.{MOST_LINES}
use Rattle.live_report.specs.Counted.{answers_counted, answers_in, clients_counted}
use Rattle.live_report.proofs.Parts.{answers_in_more, up_to_more}
use Rattle.live_report.proofs.counts.clients_counted.Goals as goal

pub clients-preserved : goal.clients-preserved
clients-preserved c =
    let answers = c.args.answers.now in
    let i = c.clients.mine-index in
    let mine = c.mine-item.result in
    let rest = drop (i + 1) answers in
    let here : drop i answers ≡ mine ∷ rest = drop_more answers i mine (omega (arith, c.clients-test.true)) ∙ ap (λ (a : List Answer). a ∷ rest) (sym c.mine-item.is) in
    let sums : answers_in (drop i answers) ≡ length mine + answers_in rest = ap answers_in here in
    let few = c.clients.invariant.few in
    let same = c.as_slice.ensures in
    let long : length c.as_slice.result.now ≡ length mine = ap (λ (l : List Answer). length l) same in
    record {
      counted = ap (λ (t : Counts). clients_counted t rest) (c.answers_counted-counts.ensures.value ∙ ap (λ (l : List Answer). answers_counted c.clients.counts l) same)
          ∙ ap (λ (l : List (List Answer)). clients_counted c.clients.counts l) (sym here) ∙ c.clients.invariant.counted;
      few = omega (arith, few, sums);
      room = up_to_more (MOST_LINES - answers_in (drop i answers) + length c.as_slice.result.now) (MOST_LINES - answers_in rest) c.answers_counted-counts.result (omega (arith, few, sums, long))
          (c.answers_counted-counts.ensures.next (MOST_LINES - answers_in (drop i answers)) c.clients.invariant.room);
    }

pub returns : goal.returns
returns c =
    let over : drop c.clients.mine-index c.args.answers.now ≡ [] = drop_all c.clients.mine-index c.args.answers.now (omega (arith, c.clients-test.false)) in
    rw over at c.clients.invariant.counted

pub answers_counted-counts-requires-clause-few : goal.answers_counted-counts-requires-clause-few
answers_counted-counts-requires-clause-few c =
    let answers = c.args.answers.now in
    let i = c.clients.mine-index in
    let sums = answers_in_more answers i c.mine-item.result (omega (arith, c.clients-test.true)) in
    let long : length c.as_slice.result.now ≡ length (slice_index_or answers i c.mine-item.result) = ap (λ (l : List Answer). length l) (c.as_slice.ensures ∙ c.mine-item.is) in
    let few = c.clients.invariant.few in
    omega (arith, few, sums, long)

pub answers_counted-counts-requires-clause-room : goal.answers_counted-counts-requires-clause-room
answers_counted-counts-requires-clause-room c =
    let answers = c.args.answers.now in
    let i = c.clients.mine-index in
    let sums = answers_in_more answers i c.mine-item.result (omega (arith, c.clients-test.true)) in
    let long : length c.as_slice.result.now ≡ length (slice_index_or answers i c.mine-item.result) = ap (λ (l : List Answer). length l) (c.as_slice.ensures ∙ c.mine-item.is) in
    up_to_more (MOST_LINES - answers_in (drop i answers)) (MOST_LINES - length c.as_slice.result.now) c.clients.counts (omega (arith, sums, long)) c.clients.invariant.room
