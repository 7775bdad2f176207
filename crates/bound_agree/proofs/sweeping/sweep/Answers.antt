use Rattle.std.proofs.Common.{rules, ◌≡◌, FitsSigned, w64, List, append_assoc, arith, None, subst, sym}
use Rattle.std.specs.Map.Iter.{deref_pair}
use Rattle.std.proofs.lemmas.Map.Iter.{rest_more}
use Rattle.std.proofs.lemmas.Int.{to_z-of_z, ints}
use Rattle.bound_agree.specs.Board.{is_held}
use Rattle.bound_agree.specs.Runs.{AreRuns}
use Rattle.bound_agree.specs.Span.{SpanEnds}
use Rattle.bound_agree.proofs.Counting.{can_sweep, swept_runs}
use Rattle.bound_agree.proofs.OneSweep.{sweep}
use Rattle.bound_agree.proofs.sweeping.sweep.Goals as goal

pub edges-init : goal.edges-init
edges-init c =
    let whole : c.into_iter-at-iterator.result ≡ c.args.edges.now.entries = search rules in
    record {
      can = rw whole (can_sweep c.requires.edges.0 c.args.edges.now.entries c.args.need c.requires.edges.1);
      all = search rules;
    }

pub edges-preserved : goal.edges-preserved
edges-preserved c =
    let e = rest_more deref_pair c.edges.at-iterator c.next.new.self c.next.result (c.in-Some.at, c.in-Some.counts) c.in-Some.is c.next.ensures.steps in
    let can = rw e at c.edges.invariant.can in
    let all = rw e at c.edges.invariant.all in
    let fits : FitsSigned w64 c.in-Some.at.now = omega (arith, ints, can.0.0, can.0.1) in
    let done = simp to_z-of_z at c.in_ok-close.ensures in
    let set = simp to_z-of_z at c.opened-run.ensures in
    record { can = rw (set, c.after-held.ensures) can.4; all = rw (done, set, c.after-held.ensures, append_assoc) all }

pub returns : goal.returns
returns c =
    let all : c.edges.runs.items ≡ sweep c.args.need 0 None c.args.edges.now.entries = search rules in
    λ spans are. subst (λ (runs : List SpanEnds). AreRuns (is_held c.args.need spans) runs) (sym all) (swept_runs spans c.args.edges.now.entries c.args.need c.requires.some are)
