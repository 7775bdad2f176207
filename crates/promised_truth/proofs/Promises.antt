-- The promises of an answer are those of its claim: the judge and the run tell one marker at each host position.
use Rattle.std.proofs.Common.{◌≡◌, ℕ, ◌<◌, ◌≤◌, List, Option, sym, subst}
use Rattle.std.proofs.Math.Path.{fun_ext}
use Rattle.clock_gate.specs.declared.trace.Trace.{Trace}
use Rattle.interval_now.specs.declared.answers.Timed.{Timed}
use Rattle.abstract_run.specs.declared.event.Event.{Event}
use Rattle.abstract_run.specs.declared.event.Trail.{Trail}
use Rattle.abstract_run.specs.RunFacts.{PublishedEvent}
use Rattle.abstract_run.specs.HostRun.{clocks_at, marker_at}
use Rattle.abstract_run.specs.Given.{CanRun}
use Rattle.promise_judge.specs.Containment as judge
use Rattle.kept_promises.specs.Kept.{ArePromisesKept}
use Rattle.kept_promises.specs.Rows.{Disrupts, ChangesMarker, HasMark, IsNewMarker}
use Rattle.run_promises.specs.Judged.{poll_claim}
use Rattle.run_promises.proofs.PageMarkers.{judge_marker}
use Rattle.promised_truth.specs.Promised.{IsBasedOn, KeepsPromises}

module _ (trace : Trace) (can : CanRun trace) (before : List Event) (time : Timed) (trail : Trail) where
  same_markers : judge.marker_at trace ≡ marker_at trace
  same_markers = fun_ext (λ done. judge_marker trace done can.rows)

  abbrev KeepsMark : PublishedEvent → (ℕ → Option ℕ) → Type 0
  KeepsMark base markers = (p : ℕ) → base.marked_at < p → clocks_at trace.host p < time.row → Disrupts trace p → HasMark markers trail.mark_at p

  abbrev KeepsRepeat : (ℕ → Option ℕ) → Type 0
  KeepsRepeat markers = (p : ℕ) → p ≤ trail.mark_at → ChangesMarker markers p → IsNewMarker markers p

  pub promises_of : (told base : PublishedEvent) → IsBasedOn before trail told base → ArePromisesKept trace (poll_claim time trail told base) → KeepsPromises trace before time trail
  promises_of told base found kept = record {
    told = told;
    base = base;
    found = found;
    wrap = kept.wrap;
    image = kept.image;
    untold = kept.untold;
    bound = kept.bound;
    drift = kept.drift;
    mark = subst (KeepsMark base) same_markers kept.mark;
    repeat = subst KeepsRepeat same_markers kept.repeat;
  }

  pub promises_by : (kept : KeepsPromises trace before time trail) → ArePromisesKept trace (poll_claim time trail kept.told kept.base)
  promises_by kept = record {
    wrap = kept.wrap;
    image = kept.image;
    untold = kept.untold;
    bound = kept.bound;
    drift = kept.drift;
    mark = subst (KeepsMark kept.base) (sym same_markers) kept.mark;
    repeat = subst KeepsRepeat (sym same_markers) kept.repeat;
  }
