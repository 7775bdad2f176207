-- The jobs of a party end by its own turns, from any turns on.
use Rattle.std.proofs.Common.{◌≡◌, ℕ, zero, suc, ◌+◌, ◌*◌, ◌≤◌, Bool, true, false, List, [], ◌∷◌, ◌++◌, refl, ap, sym, ◌∙◌, subst, arith, inl, inr}
use Rattle.std.specs.Prelude.{◌⊎◌, ◌||◌, not, nat_le, if◌then◌else◌}
use Rattle.std.proofs.Math.ListN.{replicate}
use Rattle.std.proofs.lemmas.Bool.Decides.{nat_tests}
use Rattle.clock_gate.specs.declared.trace.Party.{Party}
use Rattle.clock_gate.specs.declared.trace.Trace.{Trace}
use Rattle.abstract_run.specs.declared.limits.TheConstants.{MOST_JOB_STEPS}
use Rattle.abstract_run.specs.Schedule as schedule
use Rattle.abstract_run.specs.Run.{Run, start, turn, turns_by}
use Rattle.abstract_run.specs.RunWhole.{jobs_ended, has_job}
use Rattle.abstract_run.proofs.EndsWalk.{lines_end}
use Rattle.run_progress.specs.Jobs.{HaveEnded, JobsAlwaysEnd}

turns_more : (trace : Trace) (before after : List Party) (run : Run) → turns_by trace run (before ++ after) ≡ turns_by trace (turns_by trace run before) after
turns_more trace [] after run = refl
turns_more trace (who ∷ before) after run = turns_more trace before after (turn trace run who)

abbrev until : Trace → (most : ℕ) → Party → (jobs : ℕ) → Run → Run
until trace most who jobs run = schedule.until_done (turn trace) jobs_ended (has_job trace) most who jobs run

-- turns of a party until so many of its jobs have ended are turns of this party, no more than are allowed
abbrev IsOwn : Trace → (most : ℕ) → Party → (run next : Run) → Type 0
IsOwn trace most who run next = (own : ℕ) × (own ≤ most) × (next ≡ turns_by trace run (replicate own who))

own_by : (trace : Trace) (most : ℕ) (who : Party) (run next : Run) (done : Bool) → IsOwn trace most who (turn trace run who) next → IsOwn trace (suc most) who run (if done then run else next)
own_by trace most who run next true later = (0, omega arith, refl)
own_by trace most who run next false later = let few = later.1 in (suc later.0, omega (arith, few), later.2)

until_own : (trace : Trace) (most : ℕ) (who : Party) (jobs : ℕ) (run : Run) → IsOwn trace most who run (until trace most who jobs run)
until_own trace zero who jobs run = (0, omega arith, refl)
until_own trace (suc most) who jobs run =
    own_by trace most who run (until trace most who jobs (turn trace run who)) (schedule.is_done (turn trace) jobs_ended (has_job trace) who jobs run)
    (until_own trace most who jobs (turn trace run who))

ended_by : (many has : Bool) → (many || not has) ≡ true → (many ≡ true) ⊎ (has ≡ false)
ended_by true has is = inl refl
ended_by false true is = absurd (cc is)
ended_by false false is = inr refl

have_ended : (trace : Trace) (who : Party) (jobs : ℕ) (run : Run) → schedule.is_done (turn trace) jobs_ended (has_job trace) who jobs run ≡ true → HaveEnded trace who jobs run
have_ended trace who jobs run is = elim (ended_by (nat_le jobs (jobs_ended run who)) (has_job trace run who) is) [
  | inl many ↦ inl (let few : jobs ≤ jobs_ended run who = grind (arith, nat_tests, many) in few)
  | inr none ↦ inr none
]

pub jobs_always_end : JobsAlwaysEnd
jobs_always_end trace turns lawful who count =
    let run : Run = turns_by trace (start trace) turns in
    let own = until_own trace (count * MOST_JOB_STEPS) who (jobs_ended run who + count) run in
    let there : until trace (count * MOST_JOB_STEPS) who (jobs_ended run who + count) run ≡ turns_by trace (start trace) (turns ++ replicate own.0 who) =
    own.2 ∙ sym (turns_more trace turns (replicate own.0 who) (start trace)) in (
      own.0,
      own.1,
      subst (HaveEnded trace who (jobs_ended run who + count)) there
          (have_ended trace who (jobs_ended run who + count) (until trace (count * MOST_JOB_STEPS) who (jobs_ended run who + count) run) (lines_end trace turns who count lawful)),
    )
