-- What a trusted status tells of the record and of the page.
use Rattle.std.proofs.Common.{◌≡◌, ◌≢◌, ℕ, ◌-◌, Bool, true, false, List, Option, Some, None, refl, ap, sym, ◌∙◌, arith, true≢false}
use Rattle.std.specs.Prelude.{◌==◌, ◌||◌, not, if◌then◌else◌}
use Rattle.std.proofs.lemmas.Bool.Decides.{nat_tests}
use Rattle.clock_gate.specs.declared.clock_status.ClockStatus.{ClockStatus}
use Rattle.clock_gate.specs.declared.clock_status.ClockStatus.TheVariants.{Disrupted, Unknown, Synchronized, FreeRunning}
use Rattle.clock_gate.specs.declared.trace.Trace.{Trace}
use Rattle.segment_layout.specs.Record.{RecordFields}
use Rattle.status_machine.specs.Incarnation as incarnation
use Rattle.interval_now.specs.Interval.{has_disrupted, is_unabsorbed, client_status, status_by_age}
use Rattle.abstract_run.specs.HostRun.{marker_by, marker_at}
use Rattle.run_promises.specs.Judged.{is_trusted}

trusted_calm : (unabsorbed : Bool) (status : ClockStatus) → is_trusted (if unabsorbed then Disrupted else status) ≡ true → unabsorbed ≡ false
trusted_calm true status is = absurd (true≢false (sym is))
trusted_calm false status is = refl

or_none : (a b : Bool) → (a || b) ≡ false → (a ≡ false) × (b ≡ false)
or_none true b is = absurd (true≢false is)
or_none false b is = (refl, is)

calm_status : (status : ClockStatus) → has_disrupted status ≡ false → status ≢ Disrupted
calm_status status calm is = true≢false (sym (ap has_disrupted is) ∙ calm)

same_number : (a b : ℕ) → not (a == b) ≡ false → a ≡ b
same_number a b is = grind (arith, nat_tests, is)

-- the record isn't disrupted, and the page's marker is the record's, by which it was marked
same_by : (trace : Trace) (rec : RecordFields) (mark_at marked_at : ℕ) (page : Option (List ℕ)) → rec.marker ≡ incarnation.marker_or_zero (marker_by trace marked_at page)
    → is_unabsorbed rec (marker_by trace mark_at page) ≡ false → (rec.status ≢ Disrupted) × (marker_by trace mark_at page ≡ marker_by trace marked_at page)
same_by trace rec mark_at marked_at None marked calm = (calm_status rec.status calm, refl)
same_by trace rec mark_at marked_at (Some page) marked calm =
    let parts = or_none (has_disrupted rec.status) _ calm in
    let named = or_none (not rec.support) _ parts.1 in
    (calm_status rec.status parts.0, ap Some (sym (same_number rec.marker _ named.1) ∙ marked))

pub trusted_same : (trace : Trace) (rec : RecordFields) (mono mark_at marked_at : ℕ) (status : ClockStatus) → status ≡ client_status rec mono (marker_at trace mark_at) → is_trusted status ≡ true
    → rec.marker ≡ incarnation.marker_or_zero (marker_at trace marked_at) → (rec.status ≢ Disrupted) × (marker_at trace mark_at ≡ marker_at trace marked_at)
trusted_same trace rec mono mark_at marked_at status same trusted marked =
    same_by trace rec mark_at marked_at trace.page marked (trusted_calm (is_unabsorbed rec (marker_at trace mark_at)) _ (sym (ap is_trusted same) ∙ trusted))

known_by : (status : ClockStatus) (void young : Bool) → is_trusted (status_by_age status void young) ≡ true → status ≢ Unknown
known_by Unknown void young is = absurd (true≢false (sym is))
known_by Synchronized void young is = λ e. cc e
known_by FreeRunning void young is = λ e. cc e
known_by Disrupted void young is = λ e. cc e

trusted_by : (unabsorbed : Bool) (status : ClockStatus) (void young : Bool) → is_trusted (if unabsorbed then Disrupted else status_by_age status void young) ≡ true → status ≢ Unknown
trusted_by true status void young is = absurd (true≢false (sym is))
trusted_by false status void young is = known_by status void young is

-- the record's status is known
pub trusted_known : (rec : RecordFields) (mono : ℕ) (marker : Option ℕ) (status : ClockStatus) → status ≡ client_status rec mono marker → is_trusted status ≡ true → rec.status ≢ Unknown
trusted_known rec mono marker status same trusted = trusted_by (is_unabsorbed rec marker) rec.status _ _ (sym (ap is_trusted same) ∙ trusted)
