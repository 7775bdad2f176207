use Rattle.std.proofs.Common.{◌≡◌, ℕ, ◌%◌, sym, subst, arith}
use Rattle.generation_word.specs.Layout.{period_of}
use Rattle.lawful_report.specs.Points.{HasNumber, IsLeast}
use Rattle.report_audit.specs.FoundLines.{TimeFits}
use Rattle.report_audit.proofs.TimeSearch.{even_point, number_of_fit, none_fits, least_fits, passed_on}
use Rattle.report_audit.proofs.time_line.time_point.Goals as goal

pub returns-in_default : goal.returns-in_default
returns-in_default c trace course knows =
    none_fits (TimeFits trace course c.args.place.client c.args.place.call c.args.place.generation c.args.reading.row c.args.place.page c.args.text.now) c.args.period c.args.place.generation c.args.from c.rounds.cursor c.args.until
    (λ n fits. number_of_fit trace course c.args.place.client c.args.place.call c.args.place.generation c.args.reading.row c.args.place.page c.args.period n c.args.text.now knows.period_is fits)
    (c.rounds.invariant.none trace course knows) (let same : c.from.result ≡ c.args.place.generation = c.from.ensures in rw same at c.in_default.ensures)

pub returns-in-Some-found : goal.returns-in-Some-found
returns-in-Some-found c trace course knows =
    let same : c.from.result ≡ c.args.place.generation = c.from.ensures in
    let least : IsLeast c.rounds.cursor c.args.until (HasNumber c.args.period c.args.place.generation) c.in-Some.point = rw same at c.in-Some.ensures in
    let even : c.in-Some.point % 2 ≡ 0 = even_point c.args.period c.args.place.generation c.in-Some.point least.has c.if-place-eq1.false in
    let number : HasNumber (period_of trace.layout) c.args.place.generation c.in-Some.point = subst (λ (p : ℕ). HasNumber p c.args.place.generation c.in-Some.point) (sym knows.period_is) least.has in
    let told = rw c.in-Some-found.is at (c.in_ok-found.ensures trace course knows.time even number) in
    let fits : TimeFits trace course c.args.place.client c.args.place.call c.args.place.generation c.args.reading.row c.args.place.page c.args.text.now c.in-Some.point
    = record { interval = c.in-Some-found.found.0; gives = told.0; later = c.in-Some-found.found.1.now; begins = told.1 } in (
      least_fits (TimeFits trace course c.args.place.client c.args.place.call c.args.place.generation c.args.reading.row c.args.place.page c.args.text.now) c.args.period c.args.place.generation c.args.from c.rounds.cursor c.args.until c.in-Some.point
          (λ n n_fits. number_of_fit trace course c.args.place.client c.args.place.call c.args.place.generation c.args.reading.row c.args.place.page c.args.period n c.args.text.now knows.period_is n_fits)
          c.rounds.invariant.not_before (c.rounds.invariant.none trace course knows) least fits,
      (told.0, told.1),
    )

pub rounds-preserved : goal.rounds-preserved
rounds-preserved c =
    let same : c.from.result ≡ c.args.place.generation = c.from.ensures in
    let least : IsLeast c.rounds.cursor c.args.until (HasNumber c.args.period c.args.place.generation) c.in-Some.point = rw same at c.in-Some.ensures in
    let even : c.in-Some.point % 2 ≡ 0 = even_point c.args.period c.args.place.generation c.in-Some.point least.has c.if-place-eq1.false in
    record {
      not_before = omega (arith, c.rounds.invariant.not_before, least.not_before);
      small = omega (arith, least.not_past, c.requires.until);
      none = λ trace course knows.
          let number : HasNumber (period_of trace.layout) c.args.place.generation c.in-Some.point = subst (λ (p : ℕ). HasNumber p c.args.place.generation c.in-Some.point) (sym knows.period_is) least.has in
          passed_on (TimeFits trace course c.args.place.client c.args.place.call c.args.place.generation c.args.reading.row c.args.place.page c.args.text.now) c.args.period c.args.place.generation c.args.from c.rounds.cursor c.args.until c.in-Some.point
          (λ n fits. number_of_fit trace course c.args.place.client c.args.place.call c.args.place.generation c.args.reading.row c.args.place.page c.args.period n c.args.text.now knows.period_is fits)
          (c.rounds.invariant.none trace course knows) least
          (rw c.in-None.is at (c.in_ok-found.ensures trace course knows.time even number));
    }
