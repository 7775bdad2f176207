-- The search for the point of an answer Time.
use Rattle.std.proofs.Common.{◌≡◌, ◌≢◌, inl, inr, ℕ, ◌+◌, ◌%◌, ◌/◌, ◌<◌, ◌≤◌, List, subst, arith}
use Rattle.std.proofs.lemmas.Bool.{cases_lt}
use Rattle.clock_gate.specs.declared.trace.Trace.{Trace}
use Rattle.generation_word.specs.Layout.{period_of}
use Rattle.generation_word.proofs.Laws.{generation_at-even}
use Rattle.lawful_report.specs.Points.{HasNumber, IsLeast}
use Rattle.report_audit.specs.Leasts.{NoneHas}
use Rattle.lawful_report.specs.Course.{Course}
use Rattle.report_audit.specs.FoundLines.{TimeFits}

-- an even number stands for an even point
pub even_point : (period generation point : ℕ) → HasNumber period generation point → generation % 2 ≢ 1 → point % 2 ≡ 0
even_point period generation point number even = omega (arith, number, even, generation_at-even period (point / 2))

pub number_of_fit : (trace : Trace) (course : Course) (client call generation row page period n : ℕ) (text : List ℕ) → period_of trace.layout ≡ period → TimeFits trace course client call generation row page text n → HasNumber period generation n
number_of_fit trace course client call generation row page period n text is fits = subst (λ (p : ℕ). HasNumber p generation n) is fits.gives.number

-- none before a cursor fits, and none from it on has the number
pub none_fits : (F : ℕ → Type 0) (period generation from cursor until : ℕ) → ((n : ℕ) → F n → HasNumber period generation n) → ((n : ℕ) → from ≤ n → n < cursor → F n → ⊥) → NoneHas cursor until (HasNumber period generation) → NoneHas from until F
none_fits F period generation from cursor until numbered before after n le most fits = elim (cases_lt n cursor) [
  | inl lt ↦ before n le lt fits
  | inr ge ↦ after n ge most (numbered n fits)
]

-- none before a cursor fits, and the next with the number does
pub least_fits : (F : ℕ → Type 0) (period generation from cursor until point : ℕ) → ((n : ℕ) → F n → HasNumber period generation n) → from ≤ cursor → ((n : ℕ) → from ≤ n → n < cursor → F n → ⊥) → IsLeast cursor until (HasNumber period generation) point → F point → IsLeast from until F point
least_fits F period generation from cursor until point numbered le before least fits = record {
  not_before = omega (arith, le, least.not_before);
  not_past = least.not_past;
  has = fits;
  none_less = λ n from_le n_fits. elim (cases_lt n cursor) [
    | inl lt ↦ absurd (before n from_le lt n_fits)
    | inr ge ↦ least.none_less n ge (numbered n n_fits)
  ];
}

-- none up to the next with the number fits
pub passed_on : (F : ℕ → Type 0) (period generation from cursor until point : ℕ) → ((n : ℕ) → F n → HasNumber period generation n) → ((n : ℕ) → from ≤ n → n < cursor → F n → ⊥) → IsLeast cursor until (HasNumber period generation) point → (F point → ⊥) → (n : ℕ) → from ≤ n → n < point + 1 → F n → ⊥
passed_on F period generation from cursor until point numbered before least other n le lt fits = elim (cases_lt n cursor) [
  | inl earlier ↦ before n le earlier fits
  | inr ge ↦
      let same : n ≡ point = omega (arith, lt, least.none_less n ge (numbered n fits)) in
      other (subst F same fits)
]
