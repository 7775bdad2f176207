-- Line feeds that a text begins with are no records.
use Rattle.std.proofs.Common.{◌≡◌, ◌+◌, ◌<◌, ℕ, suc, Bool, true, false, not, cond, List, [], ◌∷◌, length, get_or, refl, arith}
use Rattle.std.specs.Prelude.{◌==◌, IsTrue}
use Rattle.csv.specs.Reading.{default_config, is_bom, records, records_from, strip_bom}
use Rattle.csv.specs.declared.parser.State.TheVariants as st
use Rattle.csv_records.specs.Records.{records_of}
use Rattle.csv_records.proofs.Lines.{feed_skipped}
use Rattle.csv_records.proofs.Shortens.{enough}

-- one of them
pub one_feed : (rest : List ℕ) → records default_config (10 ∷ rest) ≡ records default_config rest
unfolding records_from
one_feed rest =
    let long : length (10 ∷ rest) + 1 ≡ suc (length rest + 1) = omega arith in
    let same : records_from default_config (suc (length rest + 1)) st.StartRecord rest ≡ records default_config rest = enough default_config (suc (length rest + 1)) (length rest + 1) st.StartRecord rest refl (omega arith) (omega arith) in
    rw (long, feed_skipped 10 rest refl refl) same

-- a text that begins with no byte of a mark has none
pub unmarked : (text : List ℕ) → IsTrue (not (get_or text 0 0 == 239)) → strip_bom text ≡ text
unfolding strip_bom
unmarked [] other = refl
unmarked (a ∷ []) other = refl
unmarked (a ∷ b ∷ []) other = refl
unmarked (a ∷ b ∷ c ∷ rest) other = by (a == 239) refl other
  where
    by : (first : Bool) → (a == 239) ≡ first → IsTrue (not first) → cond (is_bom a b c) rest (a ∷ b ∷ c ∷ rest) ≡ a ∷ b ∷ c ∷ rest
    by true is other = absurd (cc other)
    by false is other = rw is refl

pub unmarked_empty : (text : List ℕ) → length text < 1 → strip_bom text ≡ text
unfolding strip_bom
unmarked_empty [] none = refl
unmarked_empty (a ∷ rest) none = absurd (omega (arith, none))
