-- What one read takes of the records that a reader has ahead.
use Rattle.std.proofs.Common.{◌≡◌, ◌∙◌, ◌≤◌, ◌+◌, ℕ, Bool, cond, length, arith, List, [], ◌∷◌, Option, Some, None, true, false, refl, sym, ap, inl}
use Rattle.std.specs.Prelude.{IsSome, unwrap_or}
use Rattle.csv.specs.Reading.{ReadRecord, Reached, default_config, is_bom, is_flexible, reader_state, source_of, strip_bom, took_first}
use Rattle.csv.specs.declared.parser.State.{State}
use Rattle.csv.specs.declared.parser.State.TheVariants as st
use Rattle.csv.proofs.ReadFacts.{rows-end, rows-more}
use Rattle.csv_records.specs.Records.{GoesOn, TextReader, bytes_ahead, records_ahead, records_left, records_of, text_left}
use Rattle.csv_records.proofs.Shortens.{length-records_from, records_left-none, records_left-some, shortens}

-- a source that is told is that of the bytes ahead
source_told : (source : Option (List ℕ)) → IsSome source → source ≡ Some (unwrap_or source [])
source_told (Some rest) told = refl
source_told None told = absurd (cc told)

-- at first the records ahead are those of the text
pub records_ahead-new : (bytes : List ℕ) (reader : TextReader) → source_of text_left reader ≡ Some (strip_bom bytes) → reader_state reader ≡ st.StartRecord → records_ahead reader ≡ records_of bytes
unfolding records_of records_left
records_ahead-new bytes reader source start = rw (source, start) refl

length-strip_bom : (bytes : List ℕ) → length (strip_bom bytes) ≤ length bytes
unfolding strip_bom
length-strip_bom [] = omega arith
length-strip_bom (a ∷ []) = omega arith
length-strip_bom (a ∷ b ∷ []) = omega arith
length-strip_bom (a ∷ b ∷ c ∷ rest) = by (is_bom a b c)
  where
    by : (mark : Bool) → length (cond mark rest (a ∷ b ∷ c ∷ rest)) ≤ length (a ∷ b ∷ c ∷ rest)
    by true = omega arith
    by false = omega arith

-- and no more than its bytes
pub length-records_of : (bytes : List ℕ) → length (records_of bytes) ≤ length bytes
unfolding records_of
length-records_of bytes =
    let most = length-records_from default_config (length (strip_bom bytes) + 1) st.StartRecord (strip_bom bytes) refl in
    let short = length-strip_bom bytes in
    omega (arith, most, short)

-- a read that gives a record takes the first
pub takes_one : (a b : TextReader) (fields : List (List ℕ)) → GoesOn a → ReadRecord text_left a b true fields → took_first b ≡ true → is_flexible b ≡ is_flexible a
    → (records_ahead a ≡ fields ∷ records_ahead b) × GoesOn b
unfolding Reached
takes_one a b fields at read first bends =
    let told = source_told (source_of text_left a) at.told in
    let (rest, source, reached) = rows-more text_left a b fields default_config a.state (bytes_ahead a) (bytes_ahead a) [] at.config told (refl, refl) read in
    let p = reached.0 in
    let after = shortens default_config a.state (bytes_ahead a) p at.between reached.1 in
    let left : bytes_ahead b ≡ p.2 = ap (λ (o : Option (List ℕ)). unwrap_or o []) source ∙ sym reached.3.1 in (
      records_left-some a.state (bytes_ahead a) p at.between reached.1
          ∙ ap (λ (f : List (List ℕ)). f ∷ records_left p.1 p.2) (sym reached.2)
          ∙ ap (λ (s : State). fields ∷ records_left s p.2) reached.3.0
          ∙ ap (λ (xs : List ℕ). fields ∷ records_left b.state xs) (sym left),
      record {
        config = read.2 ∙ at.config;
        untrimmed = read.3 ∙ at.untrimmed;
        flexible = bends ∙ at.flexible;
        ready = inl first;
        between = rw reached.3.0 at after.0;
        told = rw source refl;
      },
    )

-- a read that gives none has none ahead
pub takes_none : (a b : TextReader) (fields : List (List ℕ)) → GoesOn a → ReadRecord text_left a b false fields → records_ahead a ≡ []
takes_none a b fields at read =
    let told = source_told (source_of text_left a) at.told in
    records_left-none a.state (bytes_ahead a) (rows-end text_left a b fields default_config (bytes_ahead a) at.config told read)
