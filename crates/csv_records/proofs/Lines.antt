-- The records of a plain text are its lines.
use Rattle.std.proofs.Common.{◌≡◌, ◌≢◌, ◌≤◌, ◌<◌, ◌+◌, ℕ, zero, suc, Bool, true, false, cond, List, [], ◌∷◌, ◌++◌, length, Option, Some, refl, sym, ap, arith, append_assoc}
use Rattle.std.specs.Prelude.{◌==◌, filter, map}
use Rattle.std.proofs.lemmas.List.{append-nil}
use Rattle.std.proofs.lemmas.Bool.Decides.{nat_tests}
use Rattle.csv.specs.Machine.{Read, next_record, step, in_field, ends_at_end}
use Rattle.csv.specs.Reading.{default_config, records_from, strip_bom}
use Rattle.csv.specs.declared.parser.State.{State}
use Rattle.csv.specs.declared.parser.State.TheVariants as st
use Rattle.csv_records.specs.Plain.{IsPlain, begun, comma, is_filled, parted, rows_of}
use Rattle.csv_records.specs.Records.{records_of}

-- the first line of a text, and the text after its line feed
line : List ℕ → List ℕ
line [] = []
line (c ∷ xs) = cond (c == 10) [] (c ∷ line xs)

after : List ℕ → List ℕ
after [] = []
after (c ∷ xs) = cond (c == 10) xs (after xs)

begun-nil : (parts : List (List ℕ)) → begun [] parts ≡ parts
begun-nil [] = refl
begun-nil (part ∷ parts) = refl

begun-begun : (xs ys : List ℕ) (parts : List (List ℕ)) → begun xs (begun ys parts) ≡ begun (xs ++ ys) parts
begun-begun xs ys [] = refl
begun-begun xs ys (part ∷ parts) = ap (λ (p : List ℕ). p ∷ parts) (sym (append_assoc xs ys part))

-- a state inside a record reads each byte as one of a field
record Inside (s : State) : Type 0 where
  steps : (c : ℕ) → (c == 34) ≡ false → step default_config s c ≡ in_field default_config c
  ends : ends_at_end s ≡ true

starts_field : Inside st.StartField
starts_field = record { steps = λ c no_quote. rw no_quote refl; ends = refl }

in_a_field : Inside st.InField
in_a_field = record { steps = λ c no_quote. refl; ends = refl }

-- the first byte and the others of a plain text
plain_first : (c : ℕ) (xs : List ℕ) → IsPlain (c ∷ xs) → (c == 34 ≡ false) × (c == 13 ≡ false)
plain_first c xs plain =
    let apart = plain 0 0 (omega arith) in
    let no_quote : c ≢ 34 = apart.0 in
    let no_return : c ≢ 13 = apart.1 in
    (grind (arith, nat_tests, no_quote), grind (arith, nat_tests, no_return))

plain_others : (c : ℕ) (xs : List ℕ) → IsPlain (c ∷ xs) → IsPlain xs
plain_others c xs plain = λ k d lt. plain (suc k) d (omega (arith, lt))

-- the record that a line is
line_read : (xs : List ℕ) (s : State) (fields : List (List ℕ)) (field : List ℕ) → IsPlain xs → Inside s
    → next_record default_config s fields field xs ≡ Some (fields ++ begun field (parted comma (line xs)), st.StartRecord, after xs)
unfolding next_record parted line after
line_read [] s fields field plain is = rw (is.ends, append-nil field) refl
line_read (c ∷ xs) s fields field plain is =
    let first = plain_first c xs plain in
    let others = plain_others c xs plain in
    by (c == 44) (c == 10) refl refl
    (line_read xs st.StartField (fields ++ field ∷ []) [] others starts_field)
    (line_read xs st.InField fields (field ++ c ∷ []) others in_a_field)
  where
    read_with : List (List ℕ) → Option Read
    read_with record_fields = Some (record_fields, st.StartRecord, after xs)

    by : (parts ends : Bool) → (c == 44) ≡ parts → (c == 10) ≡ ends
        → next_record default_config st.StartField (fields ++ field ∷ []) [] xs ≡ Some ((fields ++ field ∷ []) ++ begun [] (parted comma (line xs)), st.StartRecord, after xs)
        → next_record default_config st.InField fields (field ++ c ∷ []) xs ≡ Some (fields ++ begun (field ++ c ∷ []) (parted comma (line xs)), st.StartRecord, after xs)
        → next_record default_config s fields field (c ∷ xs) ≡ Some (fields ++ begun field (parted comma (line (c ∷ xs))), st.StartRecord, after (c ∷ xs))
    by true true e f next same = absurd (grind (arith, nat_tests, e, f))
    by true false e f next same =
        rw (is.steps c (plain_first c xs plain).0, (plain_first c xs plain).1, f, e, next, begun-nil (parted comma (line xs)), append-nil field) (ap read_with (append_assoc fields (field ∷ []) (parted comma (line xs))))
    by false true e f next same = rw (is.steps c (plain_first c xs plain).0, (plain_first c xs plain).1, e, f, append-nil field) refl
    by false false e f next same =
        rw (is.steps c (plain_first c xs plain).0, (plain_first c xs plain).1, f, e, same) (ap (λ (parts : List (List ℕ)). read_with (fields ++ parts)) (sym (begun-begun field (c ∷ []) (parted comma (line xs)))))

-- between two records a line feed is passed over
pub feed_skipped : (c : ℕ) (xs : List ℕ) → (c == 13) ≡ false → (c == 10) ≡ true
    → next_record default_config st.StartRecord [] [] (c ∷ xs) ≡ next_record default_config st.StartRecord [] [] xs
unfolding next_record
feed_skipped c xs no_return feed = rw (no_return, feed) refl

-- and any other byte of a plain text begins a field
field_begun : (c : ℕ) (xs : List ℕ) → (c == 34) ≡ false → (c == 13) ≡ false → (c == 10) ≡ false
    → next_record default_config st.StartRecord [] [] (c ∷ xs) ≡ next_record default_config st.StartField [] [] (c ∷ xs)
unfolding next_record
field_begun c xs no_quote no_return no_feed = rw (no_quote, no_return, no_feed) refl

length-after : (xs : List ℕ) → length (after xs) ≤ length xs
unfolding after
length-after [] = omega arith
length-after (c ∷ xs) = by (c == 10) (length-after xs)
  where
    by : (ends : Bool) → length (after xs) ≤ length xs → length (cond ends xs (after xs)) ≤ length (c ∷ xs)
    by true most = omega arith
    by false most = omega (arith, most)

plain_after : (xs : List ℕ) → IsPlain xs → IsPlain (after xs)
unfolding after
plain_after [] plain = plain
plain_after (c ∷ xs) plain = by (c == 10) (plain_after xs)
  where
    by : (ends : Bool) → (IsPlain xs → IsPlain (after xs)) → IsPlain (cond ends xs (after xs))
    by true more = plain_others c xs plain
    by false more = more (plain_others c xs plain)

-- the lines after the first
more_lines : List ℕ → List (List ℕ)
more_lines [] = []
more_lines (c ∷ xs) = cond (c == 10) (parted 10 xs) (more_lines xs)

parted-lines : (xs : List ℕ) → parted 10 xs ≡ line xs ∷ more_lines xs
unfolding parted line more_lines
parted-lines [] = refl
parted-lines (c ∷ xs) = by (c == 10) (parted-lines xs)
  where
    by : (ends : Bool) → parted 10 xs ≡ line xs ∷ more_lines xs
        → cond ends ([] ∷ parted 10 xs) (begun (c ∷ []) (parted 10 xs)) ≡ cond ends [] (c ∷ line xs) ∷ cond ends (parted 10 xs) (more_lines xs)
    by true is = refl
    by false is = rw is refl

filter-more_lines : (xs : List ℕ) → filter is_filled (more_lines xs) ≡ filter is_filled (parted 10 (after xs))
unfolding parted more_lines after
filter-more_lines [] = refl
filter-more_lines (c ∷ xs) = by (c == 10) (filter-more_lines xs)
  where
    by : (ends : Bool) → filter is_filled (more_lines xs) ≡ filter is_filled (parted 10 (after xs))
        → filter is_filled (cond ends (parted 10 xs) (more_lines xs)) ≡ filter is_filled (parted 10 (cond ends xs (after xs)))
    by true is = refl
    by false is = is

-- the rows of a text that begins with a line
rows_of-line : (c : ℕ) (xs : List ℕ) → (c == 10) ≡ false → rows_of (c ∷ xs) ≡ parted comma (line (c ∷ xs)) ∷ rows_of (after (c ∷ xs))
unfolding line
rows_of-line c xs no_feed = rw (parted-lines (c ∷ xs), no_feed) (ap (λ (lines : List (List ℕ)). parted comma (c ∷ line xs) ∷ map (parted comma) lines) (filter-more_lines (c ∷ xs)))

rows_of-feed : (c : ℕ) (xs : List ℕ) → (c == 10) ≡ true → rows_of (c ∷ xs) ≡ rows_of xs
unfolding parted
rows_of-feed c xs feed = rw feed refl

shorter_after : (c : ℕ) (xs : List ℕ) → (c == 10) ≡ false → length (after (c ∷ xs)) ≤ length xs
unfolding after
shorter_after c xs no_feed = rw no_feed (length-after xs)

no_row : (n : ℕ) → records_from default_config (suc n) st.StartRecord [] ≡ rows_of []
unfolding records_from next_record parted
no_row n = refl

-- enough turns read the rows
records_from-rows : (n : ℕ) (xs : List ℕ) → length xs < n → IsPlain xs → records_from default_config n st.StartRecord xs ≡ rows_of xs
unfolding records_from
records_from-rows zero xs enough plain = absurd (omega (arith, enough))
records_from-rows (suc n) [] enough plain = no_row n
records_from-rows (suc n) (c ∷ xs) enough plain = by (c == 10) refl
    (records_from-rows (suc n) xs (omega (arith, enough)) (plain_others c xs plain))
    (λ few. records_from-rows n (after (c ∷ xs)) few (plain_after (c ∷ xs) plain))
  where
    first : (c == 34 ≡ false) × (c == 13 ≡ false)
    first = plain_first c xs plain

    by : (ends : Bool) → (c == 10) ≡ ends → records_from default_config (suc n) st.StartRecord xs ≡ rows_of xs
        → (length (after (c ∷ xs)) < n → records_from default_config n st.StartRecord (after (c ∷ xs)) ≡ rows_of (after (c ∷ xs)))
        → records_from default_config (suc n) st.StartRecord (c ∷ xs) ≡ rows_of (c ∷ xs)
    by true feed same next = rw (feed_skipped c xs first.1 feed, rows_of-feed c xs feed) same
    by false no_feed same next =
        let few = shorter_after c xs no_feed in
        rw (field_begun c xs first.0 first.1 no_feed, line_read (c ∷ xs) st.StartField [] [] plain starts_field, begun-nil (parted comma (line (c ∷ xs))), rows_of-line c xs no_feed)
        (ap (λ (rows : List (List (List ℕ))). parted comma (line (c ∷ xs)) ∷ rows) (next (omega (arith, few, enough))))

-- after its byte order mark, if there is one, the records of a plain text are its rows
pub records_of-rows : (text : List ℕ) → IsPlain (strip_bom text) → records_of text ≡ rows_of (strip_bom text)
unfolding records_of
records_of-rows text plain = records_from-rows (length (strip_bom text) + 1) (strip_bom text) (omega arith) plain
