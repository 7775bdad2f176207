-- The kinds of a trace's records, by the words that begin them.
use Rattle.std.specs.Prelude.{ℕ, ◌==◌, ◌||◌, Bool, List, [], ◌∷◌, Option, Some, None, Result, Err, codes, if◌then◌else◌}
use Rattle.std.specs.Option.{ok_or}
use Rattle.std.specs.Str.{bytes_eq}
use Rattle.csv.specs.Records.{field_at}
use Rattle.csv_records.specs.Kind.{kind_named}
use Rattle.csv_records.specs.declared.reason.Reason.{Reason}
use Rattle.csv_records.specs.declared.reason.Reason.TheVariants as reasons
use Rattle.trace_reader.specs.declared.kind.Kind.{Kind}
use Rattle.trace_reader.specs.declared.kind.Kind.TheVariants.{Header, Drift, Tries, Layout, Image, Page, Clock, Mark, Disrupt, Poll, Call, Run, Jobs}

-- the word of a kind; a setting's word is the second field, after `set`
unfoldable pub word_of : Kind → List ℕ
word_of Header = codes "clockbound-trace"
word_of Drift = codes "drift"
word_of Tries = codes "tries"
word_of Layout = codes "layout"
word_of Image = codes "image"
word_of Page = codes "page"
word_of Clock = codes "clock"
word_of Mark = codes "mark"
word_of Disrupt = codes "disrupt"
word_of Poll = codes "poll"
word_of Call = codes "call"
word_of Run = codes "run"
word_of Jobs = codes "do"

-- the kind that a first field names
unfoldable pub plain_kind : List ℕ → Option Kind
plain_kind field =
    kind_named word_of (Run ∷ Jobs ∷ Call ∷ Clock ∷ Poll ∷ Mark ∷ Page ∷ Disrupt ∷ Image ∷ Header ∷ []) field

-- the setting that a second field names
unfoldable pub setting : List ℕ → Option Kind
setting field = kind_named word_of (Drift ∷ Tries ∷ Layout ∷ []) field

unfoldable pub is_set : List ℕ → Bool
is_set field = bytes_eq field (codes "set")

abbrev pub setting_by : Option (List ℕ) → Result Kind Reason
setting_by None = Err reasons.Fields
setting_by (Some field) = ok_or (setting field) reasons.Kind

abbrev pub kind_by : List (List ℕ) → Option (List ℕ) → Result Kind Reason
kind_by fields None = Err reasons.Kind
kind_by fields (Some field) =
    if is_set field then setting_by (field_at fields 1) else ok_or (plain_kind field) reasons.Kind

-- the kind of a record: by its first field, of `set` by the second
abbrev pub kind_in : List (List ℕ) → Result Kind Reason
kind_in fields = kind_by fields (field_at fields 0)

-- whether a record of a kind may have so many fields
abbrev pub allows : Kind → ℕ → Bool
allows Header count = count == 2
allows Drift count = count == 3
allows Tries count = count == 3
allows Layout count = count == 3
allows Image count = count == 2
allows Page count = count == 2
allows Clock count = (count == 3) || (count == 4)
allows Mark count = count == 2
allows Disrupt count = count == 1
allows Poll count = (count == 2) || (count == 3)
allows Call count = (count == 2) || (count == 3)
allows Run count = count == 3
allows Jobs count = count == 3
