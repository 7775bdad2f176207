-- Why a record is refused: the names of reasons, which are this project's own, and what a reason does to an answer.
use Rattle.std.specs.Prelude.{List, ℕ, Option, Some, None, Result, Ok, Err, codes}
use Rattle.csv_records.specs.declared.reason.Reason.{Reason}
use Rattle.csv_records.specs.declared.reason.Reason.TheVariants.{Kind, Fields, Number, Hex, ClockBack, NoClock, Limit, Page, Image, Order}

-- a reason by its name in lower case
unfoldable pub name_of : Reason → List ℕ
name_of Kind = codes "kind"
name_of Fields = codes "fields"
name_of Number = codes "number"
name_of Hex = codes "hex"
name_of ClockBack = codes "clockback"
name_of NoClock = codes "noclock"
name_of Limit = codes "limit"
name_of Page = codes "page"
name_of Image = codes "image"
name_of Order = codes "order"

-- what was found goes into the next step, and the first refusal is the whole's
infixl 10 ◌>>=◌
abbrev pub ◌>>=◌ : {A B E : Type 0} → Result A E → (A → Result B E) → Result B E
(Ok x) >>= next = next x
(Err why) >>= next = Err why

-- a value, where there is no reason against it
abbrev pub unless : {A : Type 0} → Option Reason → A → Result A Reason
unless None x = Ok x
unless (Some reason) x = Err reason
