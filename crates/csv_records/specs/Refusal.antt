-- What a reader of a record answers, by what the record says.
use Rattle.std.specs.Prelude.{◌≡◌, Result, Ok, Err, ⊤}
use Rattle.csv_records.specs.declared.reason.Reason.{Reason}
use Rattle.csv_records.specs.declared.refusal.Refusal.{Refusal}
use Rattle.csv_records.specs.declared.refusal.Refusal.TheVariants as refusals

-- this refusal is the reason that is said; want of memory may come at any time
abbrev pub IsSaid : {A : Type 0} → Refusal → Result A Reason → Type 0
IsSaid refusals.Memory said = ⊤
IsSaid (refusals.By reason) said = said ≡ Err reason

-- the answer is what is said
abbrev pub Reads : {A : Type 0} → Result A Refusal → Result A Reason → Type 0
Reads (Ok x) said = said ≡ Ok x
Reads (Err refusal) said = IsSaid refusal said
