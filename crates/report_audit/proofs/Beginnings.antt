-- What the trace gives before the first line.
use Rattle.std.proofs.Common.{◌≡◌, ℕ, suc, ◌+◌, ◌-◌, ◌<◌, ◌≤◌, List, [], ◌++◌, append_assoc, Result, Ok, Err, sym, ap, ◌∙◌, arith}
use Rattle.std.specs.Prelude.{All, IfOk}
use Rattle.std.specs.List.{range_with_len, flat_map}
use Rattle.std.proofs.lemmas.List.Elements.{All-cons, All-nil}
use Rattle.clock_gate.specs.declared.trace.CallRow.{CallRow}
use Rattle.generation_word.specs.declared.layout.Layout.{Layout}
use Rattle.segment_layout.specs.Image.{IsImageOf}
use Rattle.segment_layout.specs.declared.image_fault.ImageFault.{ImageFault}
use Rattle.segment_layout.specs.declared.start.Start.{Start}
use Rattle.segment_layout.specs.declared.start.Start.TheVariants.{Fresh, Kept as Found, Torn}
use Rattle.lawful_report.specs.declared.call.Call.{Call}
use Rattle.lawful_report.specs.Calls.{calls_of_client}
use Rattle.lawful_report.specs.Course.{course_by, first_entry}
use Rattle.report_audit.specs.Auditor.{EntryFits}

-- the calls of one client more
pub clients_on : (calls : List CallRow) (done new whole : List Call) (client clients : ℕ) → client < clients → done ++ flat_map (calls_of_client calls) (range_with_len (client + 1) (clients - client)) ≡ whole → new ≡ done ++ calls_of_client calls (client + 1)
    → (client + 1 ≤ clients) × (new ++ flat_map (calls_of_client calls) (range_with_len (client + 1 + 1) (clients - (client + 1))) ≡ whole)
clients_on calls done new whole client clients less is new_is =
    let left : clients - client ≡ suc (clients - (client + 1)) = omega (arith, less) in (
      omega (arith, less),
      ap (λ (l : List Call). l ++ flat_map (calls_of_client calls) (range_with_len (client + 1 + 1) (clients - (client + 1)))) new_is
          ∙ (append_assoc done (calls_of_client calls (client + 1)) (flat_map (calls_of_client calls) (range_with_len (client + 1 + 1) (clients - (client + 1))))
          ∙ (ap (λ (n : ℕ). done ++ flat_map (calls_of_client calls) (range_with_len (client + 1) n)) (sym left) ∙ is)),
    )

-- the entries that an image gives keep the bounds
pub entries_fit : (layout : Layout) (words : List ℕ) (found : Result Start ImageFault) → IfOk found (IsImageOf layout words) → All EntryFits (course_by found).entries
entries_fit layout words (Ok Fresh) is = All-nil EntryFits
entries_fit layout words (Ok (Torn generation)) is = All-nil EntryFits
entries_fit layout words (Ok (Found generation rec)) is = All-cons EntryFits (first_entry rec) [] is.bounds (All-nil EntryFits)
entries_fit layout words (Err fault) is = All-nil EntryFits
