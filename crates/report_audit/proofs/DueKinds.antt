-- An auditor waits for the kind of line that its standing has due.
use Rattle.std.proofs.Common.{◌≡◌, ℕ, List, drop, Option, Result, Ok, Err, refl, sym, subst}
use Rattle.std.specs.Borrow.{Bor}
use Rattle.std.specs.Prelude.{IfOk}
use Rattle.clock_gate.specs.declared.trace.Trace.{Trace}
use Rattle.lawful_report.specs.Course.{Course}
use Rattle.lawful_report.specs.declared.counts.Counts.{Counts}
use Rattle.lawful_report.specs.declared.seen.Seen.{Seen}
use Rattle.lawful_report.specs.Lawful.{Due, Heading, Opening, Moving, Polling, Stopping, Answering, Finished, Standing}
use Rattle.report_audit.specs.NextLine.{Holds, ShowsDue, ShowsStanding, NextFound, at}
use Rattle.report_audit.specs.declared.auditor.Auditor.{Auditor}
use Rattle.report_audit.specs.declared.due.Due.{Due as Kind}
use Rattle.report_audit.specs.declared.due.Due.TheVariants as dues
use Rattle.report_audit.specs.declared.known.Known.{Known}

heading_due : (known : Known) (due : Due) → ShowsDue known due dues.Heading → due ≡ Heading
heading_due known Heading shows = refl
heading_due known due shows = absurd shows

opening_due : (known : Known) (due : Due) → ShowsDue known due dues.Opening → due ≡ Opening
opening_due known Opening shows = refl
opening_due known due shows = absurd shows

moving_due : (known : Known) (due : Due) → ShowsDue known due dues.Moving → due ≡ Moving
moving_due known Moving shows = refl
moving_due known due shows = absurd shows

polling_due : (known : Known) (due : Due) → ShowsDue known due dues.Polling → due ≡ Polling
polling_due known Polling shows = refl
polling_due known due shows = absurd shows

stopping_due : (known : Known) (due : Due) → ShowsDue known due dues.Stopping → due ≡ Stopping
stopping_due known Stopping shows = refl
stopping_due known due shows = absurd shows

answering_due : (known : Known) (due : Due) (view : Seen) (place : ℕ) → ShowsDue known due (dues.Answering view place) → due ≡ Answering view (drop place known.calls)
answering_due known (Answering seen calls) view place shows = rw (shows.0, shows.1) refl
answering_due known due view place shows = absurd shows

finished_due : (known : Known) (due : Due) → ShowsDue known due dues.Finished → due ≡ Finished
finished_due known Finished shows = refl
finished_due known due shows = absurd shows

-- the kind that a due line has
abbrev pub DueOf : Known → Kind → Due → Type 0
DueOf known dues.Heading due = due ≡ Heading
DueOf known dues.Opening due = due ≡ Opening
DueOf known dues.Moving due = due ≡ Moving
DueOf known dues.Polling due = due ≡ Polling
DueOf known dues.Stopping due = due ≡ Stopping
DueOf known (dues.Answering view place) due = due ≡ Answering view (drop place known.calls)
DueOf known dues.Finished due = due ≡ Finished

due_of : (known : Known) (due : Due) (kind : Kind) → ShowsDue known due kind → DueOf known kind due
due_of known due dues.Heading shows = heading_due known due shows
due_of known due dues.Opening shows = opening_due known due shows
due_of known due dues.Moving shows = moving_due known due shows
due_of known due dues.Polling shows = polling_due known due shows
due_of known due dues.Stopping shows = stopping_due known due shows
due_of known due (dues.Answering view place) shows = answering_due known due view place shows
due_of known due dues.Finished shows = finished_due known due shows

pub due_shown : (known : Known) (due : Due) (held kind : Kind) → held ≡ kind → ShowsDue known due held → DueOf known kind due
due_shown known due held kind same shows = due_of known due kind (subst (ShowsDue known due) same shows)

-- what is found where this is due is found at a standing where it is
pub found_at : (trace : Trace) (known : Known) (standing : Standing) (due : Due) (text : List ℕ) (found : Option (Bor (List ℕ))) (auditor : Auditor) → standing.due ≡ due
    → NextFound trace known (at standing.course standing.counts due) text found auditor → NextFound trace known standing text found auditor
found_at trace known standing due text found auditor same next = subst (λ (d : Due). NextFound trace known (at standing.course standing.counts d) text found auditor) (sym same) next

finished_kind : (known : Known) (kind : Kind) → ShowsDue known Finished kind → kind ≡ dues.Finished
finished_kind known dues.Finished shows = refl
finished_kind known kind shows = absurd shows

-- where none is due, the auditor waits for none
pub kind_finished : (known : Known) (due : Due) (kind : Kind) → due ≡ Finished → ShowsDue known due kind → kind ≡ dues.Finished
kind_finished known due kind same shows = finished_kind known kind (subst (λ (d : Due). ShowsDue known d kind) same shows)

-- the same of what a call gives
pub ok_at : {E : Type 0} (trace : Trace) (known : Known) (text : List ℕ) (held later : Auditor) (due : Due) (result : Result (Option (Bor (List ℕ))) E) → ((standing : Standing) → ShowsStanding known standing held → standing.due ≡ due)
    → IfOk result (λ found. (course : Course) (counts : Counts) → Holds course counts held → NextFound trace known (at course counts due) text found later)
    → IfOk result (λ found. (standing : Standing) → ShowsStanding known standing held → NextFound trace known standing text found later)
ok_at trace known text held later due (Ok found) is next = λ standing shows. found_at trace known standing due text found later (is standing shows) (next standing.course standing.counts shows.holds)
ok_at trace known text held later due (Err e) is next = tt
