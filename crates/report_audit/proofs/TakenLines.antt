-- Lines that an auditor has taken, kind by kind.
use Rattle.std.proofs.Common.{◌≡◌, ℕ, ◌+◌, ◌/◌, ◌≤◌, List, [], ◌∷◌, ◌++◌, Some, refl}
use Rattle.std.specs.Prelude.{slice_get, if◌then◌else◌}
use Rattle.clock_gate.specs.declared.trace.PollRow.{PollRow}
use Rattle.clock_gate.specs.declared.trace.Trace.{Trace}
use Rattle.segment_layout.specs.declared.publication.Publication.{Publication}
use Rattle.segment_layout.specs.declared.start.Start.{Start}
use Rattle.interval_now.specs.declared.answers.Answer.{Answer}
use Rattle.lawful_report.specs.declared.call.Call.{Call}
use Rattle.lawful_report.specs.declared.counts.Counts.{Counts}
use Rattle.lawful_report.specs.declared.printed.Printed.TheVariants.{Header, Opened, Published, Skipped, Stopped, Moved, Answered, Total}
use Rattle.lawful_report.specs.declared.seen.Seen.{Seen}
use Rattle.lawful_report.specs.Course.{Course, Life, start_found, next_generation, is_move, opened, moved, skipped, stopped, published, poll_at, IsPublished}
use Rattle.lawful_report.specs.Lawful.{Heading, Opening, Moving, Polling, Stopping, Answering, Finished, due_next, going_on, after_publication, one_publication, one_answer, counts_list, seen_before, DoesNotStop, PollsHere}
use Rattle.lawful_report.specs.Lines.{line_text}
use Rattle.lawful_report.specs.Pages.{PageTriesFail, page_seen}
use Rattle.report_audit.specs.FoundLines.{Answers}
use Rattle.report_audit.specs.NextLine.{Holds, ShowsDue, ShowsStanding, Taken, at}
use Rattle.report_audit.specs.declared.auditor.Auditor.{Auditor}
use Rattle.report_audit.specs.declared.known.Known.{Known}

module _ (trace : Trace) (known : Known) (course : Course) (counts : Counts) (text later : List ℕ) (auditor : Auditor) where
  pub taken_heading : Holds course counts auditor → ShowsDue known (due_next trace course) auditor.due → text ≡ line_text Header ++ later → Taken trace known (at course counts Heading) text auditor later
  taken_heading holds due begins = record { line = Header; after = going_on trace counts course; follows = refl; begins = begins; shows = record { holds = holds; due_is = due } }

  pub taken_opening : (poll : ℕ) (start : Start) → poll ≡ course.polled + 1 → start ≡ start_found trace course → Holds (opened trace course) counts auditor → ShowsDue known (if is_move trace course then Moving else Polling) auditor.due
      → text ≡ line_text (Opened poll start) ++ later → Taken trace known (at course counts Opening) text auditor later
  taken_opening poll start polls starts holds due begins = record {
    line = Opened poll start;
    after = at (opened trace course) counts (if is_move trace course then Moving else Polling);
    follows = record { poll_is = polls; start_is = starts; after_is = refl };
    begins = begins;
    shows = record { holds = holds; due_is = due };
  }

  pub taken_moving : (poll position generation : ℕ) → poll ≡ course.polled + 1 → position ≡ course.point / 2 + 1 → generation ≡ next_generation trace course → Holds (moved course) counts auditor → ShowsDue known Polling auditor.due
      → text ≡ line_text (Moved poll position generation) ++ later → Taken trace known (at course counts Moving) text auditor later
  taken_moving poll position generation polls positions generations holds due begins = record {
    line = Moved poll position generation;
    after = at (moved course) counts Polling;
    follows = record { poll_is = polls; position_is = positions; generation_is = generations; after_is = refl };
    begins = begins;
    shows = record { holds = holds; due_is = due };
  }

  pub taken_skip : (poll first last : ℕ) → poll ≡ course.polled + 1 → PageTriesFail trace course.page first last → Holds (skipped course (page_seen trace last)) counts auditor → ShowsDue known (due_next trace (skipped course (page_seen trace last))) auditor.due
      → text ≡ line_text (Skipped poll first last) ++ later → Taken trace known (at course counts Polling) text auditor later
  taken_skip poll first last polls fails holds due begins = record {
    line = Skipped poll first last;
    after = going_on trace counts (skipped course (page_seen trace last));
    follows = record { poll_is = polls; fails = fails; after_is = refl };
    begins = begins;
    shows = record { holds = holds; due_is = due };
  }

  pub taken_stop : (row : PollRow) (poll stores : ℕ) → slice_get trace.polls course.polled ≡ Some row → poll ≡ course.polled + 1 → stores ≤ 9 → row.stop ≡ Some stores → Holds (stopped course stores) counts auditor → ShowsDue known (due_next trace (stopped course stores)) auditor.due
      → text ≡ line_text (Stopped poll stores) ++ later → Taken trace known (at course counts Polling) text auditor later
  taken_stop row poll stores is polls few stop holds due begins = record {
    line = Stopped poll stores;
    after = going_on trace counts (stopped course stores);
    follows = record { row = row; is = is; poll_is = polls; few = few; stop = stop; after_is = refl };
    begins = begins;
    shows = record { holds = holds; due_is = due };
  }

  pub taken_publication : (row : PollRow) (life : Life) (position page : ℕ) (p : Publication) → PollsHere trace course row life → DoesNotStop row.stop → IsPublished trace course life row position page p
      → ShowsStanding known (after_publication trace (one_publication counts) row (published course life (poll_at trace course p.asked page row) p.replied page)) auditor
      → text ≡ line_text (Published position page p) ++ later → Taken trace known (at course counts Polling) text auditor later
  taken_publication row life position page p here goes_on is shows begins = record {
    line = Published position page p;
    after = after_publication trace (one_publication counts) row (published course life (poll_at trace course p.asked page row) p.replied page);
    follows = record { row = row; life = life; here = here; goes_on = goes_on; is = is; after_is = refl };
    begins = begins;
    shows = shows;
  }

  pub taken_stopping : (poll : ℕ) → poll ≡ course.polled → Holds course counts auditor → ShowsDue known (due_next trace course) auditor.due → text ≡ line_text (Stopped poll 10) ++ later → Taken trace known (at course counts Stopping) text auditor later
  taken_stopping poll polls holds due begins = record {
    line = Stopped poll 10;
    after = going_on trace counts course;
    follows = record { poll_is = polls; all = refl; after_is = refl };
    begins = begins;
    shows = record { holds = holds; due_is = due };
  }

  pub taken_total : (seen : Seen) (told : List ℕ) → told ≡ counts_list counts → Holds course counts auditor → ShowsDue known Finished auditor.due → text ≡ line_text (Total told) ++ later → Taken trace known (at course counts (Answering seen [])) text auditor later
  taken_total seen told tells holds due begins = record {
    line = Total told;
    after = at course counts Finished;
    follows = (tells, refl);
    begins = begins;
    shows = record { holds = holds; due_is = due };
  }

  pub taken_answer : (seen : Seen) (due : Call) (left : List Call) (after : Seen) (answer : Answer) → Answers trace course due (seen_before trace seen due) text after answer later → Holds course (one_answer answer counts) auditor → ShowsDue known (Answering after left) auditor.due
      → Taken trace known (at course counts (Answering seen (due ∷ left))) text auditor later
  taken_answer seen due left after answer found holds due_is = record {
    line = Answered due.client due.number found.page answer;
    after = at course (one_answer answer counts) (Answering after left);
    follows = record { client_is = refl; call_is = refl; seen = after; may = found.may; after_is = refl };
    begins = found.begins;
    shows = record { holds = holds; due_is = due_is };
  }
