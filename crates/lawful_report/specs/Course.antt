-- The daemon's lines of a report, and what they come to: the records published, each with its rows.
use Rattle.std.specs.Prelude.{◌≡◌, ℕ, ◌+◌, ◌-◌, ◌*◌, ◌/◌, ◌≤◌, pos, Bool, true, false, ◌&&◌, ◌==◌, nat_lt, if◌then◌else◌, List, [], ◌∷◌, ◌++◌, length, slice_get, slice_index, Option, Some, None, is_some, Result, Ok, Err}
use Rattle.generation_word.specs.declared.layout.Layout.{Layout}
use Rattle.generation_word.specs.declared.layout.Layout.TheVariants.{Two, Three}
use Rattle.generation_word.specs.Layout.{period_of}
use Rattle.generation_word.specs.Numbering.{generation_at}
use Rattle.generation_word.specs.Header.{header_of}
use Rattle.clock_gate.specs.declared.clock_status.ClockStatus.TheVariants.{Unknown}
use Rattle.clock_gate.specs.declared.trace.PollRow.{PollRow}
use Rattle.clock_gate.specs.declared.trace.Trace.{Trace}
use Rattle.clock_gate.specs.ClockRow.{reading_at}
use Rattle.segment_layout.specs.declared.image_fault.ImageFault.{ImageFault}
use Rattle.segment_layout.specs.declared.publication.Publication.{Publication}
use Rattle.segment_layout.specs.declared.start.Start.{Start}
use Rattle.segment_layout.specs.declared.start.Start.TheVariants.{Fresh, Kept, Torn}
use Rattle.segment_layout.specs.History.{start_seen}
use Rattle.segment_layout.specs.Image.{image_of, is_old_header}
use Rattle.segment_layout.specs.Record.{RecordFields}
use Rattle.status_machine.specs.declared.poll.Poll.{Poll}
use Rattle.status_machine.specs.Incarnation.{Incarnation, base_at, record_at}
use Rattle.status_machine.specs.Poll.{heard_of}
use Rattle.status_machine.specs.Base.{base_number}
use Rattle.lawful_report.specs.declared.entry.Entry.{Entry}
use Rattle.lawful_report.specs.Pages.{marker_of_page, last_page}
use Rattle.lawful_report.specs.Points.{segment_at}

-- an incarnation with its polls, the newest first
pub record Life : Type 0 where
  pub from : Incarnation
  pub past : List Poll

-- how far the daemon's lines have come: the polls that have theirs; the position before the first entry, and the entries; the
-- point; the clock row and the page that the daemon saw last; and its incarnation, none while it is stopped
pub record Course : Type 0 where
  pub polled : ℕ
  pub before : ℕ
  pub entries : List Entry
  pub point : ℕ
  pub row : ℕ
  pub page : ℕ
  pub life : Option Life

-- ---- how it begins

-- a record that stands before the first poll: of the image, or moved from it
abbrev pub first_entry : RecordFields → Entry
first_entry rec = record { rec = rec; replied = 1; page = 0; base = 0 }

abbrev pub course_from : (before : ℕ) → List Entry → (point : ℕ) → Course
course_from before entries point =
    record { polled = 0; before = before; entries = entries; point = point; row = 1; page = 0; life = None }

-- the point of an image is its generation
abbrev pub course_by : Result Start ImageFault → Course
course_by (Ok Fresh) = course_from 0 [] 0
course_by (Ok (Torn generation)) = course_from (generation / 2) [] generation
course_by (Ok (Kept generation rec)) = course_from (generation / 2 - 1) (first_entry rec ∷ []) generation
course_by (Err fault) = course_from 0 [] 0

abbrev pub course_start : Trace → Course
course_start trace = course_by (image_of trace.layout trace.image)

-- ---- the entries

-- the entry at a position
abbrev pub entry_at : Course → ℕ → Option Entry
entry_at course position = if nat_lt course.before position then slice_get course.entries (position - course.before - 1) else None

abbrev pub entry_or_none : Option Entry → Entry
entry_or_none (Some entry) = entry
entry_or_none None = first_entry (record { as_of = pos 0; void_after = pos 0; bound = pos 0; marker = 0; drift = 0; status = Unknown; support = false })

-- the entry at the present position
abbrev pub last_entry : Course → Entry
last_entry course = entry_or_none (entry_at course (course.point / 2))

-- the generation of the next position
abbrev pub next_generation : Trace → Course → ℕ
next_generation trace course = generation_at (period_of trace.layout) (course.point / 2 + 1)

-- ---- an opening

-- what an opening finds
abbrev pub start_found : Trace → Course → Start
start_found trace course = start_seen trace.layout (segment_at course.point) (last_entry course).rec

-- a record stands there
abbrev pub keeps : Start → Bool
keeps Fresh = false
keeps (Torn generation) = false
keeps (Kept generation rec) = true

-- the opening moves the segment: it is the first, and finds a record under an old header
abbrev pub is_move : Trace → Course → Bool
is_move trace course =
    (course.polled == 0) && (is_old_header trace.layout (slice_index trace.image 1) && keeps (start_found trace course))

abbrev pub life_from : Trace → Start → ℕ → Life
life_from trace start base =
    record { from = record { start = start; drift = trace.drift; support = is_some trace.page; base = base }; past = [] }

-- an incarnation begins
abbrev pub opened : Trace → Course → Course
opened trace course = record course { life = Some (life_from trace (start_found trace course) (last_entry course).base) }

-- the record at the present point is published once more
abbrev pub moved : Course → Course
moved course =
    record course { entries = course.entries ++ first_entry (last_entry course).rec ∷ []; point = 2 * (course.point / 2 + 1) }

-- ---- a poll

-- the poll that is next
abbrev pub poll_at : Trace → Course → (asked page : ℕ) → PollRow → Poll
poll_at trace course asked page row =
    record {
      number = course.polled + 1;
      reading = reading_at trace.clock asked;
      marker = marker_of_page trace page;
      heard = heard_of row.reply;
    }

-- what a poll publishes in its incarnation
abbrev pub entry_of : Life → Poll → (replied page : ℕ) → Entry
entry_of life poll replied page =
    record {
      rec = record_at life.from poll life.past;
      replied = replied;
      page = page;
      base = base_number (base_at life.from (poll ∷ life.past));
    }

-- the point after so many stores of a publication that doesn't end: one of them opens an update, unless it is open
abbrev pub point_stopped : (point stores : ℕ) → ℕ
point_stopped point stores = if (stores == 0) then point else 2 * (point / 2) + 1

-- the poll is skipped, and the page was seen
abbrev pub skipped : Course → (page : ℕ) → Course
skipped course page = record course { polled = course.polled + 1; page = page }

-- the daemon stops before the publication ends
abbrev pub stopped : Course → (stores : ℕ) → Course
stopped course stores = record course { polled = course.polled + 1; point = point_stopped course.point stores; life = None }

-- the poll published; the incarnation goes on or ends
abbrev pub published : Course → Life → Poll → (replied page : ℕ) → Course
published course life poll replied page =
    record course {
      polled = course.polled + 1;
      entries = course.entries ++ entry_of life poll replied page ∷ [];
      point = 2 * (course.point / 2 + 1);
      row = replied;
      page = page;
      life = Some (record life { past = poll ∷ life.past });
    }

abbrev pub ended : Course → Course
ended course = record course { life = None }

-- the publication is what the poll of this row publishes, at these rows and with the marker of this page
pub record IsPublished (trace : Trace) (course : Course) (life : Life) (row : PollRow) (position page : ℕ) (p : Publication) : Type 0 where
  pub position_is : position ≡ course.point / 2 + 1
  pub poll : p.poll ≡ course.polled + 1
  pub generation : p.generation ≡ next_generation trace course
  pub asked : course.row ≤ p.asked
  pub replied : p.asked ≤ p.replied
  pub done : p.replied ≤ length trace.clock
  pub page_kept : course.page ≤ page
  pub page_done : page ≤ last_page trace
  pub rec : p.rec ≡ record_at life.from (poll_at trace course p.asked page row) life.past
  pub base : p.base ≡ base_number (base_at life.from (poll_at trace course p.asked page row ∷ life.past))
