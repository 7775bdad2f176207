-- The daemon in the abstract run: openings, polls and publications, step by step. A poll is one round: load the clock, load the page's
-- marker, take chrony's reply, publish. A mark is a change of the page's disruption marker; support means that there is a page. A poll's
-- record is that of looking back over the incarnation.
use Rattle.std.specs.Prelude.{ℕ, ◌+◌, ◌-◌, Bool, false, ◌==◌, if◌then◌else◌, List, [], ◌∷◌, slice_get, slice_index_or, Option, Some, None, is_some}
use Rattle.clock_gate.specs.ClockRow.{reading_at}
use Rattle.clock_gate.specs.declared.trace.PollRow.{PollRow}
use Rattle.clock_gate.specs.declared.trace.Trace.{Trace}
use Rattle.vmclock_page.specs.Host.{count_of}
use Rattle.segment_layout.specs.declared.publication.Publication.{Publication}
use Rattle.segment_layout.specs.declared.start.Start.{Start}
use Rattle.segment_layout.specs.declared.start.Start.TheVariants.{Kept}
use Rattle.status_machine.specs.declared.poll.Poll.{Poll}
use Rattle.status_machine.specs.Incarnation.{Incarnation, base_at, record_at}
use Rattle.status_machine.specs.Poll.{heard_of}
use Rattle.status_machine.specs.Base.{base_number}
use Rattle.segment_run.specs.SegmentRun.{SegmentRun, is_old, start_found, opening_length, opening_effect, number_shown, number_at, stored}
use Rattle.abstract_run.specs.declared.event.Event.{Event}
use Rattle.abstract_run.specs.declared.event.Event.TheVariants.{Opened, Moved, Published, Skipped, Stopped}
use Rattle.abstract_run.specs.HostRun.{HostRun, clocks_at, page_shown, marker_of, sequence_of}
use Rattle.abstract_run.specs.PageReading.{PageReading, PageAfter, Looks, Saw, Missed, page_reading, page_load, is_marker_next}

-- an incarnation with its polls whose reply was taken, the newest first; skipped polls aren't among them
pub record Life : Type 0 where
  pub from : Incarnation
  pub past : List Poll

-- what a poll saw before its reply: the clock row of its first reading, and the page's marker and sequence count, with the host
-- position at the marker's load; without a page no marker, count 0, and the position at the first reading
pub record Asked : Type 0 where
  pub row : ℕ
  pub marker : Option ℕ
  pub sequence : ℕ
  pub marked_at : ℕ

-- a publication in hand: how many of its stores are made, and the host positions at the marker's load and when the reply was
-- taken
pub record Storing : Type 0 where
  pub publication : Publication
  pub stores : ℕ
  pub marked_at : ℕ
  pub replied_at : ℕ

-- the poll in hand: its opening after so many steps, what it found and whether the header was old; or before its first reading; or in
-- the page tries, with the row of the first reading and the host position at the last load of a marker; or before its reply; or in
-- its stores
pub data Work : Type 0 where
  Resting : Work
  Opening : (start : Start) (old : Bool) (steps : ℕ) → Work
  Asking : Work
  Looking : (row : ℕ) (reading : PageReading) (marked_at : ℕ) → Work
  Taking : (asked : Asked) → Work
  Writing : (storing : Storing) → Work

-- the daemon: its incarnation, or none while it is stopped; the poll in hand; how many polls were begun; and the base number of the
-- last publication that ended: the poll that gave as-of and bound, 0 where no poll of this run did
pub record DaemonRun : Type 0 where
  pub life : Option Life
  pub work : Work
  pub polled : ℕ
  pub base : ℕ

-- a segment and a daemon, and the events of one turn
pub record DaemonTurn : Type 0 where
  pub segment : SegmentRun
  pub daemon : DaemonRun
  pub events : List Event

abbrev pub no_poll : PollRow
no_poll = record { reply = []; stop = None }

-- the row of the poll in hand
abbrev pub poll_row : Trace → DaemonRun → PollRow
poll_row trace daemon = slice_index_or trace.polls (daemon.polled - 1) no_poll

-- the poll in hand goes on to this, and nothing is told
abbrev pub goes_on : SegmentRun → DaemonRun → Work → DaemonTurn
goes_on segment daemon work = record { segment = segment; daemon = record daemon { work = work }; events = [] }

-- ---- an opening

-- the incarnation that an opening begins
abbrev pub life_from : Trace → Start → ℕ → Life
life_from trace start base =
    record { from = record { start = start; drift = trace.drift; support = is_some trace.page; base = base }; past = [] }

-- a record was moved: the opening's header was old, and it found a record
abbrev pub is_move : (old : Bool) → Start → Bool
is_move old (Kept generation rec) = old
is_move old other = false

-- the opening has ended: the daemon lives, and its poll comes next; a record that was moved has no base of a poll
abbrev pub opening_ends : Trace → SegmentRun → DaemonRun → Start → (moved : Bool) → DaemonTurn
opening_ends trace segment daemon start moved =
    record {
      segment = segment;
      daemon = record daemon { life = Some (life_from trace start (if moved then 0 else daemon.base)); work = Asking; base = if moved then 0 else daemon.base };
      events = if moved then Opened daemon.polled start ∷ Moved daemon.polled segment.position (number_shown segment) ∷ [] else Opened daemon.polled start ∷ [];
    }

-- one step of an opening that has made so many
abbrev pub opening_step : Trace → SegmentRun → DaemonRun → Start → (old : Bool) → (steps : ℕ) → DaemonTurn
opening_step trace segment daemon start old steps =
    if steps + 1 == opening_length old start
    then opening_ends trace (opening_effect start steps segment) daemon start (is_move old start)
    else goes_on (opening_effect start steps segment) daemon (Opening start old (steps + 1))

-- ---- a poll

-- what the daemon has of the poll in hand when its reply is taken
abbrev pub poll_of : Trace → DaemonRun → Asked → Poll
poll_of trace daemon asked =
    record {
      number = daemon.polled;
      reading = reading_at trace.clock asked.row;
      marker = asked.marker;
      heard = heard_of (poll_row trace daemon).reply;
    }

-- the publication of a poll, in a life, at a position: the record is that of looking back
abbrev pub publication_of : SegmentRun → Life → Poll → Asked → (replied : ℕ) → Publication
publication_of segment life poll asked replied =
    record {
      poll = poll.number;
      generation = number_at segment (segment.position + 1);
      asked = asked.row;
      sequence = asked.sequence;
      replied = replied;
      base = base_number (base_at life.from (poll ∷ life.past));
      rec = record_at life.from poll life.past;
    }

abbrev pub is_stop : Option ℕ → ℕ → Bool
is_stop None stores = false
is_stop (Some stop) stores = stop == stores

abbrev pub stops : Trace → SegmentRun → DaemonRun → (stores : ℕ) → List Event → DaemonTurn
stops trace segment daemon stores events =
    record { segment = segment; daemon = record daemon { life = None; work = Resting }; events = events }

abbrev pub published : DaemonRun → SegmentRun → Storing → Event
published daemon segment storing = Published segment.position storing.publication storing.marked_at storing.replied_at

-- the publication has ended; the base number is its own
abbrev pub publication_ends : Trace → SegmentRun → DaemonRun → Storing → DaemonTurn
publication_ends trace segment daemon storing =
    if is_stop (poll_row trace daemon).stop 10
    then stops trace segment (record daemon { base = storing.publication.base }) 10 (published daemon segment storing ∷ Stopped daemon.polled 10 ∷ [])
    else record { segment = segment; daemon = record daemon { work = Resting; base = storing.publication.base }; events = published daemon segment storing ∷ [] }

-- what follows on so many stores: the publication has ended, or the daemon stops here, or it goes on
abbrev pub after_stores : Trace → SegmentRun → DaemonRun → Storing → DaemonTurn
after_stores trace segment daemon storing =
    if storing.stores == 10 then publication_ends trace segment daemon storing
    else if is_stop (poll_row trace daemon).stop storing.stores then stops trace segment daemon storing.stores (Stopped daemon.polled storing.stores ∷ [])
    else goes_on segment daemon (Writing storing)

-- one store
abbrev pub store_step : Trace → SegmentRun → DaemonRun → Storing → DaemonTurn
store_step trace segment daemon storing =
    after_stores trace (stored segment storing.publication storing.stores) daemon (record storing { stores = storing.stores + 1 })

-- the reply is taken: the poll joins the incarnation, and its publication begins
abbrev pub taken : Trace → SegmentRun → DaemonRun → Asked → Poll → (replied replied_at : ℕ) → Option Life → DaemonTurn
taken trace segment daemon asked poll replied replied_at None = record { segment = segment; daemon = daemon; events = [] }
taken trace segment daemon asked poll replied replied_at (Some life) =
    after_stores trace segment (record daemon { life = Some (record life { past = poll ∷ life.past }) })
    (record { publication = publication_of segment life poll asked replied; stores = 0; marked_at = asked.marked_at; replied_at = replied_at })

-- a load of the page, with the host position at the last load of a marker
abbrev pub look_by : Trace → SegmentRun → DaemonRun → (row marked_at : ℕ) → PageAfter → DaemonTurn
look_by trace segment daemon row marked_at (Looks reading) = goes_on segment daemon (Looking row reading marked_at)
look_by trace segment daemon row marked_at (Saw page) =
    goes_on segment daemon
    (Taking (record {
      row = row;
      marker = Some (marker_of trace.page trace.host page);
      sequence = sequence_of (count_of trace.page) (record { page = page; is_writing = false });
      marked_at = marked_at;
    }))
look_by trace segment daemon row marked_at (Missed first last) =
    record { segment = segment; daemon = record daemon { work = Resting }; events = Skipped daemon.polled first last ∷ [] }

abbrev pub marked_by : (is_marker : Bool) → (now before : ℕ) → ℕ
marked_by is_marker now before = if is_marker then now else before

-- the first load of the clock: the page comes next, where there is one, and until a marker is loaded this position stands for it
abbrev pub ask_by : Trace → SegmentRun → DaemonRun → (row done : ℕ) → Option (List ℕ) → DaemonTurn
ask_by trace segment daemon row done None =
    goes_on segment daemon (Taking (record { row = row; marker = None; sequence = 0; marked_at = done }))
ask_by trace segment daemon row done (Some page) = goes_on segment daemon (Looking row (page_reading trace.tries) done)

abbrev pub ask_step : Trace → HostRun → SegmentRun → DaemonRun → DaemonTurn
ask_step trace host segment daemon = ask_by trace segment daemon (clocks_at trace.host host.done) host.done trace.page

-- ---- a turn

-- the first step of a poll: that of an opening, where the daemon is stopped
abbrev pub poll_begins : Trace → HostRun → SegmentRun → DaemonRun → Option Life → DaemonTurn
poll_begins trace host segment daemon None = opening_step trace segment daemon (start_found segment) (is_old segment) 0
poll_begins trace host segment daemon (Some life) = ask_step trace host segment daemon

abbrev pub next_poll : Trace → HostRun → SegmentRun → DaemonRun → Option PollRow → DaemonTurn
next_poll trace host segment daemon None = record { segment = segment; daemon = daemon; events = [] }
next_poll trace host segment daemon (Some row) =
    poll_begins trace host segment (record daemon { polled = daemon.polled + 1 }) daemon.life

abbrev pub daemon_turn_by : Trace → HostRun → SegmentRun → DaemonRun → Work → DaemonTurn
daemon_turn_by trace host segment daemon Resting = next_poll trace host segment daemon (slice_get trace.polls daemon.polled)
daemon_turn_by trace host segment daemon (Opening start old steps) = opening_step trace segment daemon start old steps
daemon_turn_by trace host segment daemon Asking = ask_step trace host segment daemon
daemon_turn_by trace host segment daemon (Looking row reading marked_at) =
    look_by trace segment daemon row (marked_by (is_marker_next reading.try) host.done marked_at)
    (page_load (count_of trace.page) (page_shown trace.host host) reading)
daemon_turn_by trace host segment daemon (Taking asked) =
    taken trace segment daemon asked (poll_of trace daemon asked) (clocks_at trace.host host.done) host.done daemon.life
daemon_turn_by trace host segment daemon (Writing storing) = store_step trace segment daemon storing

-- one turn of the daemon
abbrev pub daemon_turn : Trace → HostRun → SegmentRun → DaemonRun → DaemonTurn
daemon_turn trace host segment daemon = daemon_turn_by trace host segment daemon daemon.work

-- at the start it is stopped
abbrev pub daemon_start : DaemonRun
daemon_start = record { life = None; work = Resting; polled = 0; base = 0 }
