-- What the lines before a record say, by themselves and by where they stand.
use Rattle.std.specs.Prelude.{ℕ, ◌+◌, ◌==◌, List, [], ◌∷◌, ◌++◌, length, filter_map, Option, Some, None, if◌then◌else◌}
use Rattle.std.specs.List.{cons_option}
use Rattle.clock_gate.specs.declared.clock_row.ClockRow.{ClockRow}
use Rattle.clock_gate.specs.declared.limits.TheConstants.{USUAL_TRIES}
use Rattle.clock_gate.specs.declared.trace.CallRow.{CallRow}
use Rattle.clock_gate.specs.declared.trace.HostRow.{HostRow}
use Rattle.clock_gate.specs.declared.trace.HostRow.TheVariants as hosts
use Rattle.clock_gate.specs.declared.trace.Party.{Party}
use Rattle.clock_gate.specs.declared.trace.Party.TheVariants as parties
use Rattle.clock_gate.specs.declared.trace.PollRow.{PollRow}
use Rattle.clock_gate.specs.declared.trace.Turn.{Turn}
use Rattle.generation_word.specs.declared.layout.Layout.{Layout}
use Rattle.vmclock_page.specs.ClockPage.{ClockPage}
use Rattle.vmclock_page.specs.Words.{page_words}
use Rattle.trace_reader.specs.declared.line.Line.{Line}
use Rattle.trace_reader.specs.declared.line.Line.TheVariants as lines

-- what a line by itself says
abbrev pub drift_in : Line → Option ℕ
drift_in (lines.Drift drift) = Some drift
drift_in _ = None

abbrev pub tries_in : Line → Option ℕ
tries_in (lines.Tries tries) = Some tries
tries_in _ = None

abbrev pub layout_in : Line → Option Layout
layout_in (lines.Layout layout) = Some layout
layout_in _ = None

abbrev pub image_in : Line → Option (List ℕ)
image_in (lines.Image words) = Some words
image_in _ = None

abbrev pub page_in : Line → Option ClockPage
page_in (lines.Page page) = page
page_in _ = None

abbrev pub clock_in : Line → Option ClockRow
clock_in (lines.Clock row) = Some row
clock_in _ = None

abbrev pub poll_in : Line → Option PollRow
poll_in (lines.Poll row) = Some row
poll_in _ = None

abbrev pub turn_in : Line → Option Turn
turn_in (lines.Turns turn) = Some turn
turn_in _ = None

abbrev pub first_of : {X : Type 0} → Option X → Option X → Option X
first_of (Some x) other = Some x
first_of None other = other

-- the first value that one of these lines gives
unfoldable pub first_in : {X : Type 0} → (Line → Option X) → List Line → Option X
first_in f [] = None
first_in f (line ∷ rest) = first_of (f line) (first_in f rest)

-- the rows of the clock, the polls and the lines of the schedule, in order
unfoldable pub clocks_of : List Line → List ClockRow
clocks_of front = filter_map clock_in front

unfoldable pub polls_of : List Line → List PollRow
polls_of front = filter_map poll_in front

unfoldable pub schedule_of : List Line → List Turn
schedule_of front = filter_map turn_in front

-- what each line gives, by the lines before it
unfoldable pub gathered : {X : Type 0} → (List Line → Line → Option X) → List Line → List Line → List X
gathered f before [] = []
gathered f before (line ∷ rest) = cons_option (f before line) (gathered f (before ++ line ∷ []) rest)

-- a value, or this one where there is none
abbrev pub given : {X : Type 0} → Option X → X → X
given None usual = usual
given (Some x) usual = x

-- a page with another marker
abbrev pub marked : ℕ → Option ClockPage → Option ClockPage
marked marker None = None
marked marker (Some page) = Some (record page { disruption_marker = marker })

-- the page that stands after a line, by the page that stood before it
abbrev pub page_next : Option ClockPage → Line → Option ClockPage
page_next before (lines.Page page) = page
page_next before (lines.Mark marker) = marked marker before
page_next before _ = before

-- the page that stands after these lines
unfoldable pub page_from : Option ClockPage → List Line → Option ClockPage
page_from before [] = before
page_from before (line ∷ rest) = page_from (page_next before line) rest

-- the words of a page in a trace, its two pad bytes being 0
unfoldable pub words_of_page : ClockPage → List ℕ
words_of_page page = page_words 0 page

abbrev pub page_row : Option ClockPage → Option HostRow
page_row None = None
page_row (Some page) = Some (hosts.Page (words_of_page page))

-- the row of the host that a line gives, after so many rows of the clock; a page before the first is the start page
abbrev pub host_at : Option ClockPage → ℕ → Line → Option HostRow
host_at before clocks (lines.Clock row) = Some (hosts.Clock (clocks + 1))
host_at before clocks (lines.Mark marker) = page_row (marked marker before)
host_at before clocks (lines.Page page) = if clocks == 0 then None else page_row page
host_at before clocks lines.Disrupt = Some hosts.Disrupt
host_at before clocks _ = None

-- whose job a line names; the first row of the clock is in place at the start
abbrev pub job_at : ℕ → Line → Option Party
job_at clocks (lines.Clock row) = if clocks == 0 then None else Some parties.Host
job_at clocks (lines.Mark marker) = Some parties.Host
job_at clocks (lines.Page page) = if clocks == 0 then None else Some parties.Host
job_at clocks lines.Disrupt = Some parties.Host
job_at clocks (lines.Poll row) = Some parties.Daemon
job_at clocks (lines.Call client tries) = Some (parties.Client client)
job_at clocks _ = None

-- a call has its own tries, or those of the trace
abbrev pub call_at : Option ℕ → Line → Option CallRow
call_at usual (lines.Call client tries) =
    Some (record { client = client; tries = given tries (given usual USUAL_TRIES) })
call_at usual _ = None

unfoldable pub host_of : List Line → List HostRow
host_of front = gathered (λ before. host_at (page_from None before) (length (clocks_of before))) [] front

unfoldable pub order_of : List Line → List Party
order_of front = gathered (λ before. job_at (length (clocks_of before))) [] front

unfoldable pub calls_of : List Line → List CallRow
calls_of front = gathered (λ before. call_at (first_in tries_in before)) [] front

-- what the lines so far say
pub record Facts : Type 0 where
  -- how many they are
  pub count : ℕ
  -- what was set
  pub drift : Option ℕ
  pub tries : Option ℕ
  pub layout : Option Layout
  pub image : Option (List ℕ)
  -- the start page, and the page that stands now
  pub start : Option ClockPage
  pub page : Option ClockPage
  -- the lists of the trace
  pub clocks : List ClockRow
  pub host : List HostRow
  pub polls : List PollRow
  pub calls : List CallRow
  pub turns : List Turn
  pub order : List Party

abbrev pub facts_of : List Line → Facts
facts_of front = record {
  count = length front;
  drift = first_in drift_in front;
  tries = first_in tries_in front;
  layout = first_in layout_in front;
  image = first_in image_in front;
  start = first_in page_in front;
  page = page_from None front;
  clocks = clocks_of front;
  host = host_of front;
  polls = polls_of front;
  calls = calls_of front;
  turns = schedule_of front;
  order = order_of front;
}

abbrev pub no_facts : Facts
no_facts = facts_of []
