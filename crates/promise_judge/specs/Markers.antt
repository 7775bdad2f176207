-- The disruption markers of pages. Page 0 is the start page, and the page rows of the host bring the others.
use Rattle.std.specs.Prelude.{ℕ, ◌-◌, ◌==◌, Bool, false, not, ◌&&◌, ◌||◌, List, [], ◌∷◌, take, Option, Some, None, slice_index}
use Rattle.std.specs.List.{list_any}
use Rattle.clock_gate.specs.declared.trace.HostRow.{HostRow}
use Rattle.clock_gate.specs.declared.trace.HostRow.TheVariants.{Clock, Page, Disrupt}
use Rattle.promise_judge.specs.Positions.{host_row}

-- the marker among the words of a page
abbrev pub marker_in : List ℕ → ℕ
marker_in words = slice_index words 2

-- the marker of the start page, where there is one
abbrev pub start_marker : Option (List ℕ) → Option ℕ
start_marker None = None
start_marker (Some words) = Some (marker_in words)

-- the marker of the last page among these rows, or this one where they have no page
abbrev pub marker_after : Option ℕ → List HostRow → Option ℕ
marker_after start [] = start
marker_after start (Clock number ∷ rows) = marker_after start rows
marker_after start (Page words ∷ rows) = marker_after (Some (marker_in words)) rows
marker_after start (Disrupt ∷ rows) = marker_after start rows

-- the markers of all pages among these rows
abbrev pub markers_of : List HostRow → List ℕ
markers_of [] = []
markers_of (Clock number ∷ rows) = markers_of rows
markers_of (Page words ∷ rows) = marker_in words ∷ markers_of rows
markers_of (Disrupt ∷ rows) = markers_of rows

-- the marker of a page row
abbrev pub marker_of_row : HostRow → Option ℕ
marker_of_row (Clock number) = None
marker_of_row (Page words) = Some (marker_in words)
marker_of_row Disrupt = None

abbrev pub is_that : ℕ → Option ℕ → Bool
is_that marker None = false
is_that marker (Some other) = marker == other

-- a page row whose marker isn't this one
abbrev pub changes : Option ℕ → HostRow → Bool
changes before (Clock number) = false
changes before (Page words) = not (is_that (marker_in words) before)
changes before Disrupt = false

-- the row at this host position is a page row with another marker than the page just before it
abbrev pub changes_at : Option ℕ → List HostRow → ℕ → Bool
changes_at start host p = changes (marker_after start (take (p - 1) host)) (host_row host p)

-- this is the marker of the start page, or of a page among these rows
abbrev pub has_stood : Option ℕ → List HostRow → ℕ → Bool
has_stood start rows marker = is_that marker start || list_any (λ other. marker == other) (markers_of rows)

-- a page row with such a marker
abbrev pub brings_back : Option ℕ → List HostRow → HostRow → Bool
brings_back start rows (Clock number) = false
brings_back start rows (Page words) = has_stood start rows (marker_in words)
brings_back start rows Disrupt = false

-- the row at this host position is a page row with another marker than the page just before it, and with that of an earlier page
abbrev pub repeats_at : Option ℕ → List HostRow → ℕ → Bool
repeats_at start host p = changes_at start host p && brings_back start (take (p - 1) host) (host_row host p)
