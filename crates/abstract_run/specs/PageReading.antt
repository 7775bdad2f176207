-- A read of the page in the abstract run: its tries over what the sequence count shows.
use Rattle.std.specs.Prelude.{ℕ, ◌-◌, Bool, true, false, not, ◌||◌, nat_le, ◌==◌, if◌then◌else◌, Option, Some, None}
use Rattle.abstract_run.specs.HostRun.{PageShown, sequence_of}

-- a try in hand: the page that its first load showed, and whether its marker is loaded
pub record PageTry : Type 0 where
  pub page : ℕ
  pub has_marker : Bool

-- a read in hand: the tries that have not failed, and the try in hand
pub record PageReading : Type 0 where
  pub left : ℕ
  pub try : Option PageTry

abbrev pub page_reading : ℕ → PageReading
page_reading tries = record { left = tries; try = None }

-- what one load leaves: the read goes on, or it saw a page, or all its tries failed, the last by these two sequence counts
pub data PageAfter : Type 0 where
  Looks : (reading : PageReading) → PageAfter
  Saw : (page : ℕ) → PageAfter
  Missed : (first last : ℕ) → PageAfter

abbrev pub page_try_fails : PageReading → ℕ → ℕ → PageAfter
page_try_fails reading first last =
    if nat_le reading.left 1 then Missed first last
    else Looks (record { left = reading.left - 1; try = None })

-- the first load: a page that is being written fails the try
abbrev pub page_first_load : ℕ → PageShown → PageReading → PageAfter
page_first_load start shown reading =
    if shown.is_writing then page_try_fails reading (sequence_of start shown) (sequence_of start shown)
    else Looks (record reading { try = Some (record { page = shown.page; has_marker = false }) })

-- the last load: another page, or one that is being written, fails the try
abbrev pub page_last_load : ℕ → PageShown → PageReading → PageTry → PageAfter
page_last_load start shown reading try =
    if shown.is_writing || not (shown.page == try.page)
    then page_try_fails reading (sequence_of start (record { page = try.page; is_writing = false })) (sequence_of start shown)
    else Saw try.page

abbrev pub page_load_by : ℕ → PageShown → PageReading → Option PageTry → PageAfter
page_load_by start shown reading None = page_first_load start shown reading
page_load_by start shown reading (Some try) =
    if try.has_marker then page_last_load start shown reading try
    else Looks (record reading { try = Some (record try { has_marker = true }) })

-- one load of a read, where the start page had this sequence count
abbrev pub page_load : ℕ → PageShown → PageReading → PageAfter
page_load start shown reading = page_load_by start shown reading reading.try

-- whether the next load is that of a marker
abbrev pub is_marker_next : Option PageTry → Bool
is_marker_next None = false
is_marker_next (Some try) = not try.has_marker
