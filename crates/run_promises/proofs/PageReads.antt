-- A read of the page: the page that it ends with stood there at its last load of a marker.
use Rattle.std.proofs.Common.{◌≡◌, ℕ, ◌+◌, ◌-◌, ◌≤◌, Bool, true, false, List, Option, Some, None, refl, ap, sym, ◌∙◌, arith, inl, inr}
use Rattle.std.specs.Prelude.{◌==◌, ◌||◌, not, nat_le, slice_get, if◌then◌else◌}
use Rattle.std.proofs.lemmas.Bool.{cases_eq}
use Rattle.std.proofs.lemmas.Bool.Decides.{nat_tests}
use Rattle.clock_gate.specs.declared.trace.HostRow.{HostRow}
use Rattle.clock_gate.specs.declared.trace.HostRow.TheVariants.{Clock, Page, Disrupt}
use Rattle.abstract_run.specs.HostRun.{HostRun, PageShown, pages_at, page_shown, sequence_of, row_turn, host_turn}
use Rattle.abstract_run.specs.PageReading.{PageTry, PageReading, PageAfter, Looks, Saw, Missed, page_try_fails, page_load_by, page_last_load, page_load, is_marker_next}
use Rattle.abstract_run.specs.DaemonRun.{marked_by}
use Rattle.abstract_run.proofs.RowCounts.{pages_clock, pages_more, pages_disrupt}

-- ---- a turn of the host leaves no fewer pages

store_pages : (rows : List HostRow) (host : HostRun) (last : Bool) → pages_at rows host.done ≤ pages_at rows (host.done + 1)
    → pages_at rows host.done ≤ pages_at rows (if last then record { done = host.done + 1; stores = 0 } else record host { stores = host.stores + 1 }).done
store_pages rows host true more = more
store_pages rows host false more = omega arith

row_pages : (rows : List HostRow) (host : HostRun) (row : Option HostRow) → slice_get rows host.done ≡ row → pages_at rows host.done ≤ pages_at rows (row_turn host row).done
row_pages rows host None at = omega arith
row_pages rows host (Some (Clock number)) at = let same = pages_clock rows host.done number at in omega (arith, same)
row_pages rows host (Some (Page words)) at =
    let more = pages_more rows host.done words at in
    store_pages rows host (host.stores == 12) (omega (arith, more))
row_pages rows host (Some Disrupt) at = let same = pages_disrupt rows host.done at in omega (arith, same)

pub turn_pages : (rows : List HostRow) (host : HostRun) → pages_at rows host.done ≤ pages_at rows (host_turn rows host).done
turn_pages rows host = row_pages rows host (slice_get rows host.done) refl

-- ---- a try in hand

-- its page had come by now, and where its marker is loaded, by that load
abbrev pub TryFits : List HostRow → HostRun → (marked_at : ℕ) → Option PageTry → Type 0
TryFits rows host marked_at None = Unit {0}
TryFits rows host marked_at (Some try) = (try.page ≤ pages_at rows host.done) × (try.has_marker ≡ true → try.page ≤ pages_at rows marked_at)

pub record LookFits (rows : List HostRow) (host : HostRun) (marked_at : ℕ) (try : Option PageTry) : Type 0 where
  pub within : pages_at rows marked_at ≤ pages_at rows host.done
  pub fits : TryFits rows host marked_at try

-- it stays so at a later host
try_later : (rows : List HostRow) (old new : HostRun) (marked_at : ℕ) (try : Option PageTry) → pages_at rows old.done ≤ pages_at rows new.done → TryFits rows old marked_at try → TryFits rows new marked_at try
try_later rows old new marked_at None more fits = tt
try_later rows old new marked_at (Some try) more fits = (let low = fits.0 in omega (arith, low, more), fits.1)

pub look_later : (rows : List HostRow) (old new : HostRun) (marked_at : ℕ) (try : Option PageTry) → pages_at rows old.done ≤ pages_at rows new.done → LookFits rows old marked_at try → LookFits rows new marked_at try
look_later rows old new marked_at try more is =
    let within = is.within in
    record { within = omega (arith, within, more); fits = try_later rows old new marked_at try more is.fits }

-- ---- a load

-- the read goes on in the same way, or its page is that of the marker's load
abbrev pub LookAfter : List HostRow → HostRun → (marked_at : ℕ) → PageAfter → Type 0
LookAfter rows host marked_at (Looks reading) = LookFits rows host marked_at reading.try
LookAfter rows host marked_at (Saw page) = page ≡ pages_at rows marked_at
LookAfter rows host marked_at (Missed first last) = Unit {0}

module _ (begins : ℕ) (rows : List HostRow) (host : HostRun) (reading : PageReading) where
  abbrev shown : PageShown
  shown = page_shown rows host

  fails_by : (marked_at left first last : ℕ) (few : Bool) → pages_at rows marked_at ≤ pages_at rows host.done
      → LookAfter rows host marked_at (if few then Missed first last else Looks (record { left = left; try = None }))
  fails_by marked_at left first last true within = tt
  fails_by marked_at left first last false within = record { within = within; fits = tt }

  fails_fit : (marked_at first last : ℕ) → pages_at rows marked_at ≤ pages_at rows host.done → LookAfter rows host marked_at (page_try_fails reading first last)
  fails_fit marked_at first last within = fails_by marked_at (reading.left - 1) first last (nat_le reading.left 1) within

  first_fits : (marked_at : ℕ) (writes : Bool) → pages_at rows marked_at ≤ pages_at rows host.done
      → LookAfter rows host marked_at
      (if writes then page_try_fails reading (sequence_of begins shown) (sequence_of begins shown) else Looks (record reading { try = Some (record { page = shown.page; has_marker = false }) }))
  first_fits marked_at true within = fails_fit marked_at (sequence_of begins shown) (sequence_of begins shown) within
  first_fits marked_at false within = record { within = within; fits = (omega arith, λ on. absurd (cc on)) }

  same_page : (now from : ℕ) → not (now == from) ≡ false → now ≡ from
  same_page now from test = elim (cases_eq now from) [
    | inl same ↦ same
    | inr differs ↦ (let other : (now == from) ≡ false = grind (arith, nat_tests, differs) in absurd (cc (sym (ap not other) ∙ test)))
  ]

  last_fits : (marked_at : ℕ) (try : PageTry) (writes other : Bool) → pages_at rows marked_at ≤ pages_at rows host.done → try.page ≤ pages_at rows marked_at → (other ≡ false → shown.page ≡ try.page)
      → LookAfter rows host marked_at
      (if writes || other then page_try_fails reading (sequence_of begins (record { page = try.page; is_writing = false })) (sequence_of begins shown) else Saw try.page)
  last_fits marked_at try true other within low same = fails_fit marked_at (sequence_of begins (record { page = try.page; is_writing = false })) (sequence_of begins shown) within
  last_fits marked_at try false true within low same = fails_fit marked_at (sequence_of begins (record { page = try.page; is_writing = false })) (sequence_of begins shown) within
  last_fits marked_at try false false within low same = let here : pages_at rows host.done ≡ try.page = same refl in omega (arith, within, low, here)

  try_fits : (marked_at : ℕ) (try : PageTry) (marked : Bool) → try.has_marker ≡ marked → pages_at rows marked_at ≤ pages_at rows host.done → TryFits rows host marked_at (Some try)
      → LookAfter rows host (marked_by (not marked) host.done marked_at)
      (if marked then page_last_load begins shown reading try else Looks (record reading { try = Some (record try { has_marker = true }) }))
  try_fits marked_at try true is within fits =
      last_fits marked_at try shown.is_writing (not (shown.page == try.page)) within (fits.1 is) (λ test. same_page shown.page try.page test)
  try_fits marked_at try false is within fits = record { within = omega arith; fits = (fits.0, λ on. fits.0) }

  load_fits : (marked_at : ℕ) (before : Option PageTry) → LookFits rows host marked_at before
      → LookAfter rows host (marked_by (is_marker_next before) host.done marked_at) (page_load_by begins shown reading before)
  load_fits marked_at None is = first_fits marked_at shown.is_writing is.within
  load_fits marked_at (Some try) is = try_fits marked_at try try.has_marker refl is.within is.fits

  pub look_fits : (marked_at : ℕ) → LookFits rows host marked_at reading.try
      → LookAfter rows host (marked_by (is_marker_next reading.try) host.done marked_at) (page_load begins shown reading)
  look_fits marked_at is = load_fits marked_at reading.try is
