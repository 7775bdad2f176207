-- What a step of another party leaves of the host, what a read of the page shows of a later host, and how the words of the clock
-- stand in its rows.
use Rattle.std.proofs.Common.{◌≡◌, ℕ, ◌+◌, ◌*◌, ◌≤◌, ◌<◌, Bool, true, false, List, [], ◌∷◌, length, Option, Some, None, refl, ◌∙◌, subst, arith}
use Rattle.std.specs.Prelude.{slice_index}
use Rattle.clock_gate.specs.declared.trace.HostRow.{HostRow}
use Rattle.seqlock.specs.Tries.{SeqlockRead, started}
use Rattle.vmclock_page.specs.Host.{Host}
use Rattle.segment_layout.specs.Words.{flag_of}
use Rattle.segment_run.specs.ShowsSegment.{KeepsRest}
use Rattle.abstract_run.specs.HostRun.{HostRun, PageShown, clocks_at, pages_at, page_shown}
use Rattle.abstract_run.specs.PageReading.{PageReading, PageTry, page_reading}
use Rattle.abstract_run.specs.Given.{AreRows}
use Rattle.abstract_run.proofs.RowCounts.{clocks_most, clocks_some}
use Rattle.step_core.specs.ShowsHost.{ShowsHost, InHand, IsPageTry, IsPageTryOf, ShowsPageRead}
use Rattle.step_core.proofs.Later.{IsHostLater, page_point}
use Rattle.step_core.proofs.HostTurn.{page_kept}

-- ---- a step of another party

hand_kept : (rows : List HostRow) (host : HostRun) (machine : Host) (words after : List ℕ) → KeepsRest words after → InHand rows host machine words → InHand rows host machine after
hand_kept rows host machine words after keeps hand =
    record {
      resting = hand.resting;
      storing = λ some.
          let h = hand.storing some in
          (h.0, h.1, (h.2.0, h.2.1, h.2.2, λ word low high. keeps.same word (omega arith) (omega (arith, h.0)) ∙ h.2.3 word low high));
    }

-- a step that leaves words 10 to 23 leaves what they show of the host
pub host_keeps : (start : Option (List ℕ)) (rows : List HostRow) (host : HostRun) (machine : Host) (words after : List ℕ) → KeepsRest words after → length after ≡ length words
    → ShowsHost start rows host machine words → ShowsHost start rows host machine after
host_keeps start rows host machine words after keeps len h =
    record {
      wide = len ∙ h.wide;
      within = h.within;
      begun = h.begun;
      same_start = h.same_start;
      same_count = h.same_count;
      hand = hand_kept rows host machine words after keeps h.hand;
      clock = keeps.same 23 (omega arith) (omega arith) ∙ h.clock;
      page = page_kept start rows host host words after refl refl (λ word low high. keeps.same word low (omega arith)) h.page;
    }

-- ---- the word of the clock

-- word 23 is the number of a row of the clock
pub record IsClockWord (clocks : ℕ) (rows : List HostRow) (host : HostRun) (words : List ℕ) : Type 0 where
  pub is : slice_index words 23 ≡ clocks_at rows host.done
  pub some : 0 < slice_index words 23
  pub most : slice_index words 23 ≤ clocks

pub clock_word : (start : Option (List ℕ)) (clocks : ℕ) (rows : List HostRow) (host : HostRun) (machine : Host) (words : List ℕ) → AreRows start clocks rows → ShowsHost start rows host machine words
    → IsClockWord clocks rows host words
clock_word start clocks rows host machine words are h =
    record {
      is = h.clock;
      some = rw h.clock (clocks_some clocks rows host.done are.host h.begun);
      most = rw h.clock (clocks_most clocks rows host.done are.host);
    }

-- ---- a read of the page, at a later host

small_flag : (flag : Bool) → flag_of flag ≤ 1
small_flag true = omega arith
small_flag false = omega arith

no_flag : (flag : Bool) → flag_of flag ≡ 0 → flag ≡ false
no_flag true none = absurd (cc none)
no_flag false none = refl

-- a later host has no fewer pages
pub more_pages : (rows : List HostRow) (old new : HostRun) → IsHostLater rows old new → pages_at rows old.done ≤ pages_at rows new.done
more_pages rows old new later =
    let points = later.pages in
    let old_small = small_flag (page_shown rows old).is_writing in
    let new_small = small_flag (page_shown rows new).is_writing in
    omega arith

shown_is : (shown : PageShown) (page : ℕ) → shown.page ≡ page → shown.is_writing ≡ false → shown ≡ record { page = page; is_writing = false }
shown_is shown page same calm = rw (← same, ← calm) refl

-- a page that a later host shows at rest, and that the host had come to, the host showed at rest
shown_before : (rows : List HostRow) (old new : HostRun) (page : ℕ) → IsHostLater rows old new → page ≤ pages_at rows old.done → page_shown rows new ≡ record { page = page; is_writing = false }
    → page_shown rows old ≡ record { page = page; is_writing = false }
shown_before rows old new page later come is =
    let points : page_point (page_shown rows old) ≤ 2 * page + flag_of false = subst (λ (shown : PageShown). page_point (page_shown rows old) ≤ page_point shown) is later.pages in
    shown_is (page_shown rows old) page (omega (arith, points)) (no_flag (page_shown rows old).is_writing (omega (arith, points)))

try_later : (start : Option (List ℕ)) (rows : List HostRow) (old new : HostRun) (try : PageTry) (values : List ℕ) → IsHostLater rows old new → try.page ≤ pages_at rows old.done
    → IsPageTry start rows old try values → IsPageTry start rows new try values
try_later start rows old new try [] later come is = is
try_later start rows old new try (first ∷ []) later come is = is
try_later start rows old new try (first ∷ marker ∷ []) later come is = (is.0, (is.1.0, λ shown. is.1.1 (shown_before rows old new try.page later come shown)))
try_later start rows old new try (first ∷ marker ∷ last ∷ values) later come is = is

try_of_later : (start : Option (List ℕ)) (rows : List HostRow) (old new : HostRun) (try : Option PageTry) (values : List ℕ) → IsHostLater rows old new
    → IsPageTryOf start rows old try values → IsPageTryOf start rows new try values
try_of_later start rows old new None values later is = is
try_of_later start rows old new (Some try) values later is =
    (omega (arith, is.0, more_pages rows old new later), try_later start rows old new try values later is.0 is.1)

-- what a reader shows of its read it shows of a later host too
pub page_read_later : (start : Option (List ℕ)) (rows : List HostRow) (old new : HostRun) (tries : ℕ) (reading : PageReading) (read : SeqlockRead) → IsHostLater rows old new
    → ShowsPageRead start rows old tries reading read → ShowsPageRead start rows new tries reading read
page_read_later start rows old new tries reading read later h =
    record {
      some_left = h.some_left;
      same_tries = h.same_tries;
      same_left = h.same_left;
      try = try_of_later start rows old new reading.try read.values later h.try;
    }

-- a new reader shows a new read
pub page_read_new : (start : Option (List ℕ)) (rows : List HostRow) (host : HostRun) (tries : ℕ) → 0 < tries → ShowsPageRead start rows host tries (page_reading tries) (started tries)
page_read_new start rows host tries some =
    record { some_left = some; same_tries = refl; same_left = refl; try = refl }
