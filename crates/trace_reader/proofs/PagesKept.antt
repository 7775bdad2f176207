-- The start page, the page that stands and the rows of the host, after one line more.
use Rattle.std.proofs.Common.{◌≡◌, ◌<◌, ◌≤◌, ◌^◌, ℕ, Bool, true, false, cond, List, [], ◌∷◌, ◌++◌, length, Option, Some, None, refl, arith}
use Rattle.std.specs.Prelude.{IfSome, is_some, not, nat_le, ◌==◌, ◌||◌, ◌&&◌}
use Rattle.std.proofs.lemmas.Bool.Decides.{nat_tests}
use Rattle.std.proofs.lemmas.List.{length-append}
use Rattle.std.proofs.lemmas.List.Elements.{All-nil}
use Rattle.clock_gate.specs.declared.limits.TheConstants.{MOST_HOST_ROWS}
use Rattle.clock_gate.specs.declared.trace.CallRow.{CallRow}
use Rattle.clock_gate.specs.declared.trace.HostRow.{HostRow}
use Rattle.clock_gate.specs.declared.trace.HostRow.TheVariants as hosts
use Rattle.clock_gate.specs.declared.trace.Party.{Party}
use Rattle.clock_gate.specs.declared.trace.Party.TheVariants as parties
use Rattle.clock_gate.specs.declared.trace.PollRow.{PollRow}
use Rattle.vmclock_page.specs.Bounds.{KeepsBounds}
use Rattle.vmclock_page.specs.ClockPage.{ClockPage}
use Rattle.vmclock_page.specs.Constants.{has_constants_of}
use Rattle.vmclock_page.specs.Rows.{ArePageRows, IsRowOf}
use Rattle.csv_records.specs.Step.{joined}
use Rattle.trace_reader.specs.Checks.{is_of_start}
use Rattle.trace_reader.specs.Facts.{given, marked, page_row, words_of_page}
use Rattle.trace_reader.specs.Held.{kept}
use Rattle.trace_reader.proofs.Order.{Names, names_first, names_host}
use Rattle.trace_reader.proofs.Pages.{words_of_page-back}
use Rattle.trace_reader.proofs.Rows.{All-more, IsHostSoFar, host_other, host_some}

-- the start page, the page that stands, and the rows of the host
unfoldable pub PagesSound : Option ClockPage → Option ClockPage → List HostRow → Type 0
PagesSound None None host = ArePageRows None host
PagesSound None (Some page) host = ⊥
PagesSound (Some start) None host = ⊥
PagesSound (Some start) (Some page) host =
    KeepsBounds start × KeepsBounds page × (has_constants_of start page ≡ true) × ArePageRows (Some (words_of_page start)) host

pub given_holds : {X : Type 0} (P : X → Type 0) (o : Option X) (x : X) → IfSome o P → P x → P (given o x)
given_holds P None x h hx = hx
given_holds P (Some y) x h hx = h

pub few_more : {X : Type 0} (most : ℕ) (xs : List X) (x : X) → nat_le most (length xs) ≡ false → length (xs ++ x ∷ []) ≤ most
few_more most xs x room = let longer = length-append xs (x ∷ []) in grind (arith, nat_tests, room, longer)

pub some_clock : (n : ℕ) → not (not (n == 0)) ≡ false → 0 < n
some_clock n some = grind (arith, nat_tests)

pub zero_clocks : (n : ℕ) → (n == 0) ≡ true → n ≡ 0
zero_clocks n none = grind (arith, nat_tests)

pub some_clocks : (n : ℕ) → (n == 0) ≡ false → 0 < n
some_clocks n some = grind (arith, nat_tests)

-- a row that is no page row
pub pages_plain : (start page : Option ClockPage) (host : List HostRow) (row : HostRow) → ((words : Option (List ℕ)) → IsRowOf words row) → PagesSound start page host → PagesSound start page (host ++ row ∷ [])
unfolding PagesSound
pages_plain None None host row plain sound = All-more (IsRowOf None) host row sound (plain None)
pages_plain None (Some page) host row plain sound = absurd sound
pages_plain (Some start) None host row plain sound = absurd sound
pages_plain (Some start) (Some page) host row plain sound =
    (sound.0, sound.1, sound.2, All-more (IsRowOf (Some (words_of_page start))) host row sound.3 (plain (Some (words_of_page start))))

-- a page row of the start page
pub row_of_start : (start page : ClockPage) → KeepsBounds start → KeepsBounds page → has_constants_of start page ≡ true → IsRowOf (Some (words_of_page start)) (hosts.Page (words_of_page page))
row_of_start start page start_kept kept same = rw (words_of_page-back start start_kept, words_of_page-back page kept) same

pub pages_mark : (start page : Option ClockPage) (host : List HostRow) (marker : ℕ) → marker < 2 ^ 64 → not (is_some start) ≡ false → PagesSound start page host
    → PagesSound start (marked marker page) (joined host (page_row (marked marker page)))
unfolding PagesSound
pages_mark None page host marker small some sound = absurd cc
pages_mark (Some start) None host marker small some sound = absurd sound
pages_mark (Some start) (Some page) host marker small some sound =
    (sound.0, kept_page, sound.2, All-more (IsRowOf (Some (words_of_page start))) host (hosts.Page (words_of_page next)) sound.3 (row_of_start start next sound.0 kept_page sound.2))
  where
    next : ClockPage
    next = record page { disruption_marker = marker }

    kept_page : KeepsBounds next
    kept_page = record {
      header = record {
        large = sound.1.header.large;
        even = sound.1.header.even;
        size = sound.1.header.size;
        counter_id = sound.1.header.counter_id;
        time_type = sound.1.header.time_type;
        seq_count = sound.1.header.seq_count;
      };
      status = record {
        disruption_marker = small;
        flags = sound.1.status.flags;
        clock_status = sound.1.status.clock_status;
        leap_second_smearing_hint = sound.1.status.leap_second_smearing_hint;
        tai_offset_sec = sound.1.status.tai_offset_sec;
        leap_indicator = sound.1.status.leap_indicator;
        counter_period_shift = sound.1.status.counter_period_shift;
      };
      counter = record {
        counter_value = sound.1.counter.counter_value;
        counter_period_frac_sec = sound.1.counter.counter_period_frac_sec;
        counter_period_esterror_rate_frac_sec = sound.1.counter.counter_period_esterror_rate_frac_sec;
        counter_period_maxerror_rate_frac_sec = sound.1.counter.counter_period_maxerror_rate_frac_sec;
      };
      time = record {
        time_sec = sound.1.time.time_sec;
        time_frac_sec = sound.1.time.time_frac_sec;
        time_esterror_nanosec = sound.1.time.time_esterror_nanosec;
        time_maxerror_nanosec = sound.1.time.time_maxerror_nanosec;
      };
    }

-- a mark gives a row where there is a start page
pub mark_row : (start page : Option ClockPage) (host : List HostRow) (marker : ℕ) → not (is_some start) ≡ false → PagesSound start page host
    → (words : List ℕ) × (page_row (marked marker page) ≡ Some (hosts.Page words))
unfolding PagesSound
mark_row None page host marker some sound = absurd cc
mark_row (Some start) None host marker some sound = absurd sound
mark_row (Some start) (Some page) host marker some sound = (words_of_page (record page { disruption_marker = marker }), refl)

-- a page before the clock is the start page, and one after it a row
pub pages_page : (bare : Bool) (clocks : ℕ) (start before : Option ClockPage) (page : ClockPage) (host : List HostRow)
    → KeepsBounds page → IsHostSoFar clocks host → (clocks == 0) ≡ bare
    → (not (not bare) && is_some start) ≡ false → not (not (not bare) || is_of_start start page) ≡ false
    → PagesSound start before host → PagesSound (Some (given start page)) (Some page) (joined host (cond bare None (Some (hosts.Page (words_of_page page)))))
unfolding PagesSound
pages_page true clocks (Some start) before page host kept so_far is first like sound = absurd cc
pages_page true clocks None (Some before) page host kept so_far is first like sound = absurd sound
pages_page true clocks None None page host kept so_far is first like sound =
    (kept, kept, same_constants page, rw (so_far.bare (zero_clocks clocks is)) (All-nil (IsRowOf (Some (words_of_page page)))))
  where
    same_constants : (page : ClockPage) → has_constants_of page page ≡ true
    same_constants page = grind (arith, nat_tests)
pages_page false clocks None before page host kept so_far is first like sound = absurd cc
pages_page false clocks (Some start) None page host kept so_far is first like sound = absurd sound
pages_page false clocks (Some start) (Some before) page host kept so_far is first like sound =
    let same : has_constants_of start page ≡ true = of_not (has_constants_of start page) like in
    (sound.0, kept, same, All-more (IsRowOf (Some (words_of_page start))) host (hosts.Page (words_of_page page)) sound.3 (row_of_start start page sound.0 kept same))
  where
    of_not : (b : Bool) → not b ≡ false → b ≡ true
    of_not true e = refl
    of_not false e = absurd cc

pub host_page : (bare : Bool) (clocks : ℕ) (host : List HostRow) (words : List ℕ) → (clocks == 0) ≡ bare → IsHostSoFar clocks host
    → IsHostSoFar clocks (joined host (cond bare None (Some (hosts.Page words))))
host_page true clocks host words is so_far = so_far
host_page false clocks host words is so_far = host_other clocks host (hosts.Page words) refl (some_clocks clocks is) so_far

pub few_page : (bare : Bool) (host : List HostRow) (row : HostRow) → (not bare && nat_le MOST_HOST_ROWS (length host)) ≡ false → length host ≤ MOST_HOST_ROWS
    → length (joined host (cond bare None (Some row))) ≤ MOST_HOST_ROWS
few_page true host row room few = few
few_page false host row room few = few_more MOST_HOST_ROWS host row room

pub order_page : (bare : Bool) (clocks : ℕ) (host : List HostRow) (polls : List PollRow) (calls : List CallRow) (order : List Party) (row : HostRow) → (clocks == 0) ≡ bare → IsHostSoFar clocks host
    → Names host polls calls order → Names (joined host (cond bare None (Some row))) polls calls (joined order (cond bare None (Some parties.Host)))
order_page true clocks host polls calls order row is so_far names = names
order_page false clocks host polls calls order row is so_far names = names_host host polls calls order row (host_some clocks host so_far (some_clocks clocks is)) names

-- the first row of the clock is no job, and a later one is
pub order_clock : (bare : Bool) (clocks : ℕ) (host : List HostRow) (polls : List PollRow) (calls : List CallRow) (order : List Party) (row : HostRow) → (clocks == 0) ≡ bare → IsHostSoFar clocks host
    → Names host polls calls order → Names (host ++ row ∷ []) polls calls (joined order (cond bare None (Some parties.Host)))
order_clock true clocks host polls calls order row is so_far names =
    let none : host ≡ [] = so_far.bare (zero_clocks clocks is) in
    rw none (names_first polls calls order row (rw none at names))
order_clock false clocks host polls calls order row is so_far names = names_host host polls calls order row (host_some clocks host so_far (some_clocks clocks is)) names
