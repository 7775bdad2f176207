-- Each trace of the grammar is lawful.
use Rattle.std.proofs.Common.{◌≡◌, ◌<◌, ◌≤◌, ◌+◌, ◌^◌, ℕ, Bool, true, false, cond, List, [], ◌∷◌, ◌++◌, length, Option, Some, None, Result, Ok, Err, refl, sym, subst, arith}
use Rattle.std.specs.Prelude.{All, IfOk, IfSome, IsOk, is_ok, is_some, not, nat_le, nat_lt, ◌==◌, ◌||◌, option_map, replicate}
use Rattle.std.proofs.lemmas.Bool.Decides.{nat_tests}
use Rattle.std.proofs.lemmas.List.{length-append}
use Rattle.std.proofs.lemmas.List.Elements.{All-nil}
use Rattle.clock_gate.specs.Trace.{IsCallRow, IsClient, IsClockRow, IsFrom, IsPollRow, IsTurn, NeverFalls, calls_by, clock_numbers, times, turns_in, turns_of}
use Rattle.clock_gate.specs.declared.clock_row.ClockRow.{ClockRow}
use Rattle.clock_gate.specs.declared.limits.TheConstants.{MOST_CALLS, MOST_DRIFT, MOST_HOST_ROWS, MOST_POLLS, MOST_SCHEDULE_LINES, MOST_TRIES, MOST_TURNS, USUAL_DRIFT, USUAL_TRIES}
use Rattle.clock_gate.specs.declared.trace.CallRow.{CallRow}
use Rattle.clock_gate.specs.declared.trace.HostRow.{HostRow}
use Rattle.clock_gate.specs.declared.trace.HostRow.TheVariants as hosts
use Rattle.clock_gate.specs.declared.trace.Party.TheVariants as parties
use Rattle.clock_gate.specs.declared.trace.PollRow.{PollRow}
use Rattle.clock_gate.specs.declared.trace.Trace.{Trace}
use Rattle.clock_gate.specs.declared.trace.Turn.{Turn}
use Rattle.generation_word.specs.declared.layout.Layout.{Layout}
use Rattle.generation_word.specs.declared.layout.Layout.TheVariants.{Two, Three}
use Rattle.vmclock_page.specs.Bounds.{KeepsBounds}
use Rattle.vmclock_page.specs.ClockPage.{ClockPage}
use Rattle.vmclock_page.specs.Rows.{ArePageRows, IsRowOf, IsStartPage}
use Rattle.segment_layout.specs.Image.{image_of}
use Rattle.csv_records.specs.TraceError.{Answers}
use Rattle.csv_records.specs.Records.{records_of}
use Rattle.csv_records.specs.declared.reason.Reason.{Reason}
use Rattle.csv_records.specs.declared.reason.Reason.TheVariants as reasons
use Rattle.csv_records.specs.declared.trace_error.TraceError.{TraceError}
use Rattle.csv_records.specs.declared.trace_error.TraceFault.{TraceFault}
use Rattle.trace_reader.specs.Checks.{breaks_image, breaks_order, breaks_page, fault_of, goes_back, has_clock, lacks_clock, last_mono, layout_held, passes_limit}
use Rattle.trace_reader.specs.Facts.{Facts, calls_of, clocks_of, first_in, gathered, given, host_of, no_facts, order_of, page_from, polls_of, schedule_of, words_of_page}
use Rattle.trace_reader.specs.Grammar.{end_fault, trace_in, trace_of}
use Rattle.trace_reader.specs.Laws.{IsRunnable, TracesAreRunnable}
use Rattle.trace_reader.specs.Held.{kept, taken}
use Rattle.trace_reader.specs.declared.line.Line.{Line}
use Rattle.trace_reader.specs.declared.line.Line.TheVariants as lines
use Rattle.trace_reader.proofs.Keeping.{KeptByEach, kept_by}
use Rattle.trace_reader.proofs.Last.{turns_more}
use Rattle.trace_reader.proofs.Order.{Names, names_call, names_host, names_poll}
use Rattle.trace_reader.proofs.Pages.{words_of_page-back}
use Rattle.trace_reader.proofs.Rows.{All-more, IsHostSoFar, host_clock, host_other, host_some, never_falls_more}
use Rattle.trace_reader.proofs.PagesKept.{PagesSound, few_more, few_page, given_holds, host_page, mark_row, order_clock, order_page, pages_mark, pages_page, pages_plain, some_clock, some_clocks}

-- a line without a fault passes each test
record Passes (facts : Facts) (line : Line) : Type 0 where
  order : breaks_order facts line ≡ false
  clock : lacks_clock facts line ≡ false
  back : goes_back facts line ≡ false
  page : breaks_page facts line ≡ false
  image : breaks_image facts line ≡ false
  limit : passes_limit facts line ≡ false

passes : (facts : Facts) (line : Line) → fault_of facts line ≡ None → Passes facts line
passes facts line none =
    let all = by (breaks_order facts line) (lacks_clock facts line) (goes_back facts line) (breaks_page facts line) (breaks_image facts line) (passes_limit facts line) none in
    record { order = all.0; clock = all.1; back = all.2; page = all.3; image = all.4; limit = all.5 }
  where
    by : (a b c d e f : Bool)
        → cond a (Some reasons.Order) (cond b (Some reasons.NoClock) (cond c (Some reasons.ClockBack) (cond d (Some reasons.Page) (cond e (Some reasons.Image) (cond f (Some reasons.Limit) None))))) ≡ None
        → (a ≡ false) × (b ≡ false) × (c ≡ false) × (d ≡ false) × (e ≡ false) × (f ≡ false)
    by true b c d e f h = absurd cc
    by false true c d e f h = absurd cc
    by false false true d e f h = absurd cc
    by false false false true e f h = absurd cc
    by false false false false true f h = absurd cc
    by false false false false false true h = absurd cc
    by false false false false false false h = (refl, refl, refl, refl, refl, refl)

ImageSound : Option Layout → Option (List ℕ) → Type 0
ImageSound layout image = IfSome image (λ words. IsOk (image_of (given layout Two) words))

record Sound (facts : Facts) : Type 0 where
  drift : IfSome facts.drift (λ drift. drift ≤ MOST_DRIFT)
  tries : IfSome facts.tries (IsFrom 1 MOST_TRIES)
  image : ImageSound facts.layout facts.image
  clocks : All IsClockRow facts.clocks
  falls : NeverFalls facts.clocks
  host : IsHostSoFar (length facts.clocks) facts.host
  host_few : length facts.host ≤ MOST_HOST_ROWS
  polls : All IsPollRow facts.polls
  polls_few : length facts.polls ≤ MOST_POLLS
  calls : All IsCallRow facts.calls
  calls_few : length facts.calls ≤ MOST_CALLS
  turns : All IsTurn facts.turns
  turns_few : length facts.turns ≤ MOST_SCHEDULE_LINES
  turns_most : turns_of facts.turns ≤ MOST_TURNS
  order : Names facts.host facts.polls facts.calls facts.order
  pages : PagesSound facts.start facts.page facts.host

sound_header : (facts : Facts) → Sound facts → Sound (taken facts lines.Header)
sound_header facts h = record {
  drift = h.drift;
  tries = h.tries;
  image = h.image;
  clocks = h.clocks;
  falls = h.falls;
  host = h.host;
  host_few = h.host_few;
  polls = h.polls;
  polls_few = h.polls_few;
  calls = h.calls;
  calls_few = h.calls_few;
  turns = h.turns;
  turns_few = h.turns_few;
  turns_most = h.turns_most;
  order = h.order;
  pages = h.pages;
}

sound_drift : (facts : Facts) (drift : ℕ) → drift ≤ MOST_DRIFT → Sound facts → Sound (taken facts (lines.Drift drift))
sound_drift facts drift sound h = record {
  drift = given_holds (λ (n : ℕ). n ≤ MOST_DRIFT) facts.drift drift h.drift sound;
  tries = h.tries;
  image = h.image;
  clocks = h.clocks;
  falls = h.falls;
  host = h.host;
  host_few = h.host_few;
  polls = h.polls;
  polls_few = h.polls_few;
  calls = h.calls;
  calls_few = h.calls_few;
  turns = h.turns;
  turns_few = h.turns_few;
  turns_most = h.turns_most;
  order = h.order;
  pages = h.pages;
}

sound_tries : (facts : Facts) (tries : ℕ) → IsFrom 1 MOST_TRIES tries → Sound facts → Sound (taken facts (lines.Tries tries))
sound_tries facts tries sound h = record {
  tries = given_holds (IsFrom 1 MOST_TRIES) facts.tries tries h.tries sound;
  drift = h.drift;
  image = h.image;
  clocks = h.clocks;
  falls = h.falls;
  host = h.host;
  host_few = h.host_few;
  polls = h.polls;
  polls_few = h.polls_few;
  calls = h.calls;
  calls_few = h.calls_few;
  turns = h.turns;
  turns_few = h.turns_few;
  turns_most = h.turns_most;
  order = h.order;
  pages = h.pages;
}

sound_layout : (facts : Facts) (layout : Layout) → Passes facts (lines.Layout layout) → Sound facts → Sound (taken facts (lines.Layout layout))
unfolding ImageSound
sound_layout facts layout at h = record {
  image = by facts.image (none_of (is_first_of facts) (has_clock facts) (is_some facts.image) (is_some facts.layout) at.order);
  drift = h.drift;
  tries = h.tries;
  clocks = h.clocks;
  falls = h.falls;
  host = h.host;
  host_few = h.host_few;
  polls = h.polls;
  polls_few = h.polls_few;
  calls = h.calls;
  calls_few = h.calls_few;
  turns = h.turns;
  turns_few = h.turns_few;
  turns_most = h.turns_most;
  order = h.order;
  pages = h.pages;
}
  where
    is_first_of : Facts → Bool
    is_first_of facts = facts.count == 0

    none_of : (a b c d : Bool) → (a || (b || (c || d))) ≡ false → c ≡ false
    none_of true b c d e = absurd cc
    none_of false true c d e = absurd cc
    none_of false false true d e = absurd cc
    none_of false false false d e = refl

    by : (image : Option (List ℕ)) → is_some image ≡ false → IfSome image (λ words. IsOk (image_of (given facts.layout layout) words))
    by None none = tt
    by (Some words) none = absurd cc

sound_image : (facts : Facts) (words : List ℕ) → Passes facts (lines.Image words) → Sound facts → Sound (taken facts (lines.Image words))
unfolding ImageSound
sound_image facts words at h = record {
  image = given_holds (λ (ws : List ℕ). IsOk (image_of (given facts.layout Two) ws)) facts.image words h.image (of_not (is_ok (image_of (given facts.layout Two) words)) at.image);
  drift = h.drift;
  tries = h.tries;
  clocks = h.clocks;
  falls = h.falls;
  host = h.host;
  host_few = h.host_few;
  polls = h.polls;
  polls_few = h.polls_few;
  calls = h.calls;
  calls_few = h.calls_few;
  turns = h.turns;
  turns_few = h.turns_few;
  turns_most = h.turns_most;
  order = h.order;
  pages = h.pages;
}
  where
    of_not : (b : Bool) → not b ≡ false → b ≡ true
    of_not true e = refl
    of_not false e = absurd cc

sound_page : (facts : Facts) (page : Option ClockPage) → IfSome page KeepsBounds → Passes facts (lines.Page page) → Sound facts → Sound (taken facts (lines.Page page))
sound_page facts None kept at h = absurd (let e = at.page in cc e)
sound_page facts (Some page) kept at h = record {
  host = host_page (length facts.clocks == 0) (length facts.clocks) facts.host (words_of_page page) refl h.host;
  host_few = few_page (length facts.clocks == 0) facts.host (hosts.Page (words_of_page page)) at.limit h.host_few;
  order = order_page (length facts.clocks == 0) (length facts.clocks) facts.host facts.polls facts.calls facts.order (hosts.Page (words_of_page page)) refl h.host h.order;
  pages = pages_page (length facts.clocks == 0) (length facts.clocks) facts.start facts.page page facts.host kept h.host refl at.clock at.page h.pages;
  drift = h.drift;
  tries = h.tries;
  image = h.image;
  clocks = h.clocks;
  falls = h.falls;
  polls = h.polls;
  polls_few = h.polls_few;
  calls = h.calls;
  calls_few = h.calls_few;
  turns = h.turns;
  turns_few = h.turns_few;
  turns_most = h.turns_most;
}

sound_clock : (facts : Facts) (row : ClockRow) → IsClockRow row → Passes facts (lines.Clock row) → Sound facts → Sound (taken facts (lines.Clock row))
sound_clock facts row sound at h =
    let longer : length (facts.clocks ++ row ∷ []) ≡ length facts.clocks + 1 = length-append facts.clocks (row ∷ []) in
    record {
      clocks = All-more IsClockRow facts.clocks row h.clocks sound;
      falls = never_falls_more 0 facts.clocks row h.falls (not_back at.back);
      host = rw longer (host_clock (length facts.clocks) facts.host h.host);
      host_few = few_more MOST_HOST_ROWS facts.host (hosts.Clock (length facts.clocks + 1)) at.limit;
      order = order_clock (length facts.clocks == 0) (length facts.clocks) facts.host facts.polls facts.calls facts.order (hosts.Clock (length facts.clocks + 1)) refl h.host h.order;
      pages = pages_plain facts.start facts.page facts.host (hosts.Clock (length facts.clocks + 1)) (λ words. tt) h.pages;
      drift = h.drift;
      tries = h.tries;
      image = h.image;
      polls = h.polls;
      polls_few = h.polls_few;
      calls = h.calls;
      calls_few = h.calls_few;
      turns = h.turns;
      turns_few = h.turns_few;
      turns_most = h.turns_most;
    }
  where
    not_back : nat_lt row.mono (last_mono facts.clocks 0) ≡ false → last_mono facts.clocks 0 ≤ row.mono
    not_back e = grind (arith, nat_tests, e)

sound_mark : (facts : Facts) (marker : ℕ) → marker < 2 ^ 64 → Passes facts (lines.Mark marker) → Sound facts → Sound (taken facts (lines.Mark marker))
sound_mark facts marker small at h =
    let some = some_clock (length facts.clocks) at.clock in
    let (words, row) = mark_row facts.start facts.page facts.host marker at.page h.pages in
    record {
      host = rw row (host_other (length facts.clocks) facts.host (hosts.Page words) refl some h.host);
      host_few = rw row (few_more MOST_HOST_ROWS facts.host (hosts.Page words) at.limit);
      order = rw row (names_host facts.host facts.polls facts.calls facts.order (hosts.Page words) (host_some (length facts.clocks) facts.host h.host some) h.order);
      pages = pages_mark facts.start facts.page facts.host marker small at.page h.pages;
      drift = h.drift;
      tries = h.tries;
      image = h.image;
      clocks = h.clocks;
      falls = h.falls;
      polls = h.polls;
      polls_few = h.polls_few;
      calls = h.calls;
      calls_few = h.calls_few;
      turns = h.turns;
      turns_few = h.turns_few;
      turns_most = h.turns_most;
    }

sound_disrupt : (facts : Facts) → Passes facts lines.Disrupt → Sound facts → Sound (taken facts lines.Disrupt)
sound_disrupt facts at h =
    let some = some_clock (length facts.clocks) at.clock in
    record {
      host = host_other (length facts.clocks) facts.host hosts.Disrupt refl some h.host;
      host_few = few_more MOST_HOST_ROWS facts.host hosts.Disrupt at.limit;
      order = names_host facts.host facts.polls facts.calls facts.order hosts.Disrupt (host_some (length facts.clocks) facts.host h.host some) h.order;
      pages = pages_plain facts.start facts.page facts.host hosts.Disrupt (λ words. tt) h.pages;
      drift = h.drift;
      tries = h.tries;
      image = h.image;
      clocks = h.clocks;
      falls = h.falls;
      polls = h.polls;
      polls_few = h.polls_few;
      calls = h.calls;
      calls_few = h.calls_few;
      turns = h.turns;
      turns_few = h.turns_few;
      turns_most = h.turns_most;
    }

sound_poll : (facts : Facts) (row : PollRow) → IsPollRow row → Passes facts (lines.Poll row) → Sound facts → Sound (taken facts (lines.Poll row))
sound_poll facts row sound at h = record {
  polls = All-more IsPollRow facts.polls row h.polls sound;
  polls_few = few_more MOST_POLLS facts.polls row at.limit;
  order = names_poll facts.host facts.polls facts.calls facts.order row h.order;
  drift = h.drift;
  tries = h.tries;
  image = h.image;
  clocks = h.clocks;
  falls = h.falls;
  host = h.host;
  host_few = h.host_few;
  calls = h.calls;
  calls_few = h.calls_few;
  turns = h.turns;
  turns_few = h.turns_few;
  turns_most = h.turns_most;
  pages = h.pages;
}

sound_call : (facts : Facts) (client : ℕ) (tries : Option ℕ) → IsClient client → IfSome tries (IsFrom 1 MOST_TRIES) → Passes facts (lines.Call client tries) → Sound facts → Sound (taken facts (lines.Call client tries))
sound_call facts client tries is_client within at h = record {
  calls = All-more IsCallRow facts.calls row h.calls (record { client = is_client; tries = given_tries });
  calls_few = few_more MOST_CALLS facts.calls row at.limit;
  order = names_call facts.host facts.polls facts.calls facts.order row h.order;
  drift = h.drift;
  tries = h.tries;
  image = h.image;
  clocks = h.clocks;
  falls = h.falls;
  host = h.host;
  host_few = h.host_few;
  polls = h.polls;
  polls_few = h.polls_few;
  turns = h.turns;
  turns_few = h.turns_few;
  turns_most = h.turns_most;
  pages = h.pages;
}
  where
    row : CallRow
    row = record { client = client; tries = given tries (given facts.tries USUAL_TRIES) }

    given_tries : IsFrom 1 MOST_TRIES (given tries (given facts.tries USUAL_TRIES))
    given_tries = given_holds (IsFrom 1 MOST_TRIES) tries (given facts.tries USUAL_TRIES) within (given_holds (IsFrom 1 MOST_TRIES) facts.tries USUAL_TRIES h.tries (omega arith, omega arith))

sound_turns : (facts : Facts) (turn : Turn) → IsTurn turn → Passes facts (lines.Turns turn) → Sound facts → Sound (taken facts (lines.Turns turn))
sound_turns facts turn sound at h =
    let room = room_of (length facts.turns) (turns_of facts.turns + turns_in turn) at.limit in
    let longer = length-append facts.turns (turn ∷ []) in
    let sum = turns_more facts.turns turn in
    record {
      turns = All-more IsTurn facts.turns turn h.turns sound;
      turns_few = omega (arith, room.0, longer);
      turns_most = omega (arith, room.1, sum);
      drift = h.drift;
      tries = h.tries;
      image = h.image;
      clocks = h.clocks;
      falls = h.falls;
      host = h.host;
      host_few = h.host_few;
      polls = h.polls;
      polls_few = h.polls_few;
      calls = h.calls;
      calls_few = h.calls_few;
      order = h.order;
      pages = h.pages;
    }
  where
    room_of : (lines sum : ℕ) → (nat_le MOST_SCHEDULE_LINES lines || nat_lt MOST_TURNS sum) ≡ false → (lines < MOST_SCHEDULE_LINES) × (sum ≤ MOST_TURNS)
    room_of lines sum e = grind (arith, nat_tests, e)

sound_step : KeptByEach Sound
sound_step facts lines.Header sound none h = sound_header facts h
sound_step facts (lines.Drift drift) sound none h = sound_drift facts drift sound h
sound_step facts (lines.Tries tries) sound none h = sound_tries facts tries sound h
sound_step facts (lines.Layout layout) sound none h = sound_layout facts layout (passes facts (lines.Layout layout) none) h
sound_step facts (lines.Image words) sound none h = sound_image facts words (passes facts (lines.Image words) none) h
sound_step facts (lines.Page page) sound none h = sound_page facts page sound (passes facts (lines.Page page) none) h
sound_step facts (lines.Clock row) sound none h = sound_clock facts row sound (passes facts (lines.Clock row) none) h
sound_step facts (lines.Mark marker) sound none h = sound_mark facts marker sound (passes facts (lines.Mark marker) none) h
sound_step facts lines.Disrupt sound none h = sound_disrupt facts (passes facts lines.Disrupt none) h
sound_step facts (lines.Poll row) sound none h = sound_poll facts row sound (passes facts (lines.Poll row) none) h
sound_step facts (lines.Call client tries) sound none h = sound_call facts client tries sound.0 sound.1 (passes facts (lines.Call client tries) none) h
sound_step facts (lines.Turns turn) sound none h = sound_turns facts turn sound (passes facts (lines.Turns turn) none) h

sound_none : Sound no_facts
unfolding first_in page_from clocks_of host_of polls_of calls_of schedule_of order_of gathered NeverFalls calls_by clock_numbers turns_of times PagesSound ImageSound
sound_none = record {
  drift = tt;
  tries = tt;
  image = tt;
  clocks = All-nil IsClockRow;
  falls = tt;
  host = record { numbered = refl; bare = λ none. refl; begins = λ some. absurd (omega (arith, some)) };
  host_few = omega arith;
  polls = All-nil IsPollRow;
  polls_few = omega arith;
  calls = All-nil IsCallRow;
  calls_few = omega arith;
  turns = All-nil IsTurn;
  turns_few = omega arith;
  turns_most = omega arith;
  order = no_job;
  pages = All-nil (IsRowOf None);
}
  where
    no_job : Names [] [] [] []
    no_job parties.Host = refl
    no_job parties.Daemon = refl
    no_job (parties.Client client) = refl

fresh : (layout : Layout) → IsOk (image_of layout (replicate 10 0))
unfolding image_of
fresh Two = refl
fresh Three = refl

start_read : (start page : Option ClockPage) (host : List HostRow) → PagesSound start page host → IsStartPage (option_map words_of_page start)
unfolding PagesSound
start_read None page host sound = tt
start_read (Some start) None host sound = absurd sound
start_read (Some start) (Some page) host sound = rw (words_of_page-back start sound.0) refl

rows_read : (start page : Option ClockPage) (host : List HostRow) → PagesSound start page host → ArePageRows (option_map words_of_page start) host
unfolding PagesSound
rows_read None None host sound = sound
rows_read None (Some page) host sound = absurd sound
rows_read (Some start) None host sound = absurd sound
rows_read (Some start) (Some page) host sound = sound.3

has_row : (facts : Facts) → end_fault facts ≡ None → 0 < length facts.clocks
has_row facts whole = by (facts.count == 0) (length facts.clocks == 0) refl whole
  where
    at : ℕ → Reason → TraceFault
    at line reason = record { line = line; reason = reason }

    by : (empty bare : Bool) → (length facts.clocks == 0) ≡ bare
        → cond empty (Some (at 1 reasons.Kind)) (cond bare (Some (at (facts.count + 1) reasons.NoClock)) None) ≡ None → 0 < length facts.clocks
    by true bare is e = absurd cc
    by false true is e = absurd cc
    by false false is e = some_clocks (length facts.clocks) is

trace_of-kept : (facts : Facts) → Sound facts → end_fault facts ≡ None → IsRunnable (trace_of facts)
unfolding ImageSound
trace_of-kept facts h whole = record {
  lawful = record {
    drift = given_holds (λ (n : ℕ). n ≤ MOST_DRIFT) facts.drift USUAL_DRIFT h.drift (omega arith);
    tries = given_holds (IsFrom 1 MOST_TRIES) facts.tries USUAL_TRIES h.tries (omega arith, omega arith);
    clients = refl;
    clock = h.clocks;
    rises = h.falls;
    host = record { begins = h.host.begins (has_row facts whole); numbered = h.host.numbered };
    host_few = h.host_few;
    polls = h.polls;
    polls_few = h.polls_few;
    calls = h.calls;
    calls_few = h.calls_few;
    turns = h.turns;
    turns_few = h.turns_few;
    turns_most = h.turns_most;
    order = h.order;
  };
  image = given_holds (λ (words : List ℕ). IsOk (image_of (layout_held facts) words)) facts.image (replicate 10 0) h.image (fresh (layout_held facts));
  page = start_read facts.start facts.page facts.host h.pages;
  rows = rows_read facts.start facts.page facts.host h.pages;
}

pub traces_are_runnable : TracesAreRunnable
traces_are_runnable records trace e =
    let (facts, sound, whole, is) = kept_by Sound sound_none sound_step records trace e in
    subst IsRunnable (sym is) (trace_of-kept facts sound whole)

-- and so what a reader answers
pub answers_kept : (bytes : List ℕ) (r : Result Trace TraceError) → Answers r (trace_in bytes) → IfOk r IsRunnable
answers_kept bytes (Ok trace) answers = traces_are_runnable (records_of bytes) trace answers
answers_kept bytes (Err e) answers = tt
