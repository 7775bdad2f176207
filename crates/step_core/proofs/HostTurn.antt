-- One turn of the host keeps what the words show of it, and leaves the segment.
use Rattle.std.proofs.Common.{◌≡◌, ◌≢◌, ℕ, suc, ◌+◌, ◌-◌, ◌≤◌, ◌<◌, true, false, List, [], ◌∷◌, ◌++◌, length, Option, Some, None, refl, ap, sym, ◌∙◌, subst, arith, inl, inr}
use Rattle.std.specs.Prelude.{◌==◌, nat_lt, slice_get, slice_index, slice_index_or, slice_set, map}
use Rattle.std.specs.List.{range_with_len}
use Rattle.std.proofs.lemmas.Bool.{cases_eq, cases_lt}
use Rattle.std.proofs.lemmas.Bool.Decides.{nat_tests}
use Rattle.std.proofs.lemmas.List.{get_or-set_same, get_or-set_other, get_or_append_left, length-set}
use Rattle.std.proofs.lemmas.List.FromFn.{get_or-map-range_with_len}
use Rattle.std.proofs.lemmas.List.Elements.{All-get_or}
use Rattle.std.proofs.lemmas.Option.{slice_get_within, get_or_from_slice_get}
use Rattle.clock_gate.specs.declared.act.Act.{Act}
use Rattle.clock_gate.specs.declared.act.Act.TheVariants.{Store, End}
use Rattle.clock_gate.specs.declared.trace.HostRow.{HostRow}
use Rattle.clock_gate.specs.declared.trace.HostRow.TheVariants.{Clock, Page, Disrupt}
use Rattle.vmclock_page.specs.Words.{word_with_count}
use Rattle.vmclock_page.specs.Rows.{IsRowOf, ArePageRows}
use Rattle.vmclock_page.specs.Host.{Host, row_begun, act_of, given, constants_of, count_of, raised, page_stores}
use Rattle.segment_run.specs.ShowsSegment.{KeepsSegment}
use Rattle.abstract_run.specs.HostRun.{HostRun, clocks_at, pages_at, pages_of, sequence_of, row_turn, host_turn}
use Rattle.abstract_run.specs.Given.{AreRows}
use Rattle.abstract_run.proofs.RowCounts.{clocks_more, clocks_page, clocks_disrupt, next_clock, pages_clock, pages_more, pages_disrupt, next_page}
use Rattle.step_core.specs.SharedWords.{after_act, if_ended}
use Rattle.step_core.specs.SharedHost.{HostState, host_ready, host_takes, host_act, host_after}
use Rattle.step_core.specs.ShowsHost.{ShowsHost, HasPage, HasPageOf, count_word}
use Rattle.step_core.proofs.Later.{IsHostLater}

-- the host after a turn, and the words: they show it, the segment stays, and no position falls
pub record HostTurned (start : Option (List ℕ)) (rows : List HostRow) (old new : HostRun) (words : List ℕ) (ready : HostState) : Type 0 where
  pub shows : ShowsHost start rows new (host_after ready).machine (after_act words (host_act ready))
  pub same_done : (host_after ready).done ≡ new.done
  pub same_length : length (after_act words (host_act ready)) ≡ length words
  pub keeps : KeepsSegment words (after_act words (host_act ready))
  pub later : IsHostLater rows old new

-- ---- words after a store

stored_there : (words : List ℕ) (word value : ℕ) → length words ≡ 24 → word < 24 → slice_index (slice_set words word value) word ≡ value
stored_there words word value wide few = get_or-set_same words word value 0 (omega arith)

stored_else : (words : List ℕ) (word value other : ℕ) → other ≢ word → slice_index (slice_set words word value) other ≡ slice_index words other
stored_else words word value other differs = get_or-set_other words word other value 0 differs

-- a store past the segment leaves it
stored_keeps : (words : List ℕ) (word value : ℕ) → 10 ≤ word → KeepsSegment words (slice_set words word value)
stored_keeps words word value past = record { same = λ other few. stored_else words word value other (λ same. absurd (omega arith)) }

-- a row of the host is one of its start page
row_is : (start : Option (List ℕ)) (rows : List HostRow) (done : ℕ) (row : HostRow) → ArePageRows start rows → slice_get rows done ≡ Some row → IsRowOf start row
row_is start rows done row are at =
    subst (IsRowOf start) (get_or_from_slice_get rows done row row at) (All-get_or (IsRowOf start) rows done row (slice_get_within rows done row at) are)

-- ---- the page, where the words of it stay

has_page_kept : (start : Option (List ℕ)) (rows : List HostRow) (old new : HostRun) (words after : List ℕ) → pages_at rows old.done ≡ pages_at rows new.done → old.stores ≡ new.stores
    → ((word : ℕ) → 10 ≤ word → word < 23 → slice_index after word ≡ slice_index words word) → HasPage start rows old words → HasPage start rows new after
has_page_kept start rows old new words after pages stores same has =
    record {
      constant = same 10 (omega arith) (omega arith) ∙ has.constant;
      count = same 11 (omega arith) (omega arith) ∙ has.count ∙ rw (pages, stores) refl;
      content = λ none word low high. same word (omega arith) high ∙ has.content (stores ∙ none) word low high ∙ rw pages refl;
    }

pub page_kept : (start : Option (List ℕ)) (rows : List HostRow) (old new : HostRun) (words after : List ℕ) → pages_at rows old.done ≡ pages_at rows new.done → old.stores ≡ new.stores
    → ((word : ℕ) → 10 ≤ word → word < 23 → slice_index after word ≡ slice_index words word) → HasPageOf start rows old words → HasPageOf start rows new after
page_kept None rows old new words after pages stores same has = λ word low high. same word low high ∙ has word low high
page_kept (Some page) rows old new words after pages stores same has = has_page_kept (Some page) rows old new words after pages stores same has

-- ---- sequence counts

raised_once : (start page : ℕ) → raised 1 (sequence_of start (record { page = page; is_writing = false })) ≡ sequence_of start (record { page = page; is_writing = true })
raised_once start page = omega arith

raised_twice : (start page : ℕ) → raised 2 (sequence_of start (record { page = page; is_writing = false })) ≡ sequence_of start (record { page = page + 1; is_writing = false })
raised_twice start page = omega arith

-- ---- a row is taken: no store of it is made

abbrev resting : ℕ → HostRun
resting done = record { done = done; stores = 0 }

clock_turned : (start : Option (List ℕ)) (clocks : ℕ) (rows : List HostRow) (done number : ℕ) (machine : Host) (words : List ℕ) → AreRows start clocks rows → ShowsHost start rows (resting done) machine words
    → slice_get rows done ≡ Some (Clock number) → HostTurned start rows (resting done) (resting (done + 1)) words (record { machine = row_begun machine (Clock number); done = done })
clock_turned start clocks rows done number machine words are h at =
    let pages = pages_clock rows done number at in
    record {
      shows =
          record {
            wide = length-set words 23 number ∙ h.wide;
            within = (let within = slice_get_within rows done (Clock number) at in omega arith);
            begun = omega arith;
            same_start = h.same_start;
            same_count = h.same_count ∙ rw pages refl;
            hand = record { resting = λ none. refl; storing = λ some. absurd (omega arith) };
            clock = stored_there words 23 number h.wide (omega arith) ∙ next_clock clocks rows done number are.host at ∙ sym (clocks_more rows done number at);
            page = page_kept start rows (resting done) (resting (done + 1)) words (slice_set words 23 number) (sym pages) refl
                (λ word low high. stored_else words 23 number word (λ same. absurd (omega arith))) h.page;
          };
      same_done = refl;
      same_length = length-set words 23 number;
      keeps = stored_keeps words 23 number (omega arith);
      later = record { done = omega arith; pages = rw pages (omega arith) };
    }

-- a turn without a store
idle_turned : (start : Option (List ℕ)) (rows : List HostRow) (old new : HostRun) (words : List ℕ) (machine : Host) → act_of machine ≡ End
    → ShowsHost start rows new machine words → IsHostLater rows old new → HostTurned start rows old new words (record { machine = machine; done = new.done })
idle_turned start rows old new words machine ended h later =
    record {
      shows = rw ended h;
      same_done = rw ended refl;
      same_length = rw ended refl;
      keeps = record { same = λ word few. rw ended refl };
      later = later;
    }

disrupt_turned : (start : Option (List ℕ)) (rows : List HostRow) (done : ℕ) (machine : Host) (words : List ℕ) → ShowsHost start rows (resting done) machine words
    → slice_get rows done ≡ Some Disrupt → HostTurned start rows (resting done) (resting (done + 1)) words (record { machine = machine; done = done + 1 })
disrupt_turned start rows done machine words h at =
    let pages = pages_disrupt rows done at in
    idle_turned start rows (resting done) (resting (done + 1)) words machine (h.hand.resting refl)
    (record {
      wide = h.wide;
      within = (let within = slice_get_within rows done Disrupt at in omega arith);
      begun = omega arith;
      same_start = h.same_start;
      same_count = h.same_count ∙ rw pages refl;
      hand = record { resting = λ none. h.hand.resting refl; storing = λ some. absurd (omega arith) };
      clock = h.clock ∙ sym (clocks_disrupt rows done at);
      page = page_kept start rows (resting done) (resting (done + 1)) words words (sym pages) refl (λ word low high. refl) h.page;
    })
    (record { done = omega arith; pages = rw pages (omega arith) })

-- no row is left
none_turned : (start : Option (List ℕ)) (rows : List HostRow) (done : ℕ) (machine : Host) (words : List ℕ) → ShowsHost start rows (resting done) machine words
    → HostTurned start rows (resting done) (resting done) words (record { machine = machine; done = done })
none_turned start rows done machine words h =
    idle_turned start rows (resting done) (resting done) words machine (h.hand.resting refl) h (record { done = omega arith; pages = omega arith })

-- ---- a page row

abbrev storing : ℕ → ℕ → HostRun
storing done stores = record { done = done; stores = stores }

-- the machine with so many stores of a page row made
abbrev page_machine : Option (List ℕ) → ℕ → List ℕ → ℕ → Host
page_machine start count page made = record { start = start; count = count; row = Some (Page page); made = made }

-- the page while so many stores of a row are made
abbrev IsWritten : (start page : List ℕ) → List HostRow → ℕ → ℕ → List ℕ → Type 0
IsWritten start page rows done stores words =
    HasPage (Some start) rows (storing done stores) words × ((word : ℕ) → 12 ≤ word → word < 11 + stores → slice_index words word ≡ slice_index page (word - 10))

-- what a host shows that has so many stores of a page row made
page_shows : (start page : List ℕ) (rows : List HostRow) (done stores count : ℕ) (words : List ℕ) → 0 < stores → stores < 13 → 0 < done → slice_get rows done ≡ Some (Page page)
    → count ≡ sequence_of (count_of (Some start)) (record { page = pages_at rows done; is_writing = false }) → length words ≡ 24 → slice_index words 23 ≡ clocks_at rows done
    → IsWritten start page rows done stores words → ShowsHost (Some start) rows (storing done stores) (page_machine (Some start) count page stores) words
page_shows start page rows done stores count words some few row_begun at count_is wide clock there =
    record {
      wide = wide;
      within = (let within = slice_get_within rows done (Page page) at in omega arith);
      begun = row_begun;
      same_start = refl;
      same_count = count_is;
      hand = record { resting = λ none. absurd (omega arith); storing = λ more. (few, refl, (page, at, refl, there.1)) };
      clock = clock;
      page = there.0;
    }

-- the first store: the count is odd now
page_begins : (start page : List ℕ) (rows : List HostRow) (done : ℕ) (machine : Host) (words : List ℕ) → ShowsHost (Some start) rows (resting done) machine words
    → slice_get rows done ≡ Some (Page page) → HostTurned (Some start) rows (resting done) (storing done 1) words (record { machine = row_begun machine (Page page); done = done })
page_begins start page rows done machine words h at =
    let count : word_with_count (constants_of machine.start) (raised 1 machine.count) ≡ count_word (Some start) (record { page = pages_at rows done; is_writing = true }) =
    rw (h.same_start, h.same_count, raised_once (count_of (Some start)) (pages_at rows done)) refl in
    let odd : ℕ = word_with_count (constants_of machine.start) (raised 1 machine.count) in
    record {
      shows =
          subst (λ (s : Option (List ℕ)). ShowsHost (Some start) rows (storing done 1) (page_machine s machine.count page 1) (slice_set words 11 odd)) (sym h.same_start)
          (page_shows start page rows done 1 machine.count (slice_set words 11 odd) (omega arith) (omega arith) h.begun at h.same_count (length-set words 11 odd ∙ h.wide)
          (stored_else words 11 odd 23 (λ same. absurd (omega arith)) ∙ h.clock) (
            record {
              constant = stored_else words 11 odd 10 (λ same. absurd (omega arith)) ∙ h.page.constant;
              count = stored_there words 11 odd h.wide (omega arith) ∙ count;
              content = λ none. absurd (omega arith);
            },
            λ word low high. absurd (omega arith),
          ));
      same_done = refl;
      same_length = length-set words 11 odd;
      keeps = stored_keeps words 11 odd (omega arith);
      later = record { done = omega arith; pages = omega arith };
    }

-- a turn with a store
store_turned : (start : Option (List ℕ)) (rows : List HostRow) (old new : HostRun) (words : List ℕ) (machine next : Host) (done word value : ℕ) → act_of machine ≡ Store word value → given machine 0 ≡ next
    → if_ended (act_of next) (done + 1) done ≡ new.done → 10 ≤ word → ShowsHost start rows new next (slice_set words word value) → IsHostLater rows old new
    → HostTurned start rows old new words (record { machine = machine; done = done })
store_turned start rows old new words machine next done word value acts goes ends past h later =
    record {
      shows = rw (acts, goes) h;
      same_done = rw acts (ap (λ (host : Host). if_ended (act_of host) (done + 1) done) goes ∙ ends);
      same_length = rw acts (length-set words word value);
      keeps = rw acts (stored_keeps words word value past);
      later = later;
    }

-- the store of a row's word, which the shared words have ten places further on
abbrev word_store : List ℕ → ℕ → Act
word_store page place = Store (10 + place) (slice_index page place)

-- between the two stores of the count a row's words are stored in their order, from the marker on
abbrev word_stores : List ℕ → List Act
word_stores page = map (word_store page) (range_with_len 2 11)

stores_are : (constants count : ℕ) (page : List ℕ) → page_stores constants count page
    ≡ Store 11 (word_with_count constants (raised 1 count)) ∷ (word_stores page ++ Store 11 (word_with_count constants (raised 2 count)) ∷ [])
stores_are constants count page = refl

word_stored : (constants count : ℕ) (page : List ℕ) (made : ℕ) → 0 < made → made < 12 → slice_index_or (page_stores constants count page) made End ≡ Store (11 + made) (slice_index page (made + 1))
word_stored constants count page made some few =
    let next : suc (made - 1) ≡ made = omega arith in
    let odd : Act = Store 11 (word_with_count constants (raised 1 count)) in
    let even : Act = Store 11 (word_with_count constants (raised 2 count)) in
    ap (λ (place : ℕ). slice_index_or (page_stores constants count page) place End) (sym next)
    ∙ get_or_append_left (word_stores page) (even ∷ []) End (made - 1) (omega arith)
    ∙ get_or-map-range_with_len (word_store page) 2 11 (made - 1) (made + 1) End (omega arith) (omega arith)
    ∙ ap (λ (word : ℕ). Store word (slice_index page (made + 1))) (omega arith)

-- after each store but the last comes another one
goes_on : {Value : Type 0} (constants count : ℕ) (page : List ℕ) (made : ℕ) (ended going : Value) → 0 < made → made < 13 → if_ended (slice_index_or (page_stores constants count page) made End) ended going ≡ going
goes_on constants count page made ended going some few =
    elim (cases_lt made 12) [
      | inl before ↦ ap (λ (act : Act). if_ended act ended going) (word_stored constants count page made some before)
      | inr past ↦ (let last : made ≡ 12 = omega arith in rw last refl)
    ]

-- the words of the row after one more
word_after : (page : List ℕ) (stores : ℕ) (words : List ℕ) (word : ℕ) → 12 ≤ word → word < 11 + (stores + 1) → length words ≡ 24 → stores < 12
    → ((word : ℕ) → 12 ≤ word → word < 11 + stores → slice_index words word ≡ slice_index page (word - 10))
    → slice_index (slice_set words (11 + stores) (slice_index page (stores + 1))) word ≡ slice_index page (word - 10)
word_after page stores words word low high wide few before =
    elim (cases_eq word (11 + stores)) [
      | inl same ↦
          (let place : stores + 1 ≡ word - 10 = omega arith in
          subst (λ (w : ℕ). slice_index (slice_set words (11 + stores) (slice_index page (stores + 1))) w ≡ slice_index page (stores + 1)) (sym same)
          (stored_there words (11 + stores) (slice_index page (stores + 1)) wide (omega arith))
          ∙ ap (slice_index page) place)
      | inr other ↦ stored_else words (11 + stores) (slice_index page (stores + 1)) word other ∙ before word low (omega arith)
    ]

-- a store of one of the row's words
page_goes : (start page : List ℕ) (rows : List HostRow) (done stores count : ℕ) (words : List ℕ) → 0 < stores → stores < 12 → slice_get rows done ≡ Some (Page page)
    → ShowsHost (Some start) rows (storing done stores) (page_machine (Some start) count page stores) words
    → ((word : ℕ) → 12 ≤ word → word < 11 + stores → slice_index words word ≡ slice_index page (word - 10))
    → HostTurned (Some start) rows (storing done stores) (storing done (stores + 1)) words (record { machine = page_machine (Some start) count page stores; done = done })
page_goes start page rows done stores count words some few at h before =
    let value = slice_index page (stores + 1) in
    let acts : act_of (page_machine (Some start) count page stores) ≡ Store (11 + stores) value = word_stored (constants_of (Some start)) count page stores some few in
    let test : (stores + 1 == 13) ≡ false = grind (arith, nat_tests) in
    let writing : (nat_lt 0 (stores + 1)) ≡ nat_lt 0 stores = grind (arith, nat_tests) in
    let after = slice_set words (11 + stores) value in
    store_turned (Some start) rows (storing done stores) (storing done (stores + 1)) words (page_machine (Some start) count page stores) (page_machine (Some start) count page (stores + 1)) done (11 + stores) value acts
    (rw test refl)
    (goes_on (constants_of (Some start)) count page (stores + 1) (done + 1) done (omega arith) (omega arith))
    (omega arith)
    (page_shows start page rows done (stores + 1) count after (omega arith) (omega arith) h.begun at h.same_count (length-set words (11 + stores) value ∙ h.wide)
    (stored_else words (11 + stores) value 23 (λ same. absurd (omega arith)) ∙ h.clock) (
      record {
        constant = stored_else words (11 + stores) value 10 (λ same. absurd (omega arith)) ∙ h.page.constant;
        count = stored_else words (11 + stores) value 11 (λ same. absurd (omega arith)) ∙ h.page.count ∙ rw writing refl;
        content = λ none. absurd (omega arith);
      },
      λ word low high. word_after page stores words word low high h.wide few before,
    ))
    (record { done = omega arith; pages = rw writing (omega arith) })

-- the last store: the count is even again, and the row is done
page_ends : (start page : List ℕ) (rows : List HostRow) (done count : ℕ) (words : List ℕ) → slice_get rows done ≡ Some (Page page)
    → ShowsHost (Some start) rows (storing done 12) (page_machine (Some start) count page 12) words
    → ((word : ℕ) → 12 ≤ word → word < 23 → slice_index words word ≡ slice_index page (word - 10))
    → HostTurned (Some start) rows (storing done 12) (resting (done + 1)) words (record { machine = page_machine (Some start) count page 12; done = done })
page_ends start page rows done count words at h before =
    let even : ℕ = word_with_count (constants_of (Some start)) (raised 2 count) in
    let pages = pages_more rows done page at in
    let count_is : raised 2 count ≡ sequence_of (count_of (Some start)) (record { page = pages_at rows (done + 1); is_writing = false }) =
    rw (h.same_count, raised_twice (count_of (Some start)) (pages_at rows done), pages) refl in
    let last : slice_index_or (pages_of (Some start) rows) (pages_at rows (done + 1)) [] ≡ page = rw pages (next_page start rows done page at) in
    store_turned (Some start) rows (storing done 12) (resting (done + 1)) words (page_machine (Some start) count page 12) (page_machine (Some start) (raised 2 count) page 13) done 11 even refl refl refl (omega arith)
    (record {
      wide = length-set words 11 even ∙ h.wide;
      within = (let within = slice_get_within rows done (Page page) at in omega arith);
      begun = omega arith;
      same_start = refl;
      same_count = count_is;
      hand = record { resting = λ none. refl; storing = λ some. absurd (omega arith) };
      clock = stored_else words 11 even 23 (λ same. absurd (omega arith)) ∙ h.clock ∙ sym (clocks_page rows done page at);
      page = record {
        constant = stored_else words 11 even 10 (λ same. absurd (omega arith)) ∙ h.page.constant;
        count = stored_there words 11 even h.wide (omega arith) ∙ ap (word_with_count (constants_of (Some start))) count_is;
        content = λ none word low high. stored_else words 11 even word (λ same. absurd (omega arith)) ∙ before word low high ∙ ap (λ (l : List ℕ). slice_index l (word - 10)) (sym last);
      };
    })
    (record { done = omega arith; pages = rw pages (omega arith) })

-- ---- each turn

-- a page row is taken only where there is a start page
page_taken : (start : Option (List ℕ)) (page : List ℕ) (rows : List HostRow) (done : ℕ) (machine : Host) (words : List ℕ) → IsRowOf start (Page page) → ShowsHost start rows (resting done) machine words
    → slice_get rows done ≡ Some (Page page) → HostTurned start rows (resting done) (storing done 1) words (record { machine = row_begun machine (Page page); done = done })
page_taken None page rows done machine words is h at = absurd is
page_taken (Some start) page rows done machine words is h at = page_begins start page rows done machine words h at

-- where no row is in hand
taken_by : (start : Option (List ℕ)) (clocks : ℕ) (rows : List HostRow) (done : ℕ) (machine : Host) (words : List ℕ) (row : Option HostRow) → AreRows start clocks rows → ShowsHost start rows (resting done) machine words
    → slice_get rows done ≡ row → HostTurned start rows (resting done) (row_turn (resting done) row) words (host_takes (record { machine = machine; done = done }) row)
taken_by start clocks rows done machine words None are h at = none_turned start rows done machine words h
taken_by start clocks rows done machine words (Some (Clock number)) are h at = clock_turned start clocks rows done number machine words are h at
taken_by start clocks rows done machine words (Some (Page page)) are h at = page_taken start page rows done machine words (row_is start rows done (Page page) are.pages at) h at
taken_by start clocks rows done machine words (Some Disrupt) are h at = disrupt_turned start rows done machine words h at

-- where a page row is in hand
stored_by : (start page : List ℕ) (rows : List HostRow) (done stores count : ℕ) (words : List ℕ) → 0 < stores → stores < 13 → slice_get rows done ≡ Some (Page page)
    → ShowsHost (Some start) rows (storing done stores) (page_machine (Some start) count page stores) words
    → ((word : ℕ) → 12 ≤ word → word < 11 + stores → slice_index words word ≡ slice_index page (word - 10))
    → HostTurned (Some start) rows (storing done stores) (row_turn (storing done stores) (Some (Page page))) words (record { machine = page_machine (Some start) count page stores; done = done })
stored_by start page rows done stores count words some few at h before =
    elim (cases_lt stores 12) [
      | inl less ↦
          (let test : (stores == 12) ≡ false = grind (arith, nat_tests) in
          subst (λ (new : HostRun). HostTurned (Some start) rows (storing done stores) new words (record { machine = page_machine (Some start) count page stores; done = done })) (rw test refl)
          (page_goes start page rows done stores count words some less at h before))
      | inr past ↦
          (let last : 12 ≡ stores = omega arith in
          subst (λ (made : ℕ). ShowsHost (Some start) rows (storing done made) (page_machine (Some start) count page made) words → ((word : ℕ) → 12 ≤ word → word < 11 + made → slice_index words word ≡ slice_index page (word - 10)) → HostTurned (Some start) rows (storing done made) (row_turn (storing done made) (Some (Page page))) words (record { machine = page_machine (Some start) count page made; done = done }))
          last (λ shows there. page_ends start page rows done count words at shows there) h before)
    ]

in_hand_by : (start : Option (List ℕ)) (page : List ℕ) (rows : List HostRow) (done stores count : ℕ) (words : List ℕ) → IsRowOf start (Page page) → 0 < stores → stores < 13 → slice_get rows done ≡ Some (Page page)
    → ShowsHost start rows (storing done stores) (page_machine start count page stores) words
    → ((word : ℕ) → 12 ≤ word → word < 11 + stores → slice_index words word ≡ slice_index page (word - 10))
    → HostTurned start rows (storing done stores) (row_turn (storing done stores) (Some (Page page))) words (record { machine = page_machine start count page stores; done = done })
in_hand_by None page rows done stores count words is some few at h before = absurd is
in_hand_by (Some start) page rows done stores count words is some few at h before = stored_by start page rows done stores count words some few at h before

-- where no row is in hand the next one is taken
rests : (start : Option (List ℕ)) (clocks : ℕ) (rows : List HostRow) (done : ℕ) (machine : Host) (words : List ℕ) → AreRows start clocks rows → ShowsHost start rows (resting done) machine words
    → HostTurned start rows (resting done) (host_turn rows (resting done)) words (host_ready rows (record { machine = machine; done = done }))
rests start clocks rows done machine words are h =
    let host : HostState = record { machine = machine; done = done } in
    let ready : host_ready rows host ≡ host_takes host (slice_get rows done) = ap (λ (act : Act). if_ended act (host_takes host (slice_get rows done)) host) (h.hand.resting refl) in
    subst (HostTurned start rows (resting done) (host_turn rows (resting done)) words) (sym ready)
    (taken_by start clocks rows done machine words (slice_get rows done) are h refl)

-- and a page row in hand goes on
stores_more : (start : Option (List ℕ)) (clocks : ℕ) (rows : List HostRow) (done stores : ℕ) (page : List ℕ) (machine : Host) (words : List ℕ) → AreRows start clocks rows → ShowsHost start rows (storing done stores) machine words
    → 0 < stores → stores < 13 → slice_get rows done ≡ Some (Page page) → machine ≡ page_machine start machine.count page stores
    → ((word : ℕ) → 12 ≤ word → word < 11 + stores → slice_index words word ≡ slice_index page (word - 10))
    → HostTurned start rows (storing done stores) (host_turn rows (storing done stores)) words (host_ready rows (record { machine = machine; done = done }))
stores_more start clocks rows done stores page machine words are h some few at is before =
    let host : HostState = record { machine = page_machine start machine.count page stores; done = done } in
    let shows : ShowsHost start rows (storing done stores) (page_machine start machine.count page stores) words = subst (λ (m : Host). ShowsHost start rows (storing done stores) m words) is h in
    let ready : host_ready rows (record { machine = machine; done = done }) ≡ host =
    ap (λ (m : Host). host_ready rows (record { machine = m; done = done })) is
    ∙ goes_on (constants_of start) machine.count page stores (host_takes host (slice_get rows done)) host some few in
    let turns : row_turn (storing done stores) (Some (Page page)) ≡ host_turn rows (storing done stores) = rw at refl in
    subst (HostTurned start rows (storing done stores) (host_turn rows (storing done stores)) words) (sym ready)
    (subst (λ (new : HostRun). HostTurned start rows (storing done stores) new words host) turns
    (in_hand_by start page rows done stores machine.count words (row_is start rows done (Page page) are.pages at) some few at shows before))

machine_is : (start : Option (List ℕ)) (page : List ℕ) (stores : ℕ) (machine : Host) → machine.start ≡ start → machine.row ≡ Some (Page page) → machine.made ≡ stores → machine ≡ page_machine start machine.count page stores
machine_is start page stores machine same_start same_row same_made = rw (← same_start, ← same_row, ← same_made) refl

-- one turn of the host, whichever it is
pub host_turn_shows : (start : Option (List ℕ)) (clocks : ℕ) (rows : List HostRow) (host : HostRun) (machine : Host) (words : List ℕ) → AreRows start clocks rows → ShowsHost start rows host machine words
    → HostTurned start rows host (host_turn rows host) words (host_ready rows (record { machine = machine; done = host.done }))
host_turn_shows start clocks rows host machine words are h =
    elim (cases_lt 0 host.stores) [
      | inl some ↦
          (let hand = h.hand.storing some in
          let row = hand.2 in
          stores_more start clocks rows host.done host.stores row.0 machine words are h some hand.0 row.1 (machine_is start row.0 host.stores machine h.same_start row.2 hand.1) row.3)
      | inr none ↦
          (let zero_is : 0 ≡ host.stores = omega arith in
          subst (λ (stores : ℕ). ShowsHost start rows (storing host.done stores) machine words → HostTurned start rows (storing host.done stores) (host_turn rows (storing host.done stores)) words (host_ready rows (record { machine = machine; done = host.done })))
          zero_is (λ shows. rests start clocks rows host.done machine words are shows) h)
    ]

-- the same of a state of the host that has done as many rows
pub host_state_shows : (start : Option (List ℕ)) (clocks : ℕ) (rows : List HostRow) (host : HostRun) (state : HostState) (words : List ℕ) → state.done ≡ host.done → AreRows start clocks rows
    → ShowsHost start rows host state.machine words → HostTurned start rows host (host_turn rows host) words (host_ready rows state)
host_state_shows start clocks rows host state words same are h =
    subst (λ (done : ℕ). HostTurned start rows host (host_turn rows host) words (host_ready rows (record { machine = state.machine; done = done }))) (sym same)
    (host_turn_shows start clocks rows host state.machine words are h)
