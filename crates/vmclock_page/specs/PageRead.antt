-- A read of the page's marker, in so many tries, under its sequence count. This project's own.
use Rattle.std.specs.Prelude.{ℕ, ◌≤◌, false, ◌==◌, slice_index, Option, Some, None}
use Rattle.clock_gate.specs.declared.act.Act.{Act}
use Rattle.clock_gate.specs.declared.act.Act.TheVariants.{Load, Store, End}
use Rattle.seqlock.specs.Tries as tries
use Rattle.seqlock.specs.Tries.{Seqlock, Outcome, Unpublished, AllFailed, Found, SeqlockRead}
use Rattle.vmclock_page.specs.Words.{count_in_word}
use Rattle.vmclock_page.specs.declared.page_seen.PageSeen.{PageSeen}
use Rattle.vmclock_page.specs.declared.page_seen.PageSeen.TheVariants.{Marker, Busy}

-- the marker, in word 12, stands under the sequence count, which is the upper half of word 11. A page is always there,
-- and a first and a last word are compared by their counts alone
abbrev pub page_lock : Seqlock
page_lock = record {
  number_word = 11;
  first_word = 12;
  size = 1;
  number_in = count_in_word;
  is_absent = λ word. false;
  is_same = λ first last. count_in_word first == count_in_word last;
}

-- the read after one more value
abbrev pub given : SeqlockRead → ℕ → SeqlockRead
given read value = tries.given page_lock read value

-- the act that it wants
abbrev pub act_of : SeqlockRead → Act
act_of read = tries.read_act page_lock read

-- what the tries tell of the page. A page is always there, so the first of these never comes
abbrev pub seen_of : Outcome → PageSeen
seen_of Unpublished = Busy 0 0
seen_of (AllFailed first last) = Busy first last
seen_of (Found word words) = Marker (slice_index words 0) (count_in_word word)

abbrev pub page_seen : Option Outcome → Option PageSeen
page_seen None = None
page_seen (Some outcome) = Some (seen_of outcome)

-- what the read has come to
abbrev pub end_of : SeqlockRead → Option PageSeen
end_of read = page_seen (tries.read_end page_lock read)

-- a load of the sequence count or of the marker, or none
abbrev pub IsPageLoad : Act → Type 0
IsPageLoad (Load word) = (11 ≤ word) × (word ≤ 12)
IsPageLoad (Store word value) = ⊥
IsPageLoad End = Unit {0}
