-- What an image begins with.
use Rattle.std.proofs.Common.{◌≡◌, ℕ, ◌/◌, ◌%◌, Bool, true, false, List, refl, sym, arith, inl, inr}
use Rattle.std.specs.Prelude.{◌==◌, if◌then◌else◌}
use Rattle.std.proofs.lemmas.Bool.{cases_eq}
use Rattle.std.proofs.lemmas.Bool.Decides.{nat_tests}
use Rattle.generation_word.specs.declared.layout.Layout.{Layout}
use Rattle.clock_gate.specs.declared.trace.Trace.{Trace}
use Rattle.vmclock_page.specs.Host.{count_of}
use Rattle.segment_layout.specs.declared.start.Start.TheVariants.{Fresh, Kept, Torn}
use Rattle.segment_layout.specs.Image.{start_of}
use Rattle.segment_layout.specs.Record.{RecordFields}
use Rattle.segment_layout.specs.Words.{fields_of_words}
use Rattle.segment_run.specs.SegmentRun.{SegmentRun, segment_by}
use Rattle.run_progress.specs.Progress.{first_generation, first_position}

-- an update was left open in it
abbrev pub is_torn_first : Trace → Bool
is_torn_first trace = first_generation trace % 2 == 1

pub torn_from : (trace : Trace) → is_torn_first trace ≡ true → first_generation trace % 2 ≡ 1
torn_from trace on = grind (arith, nat_tests, on)

pub torn_by : (trace : Trace) → first_generation trace % 2 ≡ 1 → is_torn_first trace ≡ true
torn_by trace odd = grind (arith, nat_tests, odd)

pub untorn_by : (trace : Trace) → first_generation trace % 2 ≡ 0 → is_torn_first trace ≡ false
untorn_by trace even = grind (arith, nat_tests, even)

pub untorn_from : (trace : Trace) → ¬ (first_generation trace % 2 ≡ 1) → first_generation trace % 2 ≡ 0
untorn_from trace untorn = elim (cases_eq (first_generation trace % 2) 1) [
  | inl odd ↦ absurd (untorn odd)
  | inr differs ↦ omega (arith, differs)
]

-- ---- the segment that it begins with

module _ (layout : Layout) (image : List ℕ) (sequence generation : ℕ) (rec : RecordFields) where
  abbrev begun : (none odd : Bool) → SegmentRun
  begun none odd = segment_by layout image sequence (if none then Fresh else if odd then Torn generation else Kept generation rec)

  layout_by : (none odd : Bool) → (begun none odd).layout ≡ layout
  layout_by true odd = refl
  layout_by false true = refl
  layout_by false false = refl

  image_by : (none odd : Bool) → (begun none odd).image ≡ image
  image_by true odd = refl
  image_by false true = refl
  image_by false false = refl

  unheaded_by : (none odd : Bool) → (begun none odd).is_headed ≡ false
  unheaded_by true odd = refl
  unheaded_by false true = refl
  unheaded_by false false = refl

  position_by : (none odd : Bool) → (generation == 0) ≡ none → (begun none odd).position ≡ generation / 2
  position_by true odd is = (let nothing : generation ≡ 0 = grind (arith, nat_tests, is) in omega (arith, nothing))
  position_by false true is = refl
  position_by false false is = refl

  writes_by : (none odd : Bool) → (generation == 0) ≡ none → (generation % 2 == 1) ≡ odd → (begun none odd).is_writing ≡ (generation % 2 == 1)
  writes_by true odd is at =
      let nothing : generation ≡ 0 = grind (arith, nat_tests, is) in
      let off : (generation % 2 == 1) ≡ false = grind (arith, nat_tests, nothing) in
      sym off
  writes_by false true is at = sym at
  writes_by false false is at = sym at

module _ (trace : Trace) where
  abbrev pub first_segment : SegmentRun
  first_segment = segment_by trace.layout trace.image (count_of trace.page) (start_of trace.image)

  pub first_layout : first_segment.layout ≡ trace.layout
  first_layout = layout_by trace.layout trace.image (count_of trace.page) (first_generation trace) (fields_of_words trace.image) (first_generation trace == 0) (first_generation trace % 2 == 1)

  pub first_image : first_segment.image ≡ trace.image
  first_image = image_by trace.layout trace.image (count_of trace.page) (first_generation trace) (fields_of_words trace.image) (first_generation trace == 0) (first_generation trace % 2 == 1)

  pub first_unheaded : first_segment.is_headed ≡ false
  first_unheaded = unheaded_by trace.layout trace.image (count_of trace.page) (first_generation trace) (fields_of_words trace.image) (first_generation trace == 0) (first_generation trace % 2 == 1)

  pub first_at : first_segment.position ≡ first_position trace
  first_at = position_by trace.layout trace.image (count_of trace.page) (first_generation trace) (fields_of_words trace.image) (first_generation trace == 0) (first_generation trace % 2 == 1) refl

  pub first_writes : first_segment.is_writing ≡ is_torn_first trace
  first_writes = writes_by trace.layout trace.image (count_of trace.page) (first_generation trace) (fields_of_words trace.image) (first_generation trace == 0) (first_generation trace % 2 == 1) refl refl
