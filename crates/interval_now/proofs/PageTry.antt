-- A first try of the page that finds the same even count twice, value by value.
use Rattle.std.proofs.Common.{◌≡◌, ℕ, ◌%◌, ◌<◌, ◌≤◌, true, List, [], ◌∷◌, refl, ap, sym, ◌∙◌, arith, Option, Some}
use Rattle.std.proofs.lemmas.Bool.{eq-eqb}
use Rattle.clock_gate.specs.declared.act.Act.TheVariants.{Load}
use Rattle.clock_gate.specs.declared.clock_row.ClockRow.{ClockRow}
use Rattle.clock_gate.specs.declared.clock_row.Reading.{Reading}
use Rattle.clock_gate.specs.declared.limits.TheConstants.{LAST_MOMENT, MOST_TRIES}
use Rattle.seqlock.specs.Tries.{SeqlockRead, Progress, IsCalm, started, progress}
use Rattle.seqlock.specs.Tries as tries
use Rattle.seqlock.proofs.Tries as laws
use Rattle.segment_layout.specs.Record.{RecordFields}
use Rattle.vmclock_page.specs.Words.{count_in_word}
use Rattle.vmclock_page.specs.PageRead.{page_lock, page_seen}
use Rattle.vmclock_page.specs.PageRead as page
use Rattle.vmclock_page.specs.declared.page_seen.PageSeen.{PageSeen}
use Rattle.vmclock_page.proofs.PageTries.{given-even, given-marker, given-same}
use Rattle.interval_now.specs.declared.stage.Stage.{Stage}
use Rattle.interval_now.specs.Call.{Call, IsCall, paged, answer_of, act_of, end_of, given, after_page}

abbrev seen_at : Progress → Option PageSeen
seen_at at = page_seen (tries.end_of at)

module _ (most generation : ℕ) (rec : RecordFields) (reading : Reading) (some : 0 < most) where
  -- the first try of the page with these values
  abbrev loaded : List ℕ → SeqlockRead
  loaded values = record (started most) { values = values }

  none_asks : progress page_lock (loaded []) ≡ tries.Asks 11
  none_asks = laws.asks-first page_lock (loaded []) some refl

  -- the count comes first
  pub asks_count : act_of (paged most generation rec reading []) ≡ Load 11
  asks_count = ap tries.act_of none_asks

  pub page_is_call : most ≤ MOST_TRIES → reading.mono ≤ LAST_MOMENT → reading.real ≤ LAST_MOMENT → IsCall (paged most generation rec reading [])
  page_is_call few mono real = record {
    some = some;
    most = few;
    stage = (laws.started-stage page_lock most, λ ends. cc (ends, ap tries.act_of none_asks));
    early = (mono, real);
  }

  module _ (clock : List ClockRow) (first : ℕ) (even : count_in_word first % 2 ≡ 0) where
    calm : IsCalm page_lock first
    calm = record { published = refl; even = even }

    one_asks : progress page_lock (loaded (first ∷ [])) ≡ tries.Asks 12
    one_asks = laws.asks-data page_lock (loaded (first ∷ [])) first [] some refl calm (omega arith)

    two_asks : (marker : ℕ) → progress page_lock (loaded (first ∷ marker ∷ [])) ≡ tries.Asks 11
    two_asks marker = laws.asks-last page_lock (loaded (first ∷ marker ∷ [])) first (marker ∷ []) some refl calm refl

    -- then the marker, and the count again
    pub asks_marker : act_of (paged most generation rec reading (first ∷ [])) ≡ Load 12
    asks_marker = ap tries.act_of one_asks

    pub asks_count_again : (marker : ℕ) → act_of (paged most generation rec reading (first ∷ marker ∷ [])) ≡ Load 11
    asks_count_again marker = ap tries.act_of (two_asks marker)

    abbrev at : Stage → Call
    at stage = record { tries = most; support = true; stage = stage }

    pub count_given : given clock (paged most generation rec reading []) first ≡ paged most generation rec reading (first ∷ [])
    count_given =
        ap (λ (read : SeqlockRead). at (after_page generation rec reading read (page.end_of read))) (given-even (loaded []) first refl even)
        ∙ ap (λ (end : Option PageSeen). at (after_page generation rec reading (loaded (first ∷ [])) end)) (ap seen_at one_asks)

    pub marker_given : (marker : ℕ) → given clock (paged most generation rec reading (first ∷ [])) marker ≡ paged most generation rec reading (first ∷ marker ∷ [])
    marker_given marker =
        ap (λ (read : SeqlockRead). at (after_page generation rec reading read (page.end_of read))) (given-marker (loaded (first ∷ [])) first marker refl even)
        ∙ ap (λ (end : Option PageSeen). at (after_page generation rec reading (loaded (first ∷ marker ∷ [])) end)) (ap seen_at (two_asks marker))

    -- the same count at last
    pub page_read : (marker last : ℕ) → count_in_word last ≡ count_in_word first
        → end_of (given clock (paged most generation rec reading (first ∷ marker ∷ [])) last) ≡ Some (answer_of generation rec reading (Some marker) (count_in_word first))
    page_read marker last same =
        ap (λ (read : SeqlockRead). end_of (at (after_page generation rec reading read (page.end_of read)))) (given-same (loaded (first ∷ marker ∷ [])) first marker last refl even same)
        ∙ ap (λ (end : Option PageSeen). end_of (at (after_page generation rec reading (loaded (first ∷ marker ∷ last ∷ [])) end)))
        (ap seen_at (laws.ends-read page_lock (loaded (first ∷ marker ∷ last ∷ [])) first last (marker ∷ []) some refl calm refl (eq-eqb (count_in_word first) (count_in_word last) (sym same))))
