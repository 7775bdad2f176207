-- The stores of a poll, cut at the stop.
use Rattle.std.proofs.Common.{◌≡◌, ◌≢◌, ℕ, zero, suc, ◌<◌, ◌≤◌, true, false, List, [], ◌∷◌, Option, Some, None, length, take, refl, sym, ap, subst, ◌∙◌, inl, inr, arith}
use Rattle.std.specs.Prelude.{slice_index_or, IfSome, ◌==◌, nat_lt, if◌then◌else◌}
use Rattle.std.proofs.lemmas.Bool.{cases_lt}
use Rattle.std.proofs.lemmas.Bool.Decides.{nat_tests}
use Rattle.std.proofs.lemmas.List.{get_or-take, length-take-le, length-take, take_all}
use Rattle.clock_gate.specs.declared.act.Act.{Act}
use Rattle.clock_gate.specs.declared.act.Act.TheVariants.{End}
use Rattle.clock_gate.specs.declared.limits.TheConstants.{MOST_STORES}
use Rattle.generation_word.specs.declared.layout.Layout.{Layout}
use Rattle.segment_layout.specs.Record.{RecordFields}
use Rattle.shm_writer.specs.Publisher.{stores, Publishing, publishing_act}
use Rattle.writer_reopen.specs.declared.order.Order.{Order}
use Rattle.writer_reopen.specs.declared.polled.Polled.{Polled}
use Rattle.writer_reopen.specs.declared.polled.Polled.TheVariants.{Published, Stopped}
use Rattle.writer_reopen.specs.declared.stage.Taken.{Taken}
use Rattle.writer_reopen.specs.Progress.{Ends, act_of, end_of, in_order}
use Rattle.writer_reopen.specs.Poll.{stores_until, polled_by, storing_of}
use Rattle.writer_reopen.specs.PollMachine.{IsUpdate}
use Rattle.writer_reopen.proofs.InOrder.{NoEnd, ended_past, act_of-in_order, store_goes_on}

-- ---- acts in their order, by how many were done

pub ended_all : {Answer : Type 0} (acts : List Act) (answer : Answer) (k : ℕ) → length acts ≤ k → in_order acts answer k ≡ Ends answer
ended_all [] answer k h = refl
ended_all (act ∷ acts) answer zero h = absurd (omega arith)
ended_all (act ∷ acts) answer (suc k) h = ended_all acts answer k (omega arith)

pub not_ended : {Answer : Type 0} (acts : List Act) (answer : Answer) (k : ℕ) → k < length acts → end_of (in_order acts answer k) ≡ None
not_ended [] answer k h = absurd (omega arith)
not_ended (act ∷ acts) answer zero h = refl
not_ended (act ∷ acts) answer (suc k) h = not_ended acts answer k (omega arith)

end_at : {Answer : Type 0} (acts : List Act) (answer : Answer) (k most : ℕ) → length acts ≡ most → k ≤ most
    → end_of (in_order acts answer k) ≡ (if k == most then Some answer else None)
end_at acts answer k most same h = elim (cases_lt k most) [
  | inl below ↦ let test : (k == most) ≡ false = grind (arith, nat_tests) in rw test (not_ended acts answer k (omega arith))
  | inr past ↦ let test : (k == most) ≡ true = grind (arith, nat_tests) in rw test (ap end_of (ended_all acts answer k (omega arith)))
]

-- ---- the cut

-- stores before the stop are those of the whole list
before_stop : (stop : Option ℕ) (acts : List Act) (answer : Polled) (made : ℕ) → IfSome stop (λ s. made ≤ s) → stop ≢ Some made
    → act_of (in_order (stores_until stop acts) answer made) ≡ slice_index_or acts made End
before_stop None acts answer made within other = act_of-in_order acts answer made
before_stop (Some stop) acts answer made within other = elim (cases_lt made stop) [
  | inl below ↦ act_of-in_order (take stop acts) answer made ∙ get_or-take stop acts made End below
  | inr past ↦ let same : stop ≡ made = omega arith in absurd (other (ap Some same))
]

-- at the stop there is no further one
at_stop : (stop made : ℕ) (acts : List Act) (answer : Polled) → stop ≤ made → in_order (take stop acts) answer made ≡ Ends answer
at_stop stop made acts answer h = let most : length (take stop acts) ≤ stop = omega (arith, length-take stop acts) in ended_all (take stop acts) answer made (omega arith)

-- the stores of an update are those of what was taken
same_stores : (order : Order) (taken : Taken) (update : Publishing) → IsUpdate order taken update
    → slice_index_or (stores taken.publication.rec order.layout order.generation) update.made End ≡ publishing_act update
same_stores order taken update is =
    ap (λ (rec : RecordFields). slice_index_or (stores rec order.layout order.generation) update.made End) (sym is.same_record)
    ∙ ap (λ (layout : Layout). slice_index_or (stores update.rec layout order.generation) update.made End) (sym is.same_layout)
    ∙ ap (λ (generation : ℕ). slice_index_or (stores update.rec update.layout generation) update.made End) (sym is.same_generation)

pub act_before_stop : (order : Order) (taken : Taken) (update : Publishing) → IsUpdate order taken update → order.stop ≢ Some update.made
    → publishing_act update ≡ act_of (storing_of order taken update.made)
act_before_stop order taken update is other =
    sym (before_stop order.stop (stores taken.publication.rec order.layout order.generation) (polled_by order.stop taken) update.made is.until other
    ∙ same_stores order taken update is)

pub act_at_stop : (order : Order) (taken : Taken) (update : Publishing) → order.stop ≡ Some update.made → act_of (storing_of order taken update.made) ≡ End
act_at_stop order taken update stop =
    let all : List Act = stores taken.publication.rec order.layout order.generation in
    let cut : stores_until order.stop all ≡ take update.made all = ap (λ (s : Option ℕ). stores_until s all) stop in
    ap (λ (acts : List Act). act_of (in_order acts (polled_by order.stop taken) update.made)) cut
    ∙ ap act_of (at_stop update.made update.made all (polled_by order.stop taken) (omega arith))

-- after the tenth store, and not before, no further one is wanted
all_stores : (order : Order) (taken : Taken) → NoEnd (stores taken.publication.rec order.layout order.generation)
all_stores order taken = (
  store_goes_on _ _,
  (
    store_goes_on _ _,
    (
      store_goes_on _ _,
      (
        store_goes_on _ _,
        (
          store_goes_on _ _,
          (store_goes_on _ _, (store_goes_on _ _, (store_goes_on _ _, (store_goes_on _ _, (store_goes_on _ _, tt))))),
        ),
      ),
    ),
  ),
)

pub act_after_ten : (order : Order) (taken : Taken) (update : Publishing) → IsUpdate order taken update → order.stop ≢ Some update.made → update.made ≡ MOST_STORES
    → act_of (storing_of order taken update.made) ≡ End
act_after_ten order taken update is other ten =
    let all : List Act = stores taken.publication.rec order.layout order.generation in
    before_stop order.stop all (polled_by order.stop taken) update.made is.until other ∙ ap (λ (made : ℕ). slice_index_or all made End) ten

pub act_before_ten : (order : Order) (taken : Taken) (update : Publishing) → IsUpdate order taken update → order.stop ≢ Some update.made → update.made ≢ MOST_STORES
    → act_of (storing_of order taken update.made) ≢ End
act_before_ten order taken update is other more = λ ended.
    let all : List Act = stores taken.publication.rec order.layout order.generation in
    let past : 10 ≤ update.made = ended_past all update.made (all_stores order taken) (sym (before_stop order.stop all (polled_by order.stop taken) update.made is.until other) ∙ ended) in
    let most = is.most in
    absurd (more (omega (arith, past, most)))

ten_stores : (order : Order) (taken : Taken) → length (stores taken.publication.rec order.layout order.generation) ≡ 10
ten_stores order taken = refl

pub end_stopped : (order : Order) (taken : Taken) (update : Publishing) (stop : ℕ) → IsUpdate order taken update → order.stop ≡ Some stop → stop < 10
    → end_of (storing_of order taken update.made) ≡ (if update.made == stop then Some (Stopped stop) else None)
end_stopped order taken update stop is told below =
    let all : List Act = stores taken.publication.rec order.layout order.generation in
    let cut : storing_of order taken update.made ≡ in_order (take stop all) (polled_by (Some stop) taken) update.made = ap (λ (s : Option ℕ). in_order (stores_until s all) (polled_by s taken) update.made) told in
    let test : nat_lt stop MOST_STORES ≡ true = grind (arith, nat_tests) in
    let answer : polled_by (Some stop) taken ≡ Stopped stop = rw test refl in
    let within : IfSome (Some stop) (λ s. update.made ≤ s) = subst (λ (s : Option ℕ). IfSome s (λ n. update.made ≤ n)) told is.until in
    ap end_of cut
    ∙ end_at (take stop all) (polled_by (Some stop) taken) update.made stop (length-take-le stop all (omega (arith, ten_stores order taken))) within
    ∙ ap (λ (polled : Polled). if update.made == stop then Some polled else None) answer

pub end_past_ten : (order : Order) (taken : Taken) (update : Publishing) (stop : ℕ) → IsUpdate order taken update → order.stop ≡ Some stop → 10 ≤ stop
    → end_of (storing_of order taken update.made) ≡ (if update.made == MOST_STORES then Some (Published taken.daemon taken.publication) else None)
end_past_ten order taken update stop is told past =
    let all : List Act = stores taken.publication.rec order.layout order.generation in
    let cut : storing_of order taken update.made ≡ in_order (take stop all) (polled_by (Some stop) taken) update.made = ap (λ (s : Option ℕ). in_order (stores_until s all) (polled_by s taken) update.made) told in
    let test : nat_lt stop MOST_STORES ≡ false = grind (arith, nat_tests) in
    let answer : polled_by (Some stop) taken ≡ Published taken.daemon taken.publication = rw test refl in
    let whole : take stop all ≡ all = take_all stop all past in
    ap end_of cut
    ∙ end_at (take stop all) (polled_by (Some stop) taken) update.made MOST_STORES (ap length whole) is.most
    ∙ ap (λ (polled : Polled). if update.made == MOST_STORES then Some polled else None) answer

pub end_published : (order : Order) (taken : Taken) (update : Publishing) → IsUpdate order taken update → order.stop ≡ None
    → end_of (storing_of order taken update.made) ≡ (if update.made == MOST_STORES then Some (Published taken.daemon taken.publication) else None)
end_published order taken update is told =
    let all : List Act = stores taken.publication.rec order.layout order.generation in
    let cut : storing_of order taken update.made ≡ in_order all (Published taken.daemon taken.publication) update.made = ap (λ (s : Option ℕ). in_order (stores_until s all) (polled_by s taken) update.made) told in
    ap end_of cut ∙ end_at all (Published taken.daemon taken.publication) update.made MOST_STORES refl is.most
