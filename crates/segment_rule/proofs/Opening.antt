-- An opening that is under way, and what one step more makes of it.
use Rattle.std.proofs.Common.{◌≡◌, ◌≢◌, ℕ, zero, suc, ◌+◌, ◌%◌, ◌^◌, ◌<◌, ◌≤◌, ◌⊎◌, ⊎_elim, inl, inr, Bool, true, false, List, [], ◌∷◌, ◌++◌, length, take, refl, sym, ap, ◌∙◌, subst, ne_eqb, arith, Option, Some, Ok, length-append}
use Rattle.std.specs.Prelude.{◌==◌, slice_index, slice_index_or, if◌then◌else◌}
use Rattle.std.proofs.lemmas.Bool.{eqb-true, eqb-false, cases_lt, cases_eq}
use Rattle.std.proofs.lemmas.Bool.Decides.{nat_tests}
use Rattle.clock_gate.specs.declared.act.Act.{Act}
use Rattle.clock_gate.specs.declared.act.Act.TheVariants.{Load, Store, End}
use Rattle.generation_word.specs.declared.layout.Layout.{Layout}
use Rattle.generation_word.specs.declared.layout.Layout.TheVariants.{Two, Three}
use Rattle.generation_word.specs.Layout.{period_of}
use Rattle.generation_word.specs.Numbering.{odd_after, even_after}
use Rattle.generation_word.specs.Header.{word1_of, generation_in}
use Rattle.generation_word.proofs.Laws.{odd_after-at_rest, even_after-at_rest}
use Rattle.segment_layout.specs.declared.words.TheConstants.{MAGIC}
use Rattle.segment_layout.specs.declared.start.Start.{Start}
use Rattle.segment_layout.specs.declared.start.Start.TheVariants.{Fresh, Kept, Torn}
use Rattle.segment_layout.specs.Record.{RecordFields}
use Rattle.segment_layout.specs.Image.{image_of, generation_of_start, is_old_header}
use Rattle.segment_layout.specs.History.{last_store}
use Rattle.segment_run.specs.SegmentRun.{SegmentRun, headed, opened_update, moved_once, header_shown, number_shown, number_at, start_found}
use Rattle.segment_run.specs.ShowsSegment.{IsSegment, ShowsSegment}
use Rattle.segment_run.proofs.SegmentHeader.{told_three, own_header_some, period_positive, number_told, number_at_rest, number_in_update, number_even, number_positive}
use Rattle.segment_run.proofs.SegmentAdmitted.{segment_admitted}
use Rattle.writer_reopen.specs.Opening.{OpenerState, opening_steps, fresh_steps, torn_steps, kept_steps, later_steps, loads_at, LoadsImage}
use Rattle.writer_reopen.specs.Opening as opening
use Rattle.writer_reopen.specs.Progress.{Ends}
use Rattle.writer_reopen.specs.declared.opening.Opening.{Opening}
use Rattle.writer_reopen.specs.Opening.{new_opener, opening_act, opening_given, opening_end, opening_of, opening_for, loaded_words, IsAdmitted}
use Rattle.writer_reopen.proofs.Openings.{act-by_number, answer_at_end, ended, ended_after}
use Rattle.writer_reopen.proofs.OpeningLaws.{opens_as_admitted}
use Rattle.segment_views.proofs.Shown.{touches-snoc, ran_first, ran_more, sound_stored, follows_first, follows_load, follows_store}
use Rattle.segment_views.proofs.Told.{daemon_stores}
use Rattle.writer_reopen.proofs.Images.{Opens, opens-load, opens-store}
use Rattle.clock_gate.proofs.Acts.{replayed-append, wanted-append}
use Rattle.std.proofs.lemmas.List.{get_or_past}
use Rattle.clock_gate.specs.Acts.{Touch, Wanted, replayed}
use Rattle.segment_views.specs.Steps.{TellsFront, TellsZero, HasMagic, with_magic, with_head, move_begun, move_ended, stored, calls_of}
use Rattle.segment_views.specs.Shown.{touches_of, IsSoundCall, PointsFollow, AddsStore}
use Rattle.segment_rule.specs.Ruled.{Either, TellsLoad}
use Rattle.writer_reopen.proofs.Found as plans
use Rattle.writer_reopen.proofs.Found.{loads_of, steps_by_found}
use Rattle.segment_rule.proofs.Stepping as stepping
use Rattle.segment_views.specs.Views.{DaemonPart, SeatView, point_of}
use Rattle.generation_word.proofs.HeaderLaws.{one_number}
use Rattle.std.proofs.lemmas.Bool.{eq-eqb}
use Rattle.segment_views.specs.declared.setup.Setup.{Setup}
use Rattle.segment_views.specs.Seats.{IsSetup, IsOpening, opener, without_host}
use Rattle.segment_views.proofs.SeatLaws.{opens}
use Rattle.segment_rule.specs.Opens.{OpenAt, generation_by, generation_after, moved_by, history_opened, is_header, TellsOpen, MayOpen, IsDaemonPart, marked_of, headed_of, move_of, moved_of, opened_of, Reopens}

-- ---- the steps of an opening, by what it found

-- what is found, under the number that the segment shows
abbrev pub numbered : ℕ → Start → Start
numbered generation Fresh = Fresh
numbered generation (Torn g) = Torn generation
numbered generation (Kept g rec) = Kept generation rec

abbrev pub steps_for : Layout → (old : Bool) → ℕ → Start → List Act
steps_for layout old generation start = plans.steps_for layout old (numbered generation start)

pub load_for : (layout : Layout) (old : Bool) (generation : ℕ) (start : Start) (k word : ℕ) → slice_index_or (steps_for layout old generation start) k End ≡ Load word → (word ≡ k) × (k < loads_of start)
load_for layout old generation Fresh k word e = plans.load_for layout old Fresh k word e
load_for layout old generation (Torn g) k word e = plans.load_for layout old (Torn generation) k word e
load_for layout old generation (Kept g rec) k word e = plans.load_for layout old (Kept generation rec) k word e

-- ---- what was found

-- what an opening finds in a segment, and what is then known of it
abbrev pub Finds : SegmentRun → Start → Type 0
Finds segment Fresh = (segment.position ≡ 0) × (segment.is_writing ≡ false) × (number_shown segment ≡ 0)
Finds segment (Torn g) = segment.is_writing ≡ true
Finds segment (Kept g rec) = (segment.is_writing ≡ false) × (0 < segment.position)

finds_by : (segment : SegmentRun) (writes none : Bool) (g h : ℕ) (rec : RecordFields) → segment.is_writing ≡ writes → (segment.position == 0) ≡ none → Finds segment (if writes then Torn g else if none then Fresh else Kept h rec)
finds_by segment true none g h rec is at_none = is
finds_by segment false true g h rec is at_none =
    let at : segment.position ≡ 0 = eqb-true segment.position 0 at_none in
    (at, is, rw (at, is) refl)
finds_by segment false false g h rec is at_none = let away : segment.position ≢ 0 = eqb-false segment.position 0 at_none in (is, omega arith)

pub finds : (segment : SegmentRun) → Finds segment (start_found segment)
finds segment = finds_by segment segment.is_writing (segment.position == 0) _ _ _ refl refl

pub steps_are : (segment : SegmentRun) (start : Start) → IsSegment segment → Finds segment start → opening_steps segment.layout (header_shown segment) ≡ steps_for segment.layout (is_old_header segment.layout (header_shown segment)) (number_shown segment) start
steps_are segment Fresh is found = steps_by_found segment.layout (header_shown segment) Fresh (number_told segment is ∙ found.2)
steps_are segment (Torn g) is found =
    let number = number_in_update segment found in
    let even = number_even segment segment.position in
    steps_by_found segment.layout (header_shown segment) (Torn (number_shown segment)) (number_told segment is, omega (arith, number, even))
steps_are segment (Kept g rec) is found =
    let number = number_at_rest segment found.0 in
    let even = number_even segment segment.position in
    let positive = number_positive segment segment.position found.1 in
    steps_by_found segment.layout (header_shown segment) (Kept (number_shown segment) rec) (number_told segment is, omega (arith, number, even), omega (arith, number, positive))

-- ---- the image of a segment

-- the ten words of a segment whose first word is this
abbrev pub image_at : ℕ → SegmentRun → List ℕ
image_at first segment =
    first ∷ header_shown segment ∷ last_store segment.image segment.begun 2 ∷ last_store segment.image segment.begun 3 ∷ last_store segment.image segment.begun 4 ∷ last_store segment.image segment.begun 5
    ∷ last_store segment.image segment.begun 6 ∷ last_store segment.image segment.begun 7 ∷ last_store segment.image segment.begun 8 ∷ last_store segment.image segment.begun 9 ∷ []

image_word : (first : ℕ) (segment : SegmentRun) (rest : List ℕ) (word : ℕ) → 2 ≤ word → word < 10 → slice_index (image_at first segment ++ rest) word ≡ last_store segment.image segment.begun word
image_word first segment rest zero low high = absurd (omega arith)
image_word first segment rest (suc zero) low high = absurd (omega arith)
image_word first segment rest (suc (suc zero)) low high = refl
image_word first segment rest (suc (suc (suc zero))) low high = refl
image_word first segment rest (suc (suc (suc (suc zero)))) low high = refl
image_word first segment rest (suc (suc (suc (suc (suc zero))))) low high = refl
image_word first segment rest (suc (suc (suc (suc (suc (suc zero)))))) low high = refl
image_word first segment rest (suc (suc (suc (suc (suc (suc (suc zero))))))) low high = refl
image_word first segment rest (suc (suc (suc (suc (suc (suc (suc (suc zero)))))))) low high = refl
image_word first segment rest (suc (suc (suc (suc (suc (suc (suc (suc (suc zero))))))))) low high = refl
image_word first segment rest (suc (suc (suc (suc (suc (suc (suc (suc (suc (suc word)))))))))) low high = absurd (omega arith)

abbrev pub IsFirstWord : SegmentRun → ℕ → Type 0
IsFirstWord segment first = (first ≡ MAGIC) ⊎ ((first ≡ 0) × (header_shown segment ≡ 0))

abbrev zeros : List ℕ
zeros = 0 ∷ 0 ∷ 0 ∷ 0 ∷ 0 ∷ 0 ∷ 0 ∷ 0 ∷ 0 ∷ 0 ∷ 0 ∷ 0 ∷ 0 ∷ 0 ∷ []

image_shows : (first : ℕ) (segment : SegmentRun) → IsSegment segment → IsFirstWord segment first → ShowsSegment segment (image_at first segment ++ zeros)
image_shows first segment is magic = record { is = is; wide = refl; magic = magic; header = refl; data_words = λ word low high. image_word first segment zeros word low high }

pub image_admitted : (first : ℕ) (segment : SegmentRun) → IsSegment segment → IsFirstWord segment first → header_shown segment < 2 ^ 64 → image_of segment.layout (image_at first segment) ≡ Ok (start_found segment)
image_admitted first segment is magic fits = segment_admitted segment (image_at first segment ++ zeros) (image_shows first segment is magic) fits

-- ---- what an opening has done

-- what the daemon owns after so many steps of an opening that found this
abbrev pub DaemonPartAt : Start → ℕ → DaemonPart → DaemonPart → Type 0
DaemonPartAt Fresh k s o = (k ≤ 2 → o ≡ s) × (k ≡ 3 → o ≡ marked_of s) × (k ≡ 4 → o ≡ headed_of (marked_of s))
DaemonPartAt (Torn g) k s o = (k ≤ 2 → o ≡ s) × (k ≡ 3 → o ≡ headed_of s)
DaemonPartAt (Kept g rec) k s o = (k ≤ 10 → o ≡ s) × (k ≡ 11 → o ≡ move_of s) × (k ≡ 12 → o ≡ moved_of (move_of s))

part_at_loads : (start : Start) (k : ℕ) (s o : DaemonPart) → k ≤ loads_of start → DaemonPartAt start k s o → o ≡ s
part_at_loads Fresh k s o few at = at.0 few
part_at_loads (Torn g) k s o few at = at.0 few
part_at_loads (Kept g rec) k s o few at = at.0 few

part_loaded : (start : Start) (k : ℕ) (s o : DaemonPart) → k ≤ loads_of start → o ≡ s → DaemonPartAt start k s o
part_loaded Fresh k s o few is = (λ _. is, λ e. absurd (omega arith), λ e. absurd (omega arith))
part_loaded (Torn g) k s o few is = (λ _. is, λ e. absurd (omega arith))
part_loaded (Kept g rec) k s o few is = (λ _. is, λ e. absurd (omega arith), λ e. absurd (omega arith))

-- at its end
pub part_at_end : (start : Start) (layout : Layout) (old : Bool) (g k : ℕ) (s o : DaemonPart) → DaemonPartAt start k s o → k ≡ length (steps_for layout old g start) → o ≡ opened_of start old s
part_at_end Fresh layout old g k s o at is = at.2 is
part_at_end (Torn h) layout true g k s o at is = at.1 is
part_at_end (Torn h) layout false g k s o at is = at.0 (omega (arith, is))
part_at_end (Kept h rec) layout true g k s o at is = at.2 is
part_at_end (Kept h rec) layout false g k s o at is = at.0 (omega (arith, is))

take_nil : (n : ℕ) → take {A = ℕ} n [] ≡ []
take_nil zero = refl
take_nil (suc n) = refl

-- an opening that began with this view, and is under way
pub record IsUnderWay (v : SeatView) (state : OpenerState) (w : SeatView) : Type 0 where
  pub daemon : w.is_daemon ≡ true
  pub setup : w.setup ≡ v.setup
  pub calls : w.calls ≡ calls_of v
  pub before : w.before ≡ v.seen
  pub begun : 0 < length state.values
  pub replays : Wanted opening_act opening_given (new_opener v.setup.layout) (touches_of w.steps) × (replayed opening_act opening_given (new_opener v.setup.layout) (touches_of w.steps) ≡ state)
  pub sound : IsSoundCall w
  pub points : PointsFollow (point_of v.daemon_part.segment) w.steps (point_of w.daemon_part.segment)
  pub first : ℕ
  pub magic : IsFirstWord v.daemon_part.segment first
  pub opens : Opens v.daemon_part.segment.layout (image_at first v.daemon_part.segment) state
  pub header : 1 < length state.values → slice_index state.values 1 ≡ header_shown v.daemon_part.segment
  pub few : length state.values ≤ length (steps_for v.daemon_part.segment.layout (is_old_header v.daemon_part.segment.layout (header_shown v.daemon_part.segment)) (number_shown v.daemon_part.segment) (start_found v.daemon_part.segment))
  pub daemon_part : DaemonPartAt (start_found v.daemon_part.segment) (length state.values) v.daemon_part w.daemon_part

-- the steps of the opening that began with this view
abbrev pub plan : SeatView → List Act
plan v = steps_for v.daemon_part.segment.layout (is_old_header v.daemon_part.segment.layout (header_shown v.daemon_part.segment)) (number_shown v.daemon_part.segment) (start_found v.daemon_part.segment)

early_act : (layout : Layout) (g h k : ℕ) → k < 2 → slice_index_or (opening_steps layout g) k End ≡ slice_index_or (opening_steps layout h) k End
early_act layout g h zero few = refl
early_act layout g h (suc zero) few = refl
early_act layout g h (suc (suc k)) few = absurd (omega arith)

pub act_now : (v w : SeatView) (state : OpenerState) → IsDaemonPart v → IsUnderWay v state w → opening_act state ≡ slice_index_or (plan v) (length state.values) End
act_now v w state own u =
    let same : state.layout ≡ v.daemon_part.segment.layout = u.opens.same_layout in
    act-by_number state.layout state.values
    ∙ (ap (λ (l : Layout). slice_index_or (opening_steps l (slice_index state.values 1)) (length state.values) End) same
    ∙ (elim (cases_lt 1 (length state.values)) [
      | inl more ↦ ap (λ (h : ℕ). slice_index_or (opening_steps v.daemon_part.segment.layout h) (length state.values) End) (u.header more)
      | inr less ↦ early_act v.daemon_part.segment.layout (slice_index state.values 1) (header_shown v.daemon_part.segment) (length state.values) (let x = less in omega (arith, x))
    ]
    ∙ ap (λ (acts : List Act). slice_index_or acts (length state.values) End) (steps_are v.daemon_part.segment (start_found v.daemon_part.segment) own.is (finds v.daemon_part.segment))))

-- a step that is wanted is within the plan
within_plan : (v w : SeatView) (state : OpenerState) → IsDaemonPart v → IsUnderWay v state w → opening_act state ≢ End → length state.values < length (plan v)
within_plan v w state own u asks = elim (cases_lt (length state.values) (length (plan v))) [
  | inl below ↦ below
  | inr past ↦ absurd (asks (act_now v w state own u ∙ get_or_past (plan v) (length state.values) End (let x = past in omega (arith, x))))
]

header_more : (values : List ℕ) (n h : ℕ) → (1 < length values → slice_index values 1 ≡ h) → (length values ≡ 1 → n ≡ h) → 1 < length (values ++ n ∷ []) → slice_index (values ++ n ∷ []) 1 ≡ h
header_more [] n h was now more = absurd (omega arith)
header_more (a ∷ []) n h was now more = now refl
header_more (a ∷ b ∷ values) n h was now more = was (omega arith)

-- what a load finds is the image's word
found_word : (v w x : SeatView) (state : OpenerState) (word n : ℕ) (u : IsUnderWay v state w) → w.is_daemon ≡ true → w.daemon_part ≡ v.daemon_part → 0 < word → word < 10 → TellsLoad false word w n n x → n ≡ slice_index (image_at u.first v.daemon_part.segment) word
found_word v w x state word n u daemon same some_word low t = elim (cases_eq word 1) [
  | inl one ↦
      let told : TellsFront false w n n x = subst (λ (i : ℕ). TellsLoad false i w n n x) one t in
      subst (λ (i : ℕ). n ≡ slice_index (image_at u.first v.daemon_part.segment) i) (sym one) ((told.own daemon).2 ∙ ap (λ (o : DaemonPart). header_shown o.segment) same)
  | inr other ↦
      let up : 2 ≤ word = omega arith in
      (data_told false word w x n up low t daemon ∙ ap (λ (o : DaemonPart). last_store o.segment.image o.segment.begun word) same) ∙ sym (image_word u.first v.daemon_part.segment [] word up low)
]
  where
    data_told : (first : Bool) (i : ℕ) (a b : SeatView) (m : ℕ) → 2 ≤ i → i < 10 → TellsLoad first i a m m b → a.is_daemon ≡ true → m ≡ last_store a.daemon_part.segment.image a.daemon_part.segment.begun i
    data_told first i a b m up low t d = (stepping.data_told first i m a b up low t).own d

-- ---- one load more

pub under_load : (v w x : SeatView) (state : OpenerState) (word n : ℕ) → IsDaemonPart v → w.is_daemon ≡ true → (u : IsUnderWay v state w) → opening_act state ≡ Load word → 0 < length state.values → TellsLoad false word w n n x
    → IsAdmitted state.layout (state.values ++ n ∷ []) × IsUnderWay v (opening_given state n) x
under_load v w x state word n own daemon u act started t =
    let l = stepping.loads_told false word n w x t in
    let now = act_now v w state own u in
    let at = load_for v.daemon_part.segment.layout (is_old_header v.daemon_part.segment.layout (header_shown v.daemon_part.segment)) (number_shown v.daemon_part.segment) (start_found v.daemon_part.segment) (length state.values) word (sym now ∙ act) in
    let place = at.0 in
    let few = at.1 in
    let same : w.daemon_part ≡ v.daemon_part = part_at_loads (start_found v.daemon_part.segment) (length state.values) v.daemon_part w.daemon_part (omega (arith, few)) u.daemon_part in
    let low : word < 10 = omega (arith, place, few, most_loads (start_found v.daemon_part.segment)) in
    let is : n ≡ slice_index (image_at u.first v.daemon_part.segment) word = found_word v w x state word n u daemon same (omega (arith, place, started)) low t in
    let more : length (state.values ++ n ∷ []) ≡ length state.values + 1 = length-append state.values (n ∷ []) in
    let within = within_plan v w state own u (λ e. absurd (cc (sym act ∙ e))) in
    let went0 = opens-load v.daemon_part.segment.layout (image_at u.first v.daemon_part.segment) state (Load word) word word u.opens (sym act) refl refl in
    let went : IsAdmitted state.layout (state.values ++ n ∷ []) × Opens v.daemon_part.segment.layout (image_at u.first v.daemon_part.segment) (opening_given state n) =
    subst (λ (m : ℕ). IsAdmitted state.layout (state.values ++ m ∷ []) × Opens v.daemon_part.segment.layout (image_at u.first v.daemon_part.segment) (opening_given state m)) (sym is) went0 in (
      went.0,
      record {
        daemon = l.is_daemon ∙ u.daemon;
        setup = l.setup ∙ u.setup;
        calls = l.calls ∙ u.calls;
        before = l.before ∙ u.before;
        begun = omega (arith, more);
        replays = replays_load v.setup.layout state (touches_of w.steps) (touches_of x.steps) word n act (stepping.more_touches w x word n l) u.replays;
        sound = ran_more w x word n l u.sound;
        points = follows_load (point_of v.daemon_part.segment) w x word n daemon l u.points;
        first = u.first;
        magic = u.magic;
        opens = went.1;
        header = header_more state.values n (header_shown v.daemon_part.segment) u.header
            (λ one. is ∙ ap (slice_index (image_at u.first v.daemon_part.segment)) (place ∙ one));
        few = omega (arith, more, within);
        daemon_part = part_loaded (start_found v.daemon_part.segment) (length (state.values ++ n ∷ [])) v.daemon_part x.daemon_part (omega (arith, more, few)) (l.daemon_part ∙ same);
      },
    )
  where
    most_loads : (start : Start) → loads_of start ≤ 10
    most_loads Fresh = omega arith
    most_loads (Torn g) = omega arith
    most_loads (Kept g rec) = omega arith

    replays_load : (layout : Layout) (state : OpenerState) (before after : List Touch) (word n : ℕ) → opening_act state ≡ Load word → after ≡ before ++ stepping.touch_at word n ∷ []
        → Wanted opening_act opening_given (new_opener layout) before × (replayed opening_act opening_given (new_opener layout) before ≡ state)
        → Wanted opening_act opening_given (new_opener layout) after × (replayed opening_act opening_given (new_opener layout) after ≡ opening_given state n)
    replays_load layout state before after word n act is r = rw is (
      wanted-append opening_act opening_given (new_opener layout) before (stepping.touch_at word n ∷ []) r.0 (ap opening_act r.1 ∙ act, tt),
      replayed-append opening_act opening_given (new_opener layout) before (stepping.touch_at word n ∷ []) ∙ ap (λ (m : OpenerState). opening_given m n) r.1,
    )

-- ---- the first load

pub under_first : (v x : SeatView) (n : ℕ) → IsDaemonPart v → v.is_daemon ≡ true → TellsLoad true 0 v n n x → IsAdmitted v.daemon_part.segment.layout (n ∷ []) × IsUnderWay v (opening_given (new_opener v.daemon_part.segment.layout) n) x
under_first v x n own daemon t =
    let told : TellsZero true v n n x = t in
    let l = stepping.loads_told true 0 n v x t in
    let magic = told.own daemon in
    let admitted = image_admitted n v.daemon_part.segment own.is magic own.fits in
    let begins : Opens v.daemon_part.segment.layout (image_at n v.daemon_part.segment) (new_opener v.daemon_part.segment.layout) =
    record { same_layout = refl; ten = refl; admitted = rw admitted refl; loads = take_nil (loads_at (slice_index (image_at n v.daemon_part.segment) 1)) } in
    let went = opens-load v.daemon_part.segment.layout (image_at n v.daemon_part.segment) (new_opener v.daemon_part.segment.layout) (Load 0) 0 0 begins refl refl refl in (
      went.0,
      record {
        daemon = l.is_daemon ∙ daemon;
        setup = l.setup;
        calls = l.calls;
        before = l.before;
        begun = omega arith;
        replays = first_replays v.daemon_part.segment.layout v.setup.layout (touches_of x.steps) n own.layout (ap touches_of l.steps);
        sound = ran_first v x 0 n l;
        points = follows_first v x 0 n daemon l;
        first = n;
        magic = magic;
        opens = went.1;
        header = λ more. absurd (omega arith);
        few = some_plan v.daemon_part.segment.layout (is_old_header v.daemon_part.segment.layout (header_shown v.daemon_part.segment)) (number_shown v.daemon_part.segment) (start_found v.daemon_part.segment);
        daemon_part = part_loaded (start_found v.daemon_part.segment) 1 v.daemon_part x.daemon_part (some_loads (start_found v.daemon_part.segment)) l.daemon_part;
      },
    )
  where
    some_loads : (start : Start) → 1 ≤ loads_of start
    some_loads Fresh = omega arith
    some_loads (Torn g) = omega arith
    some_loads (Kept g rec) = omega arith

    some_plan : (layout : Layout) (old : Bool) (g : ℕ) (start : Start) → 1 ≤ length (steps_for layout old g start)
    some_plan layout old g Fresh = omega arith
    some_plan layout old g (Torn h) = omega arith
    some_plan layout old g (Kept h rec) = omega arith

    first_replays : (layout told : Layout) (touches : List Touch) (n : ℕ) → layout ≡ told → touches ≡ stepping.touch_at 0 n ∷ []
        → Wanted opening_act opening_given (new_opener told) touches × (replayed opening_act opening_given (new_opener told) touches ≡ opening_given (new_opener layout) n)
    first_replays layout told touches n same is = rw (is, same) ((refl, tt), refl)

-- ---- one store more

pub to_left : (b : Bool) (P Q : Type 0) → b ≡ true → P → Either b P Q
to_left true P Q e p = p
to_left false P Q e p = absurd (cc e)

pub to_right : (b : Bool) (P Q : Type 0) → b ≡ false → Q → Either b P Q
to_right true P Q e q = absurd (cc e)
to_right false P Q e q = q

pub of_left : (b : Bool) (P Q : Type 0) → b ≡ true → Either b P Q → P
of_left true P Q e t = t
of_left false P Q e t = absurd (cc e)

pub of_right : (b : Bool) (P Q : Type 0) → b ≡ false → Either b P Q → Q
of_right true P Q e t = absurd (cc e)
of_right false P Q e t = t

-- a store that may be made, and what it makes of what the daemon owns
pub record Storable (word value : ℕ) (w : SeatView) (next : DaemonPart) : Type 0 where
  pub may : MayOpen word value w
  pub daemon_part : (x : SeatView) → TellsOpen word w value value x → x.daemon_part ≡ next
  pub low : word < 2

-- by the word and the number
store_magic : (value : ℕ) (w : SeatView) → value ≡ MAGIC → Storable 0 value w (marked_of w.daemon_part)
store_magic value w is = record { may = is; daemon_part = λ x t. ap (λ (y : SeatView). y.daemon_part) t.view; low = omega arith }

store_head : (value : ℕ) (w : SeatView) → value ≡ word1_of w.setup.layout (number_shown w.daemon_part.segment) → HasMagic w.daemon_part → (w.daemon_part.segment.is_writing ≡ true) ⊎ (w.daemon_part.segment.position ≡ 0) → Storable 1 value w (headed_of w.daemon_part)
store_head value w is magic rest =
    let test : (value == word1_of w.setup.layout (number_shown w.daemon_part.segment)) ≡ true = eq-eqb value (word1_of w.setup.layout (number_shown w.daemon_part.segment)) is in
    record {
      may = to_left (is_header w value) _ _ test (refl, magic, rest);
      daemon_part = λ x t. ap (λ (y : SeatView). y.daemon_part) (of_left (is_header w value) _ _ test t).view;
      low = omega arith;
    }

store_odd : (value number : ℕ) (w : SeatView) → w.setup.layout ≡ Three → value ≡ word1_of Three number → number ≡ number_at w.daemon_part.segment w.daemon_part.segment.position + 1 → w.daemon_part.segment.is_writing ≡ false → w.daemon_part.segment.base < w.daemon_part.segment.position
    → Storable 1 value w (move_of w.daemon_part)
store_odd value number w three is odd calm above =
    let even = number_even w.daemon_part.segment w.daemon_part.segment.position in
    let rests = number_at_rest w.daemon_part.segment calm in
    let tells : generation_in value ≡ number = ap generation_in is ∙ ap (λ (x : ℕ × ℕ × ℕ). x.2) (told_three number) in
    let other : value ≢ word1_of w.setup.layout (number_shown w.daemon_part.segment) = λ same.
    let e : number ≡ number_shown w.daemon_part.segment = one_number Three number (number_shown w.daemon_part.segment) (sym is ∙ (same ∙ ap (λ (l : Layout). word1_of l (number_shown w.daemon_part.segment)) three)) in
    absurd (omega (arith, e, odd, rests)) in
    let test : is_header w value ≡ false = ne_eqb value (word1_of w.setup.layout (number_shown w.daemon_part.segment)) other in
    let parity : (generation_in value % 2 == 1) ≡ true = grind (arith, nat_tests) in
    record {
      may = to_right (is_header w value) _ _ test
          (to_left (generation_in value % 2 == 1) _ _ parity (refl, calm, above, is ∙ (ap (word1_of Three) odd ∙ ap (λ (l : Layout). word1_of l (number_at w.daemon_part.segment w.daemon_part.segment.position + 1)) (sym three))));
      daemon_part = λ x t. ap (λ (y : SeatView). y.daemon_part) (of_left (generation_in value % 2 == 1) _ _ parity (of_right (is_header w value) _ _ test t)).view;
      low = omega arith;
    }

store_even : (value number : ℕ) (w : SeatView) → w.setup.layout ≡ Three → value ≡ word1_of Three number → number ≡ number_at w.daemon_part.segment (w.daemon_part.segment.position + 1) → w.daemon_part.segment.is_writing ≡ true → w.daemon_part.hand.moves ≡ true
    → Storable 1 value w (moved_of w.daemon_part)
store_even value number w three is even writes moves =
    let now = number_even w.daemon_part.segment w.daemon_part.segment.position in
    let next = number_even w.daemon_part.segment (w.daemon_part.segment.position + 1) in
    let shown = number_in_update w.daemon_part.segment writes in
    let tells : generation_in value ≡ number = ap generation_in is ∙ ap (λ (x : ℕ × ℕ × ℕ). x.2) (told_three number) in
    let other : value ≢ word1_of w.setup.layout (number_shown w.daemon_part.segment) = λ same.
    let e : number ≡ number_shown w.daemon_part.segment = one_number Three number (number_shown w.daemon_part.segment) (sym is ∙ (same ∙ ap (λ (l : Layout). word1_of l (number_shown w.daemon_part.segment)) three)) in
    absurd (omega (arith, e, even, shown, now, next)) in
    let test : is_header w value ≡ false = ne_eqb value (word1_of w.setup.layout (number_shown w.daemon_part.segment)) other in
    let parity : (generation_in value % 2 == 1) ≡ false = grind (arith, nat_tests) in
    record {
      may = to_right (is_header w value) _ _ test
          (to_right (generation_in value % 2 == 1) _ _ parity (refl, moves, is ∙ (ap (word1_of Three) even ∙ ap (λ (l : Layout). word1_of l (number_at w.daemon_part.segment (w.daemon_part.segment.position + 1))) (sym three))));
      daemon_part = λ x t. ap (λ (y : SeatView). y.daemon_part) (of_right (generation_in value % 2 == 1) _ _ parity (of_right (is_header w value) _ _ test t)).view;
      low = omega arith;
    }

old_three : (layout : Layout) (header : ℕ) → is_old_header layout header ≡ true → layout ≡ Three
old_three Two header is = absurd (cc is)
old_three Three header is = refl

-- what the store at this place of the plan makes of what the daemon owns
pub record StoreAt (v w : SeatView) (word value : ℕ) (k : ℕ) (start : Start) : Type 0 where
  pub next : DaemonPart
  pub storable : Storable word value w next
  pub daemon_part : DaemonPartAt start (k + 1) v.daemon_part next

module _ (v w : SeatView) (own : IsDaemonPart v) (setup : w.setup ≡ v.setup) where
  layouts : (s : DaemonPart) → w.daemon_part ≡ s → s.segment.layout ≡ v.daemon_part.segment.layout → w.setup.layout ≡ v.daemon_part.segment.layout
  layouts s is same = ap (λ (c : Setup). c.layout) setup ∙ sym own.layout

  at_fresh : (word value k : ℕ) (old : Bool) (g : ℕ) → Finds v.daemon_part.segment Fresh → DaemonPartAt Fresh k v.daemon_part w.daemon_part → slice_index_or (steps_for v.daemon_part.segment.layout old g Fresh) k End ≡ Store word value → StoreAt v w word value k Fresh
  at_fresh word value k old g found at act = ⊎_elim
      (λ (t : (k ≡ 2) × (word ≡ 0) × (value ≡ MAGIC)).
      let two = t.0 in
      let same : w.daemon_part ≡ v.daemon_part = at.0 (omega arith) in
      record {
        next = marked_of w.daemon_part;
        storable = subst (λ (i : ℕ). Storable i value w (marked_of w.daemon_part)) (sym t.1) (store_magic value w t.2);
        daemon_part = (λ few. absurd (omega arith), λ e. ap marked_of same, λ e. absurd (omega arith));
      })
      (λ (t : (k ≡ 3) × (word ≡ 1) × (value ≡ word1_of v.daemon_part.segment.layout 0)).
      let three = t.0 in
      let same : w.daemon_part ≡ marked_of v.daemon_part = at.1 three in
      let none : number_shown w.daemon_part.segment ≡ 0 = ap (λ (o : DaemonPart). number_shown o.segment) same ∙ found.2 in
      record {
        next = headed_of w.daemon_part;
        storable = subst (λ (i : ℕ). Storable i value w (headed_of w.daemon_part)) (sym t.1)
            (store_head value w (t.2 ∙ (ap (λ (l : Layout). word1_of l 0) (sym (layouts (marked_of v.daemon_part) same refl)) ∙ ap (word1_of w.setup.layout) (sym none)))
            (inl (ap (λ (o : DaemonPart). o.stored_magic) same)) (inr (ap (λ (o : DaemonPart). o.segment.position) same ∙ found.0)));
        daemon_part = (λ few. absurd (omega arith), λ e. absurd (omega arith), λ e. ap headed_of same);
      })
      (plans.store_for v.daemon_part.segment.layout old Fresh k word value act)

  at_torn : (word value k : ℕ) (h : ℕ) → Finds v.daemon_part.segment (Torn h) → DaemonPartAt (Torn h) k v.daemon_part w.daemon_part
      → slice_index_or (steps_for v.daemon_part.segment.layout (is_old_header v.daemon_part.segment.layout (header_shown v.daemon_part.segment)) (number_shown v.daemon_part.segment) (Torn h)) k End ≡ Store word value → StoreAt v w word value k (Torn h)
  at_torn word value k h found at act =
      let t = plans.store_for v.daemon_part.segment.layout (is_old_header v.daemon_part.segment.layout (header_shown v.daemon_part.segment)) (Torn (number_shown v.daemon_part.segment)) k word value act in
      let three = old_three v.daemon_part.segment.layout (header_shown v.daemon_part.segment) t.0 in
      let two = t.1 in
      let same : w.daemon_part ≡ v.daemon_part = at.0 (omega arith) in
      let some_header : header_shown v.daemon_part.segment ≢ 0 = λ zero. (let calm = (own.is.none zero).1 in absurd (cc (calm, found))) in
      record {
        next = headed_of w.daemon_part;
        storable = subst (λ (i : ℕ). Storable i value w (headed_of w.daemon_part)) (sym t.2)
            (store_head value w (t.3 ∙ (ap (λ (l : Layout). word1_of l (number_shown v.daemon_part.segment)) (sym (layouts v.daemon_part same refl ∙ three)) ∙ ap (λ (o : DaemonPart). word1_of w.setup.layout (number_shown o.segment)) (sym same)))
            (inr (subst (λ (o : DaemonPart). header_shown o.segment ≢ 0) (sym same) some_header)) (inl (ap (λ (o : DaemonPart). o.segment.is_writing) same ∙ found)));
        daemon_part = (λ few. absurd (omega arith), λ e. ap headed_of same);
      }

  at_kept : (word value k : ℕ) (h : ℕ) (rec : RecordFields) → Finds v.daemon_part.segment (Kept h rec) → DaemonPartAt (Kept h rec) k v.daemon_part w.daemon_part
      → slice_index_or (steps_for v.daemon_part.segment.layout (is_old_header v.daemon_part.segment.layout (header_shown v.daemon_part.segment)) (number_shown v.daemon_part.segment) (Kept h rec)) k End ≡ Store word value → StoreAt v w word value k (Kept h rec)
  at_kept word value k h rec found at act =
      let t = plans.store_for v.daemon_part.segment.layout (is_old_header v.daemon_part.segment.layout (header_shown v.daemon_part.segment)) (Kept (number_shown v.daemon_part.segment) rec) k word value act in
      let three = old_three v.daemon_part.segment.layout (header_shown v.daemon_part.segment) t.0 in
      let rests = number_at_rest v.daemon_part.segment found.0 in
      let above = own.is.calm found.0 found.1 in
      ⊎_elim
      (λ (s : (k ≡ 10) × (value ≡ word1_of Three (odd_after (number_shown v.daemon_part.segment)))).
      let ten = s.0 in
      let same : w.daemon_part ≡ v.daemon_part = at.0 (omega arith) in
      let odd : odd_after (number_shown v.daemon_part.segment) ≡ number_at v.daemon_part.segment v.daemon_part.segment.position + 1 = ap odd_after rests ∙ odd_after-at_rest (period_of v.daemon_part.segment.layout) v.daemon_part.segment.position in
      record {
        next = move_of w.daemon_part;
        storable = subst (λ (i : ℕ). Storable i value w (move_of w.daemon_part)) (sym t.1)
            (store_odd value (odd_after (number_shown v.daemon_part.segment)) w (layouts v.daemon_part same refl ∙ three) s.1 (odd ∙ ap (λ (o : DaemonPart). number_at o.segment o.segment.position + 1) (sym same))
            (ap (λ (o : DaemonPart). o.segment.is_writing) same ∙ found.0) (subst (λ (o : DaemonPart). o.segment.base < o.segment.position) (sym same) above));
        daemon_part = (λ few. absurd (omega arith), λ e. ap move_of same, λ e. absurd (omega arith));
      })
      (λ (s : (k ≡ 11) × (value ≡ word1_of Three (even_after (period_of Three) (number_shown v.daemon_part.segment)))).
      let eleven = s.0 in
      let same : w.daemon_part ≡ move_of v.daemon_part = at.1 eleven in
      let even : even_after (period_of Three) (number_shown v.daemon_part.segment) ≡ number_at v.daemon_part.segment (v.daemon_part.segment.position + 1) =
      ap (λ (l : Layout). even_after (period_of l) (number_shown v.daemon_part.segment)) (sym three) ∙ (ap (even_after (period_of v.daemon_part.segment.layout)) rests ∙ even_after-at_rest (period_of v.daemon_part.segment.layout) v.daemon_part.segment.position (period_positive v.daemon_part.segment.layout)) in
      record {
        next = moved_of w.daemon_part;
        storable = subst (λ (i : ℕ). Storable i value w (moved_of w.daemon_part)) (sym t.1)
            (store_even value (even_after (period_of Three) (number_shown v.daemon_part.segment)) w (layouts (move_of v.daemon_part) same refl ∙ three) s.1 (even ∙ ap (λ (o : DaemonPart). number_at o.segment (o.segment.position + 1)) (sym same))
            (ap (λ (o : DaemonPart). o.segment.is_writing) same) (ap (λ (o : DaemonPart). o.hand.moves) same));
        daemon_part = (λ few. absurd (omega arith), λ e. absurd (omega arith), λ e. ap moved_of same);
      })
      t.2

  at_any : (start : Start) (word value k : ℕ) → Finds v.daemon_part.segment start → DaemonPartAt start k v.daemon_part w.daemon_part
      → slice_index_or (steps_for v.daemon_part.segment.layout (is_old_header v.daemon_part.segment.layout (header_shown v.daemon_part.segment)) (number_shown v.daemon_part.segment) start) k End ≡ Store word value → StoreAt v w word value k start
  at_any Fresh word value k found at act = at_fresh word value k (is_old_header v.daemon_part.segment.layout (header_shown v.daemon_part.segment)) (number_shown v.daemon_part.segment) found at act
  at_any (Torn h) word value k found at act = at_torn word value k h found at act
  at_any (Kept h rec) word value k found at act = at_kept word value k h rec found at act

pub store_now : (v w : SeatView) (state : OpenerState) (word value : ℕ) → IsDaemonPart v → IsUnderWay v state w → opening_act state ≡ Store word value → StoreAt v w word value (length state.values) (start_found v.daemon_part.segment)
store_now v w state word value own u act =
    at_any v w own u.setup (start_found v.daemon_part.segment) word value (length state.values) (finds v.daemon_part.segment) u.daemon_part (sym (act_now v w state own u) ∙ act)

-- what a store of the opening leaves and adds
pub open_stores : (word value : ℕ) (v w : SeatView) → word < 2 → TellsOpen word v value value w → AddsStore word value v w
open_stores zero value v w low t = daemon_stores with_magic 0 value v w t
open_stores (suc zero) value v w low t =
    stepping.by_test (is_header v value) _ _ (AddsStore 1 value v w) (λ e h. daemon_stores with_head 1 value v w h)
    (λ ne. stepping.by_test (generation_in value % 2 == 1) _ _ (AddsStore 1 value v w) (λ e h. daemon_stores move_begun 1 value v w h) (λ e h. daemon_stores move_ended 1 value v w h)) t
open_stores (suc (suc word)) value v w low t = absurd (omega arith)

-- what the daemon owns stays one after a store
pub part_stored : (word value : ℕ) (v w : SeatView) → value < 2 ^ 64 → AddsStore word value v w → IsDaemonPart v → IsDaemonPart w
part_stored word value v w fits s own =
    let was = own.fits in
    record {
      is = s.is;
      layout = s.later.layout ∙ (own.layout ∙ ap (λ (c : Setup). c.layout) (sym s.setup));
      fits = ⊎_elim (λ (e : header_shown w.daemon_part.segment ≡ value). omega (arith, e, fits)) (λ (e : header_shown w.daemon_part.segment ≡ header_shown v.daemon_part.segment). omega (arith, e, was)) s.header;
    }

pub part_loads : (first : Bool) (word n : ℕ) (v w : SeatView) → TellsLoad first word v n n w → IsDaemonPart v → IsDaemonPart w
part_loads first word n v w t own =
    let l = stepping.loads_told first word n v w t in
    record {
      is = subst (λ (o : DaemonPart). IsSegment o.segment) (sym l.daemon_part) own.is;
      layout = ap (λ (o : DaemonPart). o.segment.layout) l.daemon_part ∙ (own.layout ∙ ap (λ (c : Setup). c.layout) (sym l.setup));
      fits = subst (λ (o : DaemonPart). header_shown o.segment < 2 ^ 64) (sym l.daemon_part) own.fits;
    }

-- at the place of a store the first two loads are made
late : (layout : Layout) (old : Bool) (g : ℕ) (start : Start) (k word value : ℕ) → slice_index_or (steps_for layout old g start) k End ≡ Store word value → 2 ≤ k
late layout old g Fresh zero word value e = absurd (cc e)
late layout old g Fresh (suc zero) word value e = absurd (cc e)
late layout old g Fresh (suc (suc k)) word value e = omega arith
late layout old g (Torn h) zero word value e = absurd (cc e)
late layout old g (Torn h) (suc zero) word value e = absurd (cc e)
late layout old g (Torn h) (suc (suc k)) word value e = omega arith
late layout old g (Kept h rec) zero word value e = absurd (cc e)
late layout old g (Kept h rec) (suc zero) word value e = absurd (cc e)
late layout old g (Kept h rec) (suc (suc k)) word value e = omega arith

abbrev pub stored_touch : ℕ → ℕ → Touch
stored_touch word value = record { word = word; value = value; stored = true }

pub under_store : (v w x : SeatView) (state : OpenerState) (word value : ℕ) → IsDaemonPart v → (u : IsUnderWay v state w) → opening_act state ≡ Store word value → TellsOpen word w value value x
    → IsAdmitted state.layout (state.values ++ value ∷ []) × IsUnderWay v (opening_given state value) x
under_store v w x state word value own u act t =
    let now = act_now v w state own u in
    let at = store_now v w state word value own u act in
    let s = open_stores word value w x at.storable.low t in
    let k_late = late v.daemon_part.segment.layout (is_old_header v.daemon_part.segment.layout (header_shown v.daemon_part.segment)) (number_shown v.daemon_part.segment) (start_found v.daemon_part.segment) (length state.values) word value (sym now ∙ act) in
    let more : length (state.values ++ value ∷ []) ≡ length state.values + 1 = length-append state.values (value ∷ []) in
    let within = within_plan v w state own u (λ e. absurd (cc (sym act ∙ e))) in
    let went = opens-store v.daemon_part.segment.layout (image_at u.first v.daemon_part.segment) state (Store word value) word value value u.opens (sym act) refl in (
      went.0,
      record {
        daemon = s.is_daemon ∙ u.daemon;
        setup = s.setup ∙ u.setup;
        calls = s.calls ∙ u.calls;
        before = s.before ∙ u.before;
        begun = omega (arith, more);
        replays = replays_store v.setup.layout state (touches_of w.steps) (touches_of x.steps) word value act (ap touches_of s.steps ∙ touches-snoc w.steps (stored word value (point_of x.daemon_part.segment))) u.replays;
        sound = sound_stored w x word value s u.sound;
        points = follows_store (point_of v.daemon_part.segment) w x word value s u.points;
        first = u.first;
        magic = u.magic;
        opens = went.1;
        header = header_more state.values value (header_shown v.daemon_part.segment) u.header (λ one. absurd (omega (arith, one, k_late)));
        few = omega (arith, more, within);
        daemon_part = subst (λ (n : ℕ). DaemonPartAt (start_found v.daemon_part.segment) n v.daemon_part x.daemon_part) (sym more)
            (subst (λ (o : DaemonPart). DaemonPartAt (start_found v.daemon_part.segment) (length state.values + 1) v.daemon_part o) (sym (at.storable.daemon_part x t)) at.daemon_part);
      },
    )
  where
    replays_store : (layout : Layout) (state : OpenerState) (before after : List Touch) (word n : ℕ) → opening_act state ≡ Store word n → after ≡ before ++ stored_touch word n ∷ []
        → Wanted opening_act opening_given (new_opener layout) before × (replayed opening_act opening_given (new_opener layout) before ≡ state)
        → Wanted opening_act opening_given (new_opener layout) after × (replayed opening_act opening_given (new_opener layout) after ≡ opening_given state n)
    replays_store layout state before after word n act is r = rw is (
      wanted-append opening_act opening_given (new_opener layout) before (stored_touch word n ∷ []) r.0 (ap opening_act r.1 ∙ act, tt),
      replayed-append opening_act opening_given (new_opener layout) before (stored_touch word n ∷ []) ∙ ap (λ (m : OpenerState). opening_given m n) r.1,
    )

-- ---- the end

plan_length : (v : SeatView) → IsDaemonPart v → length (opening_steps v.daemon_part.segment.layout (header_shown v.daemon_part.segment)) ≡ length (plan v)
plan_length v own = ap length (steps_are v.daemon_part.segment (start_found v.daemon_part.segment) own.is (finds v.daemon_part.segment))

ends_not_early : (layout : Layout) (g k : ℕ) → slice_index_or (opening_steps layout g) k End ≡ End → 2 ≤ k
ends_not_early layout g zero e = absurd (cc e)
ends_not_early layout g (suc zero) e = absurd (cc e)
ends_not_early layout g (suc (suc k)) e = omega arith

same_some : (a b : Opening) → Some a ≡ Some b → Ends a ≡ Ends b
same_some a b e = cc

take_past : (n : ℕ) (xs : List ℕ) → length xs ≤ n → take n xs ≡ xs
take_past zero [] le = refl
take_past zero (x ∷ xs) le = absurd (omega arith)
take_past (suc n) [] le = refl
take_past (suc n) (x ∷ xs) le = ap (λ (ys : List ℕ). x ∷ ys) (take_past n xs (omega arith))

take_few : (n : ℕ) (xs : List ℕ) → length (take n xs) ≤ n
take_few zero xs = omega arith
take_few (suc n) [] = omega arith
take_few (suc n) (x ∷ xs) = let h = take_few n xs in omega (arith, h)

plan_loads : (segment : SegmentRun) (layout : Layout) (old : Bool) (start : Start) → IsSegment segment → Finds segment start → loads_at (header_shown segment) ≤ length (steps_for layout old (number_shown segment) start)
plan_loads segment layout old Fresh is found =
    let tells : generation_in (header_shown segment) ≡ number_shown segment = number_told segment is in
    let none : generation_in (header_shown segment) ≡ 0 = tells ∙ found.2 in
    let test : (generation_in (header_shown segment) == 0) ≡ true = grind (arith, nat_tests) in
    rw test (omega arith)
plan_loads segment layout old (Torn h) is found =
    let tells : generation_in (header_shown segment) ≡ number_shown segment = number_told segment is in
    let number = number_in_update segment found in
    let even = number_even segment segment.position in
    let positive : (generation_in (header_shown segment) == 0) ≡ false = grind (arith, nat_tests) in
    let test : (generation_in (header_shown segment) % 2 == 1) ≡ true = grind (arith, nat_tests) in
    rw (positive, test) (torn_two old)
  where
    torn_two : (old : Bool) → 2 ≤ length (steps_for layout old (number_shown segment) (Torn h))
    torn_two true = omega arith
    torn_two false = omega arith
plan_loads segment layout old (Kept h rec) is found =
    let tells : generation_in (header_shown segment) ≡ number_shown segment = number_told segment is in
    let number = number_at_rest segment found.0 in
    let even = number_even segment segment.position in
    let more = number_positive segment segment.position found.1 in
    let positive : (generation_in (header_shown segment) == 0) ≡ false = grind (arith, nat_tests) in
    let test : (generation_in (header_shown segment) % 2 == 1) ≡ false = grind (arith, nat_tests) in
    rw (positive, test) (kept_ten old)
  where
    kept_ten : (old : Bool) → 10 ≤ length (steps_for layout old (number_shown segment) (Kept h rec))
    kept_ten true = omega arith
    kept_ten false = omega arith

loads_whole : (h : ℕ) (values image : List ℕ) → LoadsImage image values → slice_index values 1 ≡ h → slice_index image 1 ≡ h → loads_at h ≤ length values → loaded_words values ≡ loaded_words image
loads_whole h values image loads v i most =
    let at_values : loads_at (slice_index values 1) ≡ loads_at (slice_index image 1) = ap loads_at (v ∙ sym i) in
    let few = take_few (loads_at (slice_index image 1)) image in
    let low : loads_at (slice_index image 1) ≤ length values = subst (λ (x : ℕ). loads_at x ≤ length values) (sym i) most in
    ap (λ (n : ℕ). take n values) at_values ∙ (loads ∙ take_past (length values) (take (loads_at (slice_index image 1)) image) (omega (arith, few, low)))

same_opening : (a b : Opening) → Some a ≡ Some b → a ≡ b
same_opening a b e = cc

moved_are : (segment : SegmentRun) (layout : Layout) (start : Start) (values : List ℕ) → slice_index values 1 ≡ header_shown segment → IsSegment segment → Finds segment start
    → (opening_for layout values).moved ≡ moved_by start (is_old_header layout (header_shown segment)) (number_shown segment)
moved_are segment layout Fresh values header is found =
    let tells : generation_in (header_shown segment) ≡ number_shown segment = number_told segment is in
    let none : generation_in (slice_index values 1) ≡ 0 = ap generation_in header ∙ (tells ∙ found.2) in
    let test : (generation_in (slice_index values 1) == 0) ≡ true = grind (arith, nat_tests) in
    rw test refl
moved_are segment layout (Torn h) values header is found =
    let tells : generation_in (slice_index values 1) ≡ number_shown segment = ap generation_in header ∙ number_told segment is in
    let number = number_in_update segment found in
    let even = number_even segment segment.position in
    let positive : (generation_in (slice_index values 1) == 0) ≡ false = (let more : 0 < generation_in (slice_index values 1) = omega (arith, tells, number) in grind (arith, nat_tests)) in
    let test : (generation_in (slice_index values 1) % 2 == 1) ≡ true = (let odd : generation_in (slice_index values 1) % 2 ≡ 1 = omega (arith, tells, number, even) in grind (arith, nat_tests)) in
    rw (positive, test) refl
moved_are segment layout (Kept h rec) values header is found =
    let tells : generation_in (slice_index values 1) ≡ number_shown segment = ap generation_in header ∙ number_told segment is in
    let number = number_at_rest segment found.0 in
    let even = number_even segment segment.position in
    let more = number_positive segment segment.position found.1 in
    let positive : (generation_in (slice_index values 1) == 0) ≡ false = (let some_number : 0 < generation_in (slice_index values 1) = omega (arith, tells, number, more) in grind (arith, nat_tests)) in
    let test : (generation_in (slice_index values 1) % 2 == 1) ≡ false = (let rests : generation_in (slice_index values 1) % 2 ≡ 0 = omega (arith, tells, number, even) in grind (arith, nat_tests)) in
    rw (positive, test) (λ j. opening.moved_to (is_old_header layout (header j)) (tells j))

-- the history that an opening leaves
opened_history : (start : Start) (old : Bool) (generation : ℕ) (s : DaemonPart) → (opened_of start old s).segment.history ≡ history_opened (moved_by start old generation) s.segment
opened_history Fresh old generation s = refl
opened_history (Torn h) true generation s = refl
opened_history (Torn h) false generation s = refl
opened_history (Kept h rec) true generation s = refl
opened_history (Kept h rec) false generation s = refl

-- ---- the number that it leaves

found_by : (segment : SegmentRun) (writes none : Bool) (rec : RecordFields) → segment.is_writing ≡ writes → (segment.position == 0) ≡ none
    → generation_of_start (if writes then Torn (number_shown segment) else if none then Fresh else Kept (number_shown segment) rec) ≡ number_shown segment
found_by segment true none rec is at_none = refl
found_by segment false true rec is at_none = let at : segment.position ≡ 0 = eqb-true segment.position 0 at_none in rw (at, is) refl
found_by segment false false rec is at_none = refl

found_number : (segment : SegmentRun) → generation_of_start (start_found segment) ≡ number_shown segment
found_number segment = found_by segment segment.is_writing (segment.position == 0) _ refl refl

headed_some : (segment : SegmentRun) → segment.is_headed ≡ true → header_shown segment ≢ 0
headed_some segment headed_is = subst (λ (b : Bool). header_shown (record segment { is_headed = b }) ≢ 0) (sym headed_is) (own_header_some segment.layout (number_shown segment))

-- an opening leaves a header
opened_header : (start : Start) (old : Bool) (s : DaemonPart) → IsSegment s.segment → Finds s.segment start → header_shown (opened_of start old s).segment ≢ 0
opened_header Fresh old s is found = headed_some (headed s.segment) refl
opened_header (Torn h) true s is found = headed_some (headed s.segment) refl
opened_header (Torn h) false s is found = λ zero. (let calm = (is.none zero).1 in absurd (cc (calm, found)))
opened_header (Kept h rec) true s is found = headed_some (moved_once (opened_update s.segment)) refl
opened_header (Kept h rec) false s is found = λ zero. (let none = (is.none zero).0 in let more = found.1 in absurd (omega (arith, none, more)))

-- and this number
opened_number : (start : Start) (old : Bool) (s : DaemonPart) → Finds s.segment start → (old ≡ true → s.segment.layout ≡ Three) → generation_of_start start ≡ number_shown s.segment
    → generation_by (moved_by start old (number_shown s.segment)) start ≡ number_shown (opened_of start old s).segment
opened_number Fresh old s found three same = same
opened_number (Torn h) true s found three same = same
opened_number (Torn h) false s found three same = same
opened_number (Kept h rec) true s found three same = even_moved s.segment (three refl) found.0
  where
    even_moved : (segment : SegmentRun) → segment.layout ≡ Three → segment.is_writing ≡ false → even_after (period_of Three) (number_shown segment) ≡ number_shown (moved_once (opened_update segment))
    even_moved segment is_three calm =
        let next : number_at segment (segment.position + 1) ≡ number_shown (moved_once (opened_update segment)) = omega arith in
        ap (λ (l : Layout). even_after (period_of l) (number_shown segment)) (sym is_three)
        ∙ (ap (even_after (period_of segment.layout)) (number_at_rest segment calm) ∙ (even_after-at_rest (period_of segment.layout) segment.position (period_positive segment.layout) ∙ next))
opened_number (Kept h rec) false s found three same = same

opened_at : (v w : SeatView) (answer : Opening) → IsDaemonPart v → answer.start ≡ start_found v.daemon_part.segment
    → w.daemon_part ≡ opened_of (start_found v.daemon_part.segment) (is_old_header v.daemon_part.segment.layout (header_shown v.daemon_part.segment)) v.daemon_part
    → answer.moved ≡ moved_by (start_found v.daemon_part.segment) (is_old_header v.daemon_part.segment.layout (header_shown v.daemon_part.segment)) (number_shown v.daemon_part.segment)
    → OpenAt (generation_after answer) w
opened_at v w answer own start part moved =
    let number = opened_number (start_found v.daemon_part.segment) (is_old_header v.daemon_part.segment.layout (header_shown v.daemon_part.segment)) v.daemon_part (finds v.daemon_part.segment)
    (old_three v.daemon_part.segment.layout (header_shown v.daemon_part.segment)) (found_number v.daemon_part.segment) in
    let header = opened_header (start_found v.daemon_part.segment) (is_old_header v.daemon_part.segment.layout (header_shown v.daemon_part.segment)) v.daemon_part own.is (finds v.daemon_part.segment) in
    subst (λ (p : DaemonPart). (generation_after answer ≡ number_shown p.segment) × (header_shown p.segment ≢ 0)) (sym part)
    ((λ j. generation_by (moved j) (start j)) ∙ number, header)

pub reopened : (v w : SeatView) (state : OpenerState) (answer : Opening) → IsDaemonPart v → IsUnderWay v state w → opening_act state ≡ End → opening_end state ≡ Some answer → Reopens v answer w × OpenAt (generation_after answer) w
reopened v w state answer own u act told =
    let same : state.layout ≡ v.daemon_part.segment.layout = u.opens.same_layout in
    let two : 2 ≤ length state.values = ends_not_early state.layout (slice_index state.values 1) (length state.values) (sym (act-by_number state.layout state.values) ∙ act) in
    let header = u.header (omega (arith, two)) in
    let past = ended_after state act in
    let steps : length (opening_steps state.layout (slice_index state.values 1)) ≡ length (plan v) =
    ap (λ (l : Layout). length (opening_steps l (slice_index state.values 1))) same ∙ (ap (λ (h : ℕ). length (opening_steps v.daemon_part.segment.layout h)) header ∙ plan_length v own) in
    let few = u.few in
    let all : length state.values ≡ length (plan v) = omega (arith, past, steps, few) in
    let is : Some (opening_for state.layout state.values) ≡ Some answer = sym (answer_at_end state act) ∙ told in
    let admitted = image_admitted u.first v.daemon_part.segment own.is u.magic own.fits in
    let ended_of : opening_of v.daemon_part.segment.layout state.values ≡ Ends answer =
    ap (λ (l : Layout). opening_of l state.values) (sym same) ∙ (ended state act ∙ same_some (opening_for state.layout state.values) answer is) in
    let loads = plan_loads v.daemon_part.segment v.daemon_part.segment.layout (is_old_header v.daemon_part.segment.layout (header_shown v.daemon_part.segment)) (start_found v.daemon_part.segment) own.is (finds v.daemon_part.segment) in
    let of_answer : opening_for state.layout state.values ≡ answer = same_opening (opening_for state.layout state.values) answer is in
    let part = part_at_end (start_found v.daemon_part.segment) v.daemon_part.segment.layout (is_old_header v.daemon_part.segment.layout (header_shown v.daemon_part.segment)) (number_shown v.daemon_part.segment) (length state.values) v.daemon_part w.daemon_part u.daemon_part all in
    let moved : answer.moved ≡ moved_by (start_found v.daemon_part.segment) (is_old_header v.daemon_part.segment.layout (header_shown v.daemon_part.segment)) (number_shown v.daemon_part.segment) =
    ap (λ (o : Opening). o.moved) (sym of_answer) ∙ ((λ j. (opening_for (same j) state.values).moved) ∙ moved_are v.daemon_part.segment v.daemon_part.segment.layout (start_found v.daemon_part.segment) state.values header own.is (finds v.daemon_part.segment)) in
    let start = opens_as_admitted v.daemon_part.segment.layout (image_at u.first v.daemon_part.segment) state.values (start_found v.daemon_part.segment) answer admitted
    (loads_whole (header_shown v.daemon_part.segment) state.values (image_at u.first v.daemon_part.segment) u.opens.loads header refl (omega (arith, loads, all))) ended_of in (
      record {
        setup = u.setup;
        calls = u.calls;
        before = u.before;
        steps = u.replays.0;
        answer = ap opening_end u.replays.1 ∙ told;
        start = start;
        sound = u.sound;
        points = u.points;
        moved = moved;
        history = ap (λ (p : DaemonPart). p.segment.history) part
            ∙ (opened_history (start_found v.daemon_part.segment) (is_old_header v.daemon_part.segment.layout (header_shown v.daemon_part.segment)) (number_shown v.daemon_part.segment) v.daemon_part
            ∙ ap (λ (m : Option ℕ). history_opened m v.daemon_part.segment) (sym moved));
        daemon_part = part;
      },
      opened_at v w answer own start part moved,
    )

-- ---- the first seat

pub part_opener : (c : Setup) (words : List ℕ) (v : SeatView) → IsSetup c → IsOpening c words → v ≡ without_host (without_host (opener c)) → IsDaemonPart v
part_opener c words v is at same =
    let kept = opens c words is at in
    let fits = is.fits in
    let word = at.image 1 (omega arith) in
    let header = kept.segment.shows.header in
    subst IsDaemonPart (sym same) (record { is = kept.segment.shows.is; layout = kept.segment.layout; fits = omega (arith, fits, word, header) })

pub first_given : (v x : SeatView) (machine : OpenerState) (layout : Layout) (n : ℕ) → machine ≡ new_opener layout → layout ≡ v.setup.layout → IsDaemonPart v → v.is_daemon ≡ true → TellsLoad true 0 v n n x
    → IsAdmitted machine.layout (machine.values ++ n ∷ []) × ((new : OpenerState) → new ≡ opening_given machine n → IsUnderWay v new x)
first_given v x machine layout n is same own daemon t =
    let went = under_first v x n own daemon t in
    let there : machine ≡ new_opener v.daemon_part.segment.layout = is ∙ ap new_opener (same ∙ sym own.layout) in (
      subst (λ (m : OpenerState). IsAdmitted m.layout (m.values ++ n ∷ [])) (sym there) went.0,
      λ new e. subst (λ (m : OpenerState). IsUnderWay v m x) (sym (e ∙ ap (λ (m : OpenerState). opening_given m n) there)) went.1,
    )
