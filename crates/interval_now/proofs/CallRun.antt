-- The steps of a client call are those of its reads, one read after another.
use Rattle.std.proofs.Common.{◌≡◌, ◌<◌, ℕ, Bool, true, false, List, [], ◌∷◌, ◌++◌, Option, Some, None, refl, ap, sym, ◌∙◌, subst, append_assoc, append-nil, inl, inr}
use Rattle.std.specs.Option.{option_map}
use Rattle.clock_gate.specs.declared.act.Act.{Act}
use Rattle.clock_gate.specs.declared.clock_row.ClockRow.{ClockRow}
use Rattle.clock_gate.specs.declared.clock_row.Reading.{Reading}
use Rattle.clock_gate.specs.Acts.{Touch, act_of_touch, Wanted, replayed}
use Rattle.clock_gate.specs.ClockRow.{reading_at}
use Rattle.clock_gate.proofs.Acts.{replayed-append, wanted-append}
use Rattle.seqlock.specs.Tries.{SeqlockRead, Outcome, Unpublished, AllFailed, Found, Progress, started, progress, read_end}
use Rattle.seqlock.specs.Tries.{end_of as end_of_progress}
use Rattle.seqlock.proofs.Tries as laws
use Rattle.seqlock.specs.TriedRun.{load, CameTo}
use Rattle.seqlock.proofs.TriedRun.{did, did_so, load_is, touch_acts}
use Rattle.vmclock_page.specs.PageRead.{page_lock}
use Rattle.vmclock_page.specs.PageRead as page
use Rattle.segment_layout.specs.Record.{RecordFields}
use Rattle.shm_reader.specs.SegmentTries.{segment_lock}
use Rattle.shm_reader.specs.declared.seen.Seen.{Seen}
use Rattle.shm_reader.specs.declared.seen.Seen.TheVariants as seen
use Rattle.shm_reader.specs.SegmentRun.{ReadsRecord, Saw, EndsWith}
use Rattle.shm_reader.specs.SegmentTries as segment
use Rattle.shm_reader.proofs.SegmentRun.{saw, saw_so}
use Rattle.interval_now.specs.declared.answers.Answer.TheVariants as answers
use Rattle.interval_now.specs.declared.answers.Answer.{Answer}
use Rattle.interval_now.specs.declared.stage.Stage.{Stage}
use Rattle.interval_now.specs.declared.stage.Stage.TheVariants.{Segment, Clock, Page, Done}
use Rattle.interval_now.specs.Call.{Call, started_call, act_at, act_of, end_at, end_of, after_segment, after_clock, after_page, stage_given, given}
use Rattle.interval_now.specs.CallRun.{ReadsThenClock, CallDid, CallCameTo, answer_by_page, answer_without_record}

-- one step more of any machine
stepped : {Machine : Type 0} (act : Machine → Act) (given_ : Machine → ℕ → Machine) (start now : Machine) (touches : List Touch) (touch : Touch) → Wanted act given_ start touches → replayed act given_ start touches ≡ now → act now ≡ act_of_touch touch
    → Wanted act given_ start (touches ++ touch ∷ []) × (replayed act given_ start (touches ++ touch ∷ []) ≡ given_ now touch.value)
stepped act given_ start now touches touch wanted is next = (
  wanted-append act given_ start touches (touch ∷ []) wanted (ap act is ∙ next, tt),
  replayed-append act given_ start touches (touch ∷ []) ∙ ap (λ machine. given_ machine touch.value) is,
)

-- a segment read in hand, by the steps of the call so far
pub record Reads (most : ℕ) (touches : List Touch) (read : SeqlockRead) : Type 0 where
  pub wanted : Wanted segment.act_of segment.given (started most) touches
  pub there : replayed segment.act_of segment.given (started most) touches ≡ read

-- a page read in hand
pub record Looks (clock : List ClockRow) (most : ℕ) (support : Bool) (touches : List Touch) (generation : ℕ) (rec : RecordFields) (reading : Reading) (read : SeqlockRead) : Type 0 where
  pub has_page : support ≡ true
  pub row : ℕ
  pub later : List Touch
  pub before : ReadsThenClock most touches generation rec row later
  pub reading_is : reading ≡ reading_at clock row
  pub wanted : Wanted page.act_of page.given (started most) later
  pub there : replayed page.act_of page.given (started most) later ≡ read

module _ (clock : List ClockRow) (most : ℕ) (support : Bool) where
  -- what the steps so far have to do with the stage
  abbrev Along : List Touch → Stage → Type 0
  Along touches (Segment read) = Reads most touches read
  Along touches (Clock generation rec) = ReadsRecord most touches generation rec
  Along touches (Page generation rec reading read) = Looks clock most support touches generation rec reading read
  Along touches (Done answer) = CallDid clock most support touches answer

  segment_along : (touches : List Touch) (read : SeqlockRead) (end : Option Seen) → Reads most touches read → segment.end_of read ≡ end → Along touches (after_segment read end)
  segment_along touches read None reads is = reads
  segment_along touches read (Some (seen.Whole generation rec)) reads is = saw most touches (seen.Whole generation rec) (reads.wanted, ap segment.end_of reads.there ∙ is)
  segment_along touches read (Some (seen.Busy so_many first last)) reads is =
      inl (record { seen = seen.Busy so_many first last; saw = saw most touches (seen.Busy so_many first last) (reads.wanted, ap segment.end_of reads.there ∙ is); is = refl })
  segment_along touches read (Some seen.NotInitialized) reads is =
      inl (record { seen = seen.NotInitialized; saw = saw most touches seen.NotInitialized (reads.wanted, ap segment.end_of reads.there ∙ is); is = refl })

  clock_along : (touches : List Touch) (with_page : Bool) (generation : ℕ) (rec : RecordFields) (row : ℕ) → support ≡ with_page → ReadsRecord most touches generation rec
      → Along (touches ++ load 23 row ∷ []) (after_clock most with_page generation rec (reading_at clock row))
  clock_along touches true generation rec row same reads =
      record { has_page = same; row = row; later = []; before = record { steps = touches; reads = reads; made = refl }; reading_is = refl; wanted = tt; there = refl }
  clock_along touches false generation rec row same reads =
      inr (inl (record { no_page = same; generation = generation; rec = rec; row = row; read = record { steps = touches; reads = reads; made = refl }; is = refl }))

  -- the page's tries have come to this
  looked : (touches : List Touch) (generation : ℕ) (rec : RecordFields) (reading : Reading) (read : SeqlockRead) (outcome : Outcome) → Looks clock most support touches generation rec reading read → read_end page_lock read ≡ Some outcome
      → CallDid clock most support touches (answer_by_page generation rec reading outcome)
  looked touches generation rec reading read outcome looks is =
      inr (inr (record {
        has_page = looks.has_page;
        generation = generation;
        rec = rec;
        row = looks.row;
        later = looks.later;
        read = looks.before;
        outcome = outcome;
        did = did page_lock most looks.later outcome looks.wanted (ap (read_end page_lock) looks.there ∙ is);
        is = ap (λ (r : Reading). answer_by_page generation rec r outcome) looks.reading_is;
      }))

  page_along : (touches : List Touch) (generation : ℕ) (rec : RecordFields) (reading : Reading) (read : SeqlockRead) (end : Option Outcome) → Looks clock most support touches generation rec reading read → read_end page_lock read ≡ end
      → Along touches (after_page generation rec reading read (page.page_seen end))
  page_along touches generation rec reading read None looks is = looks
  page_along touches generation rec reading read (Some Unpublished) looks is = looked touches generation rec reading read Unpublished looks is
  page_along touches generation rec reading read (Some (AllFailed first last)) looks is = looked touches generation rec reading read (AllFailed first last) looks is
  page_along touches generation rec reading read (Some (Found word words)) looks is = looked touches generation rec reading read (Found word words) looks is

  stage_along : (touches : List Touch) (stage : Stage) (touch : Touch) → Along touches stage → act_at stage ≡ act_of_touch touch → Along (touches ++ touch ∷ []) (stage_given clock most support stage touch.value)
  stage_along touches (Segment read) touch along next =
      let went = stepped segment.act_of segment.given (started most) read touches touch along.wanted along.there next in
      segment_along (touches ++ touch ∷ []) (segment.given read touch.value) _ (record { wanted = went.0; there = went.1 }) refl
  stage_along touches (Clock generation rec) touch along next =
      let is = load_is touch 23 next in
      subst (λ (t : Touch). Along (touches ++ t ∷ []) (stage_given clock most support (Clock generation rec) touch.value)) (sym is)
      (clock_along touches support generation rec touch.value refl along)
  stage_along touches (Page generation rec reading read) touch along next =
      let went = stepped page.act_of page.given (started most) read along.later touch along.wanted along.there next in
      page_along (touches ++ touch ∷ []) generation rec reading (page.given read touch.value) _
      (record {
        has_page = along.has_page;
        row = along.row;
        later = along.later ++ touch ∷ [];
        before = record {
          steps = along.before.steps;
          reads = along.before.reads;
          made = ap (λ (steps : List Touch). steps ++ touch ∷ []) along.before.made ∙ append_assoc along.before.steps (load 23 along.row ∷ along.later) (touch ∷ []);
        };
        reading_is = along.reading_is;
        wanted = went.0;
        there = went.1;
      })
      refl
  stage_along touches (Done answer) touch along next = absurd (touch_acts touch (sym next))

  abbrev at : Stage → Call
  at stage = record { tries = most; support = support; stage = stage }

  runs_along : (before touches : List Touch) (stage : Stage) → Along before stage → Wanted act_of (given clock) (at stage) touches → Along (before ++ touches) (replayed act_of (given clock) (at stage) touches).stage
  runs_along before [] stage along wanted = subst (λ (steps : List Touch). Along steps stage) (sym (append-nil before)) along
  runs_along before (touch ∷ touches) stage along wanted =
      subst (λ (steps : List Touch). Along steps (replayed act_of (given clock) (at stage) (touch ∷ touches)).stage) (append_assoc before (touch ∷ []) touches)
      (runs_along (before ++ touch ∷ []) touches (stage_given clock most support stage touch.value) (stage_along before stage touch along wanted.0) wanted.1)

  ended_by : (touches : List Touch) (stage : Stage) (answer : Answer) → Along touches stage → end_at stage ≡ Some answer → CallDid clock most support touches answer
  ended_by touches (Segment read) answer along ends = absurd (cc ends)
  ended_by touches (Clock generation rec) answer along ends = absurd (cc ends)
  ended_by touches (Page generation rec reading read) answer along ends = absurd (cc ends)
  ended_by touches (Done other) answer along ends = let same : other ≡ answer = cc ends in subst (CallDid clock most support touches) same along

  pub call_did : (touches : List Touch) (answer : Answer) → CallCameTo clock most support touches answer → CallDid clock most support touches answer
  call_did touches answer came =
      ended_by touches (replayed act_of (given clock) (started_call most support) touches).stage answer
      (runs_along [] touches (Segment (started most)) (record { wanted = tt; there = refl }) came.0) came.1

  -- ---- the other way: such steps are a run of a call

  segment_open : (read : SeqlockRead) (touch : Touch) → segment.act_of read ≡ act_of_touch touch → segment.end_of read ≡ None
  segment_open read touch next = ap (option_map (segment.seen_of read.tries)) (laws.act_none segment_lock (progress segment_lock read) (λ ends. touch_acts touch (sym next ∙ ends)))

  page_open : (read : SeqlockRead) (touch : Touch) → page.act_of read ≡ act_of_touch touch → page.end_of read ≡ None
  page_open read touch next = ap page.page_seen (laws.act_none page_lock (progress page_lock read) (λ ends. touch_acts touch (sym next ∙ ends)))

  -- from one stage the call wants these steps, and they lead to another
  record Leads (before : Stage) (steps : List Touch) (later : Stage) : Type 0 where
    wanted : Wanted act_of (given clock) (at before) steps
    there : replayed act_of (given clock) (at before) steps ≡ at later

  leads_on : (one two three : Stage) (xs ys : List Touch) → Leads one xs two → Leads two ys three → Leads one (xs ++ ys) three
  leads_on one two three xs ys first second =
      record {
        wanted = wanted-append act_of (given clock) (at one) xs ys first.wanted (subst (λ (call : Call). Wanted act_of (given clock) call ys) (sym first.there) second.wanted);
        there = replayed-append act_of (given clock) (at one) xs ys ∙ ap (λ (call : Call). replayed act_of (given clock) call ys) first.there ∙ second.there;
      }

  -- a run of the segment's tries is one of the call's
  segment_leads : (read : SeqlockRead) (steps : List Touch) → Wanted segment.act_of segment.given read steps
      → Leads (after_segment read (segment.end_of read)) steps (after_segment (replayed segment.act_of segment.given read steps) (segment.end_of (replayed segment.act_of segment.given read steps)))
  segment_leads read [] wanted = record { wanted = tt; there = refl }
  segment_leads read (touch ∷ steps) wanted =
      let rest = segment_leads (segment.given read touch.value) steps wanted.1 in
      let stage : Segment read ≡ after_segment read (segment.end_of read) = ap (after_segment read) (sym (segment_open read touch wanted.0)) in
      subst (λ (z : Stage). Leads z (touch ∷ steps) (after_segment (replayed segment.act_of segment.given read (touch ∷ steps)) (segment.end_of (replayed segment.act_of segment.given read (touch ∷ steps))))) stage
      (record { wanted = (wanted.0, rest.wanted); there = rest.there })

  page_leads : (generation : ℕ) (rec : RecordFields) (reading : Reading) (read : SeqlockRead) (steps : List Touch) → Wanted page.act_of page.given read steps
      → Leads (after_page generation rec reading read (page.end_of read)) steps (after_page generation rec reading (replayed page.act_of page.given read steps) (page.end_of (replayed page.act_of page.given read steps)))
  page_leads generation rec reading read [] wanted = record { wanted = tt; there = refl }
  page_leads generation rec reading read (touch ∷ steps) wanted =
      let rest = page_leads generation rec reading (page.given read touch.value) steps wanted.1 in
      let stage : Page generation rec reading read ≡ after_page generation rec reading read (page.end_of read) = ap (after_page generation rec reading read) (sym (page_open read touch wanted.0)) in
      subst (λ (z : Stage). Leads z (touch ∷ steps) (after_page generation rec reading (replayed page.act_of page.given read (touch ∷ steps)) (page.end_of (replayed page.act_of page.given read (touch ∷ steps))))) stage
      (record { wanted = (wanted.0, rest.wanted); there = rest.there })

  segment_starts : 0 < most → after_segment (started most) (segment.end_of (started most)) ≡ Segment (started most)
  segment_starts some = ap (λ (p : Progress). after_segment (started most) (option_map (segment.seen_of most) (end_of_progress p))) (laws.asks-first segment_lock (started most) some refl)

  page_starts : (generation : ℕ) (rec : RecordFields) (reading : Reading) → 0 < most → after_page generation rec reading (started most) (page.end_of (started most)) ≡ Page generation rec reading (started most)
  page_starts generation rec reading some = ap (λ (p : Progress). after_page generation rec reading (started most) (page.page_seen (end_of_progress p))) (laws.asks-first page_lock (started most) some refl)

  -- a segment read that saw this
  seen_leads : (steps : List Touch) (s : Seen) → 0 < most → EndsWith most steps s → Leads (Segment (started most)) steps (after_segment (replayed segment.act_of segment.given (started most) steps) (Some s))
  seen_leads steps s some ended =
      let read = replayed segment.act_of segment.given (started most) steps in
      subst (λ (z : Stage). Leads z steps (after_segment read (Some s))) (segment_starts some)
      (subst (λ (end : Option Seen). Leads (after_segment (started most) (segment.end_of (started most))) steps (after_segment read end)) ended.1 (segment_leads (started most) steps ended.0))

  came_by : (touches steps : List Touch) (answer : Answer) → touches ≡ steps → Leads (Segment (started most)) steps (Done answer) → CallCameTo clock most support touches answer
  came_by touches steps answer made leads =
      subst (λ (s : List Touch). CallCameTo clock most support s answer) (sym made) (leads.wanted, ap end_of leads.there)

  early_came : (touches : List Touch) (s : Seen) (answer : Answer) → 0 < most → Saw most touches s → answer_without_record s ≡ Some answer → CallCameTo clock most support touches answer
  early_came touches (seen.Whole generation rec) answer some saw_ is = absurd (cc is)
  early_came touches (seen.Busy so_many first last) answer some saw_ is =
      let same : answers.Busy so_many first last ≡ answer = cc is in
      subst (CallCameTo clock most support touches) same (came_by touches touches _ refl (seen_leads touches (seen.Busy so_many first last) some (saw_so most touches (seen.Busy so_many first last) saw_)))
  early_came touches seen.NotInitialized answer some saw_ is =
      let same : answers.NotInitialized ≡ answer = cc is in
      subst (CallCameTo clock most support touches) same (came_by touches touches _ refl (seen_leads touches seen.NotInitialized some (saw_so most touches seen.NotInitialized saw_)))

  -- the segment's record, and then the clock's row
  clock_leads : (touches : List Touch) (generation : ℕ) (rec : RecordFields) (row : ℕ) (later : List Touch) (end : Stage) (read : ReadsThenClock most touches generation rec row later) → 0 < most
      → Leads (after_clock most support generation rec (reading_at clock row)) later end → Leads (Segment (started most)) (read.steps ++ load 23 row ∷ later) end
  clock_leads touches generation rec row later end read some rest =
      leads_on (Segment (started most)) (Clock generation rec) end read.steps (load 23 row ∷ later)
      (seen_leads read.steps (seen.Whole generation rec) some (saw_so most read.steps (seen.Whole generation rec) read.reads))
      (record { wanted = (refl, rest.wanted); there = rest.there })

  page_answer : (generation : ℕ) (rec : RecordFields) (reading : Reading) (read : SeqlockRead) (outcome : Outcome) → read_end page_lock read ≡ Some outcome
      → after_page generation rec reading read (page.end_of read) ≡ Done (answer_by_page generation rec reading outcome)
  page_answer generation rec reading read Unpublished is = ap (λ (end : Option Outcome). after_page generation rec reading read (page.page_seen end)) is
  page_answer generation rec reading read (AllFailed first last) is = ap (λ (end : Option Outcome). after_page generation rec reading read (page.page_seen end)) is
  page_answer generation rec reading read (Found word words) is = ap (λ (end : Option Outcome). after_page generation rec reading read (page.page_seen end)) is

  seen_page_leads : (generation : ℕ) (rec : RecordFields) (reading : Reading) (later : List Touch) (outcome : Outcome) → 0 < most → CameTo page_lock most later outcome
      → Leads (Page generation rec reading (started most)) later (Done (answer_by_page generation rec reading outcome))
  seen_page_leads generation rec reading later outcome some came =
      let read = replayed page.act_of page.given (started most) later in
      subst (λ (z : Stage). Leads z later (Done (answer_by_page generation rec reading outcome))) (page_starts generation rec reading some)
      (subst (Leads (after_page generation rec reading (started most) (page.end_of (started most))) later) (page_answer generation rec reading read outcome came.1) (page_leads generation rec reading (started most) later came.0))

  pub call_did_so : (touches : List Touch) (answer : Answer) → 0 < most → CallDid clock most support touches answer → CallCameTo clock most support touches answer
  call_did_so touches answer some (inl early) = early_came touches early.seen answer some early.saw early.is
  call_did_so touches answer some (inr (inl last)) =
      let stage : after_clock most support last.generation last.rec (reading_at clock last.row) ≡ Done answer =
      ap (λ (with_page : Bool). after_clock most with_page last.generation last.rec (reading_at clock last.row)) last.no_page ∙ ap Done (sym last.is) in
      came_by touches _ answer last.read.made
      (clock_leads touches last.generation last.rec last.row [] (Done answer) last.read some (record { wanted = tt; there = ap at stage }))
  call_did_so touches answer some (inr (inr whole)) =
      let reading = reading_at clock whole.row in
      let stage : Page whole.generation whole.rec reading (started most) ≡ after_clock most support whole.generation whole.rec reading =
      sym (ap (λ (with_page : Bool). after_clock most with_page whole.generation whole.rec reading) whole.has_page) in
      came_by touches _ answer whole.read.made
      (clock_leads touches whole.generation whole.rec whole.row whole.later (Done answer) whole.read some
      (subst (λ (z : Stage). Leads z whole.later (Done answer)) stage
      (subst (λ (a : Answer). Leads (Page whole.generation whole.rec reading (started most)) whole.later (Done a)) (sym whole.is)
      (seen_page_leads whole.generation whole.rec reading whole.later whole.outcome some (did_so page_lock most whole.later whole.outcome whole.did)))))
