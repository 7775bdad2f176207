-- A report has one verdict.
use Rattle.std.proofs.Common.{◌≡◌, ◌≢◌, ℕ, suc, ◌^◌, ◌<◌, List, [], ◌∷◌, ◌++◌, length, append_assoc, append-nil, Option, Some, None, refl, sym, ap, subst, ◌∙◌, arith, rules}
use Rattle.std.specs.Prelude.{slice_index, slice_get}
use Rattle.std.proofs.lemmas.List.{append_cancel_left}
use Rattle.clock_gate.specs.declared.trace.Trace.{Trace}
use Rattle.clock_gate.specs.declared.trace.PollRow.{PollRow}
use Rattle.segment_layout.specs.declared.publication.Publication.{Publication}
use Rattle.segment_layout.specs.declared.start.Start.{Start}
use Rattle.segment_layout.specs.Record.{RecordFields}
use Rattle.status_machine.specs.Incarnation.{record_at, base_at}
use Rattle.interval_now.specs.declared.answers.Answer.{Answer}
use Rattle.interval_now.specs.declared.answers.Answer.TheVariants.{Time, Busy, NotInitialized, PageBusy, Causality as Early}
use Rattle.interval_now.specs.declared.answers.Interval.{Interval}
use Rattle.report_audit.proofs.OneText.{same_time}
use Rattle.lawful_report.specs.declared.printed.Printed.{Printed}
use Rattle.lawful_report.specs.declared.printed.Printed.TheVariants.{Header, Opened, Published, Skipped, Stopped, Moved, Answered, Total}
use Rattle.lawful_report.specs.Lines.{line_text, published_line, published_place, published_bound, published_base, opened_line, moved_line, header_line, total_line, skipped_line, stopped_line, answered_line, call_place, answer_text}
use Rattle.lawful_report.specs.Pages.{page_seen}
use Rattle.status_machine.specs.Base.{base_number}
use Rattle.lawful_report.specs.Course.{Course, Life, poll_at, skipped, published}
use Rattle.lawful_report.specs.declared.seen.Seen.{Seen}
use Rattle.lawful_report.specs.declared.call.Call.{Call}
use Rattle.lawful_report.specs.declared.counts.Counts.{Counts}
use Rattle.lawful_report.specs.Lawful.{counts_list, one_publication, one_answer, one_time, Due, Heading, Opening, Moving, Polling, Stopping, Answering, Finished, Standing, standing_start, going_on, after_publication, seen_before, Follows, FollowsAt, Follow, OpensHere, MovesHere, SkipsHere, StopsHere, PublishesHere, StopsAfter, AnswersHere, text_of_lines, IsLawfulReport, IsFirstUnlawful, IsStuck}
use Rattle.report_audit.proofs.OneNext.{same_skip, same_letter, PublicationIsSmall, RowsSame, same_rows, AnswerIsSmall}
use Rattle.report_audit.proofs.OneNext as answers

-- the numbers of a line have 64 bits
abbrev pub LineIsSmall : Printed → Type 0
LineIsSmall Header = Unit {0}
LineIsSmall (Opened poll start) = Unit {0}
LineIsSmall (Published position page p) = PublicationIsSmall position page p
LineIsSmall (Skipped poll first last) = (poll < 2 ^ 64) × (first < 2 ^ 64) × (last < 2 ^ 64)
LineIsSmall (Stopped poll stores) = Unit {0}
LineIsSmall (Moved poll position generation) = Unit {0}
LineIsSmall (Answered client call page answer) = AnswerIsSmall page answer
LineIsSmall (Total counts) = Unit {0}

-- the same standing, and the same text left
abbrev One : Standing → Standing → List ℕ → List ℕ → Type 0
One s1 s2 x y = (s1 ≡ s2) × (x ≡ y)

cancel : (s t x y : List ℕ) → s ≡ t → s ++ x ≡ t ++ y → x ≡ y
cancel s t x y is same = append_cancel_left s x y (same ∙ ap (λ (l : List ℕ). l ++ y) (sym is))

row_of : Option PollRow → PollRow
row_of (Some row) = row
row_of None = record { reply = []; stop = None }

one_row : (o : Option PollRow) (a b : PollRow) → o ≡ Some a → o ≡ Some b → a ≡ b
unfolding row_of
one_row o a b one two = ap row_of (sym one ∙ two)

life_or : Life → Option Life → Life
life_or default (Some life) = life
life_or default None = default

one_life : (o : Option Life) (a b : Life) → o ≡ Some a → o ≡ Some b → a ≡ b
unfolding life_or
one_life o a b one two = ap (life_or a) (sym one ∙ two)

opens : (trace : Trace) (s : Standing) (p q : ℕ) (a b : Start) (s1 s2 : Standing) (x y : List ℕ) → OpensHere trace s p a s1 → OpensHere trace s q b s2 → opened_line p a ++ x ≡ opened_line q b ++ y → One s1 s2 x y
opens trace s p q a b s1 s2 x y one two same =
    let line : opened_line p a ≡ opened_line q b = rw (one.poll_is, one.start_is, two.poll_is, two.start_is) refl in
    (one.after_is ∙ sym two.after_is, cancel (opened_line p a) (opened_line q b) x y line same)

moves : (trace : Trace) (s : Standing) (p q place position g h : ℕ) (s1 s2 : Standing) (x y : List ℕ) → MovesHere trace s p place g s1 → MovesHere trace s q position h s2 → moved_line p place g ++ x ≡ moved_line q position h ++ y → One s1 s2 x y
moves trace s p q place position g h s1 s2 x y one two same =
    let line : moved_line p place g ≡ moved_line q position h = rw (one.poll_is, one.position_is, one.generation_is, two.poll_is, two.position_is, two.generation_is) refl in
    (one.after_is ∙ sym two.after_is, cancel (moved_line p place g) (moved_line q position h) x y line same)

skips : (trace : Trace) (s : Standing) (p q a b c d : ℕ) (s1 s2 : Standing) (x y : List ℕ) → LineIsSmall (Skipped p a b) → LineIsSmall (Skipped q c d) → SkipsHere trace s p a b s1 → SkipsHere trace s q c d s2 → skipped_line p a b ++ x ≡ skipped_line q c d ++ y → One s1 s2 x y
skips trace s p q a b c d s1 s2 x y small_a small_b one two same =
    let polls : q ≡ p = two.poll_is ∙ sym one.poll_is in
    let one_poll : skipped_line p a b ++ x ≡ skipped_line p c d ++ y = subst (λ (k : ℕ). skipped_line p a b ++ x ≡ skipped_line k c d ++ y) polls same in
    let is = same_skip p a b c d x y small_a.0 small_a.1 small_a.2 small_b.1 small_b.2 one_poll in
    (one.after_is ∙ (ap (λ (k : ℕ). going_on trace s.counts (skipped s.course (page_seen trace k))) is.1 ∙ sym two.after_is), is.2)

stop_or : ℕ → Option ℕ → ℕ
stop_or default (Some stores) = stores
stop_or default None = default

one_stop : (o : Option ℕ) (a b : ℕ) → o ≡ Some a → o ≡ Some b → a ≡ b
unfolding stop_or
one_stop o a b one two = ap (stop_or a) (sym one ∙ two)

stops : (trace : Trace) (s : Standing) (p q a b : ℕ) (s1 s2 : Standing) (x y : List ℕ) → StopsHere trace s p a s1 → StopsHere trace s q b s2 → stopped_line p a ++ x ≡ stopped_line q b ++ y → One s1 s2 x y
stops trace s p q a b s1 s2 x y one two same =
    let rows : one.row ≡ two.row = one_row (slice_get trace.polls s.course.polled) one.row two.row one.is two.is in
    let stores : a ≡ b = one_stop one.row.stop a b one.stop (ap (λ (r : PollRow). r.stop) rows ∙ two.stop) in
    let line : stopped_line p a ≡ stopped_line q b = rw (one.poll_is, two.poll_is, stores) refl in
    (one.after_is ∙ (rw stores refl ∙ sym two.after_is), cancel (stopped_line p a) (stopped_line q b) x y line same)

stops_after : (trace : Trace) (s : Standing) (p q a b : ℕ) (s1 s2 : Standing) (x y : List ℕ) → StopsAfter trace s p a s1 → StopsAfter trace s q b s2 → stopped_line p a ++ x ≡ stopped_line q b ++ y → One s1 s2 x y
stops_after trace s p q a b s1 s2 x y one two same =
    let line : stopped_line p a ≡ stopped_line q b = rw (one.poll_is, two.poll_is, one.all, two.all) refl in
    (one.after_is ∙ sym two.after_is, cancel (stopped_line p a) (stopped_line q b) x y line same)

base_text : (p q : Publication) → p.rec ≡ q.rec → p.base ≡ q.base → published_base p ≡ published_base q
unfolding published_base
base_text p q rec base = rw (rec, base) refl

-- the same of the same, for any function
alike : {X : Type 0} (f : PollRow → Life → ℕ → ℕ → ℕ → X) (r s : PollRow) (l m : Life) (a b c d e g : ℕ) → r ≡ s → l ≡ m → a ≡ b → c ≡ d → e ≡ g → f r l a c e ≡ f s m b d g
alike f r s l m a b c d e g rows lives one two three = rw (rows, lives, one, two, three) refl

publishes : (trace : Trace) (s : Standing) (place position page other : ℕ) (p q : Publication) (s1 s2 : Standing) (x y : List ℕ) → PublicationIsSmall place page p → PublicationIsSmall position other q → PublishesHere trace s place page p s1 → PublishesHere trace s position other q s2 → published_line place page p ++ x ≡ published_line position other q ++ y → One s1 s2 x y
publishes trace s place position page other p q s1 s2 x y small_p small_q one two same =
    let is : RowsSame page other p q x y = same_rows place position page other p q x y small_p small_q same in
    let rows : one.row ≡ two.row = one_row (slice_get trace.polls s.course.polled) one.row two.row one.here.row_is two.here.row_is in
    let lives : one.life ≡ two.life = one_life s.course.life one.life two.life one.here.life_is two.here.life_is in
    let recs : p.rec ≡ q.rec = one.is.rec ∙ (alike (λ r l a c e. record_at l.from (poll_at trace s.course a c r) l.past) one.row two.row one.life two.life p.asked q.asked page other p.replied q.replied rows lives is.asked is.pages is.replied ∙ sym two.is.rec) in
    let bases : p.base ≡ q.base = one.is.base ∙ (alike (λ r l a c e. base_number (base_at l.from (poll_at trace s.course a c r ∷ l.past))) one.row two.row one.life two.life p.asked q.asked page other p.replied q.replied rows lives is.asked is.pages is.replied ∙ sym two.is.base) in
    let after_bound : published_base p ++ x ≡ published_base q ++ y = cancel (published_bound p.rec) (published_bound q.rec) (published_base p ++ x) (published_base q ++ y) (ap (λ (r : RecordFields). published_bound r) recs) is.rest in (
      one.after_is ∙ (alike (λ r l a c e. after_publication trace (one_publication s.counts) r (published s.course l (poll_at trace s.course a c r) e c)) one.row two.row one.life two.life p.asked q.asked page other p.replied q.replied rows lives is.asked is.pages is.replied ∙ sym two.after_is),
      cancel (published_base p) (published_base q) x y (base_text p q recs bases) after_bound,
    )

answered_spread : (client call page : ℕ) (answer : Answer) (x : List ℕ) → answered_line client call page answer ++ x ≡ call_place client call ++ (answer_text page answer ++ x)
unfolding answered_line
answered_spread client call page answer x = append_assoc (call_place client call) (answer_text page answer) x

-- ---- an answer

abbrev answering : Course → Counts → Seen → List Call → Standing
answering course counts seen left = record { course = course; counts = counts; due = Answering seen left }

answering_same : (course : Course) (c d : Counts) (a b : Seen) (left : List Call) → c ≡ d → a ≡ b → answering course c a left ≡ answering course d b left
answering_same course c d a b left counts seen = rw (counts, seen) refl

-- answers with one text count the same
counted : (page other : ℕ) (a b : Answer) (x y : List ℕ) (counts : Counts) → AnswerIsSmall page a → AnswerIsSmall other b → answer_text page a ++ x ≡ answer_text other b ++ y → one_answer a counts ≡ one_answer b counts
counted page other (Time t) (Time u) x y counts small_a small_b same =
    ap (λ (i : Interval). one_time i.status counts) (same_time page other t u x y small_a small_b same).0.interval
counted page other (Busy m a b) (Busy n c d) x y counts small_a small_b same = refl
counted page other NotInitialized NotInitialized x y counts small_a small_b same = refl
counted page other (PageBusy a b) (PageBusy c d) x y counts small_a small_b same = refl
counted page other (Early c) (Early d) x y counts small_a small_b same = refl
counted page other a b x y counts small_a small_b same = absurd (let letters = same_letter page other a b x y same in omega (arith, letters))

answers_one : (trace : Trace) (s : Standing) (seen : Seen) (due : Call) (left : List Call) (c d k m page other : ℕ) (a b : Answer) (s1 s2 : Standing) (x y : List ℕ) → AnswerIsSmall page a → AnswerIsSmall other b → AnswersHere trace s seen due left c k page a s1 → AnswersHere trace s seen due left d m other b s2 → answered_line c k page a ++ x ≡ answered_line d m other b ++ y → One s1 s2 x y
answers_one trace s seen due left c d k m page other a b s1 s2 x y small_a small_b one two same =
    let place : call_place c k ≡ call_place d m = rw (one.client_is, one.call_is, two.client_is, two.call_is) refl in
    let texts : answer_text page a ++ x ≡ answer_text other b ++ y = cancel (call_place c k) (call_place d m) (answer_text page a ++ x) (answer_text other b ++ y) place (sym (answered_spread c k page a x) ∙ (same ∙ answered_spread d m other b y)) in
    let is = answers.one_answer trace s.course due.tries (seen_before trace seen due) page other a b one.seen two.seen x y small_a small_b one.may two.may texts in
    let counts : one_answer a s.counts ≡ one_answer b s.counts = counted page other a b x y s.counts small_a small_b texts in
    (one.after_is ∙ (answering_same s.course (one_answer a s.counts) (one_answer b s.counts) one.seen two.seen left counts is.0 ∙ sym two.after_is), is.1)

totals : (s : Standing) (c d : List ℕ) (s1 s2 : Standing) (x y : List ℕ) → (c ≡ counts_list s.counts) × (s1 ≡ record s { due = Finished }) → (d ≡ counts_list s.counts) × (s2 ≡ record s { due = Finished }) → total_line c ++ x ≡ total_line d ++ y → One s1 s2 x y
totals s c d s1 s2 x y one two same = (one.1 ∙ sym two.1, cancel (total_line c) (total_line d) x y (ap (λ (l : List ℕ). total_line l) (one.0 ∙ sym two.0)) same)

-- ---- any two lines

skip_letter : (p a b : ℕ) (x : List ℕ) → slice_index (skipped_line p a b ++ x) 1 ≡ 107
unfolding skipped_line
skip_letter p a b x = refl

stop_letter : (p a : ℕ) (x : List ℕ) → slice_index (stopped_line p a ++ x) 1 ≡ 116
unfolding stopped_line
stop_letter p a x = refl

publish_letter : (position page : ℕ) (p : Publication) (x : List ℕ) → slice_index (published_line position page p ++ x) 1 ≡ 117
unfolding published_line published_place
publish_letter position page p x = refl

apart : (l m : List ℕ) (a b : ℕ) → slice_index l 1 ≡ a → slice_index m 1 ≡ b → a ≢ b → l ≡ m → ⊥
apart l m a b one two other same = other (sym one ∙ (ap (λ (t : List ℕ). slice_index t 1) same ∙ two))

polling : (trace : Trace) (s : Standing) (a b : Printed) (s1 s2 : Standing) (x y : List ℕ) → LineIsSmall a → LineIsSmall b → FollowsAt trace s Polling a s1 → FollowsAt trace s Polling b s2 → line_text a ++ x ≡ line_text b ++ y → One s1 s2 x y
polling trace s (Skipped p a b) (Skipped q c d) s1 s2 x y small_a small_b one two same = skips trace s p q a b c d s1 s2 x y small_a small_b one two same
polling trace s (Stopped p a) (Stopped q b) s1 s2 x y small_a small_b one two same = stops trace s p q a b s1 s2 x y one two same
polling trace s (Published m a p) (Published n b q) s1 s2 x y small_a small_b one two same = publishes trace s m n a b p q s1 s2 x y small_a small_b one two same
polling trace s (Skipped p a b) (Stopped q c) s1 s2 x y small_a small_b one two same = absurd (apart (skipped_line p a b ++ x) (stopped_line q c ++ y) 107 116 (skip_letter p a b x) (stop_letter q c y) (omega arith) same)
polling trace s (Stopped q c) (Skipped p a b) s1 s2 x y small_a small_b one two same = absurd (apart (stopped_line q c ++ x) (skipped_line p a b ++ y) 116 107 (stop_letter q c x) (skip_letter p a b y) (omega arith) same)
polling trace s (Skipped p a b) (Published n c q) s1 s2 x y small_a small_b one two same = absurd (apart (skipped_line p a b ++ x) (published_line n c q ++ y) 107 117 (skip_letter p a b x) (publish_letter n c q y) (omega arith) same)
polling trace s (Published n c q) (Skipped p a b) s1 s2 x y small_a small_b one two same = absurd (apart (published_line n c q ++ x) (skipped_line p a b ++ y) 117 107 (publish_letter n c q x) (skip_letter p a b y) (omega arith) same)
polling trace s (Stopped p a) (Published n c q) s1 s2 x y small_a small_b one two same = absurd (apart (stopped_line p a ++ x) (published_line n c q ++ y) 116 117 (stop_letter p a x) (publish_letter n c q y) (omega arith) same)
polling trace s (Published n c q) (Stopped p a) s1 s2 x y small_a small_b one two same = absurd (apart (published_line n c q ++ x) (stopped_line p a ++ y) 117 116 (publish_letter n c q x) (stop_letter p a y) (omega arith) same)
polling trace s Header b s1 s2 x y small_a small_b one two same = absurd one
polling trace s (Opened poll start) b s1 s2 x y small_a small_b one two same = absurd one
polling trace s (Moved poll position generation) b s1 s2 x y small_a small_b one two same = absurd one
polling trace s (Answered client call page answer) b s1 s2 x y small_a small_b one two same = absurd one
polling trace s (Total counts) b s1 s2 x y small_a small_b one two same = absurd one
polling trace s a b s1 s2 x y small_a small_b one two same = absurd two

heading : (trace : Trace) (s : Standing) (b : Printed) (s1 s2 : Standing) (x y : List ℕ) → s1 ≡ going_on trace s.counts s.course → FollowsAt trace s Heading b s2 → header_line ++ x ≡ line_text b ++ y → One s1 s2 x y
heading trace s Header s1 s2 x y one two same = (one ∙ sym two, append_cancel_left header_line x y same)
heading trace s b s1 s2 x y one two same = absurd two

opening : (trace : Trace) (s : Standing) (p : ℕ) (a : Start) (b : Printed) (s1 s2 : Standing) (x y : List ℕ) → OpensHere trace s p a s1 → FollowsAt trace s Opening b s2 → opened_line p a ++ x ≡ line_text b ++ y → One s1 s2 x y
opening trace s p a (Opened q b) s1 s2 x y one two same = opens trace s p q a b s1 s2 x y one two same
opening trace s p a b s1 s2 x y one two same = absurd two

moving : (trace : Trace) (s : Standing) (p place g : ℕ) (b : Printed) (s1 s2 : Standing) (x y : List ℕ) → MovesHere trace s p place g s1 → FollowsAt trace s Moving b s2 → moved_line p place g ++ x ≡ line_text b ++ y → One s1 s2 x y
moving trace s p place g (Moved q position h) s1 s2 x y one two same = moves trace s p q place position g h s1 s2 x y one two same
moving trace s p place g b s1 s2 x y one two same = absurd two

stopping : (trace : Trace) (s : Standing) (p a : ℕ) (b : Printed) (s1 s2 : Standing) (x y : List ℕ) → StopsAfter trace s p a s1 → FollowsAt trace s Stopping b s2 → stopped_line p a ++ x ≡ line_text b ++ y → One s1 s2 x y
stopping trace s p a (Stopped q b) s1 s2 x y one two same = stops_after trace s p q a b s1 s2 x y one two same
stopping trace s p a b s1 s2 x y one two same = absurd two

answered : (trace : Trace) (s : Standing) (seen : Seen) (due : Call) (left : List Call) (c k page : ℕ) (a : Answer) (b : Printed) (s1 s2 : Standing) (x y : List ℕ) → AnswerIsSmall page a → LineIsSmall b → AnswersHere trace s seen due left c k page a s1 → FollowsAt trace s (Answering seen (due ∷ left)) b s2 → answered_line c k page a ++ x ≡ line_text b ++ y → One s1 s2 x y
answered trace s seen due left c k page a (Answered d m other b) s1 s2 x y small_a small_b one two same = answers_one trace s seen due left c d k m page other a b s1 s2 x y small_a small_b one two same
answered trace s seen due left c k page a b s1 s2 x y small_a small_b one two same = absurd two

totalling : (trace : Trace) (s : Standing) (seen : Seen) (c : List ℕ) (b : Printed) (s1 s2 : Standing) (x y : List ℕ) → (c ≡ counts_list s.counts) × (s1 ≡ record s { due = Finished }) → FollowsAt trace s (Answering seen []) b s2 → total_line c ++ x ≡ line_text b ++ y → One s1 s2 x y
totalling trace s seen c (Total d) s1 s2 x y one two same = totals s c d s1 s2 x y one two same
totalling trace s seen c b s1 s2 x y one two same = absurd two

one_at : (trace : Trace) (s : Standing) (due : Due) (a b : Printed) (s1 s2 : Standing) (x y : List ℕ) → LineIsSmall a → LineIsSmall b → FollowsAt trace s due a s1 → FollowsAt trace s due b s2 → line_text a ++ x ≡ line_text b ++ y → One s1 s2 x y
one_at trace s Heading Header b s1 s2 x y small_a small_b one two same = heading trace s b s1 s2 x y one two same
one_at trace s Opening (Opened p a) b s1 s2 x y small_a small_b one two same = opening trace s p a b s1 s2 x y one two same
one_at trace s Moving (Moved p place g) b s1 s2 x y small_a small_b one two same = moving trace s p place g b s1 s2 x y one two same
one_at trace s Polling a b s1 s2 x y small_a small_b one two same = polling trace s a b s1 s2 x y small_a small_b one two same
one_at trace s Stopping (Stopped p a) b s1 s2 x y small_a small_b one two same = stopping trace s p a b s1 s2 x y one two same
one_at trace s (Answering seen (due ∷ left)) (Answered c k page a) b s1 s2 x y small_a small_b one two same = answered trace s seen due left c k page a b s1 s2 x y small_a small_b one two same
one_at trace s (Answering seen []) (Total c) b s1 s2 x y small_a small_b one two same = totalling trace s seen c b s1 s2 x y one two same
one_at trace s due a b s1 s2 x y small_a small_b one two same = absurd one

-- ---- whole reports

-- a fact of standings that lines keep, and under which what may stand has numbers of 64 bits
abbrev pub KeepsSmall : Trace → (Standing → Type 0) → Type 0
KeepsSmall trace Fits = (s : Standing) (line : Printed) (after : Standing) → Fits s → Follows trace s line after → LineIsSmall line × Fits after

text_spread : (line : Printed) (lines : List Printed) (rest : List ℕ) → text_of_lines (line ∷ lines) ++ rest ≡ line_text line ++ (text_of_lines lines ++ rest)
unfolding text_of_lines
text_spread line lines rest = append_assoc (line_text line) (text_of_lines lines) rest

no_text : (rest : List ℕ) → text_of_lines [] ++ rest ≡ rest
unfolding text_of_lines
no_text rest = refl

none_follows : (trace : Trace) (s : Standing) (due : Due) (line : Printed) (after : Standing) → due ≡ Finished → FollowsAt trace s due line after → ⊥
none_follows trace s Finished line after is follows = follows
none_follows trace s Heading line after is follows = absurd (search rules)
none_follows trace s Opening line after is follows = absurd (search rules)
none_follows trace s Moving line after is follows = absurd (search rules)
none_follows trace s Polling line after is follows = absurd (search rules)
none_follows trace s Stopping line after is follows = absurd (search rules)
none_follows trace s (Answering seen calls) line after is follows = absurd (search rules)

exclusive : (trace : Trace) (Fits : Standing → Type 0) → KeepsSmall trace Fits → (s : Standing) → Fits s → (lines others : List Printed) (done stopped : Standing) (rest : List ℕ) → Follow trace s lines done → done.due ≡ Finished → Follow trace s others stopped → IsStuck trace stopped rest → text_of_lines lines ++ [] ≡ text_of_lines others ++ rest → ⊥
exclusive trace Fits small s fits [] [] done stopped rest follow finished other stuck same =
    stuck.no_end (ap (λ (t : Standing). t.due) (sym other ∙ follow) ∙ finished) (sym (no_text rest) ∙ (sym same ∙ no_text []))
exclusive trace Fits small s fits [] (line ∷ others) done stopped rest follow finished other stuck same =
    none_follows trace s s.due line other.0 (ap (λ (t : Standing). t.due) follow ∙ finished) other.1
exclusive trace Fits small s fits (line ∷ lines) [] done stopped rest follow finished other stuck same =
    stuck.no_line line follow.0 (text_of_lines lines ++ []) (subst (λ (t : Standing). Follows trace t line follow.0) other follow.1) (sym (no_text rest) ∙ (sym same ∙ text_spread line lines []))
exclusive trace Fits small s fits (line ∷ lines) (head ∷ others) done stopped rest follow finished other stuck same =
    let one : One follow.0 other.0 (text_of_lines lines ++ []) (text_of_lines others ++ rest) = one_at trace s s.due line head follow.0 other.0 (text_of_lines lines ++ []) (text_of_lines others ++ rest) (small s line follow.0 fits follow.1).0 (small s head other.0 fits other.1).0 follow.1 other.1 (sym (text_spread line lines []) ∙ (same ∙ text_spread head others rest)) in
    exclusive trace Fits small follow.0 (small s line follow.0 fits follow.1).1 lines others done stopped rest follow.2 finished (subst (λ (t : Standing). Follow trace t others stopped) (sym one.0) other.2) stuck one.1

-- a report isn't both lawful and unlawful at a line
pub one_verdict : (trace : Trace) (report : List ℕ) (number : ℕ) (Fits : Standing → Type 0) → KeepsSmall trace Fits → Fits (standing_start trace) → IsLawfulReport trace report → IsFirstUnlawful trace report number → ⊥
one_verdict trace report number Fits small fits lawful unlawful =
    exclusive trace Fits small (standing_start trace) fits lawful.lines unlawful.lines lawful.after unlawful.standing unlawful.rest lawful.follow lawful.finished unlawful.follow unlawful.stuck (append-nil (text_of_lines lawful.lines) ∙ (sym lawful.text ∙ unlawful.text))

-- nor is it unlawful first at two lines
pub one_number : (trace : Trace) (Fits : Standing → Type 0) → KeepsSmall trace Fits → (s : Standing) → Fits s → (lines others : List Printed) (stopped ended : Standing) (x y : List ℕ) → Follow trace s lines stopped → IsStuck trace stopped x → Follow trace s others ended → IsStuck trace ended y → text_of_lines lines ++ x ≡ text_of_lines others ++ y → length lines ≡ length others
one_number trace Fits small s fits [] [] stopped ended x y follow stuck other caught same = refl
one_number trace Fits small s fits [] (line ∷ others) stopped ended x y follow stuck other caught same =
    absurd (stuck.no_line line other.0 (text_of_lines others ++ y) (subst (λ (t : Standing). Follows trace t line other.0) follow other.1) (sym (no_text x) ∙ (same ∙ text_spread line others y)))
one_number trace Fits small s fits (line ∷ lines) [] stopped ended x y follow stuck other caught same =
    absurd (caught.no_line line follow.0 (text_of_lines lines ++ x) (subst (λ (t : Standing). Follows trace t line follow.0) other follow.1) (sym (no_text y) ∙ (sym same ∙ text_spread line lines x)))
one_number trace Fits small s fits (line ∷ lines) (head ∷ others) stopped ended x y follow stuck other caught same =
    let one : One follow.0 other.0 (text_of_lines lines ++ x) (text_of_lines others ++ y) = one_at trace s s.due line head follow.0 other.0 (text_of_lines lines ++ x) (text_of_lines others ++ y) (small s line follow.0 fits follow.1).0 (small s head other.0 fits other.1).0 follow.1 other.1 (sym (text_spread line lines x) ∙ (same ∙ text_spread head others y)) in
    ap suc (one_number trace Fits small follow.0 (small s line follow.0 fits follow.1).1 lines others stopped ended x y follow.2 stuck (subst (λ (t : Standing). Follow trace t others ended) (sym one.0) other.2) caught one.1)
