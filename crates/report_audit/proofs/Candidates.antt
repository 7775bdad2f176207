-- Lines that stand alone where they are due: each line that may stand there has the same text.
use Rattle.std.proofs.Common.{◌≡◌, ◌≢◌, ℕ, ◌+◌, ◌/◌, List, [], ◌∷◌, ◌++◌, Option, Some, None, refl, sym, ap, subst, ◌∙◌}
use Rattle.clock_gate.specs.declared.trace.PollRow.{PollRow}
use Rattle.clock_gate.specs.declared.trace.Trace.{Trace}
use Rattle.segment_layout.specs.declared.publication.Publication.{Publication}
use Rattle.segment_layout.specs.declared.start.Start.{Start}
use Rattle.lawful_report.specs.declared.call.Call.{Call}
use Rattle.lawful_report.specs.declared.counts.Counts.{Counts}
use Rattle.lawful_report.specs.declared.printed.Printed.TheVariants.{Header, Opened, Published, Skipped, Stopped, Moved, Answered, Total}
use Rattle.lawful_report.specs.declared.seen.Seen.{Seen}
use Rattle.lawful_report.specs.Course.{Course, start_found, next_generation}
use Rattle.lawful_report.specs.Lawful.{Heading, Opening, Moving, Polling, Stopping, Answering, Finished, Standing, counts_list, StopsHere, PublishesHere}
use Rattle.lawful_report.specs.Lines.{line_text, published_line, skipped_line, stopped_line}
use Rattle.report_audit.specs.FoundLines.{NoAnswer, IsAnyAnswer}
use Rattle.report_audit.specs.NextLine.{NoLine, NoSkip, at}
use Rattle.lawful_report.specs.Lawful.{seen_before}

-- no text begins with a line where one with this text doesn't
alone : (text s t later : List ℕ) → ((rest : List ℕ) → text ≢ t ++ rest) → s ≡ t → text ≡ s ++ later → ⊥
alone text s t later never same is = never later (is ∙ ap (λ (l : List ℕ). l ++ later) same)

pub no_heading : (trace : Trace) (course : Course) (counts : Counts) (text : List ℕ) → ((rest : List ℕ) → text ≢ line_text Header ++ rest) → NoLine trace (at course counts Heading) text
no_heading trace course counts text never Header after later follows is = never later is
no_heading trace course counts text never line after later follows is = absurd follows

pub no_opening : (trace : Trace) (course : Course) (counts : Counts) (text : List ℕ) (poll : ℕ) (start : Start) → poll ≡ course.polled + 1 → start ≡ start_found trace course
    → ((rest : List ℕ) → text ≢ line_text (Opened poll start) ++ rest) → NoLine trace (at course counts Opening) text
no_opening trace course counts text poll start polls starts never (Opened p s) after later follows is =
    alone text (line_text (Opened p s)) (line_text (Opened poll start)) later never (rw (follows.poll_is, follows.start_is, polls, starts) refl) is
no_opening trace course counts text poll start polls starts never line after later follows is = absurd follows

pub no_moving : (trace : Trace) (course : Course) (counts : Counts) (text : List ℕ) (poll position generation : ℕ) → poll ≡ course.polled + 1 → position ≡ course.point / 2 + 1 → generation ≡ next_generation trace course
    → ((rest : List ℕ) → text ≢ line_text (Moved poll position generation) ++ rest) → NoLine trace (at course counts Moving) text
no_moving trace course counts text poll position generation polls positions generations never (Moved p q g) after later follows is =
    alone text (line_text (Moved p q g)) (line_text (Moved poll position generation)) later never (rw (follows.poll_is, follows.position_is, follows.generation_is, polls, positions, generations) refl) is
no_moving trace course counts text poll position generation polls positions generations never line after later follows is = absurd follows

pub no_stopping : (trace : Trace) (course : Course) (counts : Counts) (text : List ℕ) (poll : ℕ) → poll ≡ course.polled
    → ((rest : List ℕ) → text ≢ line_text (Stopped poll 10) ++ rest) → NoLine trace (at course counts Stopping) text
no_stopping trace course counts text poll polls never (Stopped p s) after later follows is =
    alone text (line_text (Stopped p s)) (line_text (Stopped poll 10)) later never (rw (follows.poll_is, follows.all, polls) refl) is
no_stopping trace course counts text poll polls never line after later follows is = absurd follows

pub no_counting : (trace : Trace) (course : Course) (counts : Counts) (seen : Seen) (text : List ℕ) (told : List ℕ) → told ≡ counts_list counts
    → ((rest : List ℕ) → text ≢ line_text (Total told) ++ rest) → NoLine trace (at course counts (Answering seen [])) text
no_counting trace course counts seen text told tells never (Total c) after later follows is =
    alone text (line_text (Total c)) (line_text (Total told)) later never (rw (follows.0, tells) refl) is
no_counting trace course counts seen text told tells never line after later follows is = absurd follows

pub no_answering : (trace : Trace) (course : Course) (counts : Counts) (seen : Seen) (due : Call) (left : List Call) (text : List ℕ) → NoAnswer trace course due (seen_before trace seen due) text IsAnyAnswer
    → NoLine trace (at course counts (Answering seen (due ∷ left))) text
no_answering trace course counts seen due left text never (Answered client call page answer) after later follows is =
    never page answer follows.seen later tt follows.may (is ∙ ap (λ (l : List ℕ). l ++ later) (rw (follows.client_is, follows.call_is) refl))
no_answering trace course counts seen due left text never line after later follows is = absurd follows

-- ---- a poll

row_or : PollRow → Option PollRow → PollRow
row_or default (Some row) = row
row_or default None = default

pub one_row : (o : Option PollRow) (a b : PollRow) → o ≡ Some a → o ≡ Some b → a ≡ b
unfolding row_or
one_row o a b one two = ap (row_or a) (sym one ∙ two)

-- the poll that is next is no other
pub no_polling : (trace : Trace) (course : Course) (counts : Counts) (text : List ℕ) → NoSkip trace course text
    → ((poll stores : ℕ) (after : Standing) (later : List ℕ) → StopsHere trace (at course counts Polling) poll stores after → text ≢ stopped_line poll stores ++ later)
    → ((position page : ℕ) (p : Publication) (after : Standing) (later : List ℕ) → PublishesHere trace (at course counts Polling) position page p after → text ≢ published_line position page p ++ later)
    → NoLine trace (at course counts Polling) text
no_polling trace course counts text no_skip no_stop no_pub (Skipped poll first last) after later follows is =
    no_skip first last later follows.fails (subst (λ (n : ℕ). text ≡ skipped_line n first last ++ later) follows.poll_is is)
no_polling trace course counts text no_skip no_stop no_pub (Stopped poll stores) after later follows is = no_stop poll stores after later follows is
no_polling trace course counts text no_skip no_stop no_pub (Published position page p) after later follows is = no_pub position page p after later follows is
no_polling trace course counts text no_skip no_stop no_pub Header after later follows is = absurd follows
no_polling trace course counts text no_skip no_stop no_pub (Opened poll start) after later follows is = absurd follows
no_polling trace course counts text no_skip no_stop no_pub (Moved poll position generation) after later follows is = absurd follows
no_polling trace course counts text no_skip no_stop no_pub (Answered client call page answer) after later follows is = absurd follows
no_polling trace course counts text no_skip no_stop no_pub (Total c) after later follows is = absurd follows

-- no line stands after the counts
pub no_more : (trace : Trace) (course : Course) (counts : Counts) (text : List ℕ) → NoLine trace (at course counts Finished) text
no_more trace course counts text line after later follows is = follows
