-- That no answer of a kind begins a text, said by what answers of that kind are.
use Rattle.std.proofs.Common.{◌≡◌, ℕ, List, ◌++◌, Option, Some, None, Result, Ok, Err, Bor, ap, subst, ◌∙◌}
use Rattle.std.specs.Prelude.{IfOk}
use Rattle.clock_gate.specs.declared.trace.Trace.{Trace}
use Rattle.interval_now.specs.declared.answers.Answer.{Answer}
use Rattle.interval_now.specs.declared.answers.Answer.TheVariants.{Time, Busy, NotInitialized, PageBusy, Causality as Early}
use Rattle.interval_now.specs.declared.answers.Causality.{Causality}
use Rattle.interval_now.specs.declared.answers.Timed.{Timed}
use Rattle.lawful_report.specs.declared.call.Call.{Call}
use Rattle.lawful_report.specs.declared.seen.Seen.{Seen}
use Rattle.lawful_report.specs.Course.{Course}
use Rattle.lawful_report.specs.Calls.{IsTime, IsBusy, IsPageBusy, IsEarly}
use Rattle.lawful_report.specs.Lines.{answered_line}
use Rattle.report_audit.specs.FoundLines.{NoAnswer, AnswerFound, IsTimeAnswer, IsBusyAnswer, IsNothingAnswer, IsPageBusyAnswer, IsEarlyAnswer, IsAnyAnswer}
use Rattle.report_audit.proofs.PageFree.{busy_on, page_busy_on, early_on}

on : (line other later text : List ℕ) → line ≡ other → text ≡ line ++ later → text ≡ other ++ later
on line other later text same is = is ∙ ap (λ (l : List ℕ). l ++ later) same

pub no_busy : (trace : Trace) (course : Course) (call : Call) (seen : Seen) (text : List ℕ)
    → ((first last : ℕ) (after : Seen) (later : List ℕ) → IsBusy trace course seen first last after → text ≡ answered_line call.client call.number 0 (Busy call.tries first last) ++ later → ⊥)
    → NoAnswer trace course call seen text IsBusyAnswer
no_busy trace course call seen text never page (Busy said first last) after later kind may begins =
    let begins_so : text ≡ answered_line call.client call.number page (Busy call.tries first last) ++ later = subst (λ (n : ℕ). text ≡ answered_line call.client call.number page (Busy n first last) ++ later) may.0 begins in
    never first last after later may.1 (on (answered_line call.client call.number page (Busy call.tries first last)) (answered_line call.client call.number 0 (Busy call.tries first last)) later text (busy_on call.client call.number page call.tries first last) begins_so)
no_busy trace course call seen text never page (Time timed) after later kind may begins = kind
no_busy trace course call seen text never page NotInitialized after later kind may begins = kind
no_busy trace course call seen text never page (PageBusy first last) after later kind may begins = kind
no_busy trace course call seen text never page (Early causality) after later kind may begins = kind

pub no_page_busy : (trace : Trace) (course : Course) (call : Call) (seen : Seen) (text : List ℕ)
    → ((first last : ℕ) (after : Seen) (later : List ℕ) → IsPageBusy trace seen first last after → text ≡ answered_line call.client call.number 0 (PageBusy first last) ++ later → ⊥)
    → NoAnswer trace course call seen text IsPageBusyAnswer
no_page_busy trace course call seen text never page (PageBusy first last) after later kind may begins =
    never first last after later may (on (answered_line call.client call.number page (PageBusy first last)) (answered_line call.client call.number 0 (PageBusy first last)) later text (page_busy_on call.client call.number page first last) begins)
no_page_busy trace course call seen text never page (Time timed) after later kind may begins = kind
no_page_busy trace course call seen text never page (Busy tries first last) after later kind may begins = kind
no_page_busy trace course call seen text never page NotInitialized after later kind may begins = kind
no_page_busy trace course call seen text never page (Early causality) after later kind may begins = kind

pub no_early : (trace : Trace) (course : Course) (call : Call) (seen : Seen) (text : List ℕ)
    → ((causality : Causality) (after : Seen) (later : List ℕ) → IsEarly trace course seen causality after → text ≡ answered_line call.client call.number 0 (Early causality) ++ later → ⊥)
    → NoAnswer trace course call seen text IsEarlyAnswer
no_early trace course call seen text never page (Early causality) after later kind may begins =
    never causality after later may (on (answered_line call.client call.number page (Early causality)) (answered_line call.client call.number 0 (Early causality)) later text (early_on call.client call.number page causality) begins)
no_early trace course call seen text never page (Time timed) after later kind may begins = kind
no_early trace course call seen text never page (Busy tries first last) after later kind may begins = kind
no_early trace course call seen text never page NotInitialized after later kind may begins = kind
no_early trace course call seen text never page (PageBusy first last) after later kind may begins = kind

pub no_time : (trace : Trace) (course : Course) (call : Call) (seen : Seen) (text : List ℕ)
    → ((page : ℕ) (timed : Timed) (after : Seen) (later : List ℕ) → IsTime trace course seen page timed after → text ≡ answered_line call.client call.number page (Time timed) ++ later → ⊥)
    → NoAnswer trace course call seen text IsTimeAnswer
no_time trace course call seen text never page (Time timed) after later kind may begins = never page timed after later may begins
no_time trace course call seen text never page (Early causality) after later kind may begins = kind
no_time trace course call seen text never page (Busy tries first last) after later kind may begins = kind
no_time trace course call seen text never page NotInitialized after later kind may begins = kind
no_time trace course call seen text never page (PageBusy first last) after later kind may begins = kind

-- none of the five kinds is none at all
pub no_answer : (trace : Trace) (course : Course) (call : Call) (seen : Seen) (text : List ℕ)
    → NoAnswer trace course call seen text IsTimeAnswer → NoAnswer trace course call seen text IsEarlyAnswer → NoAnswer trace course call seen text IsBusyAnswer
    → NoAnswer trace course call seen text IsPageBusyAnswer → NoAnswer trace course call seen text IsNothingAnswer → NoAnswer trace course call seen text IsAnyAnswer
no_answer trace course call seen text time early busy page_busy nothing page (Time timed) after later kind may begins = time page (Time timed) after later tt may begins
no_answer trace course call seen text time early busy page_busy nothing page (Early causality) after later kind may begins = early page (Early causality) after later tt may begins
no_answer trace course call seen text time early busy page_busy nothing page (Busy tries first last) after later kind may begins = busy page (Busy tries first last) after later tt may begins
no_answer trace course call seen text time early busy page_busy nothing page (PageBusy first last) after later kind may begins = page_busy page (PageBusy first last) after later tt may begins
no_answer trace course call seen text time early busy page_busy nothing page NotInitialized after later kind may begins = nothing page NotInitialized after later tt may begins

any_found : (trace : Trace) (course : Course) (call : Call) (seen : Seen) (text : List ℕ) (found : Option (Seen × Answer × Bor (List ℕ)))
    → NoAnswer trace course call seen text IsTimeAnswer → NoAnswer trace course call seen text IsBusyAnswer → NoAnswer trace course call seen text IsPageBusyAnswer → NoAnswer trace course call seen text IsNothingAnswer
    → AnswerFound trace course call seen text IsEarlyAnswer found → AnswerFound trace course call seen text IsAnyAnswer found
any_found trace course call seen text None time busy page_busy nothing early = no_answer trace course call seen text time early busy page_busy nothing
any_found trace course call seen text (Some one) time busy page_busy nothing early = early

-- what the last kind gives is any answer, where no other kind begins the text
pub last_kind : {E : Type 0} (trace : Trace) (call : Call) (seen : Seen) (text : List ℕ) (Shows : Course → Type 0) (result : Result (Option (Seen × Answer × Bor (List ℕ))) E)
    → ((course : Course) → Shows course → NoAnswer trace course call seen text IsTimeAnswer) → ((course : Course) → Shows course → NoAnswer trace course call seen text IsBusyAnswer)
    → ((course : Course) → Shows course → NoAnswer trace course call seen text IsPageBusyAnswer) → ((course : Course) → Shows course → NoAnswer trace course call seen text IsNothingAnswer)
    → IfOk result (λ found. (course : Course) → Shows course → AnswerFound trace course call seen text IsEarlyAnswer found)
    → IfOk result (λ found. (course : Course) → Shows course → AnswerFound trace course call seen text IsAnyAnswer found)
last_kind trace call seen text Shows (Ok found) time busy page_busy nothing early = λ course shows. any_found trace course call seen text found (time course shows) (busy course shows) (page_busy course shows) (nothing course shows) (early course shows)
last_kind trace call seen text Shows (Err e) time busy page_busy nothing early = tt
