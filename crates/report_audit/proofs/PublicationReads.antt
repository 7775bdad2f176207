-- The numbers of the line of a publication, and what it publishes.
use Rattle.std.proofs.Common.{◌≡◌, ℕ, ◌+◌, ◌/◌, ◌^◌, ◌<◌, ◌≤◌, List, ◌∷◌, ◌++◌, length, Option, Some, None, refl, sym, ap, ◌∙◌, arith}
use Rattle.std.specs.Prelude.{slice_index, is_some, IfSome}
use Rattle.std.proofs.lemmas.Option.{slice_get-get_or}
use Rattle.clock_gate.specs.declared.limits.TheConstants.{MOST_HOST_ROWS}
use Rattle.clock_gate.specs.declared.trace.HostRow.{HostRow}
use Rattle.clock_gate.specs.declared.trace.PollRow.{PollRow}
use Rattle.clock_gate.specs.declared.trace.Trace.{Trace}
use Rattle.generation_word.specs.declared.layout.Layout.{Layout}
use Rattle.generation_word.specs.Layout.{period_of}
use Rattle.generation_word.specs.Numbering.{generation_at}
use Rattle.generation_word.proofs.Laws.{generation_at_most}
use Rattle.segment_layout.specs.declared.publication.Publication.{Publication}
use Rattle.segment_layout.specs.Record.{RecordFields}
use Rattle.status_machine.specs.declared.daemon.Daemon.{Daemon}
use Rattle.status_machine.specs.Incarnation.{record_at, base_at}
use Rattle.status_machine.specs.Poll.{BaseFits}
use Rattle.lawful_report.specs.declared.entry.Entry.{Entry}
use Rattle.status_machine.specs.Base.{base_number}
use Rattle.lawful_report.specs.Course.{Course, Life, poll_at, IsPublished}
use Rattle.lawful_report.specs.Pages.{last_page, marker_of_page, marker_from, row_markers}
use Rattle.lawful_report.specs.Lines.{published_line, published_place, published_rows, published_base}
use Rattle.report_audit.specs.Auditor.{ShowsCourse}
use Rattle.report_audit.specs.declared.progress.Progress.{Progress}
use Rattle.report_audit.specs.FoundLines.{RowsFit, Publishes, Polled}
use Rattle.report_audit.specs.Numbers.{numbers_in}
use Rattle.report_audit.proofs.LineNumbers.{ReadsRows, published_six}
use Rattle.report_audit.proofs.SmallNumbers.{period_some, period_most}

-- the numbers of a generation have 32 bits
pub generation_small : (layout : Layout) (position : ℕ) → generation_at (period_of layout) position < 2 ^ 32
generation_small layout position = omega (arith, generation_at_most (period_of layout) position (period_some layout), period_most layout)

pub record PublicationReads (course : Course) (rows last : ℕ) (text : List ℕ) (page : ℕ) (p : Publication) : Type 0 where
  pub reads : ReadsRows (numbers_in 6 text) p.asked page p.replied
  pub asked_small : p.asked < 2 ^ 32
  pub page_small : page < 2 ^ 32
  pub replied_small : p.replied < 2 ^ 32
  pub place : RowsFit course.row course.page rows last p.asked page p.replied

pub publication_reads : (trace : Trace) (course : Course) (life : Life) (row : PollRow) (rows last position page : ℕ) (p : Publication) (text later : List ℕ)
    → course.point < 2 ^ 34 → course.polled ≤ 100000 → length trace.clock ≡ rows → length trace.clock ≤ MOST_HOST_ROWS → last_page trace ≡ last → last < 2 ^ 31
    → IsPublished trace course life row position page p → text ≡ published_line position page p ++ later → PublicationReads course rows last text page p
publication_reads trace course life row rows last position page p text later point polled rows_are few last_is last_small is begins =
    let replied : p.replied < 2 ^ 32 = omega (arith, is.done, few) in
    let asked : p.asked < 2 ^ 32 = omega (arith, replied, is.replied) in
    let page_less : page < 2 ^ 32 = omega (arith, is.page_done, last_is, last_small) in
    let generation : p.generation < 2 ^ 64 = omega (arith, is.generation, generation_small trace.layout (course.point / 2 + 1)) in
    record {
      reads = published_six position page p text later (omega (arith, is.position_is, point)) (omega (arith, is.poll, polled)) generation (omega (arith, asked)) (omega (arith, page_less)) (omega (arith, replied)) begins;
      asked_small = asked;
      page_small = page_less;
      replied_small = replied;
      place = record { asked_kept = is.asked; order = is.replied; done = omega (arith, is.done, rows_are); page_kept = is.page_kept; page_done = omega (arith, is.page_done, last_is) };
    }

same_two : {X : Type 0} (f : ℕ → ℕ → X) (a b c d : ℕ) → a ≡ b → c ≡ d → f a c ≡ f b d
same_two f a b c d one two = rw (one, two) refl

-- the line tells all of a publication but its sequence count
line_alike : (position place page other : ℕ) (p q : Publication) → position ≡ place → page ≡ other → p.poll ≡ q.poll → p.generation ≡ q.generation → p.asked ≡ q.asked → p.replied ≡ q.replied → p.rec ≡ q.rec → p.base ≡ q.base
    → published_line position page p ≡ published_line place other q
unfolding published_line published_place published_rows published_base
line_alike position place page other p q positions pages polls generations asks replies recs bases = rw (positions, pages, polls, generations, asks, replies, recs, bases) refl

-- the publication that is made for these rows
abbrev pub made : (poll generation asked replied base : ℕ) → RecordFields → Publication
made poll generation asked replied base rec = record { poll = poll; generation = generation; asked = asked; sequence = 0; replied = replied; base = base; rec = rec }

pub one_publication : (trace : Trace) (course : Course) (life : Life) (row : PollRow) (progress : Progress) (daemon : Daemon) (position place page other poll generation asked replied base : ℕ) (rec : RecordFields) (p : Publication)
    → ShowsCourse course progress → IsPublished trace course life row position page p → Polled trace course life row asked other rec base daemon
    → asked ≡ p.asked → other ≡ page → replied ≡ p.replied → poll ≡ progress.polled + 1 → place ≡ progress.point / 2 + 1 → generation ≡ generation_at (period_of trace.layout) place
    → published_line position page p ≡ published_line place other (made poll generation asked replied base rec)
one_publication trace course life row progress daemon position place page other poll generation asked replied base rec p shows is polled asks pages replies polls places generations =
    let half : course.point / 2 + 1 ≡ place = ap (λ (n : ℕ). n / 2 + 1) shows.point_is ∙ sym places in
    line_alike position place page other p (made poll generation asked replied base rec) (is.position_is ∙ half) (sym pages)
    (is.poll ∙ (ap (λ (n : ℕ). n + 1) shows.polled ∙ sym polls))
    (is.generation ∙ (ap (λ (n : ℕ). generation_at (period_of trace.layout) n) half ∙ sym generations))
    (sym asks) (sym replies)
    (is.rec ∙ (same_two (λ a g. record_at life.from (poll_at trace course a g row) life.past) p.asked asked page other (sym asks) (sym pages) ∙ sym polled.rec_is))
    (is.base ∙ (same_two (λ a g. base_number (base_at life.from (poll_at trace course a g row ∷ life.past))) p.asked asked page other (sym asks) (sym pages) ∙ sym polled.base_is))

abbrev entry_with : RecordFields → ℕ → ℕ → ℕ → Entry
entry_with rec replied page base = record { rec = rec; replied = replied; page = page; base = base }

same_entry : (r s : RecordFields) (a b replied page : ℕ) → r ≡ s → a ≡ b → entry_with r replied page a ≡ entry_with s replied page b
same_entry r s a b replied page recs bases = rw (recs, bases) refl

pub published_found : (trace : Trace) (course : Course) (life : Life) (row : PollRow) (progress : Progress) (daemon : Daemon) (rows last place page poll generation asked replied base : ℕ) (rec : RecordFields) (text later : List ℕ)
    → ShowsCourse course progress → length trace.clock ≡ rows → last_page trace ≡ last → RowsFit progress.row progress.page rows last asked page replied
    → Polled trace course life row asked page rec base daemon → IfSome daemon.base BaseFits
    → poll ≡ progress.polled + 1 → place ≡ progress.point / 2 + 1 → generation ≡ generation_at (period_of trace.layout) place
    → text ≡ published_line place page (made poll generation asked replied base rec) ++ later
    → Publishes trace course life row text (record { rec = rec; replied = replied; page = page; base = base }) daemon later
published_found trace course life row progress daemon rows last place page poll generation asked replied base rec text later shows rows_are last_is fit polled fits polls places generations begins =
    let half : place ≡ course.point / 2 + 1 = places ∙ ap (λ (n : ℕ). n / 2 + 1) (sym shows.point_is) in
    record {
      position = place;
      page = page;
      publication = made poll generation asked replied base rec;
      is = record {
        position_is = half;
        poll = polls ∙ ap (λ (n : ℕ). n + 1) (sym shows.polled);
        generation = generations ∙ ap (λ (n : ℕ). generation_at (period_of trace.layout) n) half;
        asked = omega (arith, fit.asked_kept, shows.row_is);
        replied = fit.order;
        done = omega (arith, fit.done, rows_are);
        page_kept = omega (arith, fit.page_kept, shows.page_is);
        page_done = omega (arith, fit.page_done, last_is);
        rec = polled.rec_is;
        base = polled.base_is;
      };
      begins = begins;
      entry_is = same_entry rec (record_at life.from (poll_at trace course asked page row) life.past) base (base_number (base_at life.from (poll_at trace course asked page row ∷ life.past))) replied page polled.rec_is polled.base_is;
      shows = polled.shows;
      base = fits;
    }

marked : (start : Option (List ℕ)) (host : List HostRow) (page : ℕ) → page ≤ length (row_markers host) → is_some (marker_from start host page) ≡ is_some start
marked None host page most = refl
marked (Some start) host page most = ap (λ (o : Option ℕ). is_some o) (slice_get-get_or (slice_index start 2 ∷ row_markers host) page 0 (omega (arith, most)))

-- a page up to the last has a marker where there is a page
pub marker_there : (trace : Trace) (page : ℕ) → page ≤ last_page trace → is_some (marker_of_page trace page) ≡ is_some trace.page
marker_there trace page most = marked trace.page trace.host page most
