-- Why a poll gives its answer.
use Rattle.std.proofs.Common.{◌≡◌, ℕ, ◌<◌, ◌≤◌, Bool, true, false, Option, Some, None, refl, sym, ap, subst, ◌∙◌, inl, inr, arith}
use Rattle.std.specs.Prelude.{IfSome, IsSome, ◌==◌, if◌then◌else◌, ◌↔◌}
use Rattle.std.proofs.lemmas.Bool.{cases_lt, eqb-true}
use Rattle.std.proofs.lemmas.Bool.Decides.{nat_tests}
use Rattle.clock_gate.specs.declared.act.Act.{Act}
use Rattle.clock_gate.specs.declared.act.Act.TheVariants.{Store}
use Rattle.clock_gate.specs.declared.limits.TheConstants.{MOST_STORES}
use Rattle.seqlock.specs.Tries as tries
use Rattle.seqlock.specs.Tries.{progress, Asks as WantsWord, Ends as HasCome}
use Rattle.vmclock_page.specs.declared.page_seen.PageSeen.{PageSeen}
use Rattle.vmclock_page.specs.declared.page_seen.PageSeen.TheVariants.{Marker, Busy}
use Rattle.vmclock_page.specs.PageRead as page
use Rattle.vmclock_page.specs.PageRead.{page_lock}
use Rattle.segment_layout.specs.declared.publication.Publication.{Publication}
use Rattle.status_machine.specs.declared.daemon.Daemon.{Daemon}
use Rattle.shm_writer.specs.Publisher.{Publishing}
use Rattle.writer_reopen.specs.declared.order.Order.{Order}
use Rattle.writer_reopen.specs.declared.polled.Polled.{Polled}
use Rattle.writer_reopen.specs.declared.polled.Polled.TheVariants.{Published, Skipped, Stopped}
use Rattle.writer_reopen.specs.declared.stage.Stage.{Stage}
use Rattle.writer_reopen.specs.declared.stage.Stage.TheVariants.{Asking, Looking, Taking, Storing}
use Rattle.writer_reopen.specs.declared.stage.Taken.{Taken}
use Rattle.writer_reopen.specs.Progress.{act_of, end_of}
use Rattle.writer_reopen.specs.Poll.{storing_of}
use Rattle.writer_reopen.specs.PollMachine.{Polling, looking_by, stage_progress, polling_act, polling_end, IsUpdate, IsPollStage, stage_entry, entry_of}
use Rattle.writer_reopen.specs.Causes.{IsSkipped, IsStopped, IsPublished}
use Rattle.writer_reopen.proofs.Cut.{end_stopped, end_past_ten, end_published}

if_some : (b : Bool) (x y : Polled) → (if b then Some x else None) ≡ Some y → (b ≡ true) × (x ≡ y)
if_some true x y is = (refl, cc)
if_some false x y is = absurd cc

-- ---- skipped

busy_look : (act : Act) (seen : Option PageSeen) (first last : ℕ) → end_of (looking_by act seen) ≡ Some (Skipped first last) → seen ≡ Some (Busy first last)
busy_look act None first last is = absurd cc
busy_look act (Some (Busy a b)) first last is = cc
busy_look act (Some (Marker marker sequence)) first last is = absurd cc

look_busy : (act : Act) (seen : Option PageSeen) (first last : ℕ) → seen ≡ Some (Busy first last) → end_of (looking_by act seen) ≡ Some (Skipped first last)
look_busy act seen first last is = ap (λ (s : Option PageSeen). end_of (looking_by act s)) is

stores_not_skipped : (order : Order) (taken : Taken) (update : Publishing) (stop : Option ℕ) (first last : ℕ) → IsUpdate order taken update → order.stop ≡ stop → end_of (storing_of order taken update.made) ≡ Some (Skipped first last) → ⊥
stores_not_skipped order taken update None first last is told ended = absurd (cc (if_some (update.made == MOST_STORES) (Published taken.daemon taken.publication) (Skipped first last) (sym (end_published order taken update is told) ∙ ended)).1)
stores_not_skipped order taken update (Some stop) first last is told ended = elim (cases_lt stop 10) [
  | inl below ↦ absurd (cc (if_some (update.made == stop) (Stopped stop) (Skipped first last) (sym (end_stopped order taken update stop is told below) ∙ ended)).1)
  | inr past ↦ absurd (cc (if_some (update.made == MOST_STORES) (Published taken.daemon taken.publication) (Skipped first last) (sym (end_past_ten order taken update stop is told past) ∙ ended)).1)
]

skipped_by : (order : Order) (stage : Stage) (first last : ℕ) → IsPollStage order stage → end_of (stage_progress order stage) ≡ Some (Skipped first last) → IsSkipped stage first last
skipped_by order Asking first last is ended = absurd (cc ended)
skipped_by order (Looking asked read) first last is ended = busy_look (page.act_of read) (page.end_of read) first last ended
skipped_by order (Taking asked seen) first last is ended = absurd (cc ended)
skipped_by order (Storing taken update) first last is ended = stores_not_skipped order taken update order.stop first last is refl ended

skips : (order : Order) (stage : Stage) (first last : ℕ) → IsSkipped stage first last → end_of (stage_progress order stage) ≡ Some (Skipped first last)
skips order Asking first last is = absurd is
skips order (Looking asked read) first last is = look_busy (page.act_of read) (page.end_of read) first last is
skips order (Taking asked seen) first last is = absurd is
skips order (Storing taken update) first last is = absurd is

pub skipped : (p : Polling) (first last : ℕ) → IsPollStage p.order p.stage → (polling_end p ≡ Some (Skipped first last)) ↔ IsSkipped p.stage first last
skipped p first last is = (skipped_by p.order p.stage first last is, skips p.order p.stage first last)

-- ---- stopped

look_not_stopped : (act : Act) (seen : Option PageSeen) (number : ℕ) → end_of (looking_by act seen) ≡ Some (Stopped number) → ⊥
look_not_stopped act None number is = absurd cc
look_not_stopped act (Some (Busy a b)) number is = absurd cc
look_not_stopped act (Some (Marker marker sequence)) number is = absurd cc

stores_stopped : (order : Order) (taken : Taken) (update : Publishing) (stop : Option ℕ) (number : ℕ) → IsUpdate order taken update → order.stop ≡ stop → end_of (storing_of order taken update.made) ≡ Some (Stopped number)
    → (stop ≡ Some number) × ((number < MOST_STORES) × (update.made ≡ number))
stores_stopped order taken update None number is told ended = absurd (cc (if_some (update.made == MOST_STORES) (Published taken.daemon taken.publication) (Stopped number) (sym (end_published order taken update is told) ∙ ended)).1)
stores_stopped order taken update (Some stop) number is told ended = elim (cases_lt stop 10) [
  | inl below ↦
      let found = if_some (update.made == stop) (Stopped stop) (Stopped number) (sym (end_stopped order taken update stop is told below) ∙ ended) in
      let same : stop ≡ number = cc found.1 in
      let made : update.made ≡ stop = eqb-true update.made stop found.0 in
      (ap Some same, (omega arith, omega arith))
  | inr past ↦ absurd (cc (if_some (update.made == MOST_STORES) (Published taken.daemon taken.publication) (Stopped number) (sym (end_past_ten order taken update stop is told past) ∙ ended)).1)
]

stopped_by : (order : Order) (stage : Stage) (number : ℕ) → IsPollStage order stage → end_of (stage_progress order stage) ≡ Some (Stopped number) → IsStopped order stage number
stopped_by order Asking number is ended = absurd (cc ended)
stopped_by order (Looking asked read) number is ended = look_not_stopped (page.act_of read) (page.end_of read) number ended
stopped_by order (Taking asked seen) number is ended = absurd (cc ended)
stopped_by order (Storing taken update) number is ended = stores_stopped order taken update order.stop number is refl ended

stops : (order : Order) (stage : Stage) (number : ℕ) → IsPollStage order stage → IsStopped order stage number → end_of (stage_progress order stage) ≡ Some (Stopped number)
stops order Asking number is stopped_ = absurd stopped_
stops order (Looking asked read) number is stopped_ = absurd stopped_
stops order (Taking asked seen) number is stopped_ = absurd stopped_
stops order (Storing taken update) number is stopped_ =
    let below : number < 10 = stopped_.1.0 in
    let made : update.made ≡ number = stopped_.1.1 in
    let test : (update.made == number) ≡ true = grind (arith, nat_tests) in
    end_stopped order taken update number is stopped_.0 below ∙ ap (λ (b : Bool). if b then Some (Stopped number) else None) test

pub stopped : (p : Polling) (number : ℕ) → IsPollStage p.order p.stage → (polling_end p ≡ Some (Stopped number)) ↔ IsStopped p.order p.stage number
stopped p number is = (stopped_by p.order p.stage number is, stops p.order p.stage number is)

-- ---- published

look_not_published : (act : Act) (seen : Option PageSeen) (daemon : Daemon) (publication : Publication) → end_of (looking_by act seen) ≡ Some (Published daemon publication) → ⊥
look_not_published act None daemon publication is = absurd cc
look_not_published act (Some (Busy a b)) daemon publication is = absurd cc
look_not_published act (Some (Marker marker sequence)) daemon publication is = absurd cc

told_published : (taken : Taken) (daemon : Daemon) (publication : Publication) → Published taken.daemon taken.publication ≡ Published daemon publication → (taken.daemon ≡ daemon) × (taken.publication ≡ publication)
told_published taken daemon publication same = (cc same, cc same)

made_all : (update : Publishing) (taken : Taken) (daemon : Daemon) (publication : Publication) → (if update.made == MOST_STORES then Some (Published taken.daemon taken.publication) else None) ≡ Some (Published daemon publication)
    → (update.made ≡ MOST_STORES) × ((taken.daemon ≡ daemon) × (taken.publication ≡ publication))
made_all update taken daemon publication ended =
    let found = if_some (update.made == MOST_STORES) (Published taken.daemon taken.publication) (Published daemon publication) ended in
    (eqb-true update.made MOST_STORES found.0, told_published taken daemon publication found.1)

stores_published : (order : Order) (taken : Taken) (update : Publishing) (stop : Option ℕ) (daemon : Daemon) (publication : Publication) → IsUpdate order taken update → order.stop ≡ stop
    → end_of (storing_of order taken update.made) ≡ Some (Published daemon publication) → (update.made ≡ MOST_STORES) × ((taken.daemon ≡ daemon) × (taken.publication ≡ publication))
stores_published order taken update None daemon publication is told ended = made_all update taken daemon publication (sym (end_published order taken update is told) ∙ ended)
stores_published order taken update (Some stop) daemon publication is told ended = elim (cases_lt stop 10) [
  | inl below ↦ absurd (cc (if_some (update.made == stop) (Stopped stop) (Published daemon publication) (sym (end_stopped order taken update stop is told below) ∙ ended)).1)
  | inr past ↦ made_all update taken daemon publication (sym (end_past_ten order taken update stop is told past) ∙ ended)
]

published_by : (order : Order) (stage : Stage) (daemon : Daemon) (publication : Publication) → IsPollStage order stage → end_of (stage_progress order stage) ≡ Some (Published daemon publication) → IsPublished stage daemon publication
published_by order Asking daemon publication is ended = absurd (cc ended)
published_by order (Looking asked read) daemon publication is ended = look_not_published (page.act_of read) (page.end_of read) daemon publication ended
published_by order (Taking asked seen) daemon publication is ended = absurd (cc ended)
published_by order (Storing taken update) daemon publication is ended = stores_published order taken update order.stop daemon publication is refl ended

all_stored : (order : Order) (taken : Taken) (update : Publishing) (stop : Option ℕ) → IsUpdate order taken update → order.stop ≡ stop → update.made ≡ MOST_STORES
    → end_of (storing_of order taken update.made) ≡ Some (Published taken.daemon taken.publication)
all_stored order taken update None is told all =
    let test : (update.made == MOST_STORES) ≡ true = grind (arith, nat_tests) in
    end_published order taken update is told ∙ ap (λ (b : Bool). if b then Some (Published taken.daemon taken.publication) else None) test
all_stored order taken update (Some stop) is told all =
    let test : (update.made == MOST_STORES) ≡ true = grind (arith, nat_tests) in
    let within : update.made ≤ stop = subst (λ (s : Option ℕ). IfSome s (λ n. update.made ≤ n)) told is.until in
    end_past_ten order taken update stop is told (omega arith) ∙ ap (λ (b : Bool). if b then Some (Published taken.daemon taken.publication) else None) test

publishes : (order : Order) (stage : Stage) (daemon : Daemon) (publication : Publication) → IsPollStage order stage → IsPublished stage daemon publication → end_of (stage_progress order stage) ≡ Some (Published daemon publication)
publishes order Asking daemon publication is all = absurd all
publishes order (Looking asked read) daemon publication is all = absurd all
publishes order (Taking asked seen) daemon publication is all = absurd all
publishes order (Storing taken update) daemon publication is all =
    all_stored order taken update order.stop is refl all.0
    ∙ ap (λ (d : Daemon). Some (Published d taken.publication)) all.1.0
    ∙ ap (λ (e : Publication). Some (Published daemon e)) all.1.1

pub published : (p : Polling) (daemon : Daemon) (publication : Publication) → IsPollStage p.order p.stage → (polling_end p ≡ Some (Published daemon publication)) ↔ IsPublished p.stage daemon publication
published p daemon publication is = (published_by p.order p.stage daemon publication is, publishes p.order p.stage daemon publication is)

-- ---- stores

read_loads : (at : tries.Progress) (word value : ℕ) → tries.act_of at ≡ Store word value → ⊥
read_loads (WantsWord w) word value stores_ = absurd (cc stores_)
read_loads (HasCome outcome) word value stores_ = absurd (cc stores_)

look_loads : (act : Act) (seen : Option PageSeen) (word value : ℕ) → act_of (looking_by act seen) ≡ Store word value → act ≡ Store word value
look_loads act None word value stores_ = stores_
look_loads act (Some (Busy first last)) word value stores_ = absurd (cc stores_)
look_loads act (Some (Marker marker sequence)) word value stores_ = absurd (cc stores_)

late_at : (order : Order) (stage : Stage) (word value : ℕ) → act_of (stage_progress order stage) ≡ Store word value → IsSome (stage_entry stage)
late_at order Asking word value stores_ = absurd (cc stores_)
late_at order (Looking asked read) word value stores_ = absurd (read_loads (progress page_lock read) word value (look_loads (page.act_of read) (page.end_of read) word value stores_))
late_at order (Taking asked seen) word value stores_ = absurd (cc stores_)
late_at order (Storing taken update) word value stores_ = refl

pub stores_late : (p : Polling) (word value : ℕ) → IsPollStage p.order p.stage → polling_act p ≡ Store word value → IsSome (entry_of p)
stores_late p word value is stores_ = late_at p.order p.stage word value stores_
