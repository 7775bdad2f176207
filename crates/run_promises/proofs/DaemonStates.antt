-- What the daemon and the segment have of markers and bases, and that it stays as other events come.
use Rattle.std.proofs.Common.{◌≡◌, ℕ, ◌+◌, ◌<◌, ◌≤◌, Bool, true, false, List, ◌∷◌, ◌++◌, length, Option, Some, None, is_some, ap, sym, ◌∙◌}
use Rattle.std.specs.Prelude.{◌==◌, if◌then◌else◌}
use Rattle.generation_word.specs.declared.layout.Layout.{Layout}
use Rattle.clock_gate.specs.declared.trace.Trace.{Trace}
use Rattle.segment_layout.specs.declared.publication.Publication.{Publication}
use Rattle.segment_layout.specs.declared.start.Start.{Start}
use Rattle.segment_layout.specs.declared.start.Start.TheVariants.{Fresh, Kept, Torn}
use Rattle.segment_layout.specs.Record.{RecordFields}
use Rattle.status_machine.specs.declared.base.Base.{Base}
use Rattle.status_machine.specs.Incarnation.{base_at}
use Rattle.status_machine.proofs.BaseMarker.{marker_before}
use Rattle.segment_run.specs.SegmentRun.{SegmentRun}
use Rattle.abstract_run.specs.declared.event.Event.{Event}
use Rattle.abstract_run.specs.declared.event.Event.TheVariants.{Published}
use Rattle.abstract_run.specs.HostRun.{HostRun, marker_at}
use Rattle.abstract_run.specs.DaemonRun.{Life, Work, Resting, Opening, Asking, Looking, Taking, Writing, DaemonRun}
use Rattle.abstract_run.specs.RunFacts.{PublishedEvent, told_at, told_by}
use Rattle.run_promises.specs.Told.{IsMarked, IsMarkOf, KeepsMarker, AllMarked, IsFresh, KnowsPoll}
use Rattle.run_promises.proofs.Marks.{BaseMarked, LifeMarked, LifeKnown}
use Rattle.run_promises.proofs.PageReads.{LookFits}
use Rattle.run_promises.proofs.Segments.{entry_at, AllStand}

-- ---- the segment

-- the marker that a record names
abbrev pub named_marker : RecordFields → Option ℕ
named_marker rec = if rec.support then Some rec.marker else None

-- a later segment
pub record Later (layout next_layout : Layout) (base next_base : ℕ) (history next_history : List Publication) : Type 0 where
  pub same_layout : next_layout ≡ layout
  pub same_base : next_base ≡ base
  pub more : List Publication
  pub longer : next_history ≡ history ++ more

-- the segment among these events, where this is the base number of the last publication
pub record SegmentMarked (trace : Trace) (past : List Event) (number base position : ℕ) (is_headed : Bool) (history : List Publication) : Type 0 where
  pub known : length history + base ≡ position
  pub stand : AllStand base history past
  pub top : (entry_at base history position).base ≡ number
  pub fresh : is_headed ≡ false → number ≡ 0
  pub unheaded : IsFresh trace → is_headed ≡ false → position ≡ 0
  pub knows : IsFresh trace → KnowsPoll (entry_at base history position).rec.status number
  -- a record that no publication made has no base of a poll
  pub others : (n : ℕ) → base < n → n ≤ position → told_at n past ≡ None → (entry_at base history n).base ≡ 0
  pub last : KeepsMarker trace past number (entry_at base history position).rec.status (named_marker (entry_at base history position).rec)

-- ---- the daemon

abbrev pub LifeOf : Trace → List Event → Option Life → Type 0
LifeOf trace past None = Unit {0}
LifeOf trace past (Some life) =
    (life.from.support ≡ is_some trace.page) × (life.from.drift ≡ trace.drift) × LifeMarked trace past life × (IsFresh trace → LifeKnown life)

abbrev pub StartMarked : Trace → List Event → ℕ → Start → Type 0
StartMarked trace past number Fresh = Unit {0}
StartMarked trace past number (Torn generation) = Unit {0}
StartMarked trace past number (Kept generation rec) = KeepsMarker trace past number rec.status (named_marker rec) × (IsFresh trace → KnowsPoll rec.status number)

abbrev pub is_kept : Start → Bool
is_kept Fresh = false
is_kept (Torn generation) = false
is_kept (Kept generation rec) = true

-- an old header stands where no poll gave the base, and over no record but the image's
pub record OldFits (trace : Trace) (number : ℕ) (start : Start) (old : Bool) : Type 0 where
  pub plain : old ≡ true → number ≡ 0
  pub image : IsFresh trace → old ≡ true → is_kept start ≡ false

-- a publication in hand, as it will stand among the events
pub record WritingMarked (trace : Trace) (past : List Event) (publication : Publication) (marked_at replied_at : ℕ) (life : Option Life) : Type 0 where
  pub begun : 0 < replied_at
  pub marked : IsMarked trace publication.rec marked_at
  pub keeps : (position : ℕ) → KeepsMarker trace (Published position publication marked_at replied_at ∷ past) publication.base publication.rec.status (marker_at trace marked_at)
  pub lives : (position : ℕ) → LifeOf trace (Published position publication marked_at replied_at ∷ past) life
  pub numbered : 0 < publication.poll
  pub among : publication.poll ≤ length trace.polls
  pub knows : IsFresh trace → KnowsPoll publication.rec.status publication.base

abbrev pub WorkMarked : Trace → HostRun → (is_headed : Bool) → List Event → Option Life → ℕ → Work → Type 0
WorkMarked trace host is_headed past life number Resting = LifeOf trace past life
WorkMarked trace host is_headed past life number (Opening start old steps) = StartMarked trace past number start × OldFits trace number start old
WorkMarked trace host is_headed past life number Asking = LifeOf trace past life
WorkMarked trace host is_headed past life number (Looking row reading marked_at) =
    LifeOf trace past life × (is_some trace.page ≡ true) × LookFits trace.host host marked_at reading.try
WorkMarked trace host is_headed past life number (Taking asked) = LifeOf trace past life × (asked.marker ≡ marker_at trace asked.marked_at)
WorkMarked trace host is_headed past life number (Writing storing) =
    WritingMarked trace past storing.publication storing.marked_at storing.replied_at life × (0 < storing.stores → is_headed ≡ true)

pub record DaemonMarked (trace : Trace) (host : HostRun) (segment : SegmentRun) (daemon : DaemonRun) (past : List Event) : Type 0 where
  pub stands : SegmentMarked trace past daemon.base segment.base segment.position segment.is_headed segment.history
  pub work : WorkMarked trace host segment.is_headed past daemon.life daemon.base daemon.work
  pub all : AllMarked trace past

-- ---- more events of other kinds

-- the same publications are told
pub record AreSame (past more : List Event) : Type 0 where
  pub by : (n : ℕ) → told_by n more ≡ told_by n past
  pub at : (n : ℕ) → told_at n more ≡ told_at n past

pub mark_same : (trace : Trace) (past more : List Event) (poll : ℕ) (marker : Option ℕ) → AreSame past more → IsMarkOf trace past poll marker → IsMarkOf trace more poll marker
mark_same trace past more poll marker same is = record { told = is.told; found = same.by poll ∙ is.found; same = is.same }

pub base_same : (trace : Trace) (past more : List Event) (base : Option Base) (marker : Option ℕ) → AreSame past more → BaseMarked trace past base marker → BaseMarked trace more base marker
base_same trace past more None marker same is = tt
base_same trace past more (Some base) marker same is = λ some. mark_same trace past more base.poll marker same (is some)

pub life_same : (trace : Trace) (past more : List Event) (life : Option Life) → AreSame past more → LifeOf trace past life → LifeOf trace more life
life_same trace past more None same is = tt
life_same trace past more (Some life) same is =
    (is.0, is.1, λ calm. base_same trace past more (base_at life.from life.past) (marker_before life.from.start life.past) same (is.2 calm), is.3)

pub start_same : (trace : Trace) (past more : List Event) (number : ℕ) (begins : Start) → AreSame past more → StartMarked trace past number begins → StartMarked trace more number begins
start_same trace past more number Fresh same is = tt
start_same trace past more number (Torn generation) same is = tt
start_same trace past more number (Kept generation rec) same is = (λ some calm. mark_same trace past more number (named_marker rec) same (is.0 some calm), is.1)

published_same : (past more : List Event) (position : ℕ) (publication : Publication) (marked_at replied_at : ℕ) → AreSame past more
    → AreSame (Published position publication marked_at replied_at ∷ past) (Published position publication marked_at replied_at ∷ more)
published_same past more position publication marked_at replied_at same =
    let one : PublishedEvent = record { position = position; publication = publication; marked_at = marked_at; replied_at = replied_at } in
    record {
      by = λ n. ap (λ (o : Option PublishedEvent). if publication.poll == n then Some one else o) (same.by n);
      at = λ n. ap (λ (o : Option PublishedEvent). if position == n then Some one else o) (same.at n);
    }

writing_same : (trace : Trace) (past more : List Event) (publication : Publication) (marked_at replied_at : ℕ) (life : Option Life) → AreSame past more
    → WritingMarked trace past publication marked_at replied_at life → WritingMarked trace more publication marked_at replied_at life
writing_same trace past more publication marked_at replied_at life same is =
    record {
      begun = is.begun;
      marked = is.marked;
      keeps = λ position some calm.
          mark_same trace (Published position publication marked_at replied_at ∷ past) (Published position publication marked_at replied_at ∷ more) publication.base (marker_at trace marked_at)
          (published_same past more position publication marked_at replied_at same) (is.keeps position some calm);
      lives = λ position.
          life_same trace (Published position publication marked_at replied_at ∷ past) (Published position publication marked_at replied_at ∷ more) life
          (published_same past more position publication marked_at replied_at same) (is.lives position);
      numbered = is.numbered;
      among = is.among;
      knows = is.knows;
    }

work_same : (trace : Trace) (host : HostRun) (is_headed : Bool) (past more : List Event) (life : Option Life) (number : ℕ) (work : Work) → AreSame past more
    → WorkMarked trace host is_headed past life number work → WorkMarked trace host is_headed more life number work
work_same trace host is_headed past more life number Resting same is = life_same trace past more life same is
work_same trace host is_headed past more life number (Opening begins old steps) same is = (start_same trace past more number begins same is.0, is.1)
work_same trace host is_headed past more life number Asking same is = life_same trace past more life same is
work_same trace host is_headed past more life number (Looking row reading marked_at) same is = (life_same trace past more life same is.0, is.1, is.2)
work_same trace host is_headed past more life number (Taking asked) same is = (life_same trace past more life same is.0, is.1)
work_same trace host is_headed past more life number (Writing storing) same is =
    (writing_same trace past more storing.publication storing.marked_at storing.replied_at life same is.0, is.1)

pub segment_same : (trace : Trace) (past more : List Event) (number base position : ℕ) (is_headed : Bool) (history : List Publication) → AreSame past more → AllStand base history more
    → SegmentMarked trace past number base position is_headed history → SegmentMarked trace more number base position is_headed history
segment_same trace past more number base position is_headed history same stand is =
    record {
      known = is.known;
      stand = stand;
      top = is.top;
      fresh = is.fresh;
      unheaded = is.unheaded;
      knows = is.knows;
      others = λ n low high none. is.others n low high (sym (same.at n) ∙ none);
      last = λ some calm. mark_same trace past more number (named_marker (entry_at base history position).rec) same (is.last some calm);
    }

pub daemon_same : (trace : Trace) (host : HostRun) (segment : SegmentRun) (daemon : DaemonRun) (past more : List Event) → AreSame past more → AllStand segment.base segment.history more → AllMarked trace more
    → DaemonMarked trace host segment daemon past → DaemonMarked trace host segment daemon more
daemon_same trace host segment daemon past more same stand all is =
    record {
      stands = segment_same trace past more daemon.base segment.base segment.position segment.is_headed segment.history same stand is.stands;
      work = work_same trace host segment.is_headed past more daemon.life daemon.base daemon.work same is.work;
      all = all;
    }
