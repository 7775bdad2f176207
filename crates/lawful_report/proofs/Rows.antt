-- Small reports by hand: a trace with one poll without a reply and one call.
use Rattle.std.proofs.Common.{◌≡◌, inl, inr, ℕ, pos, false, ◌/◌, ◌≤◌, ap, List, [], ◌∷◌, Option, Some, None, refl, sym, arith}
use Rattle.clock_gate.specs.declared.clock_status.ClockStatus.TheVariants.{Unknown}
use Rattle.clock_gate.specs.declared.trace.Trace.{Trace}
use Rattle.clock_gate.specs.declared.trace.HostRow.TheVariants.{Clock}
use Rattle.generation_word.specs.declared.layout.Layout.TheVariants.{Two}
use Rattle.segment_layout.specs.declared.publication.Publication.{Publication}
use Rattle.segment_layout.specs.declared.start.Start.TheVariants.{Fresh}
use Rattle.segment_layout.specs.Image.{image_of}
use Rattle.interval_now.specs.declared.answers.Answer.TheVariants.{Time, Busy, NotInitialized}
use Rattle.interval_now.specs.declared.answers.Timed.{Timed}
use Rattle.interval_now.specs.Interval.{interval_of}
use Rattle.interval_now.specs.declared.answers.Interval.{Interval}
use Rattle.status_machine.specs.Poll.{base_of_poll}
use Rattle.lawful_report.specs.declared.printed.Printed.{Printed}
use Rattle.lawful_report.specs.declared.printed.Printed.TheVariants.{Header, Opened, Published}
use Rattle.lawful_report.specs.declared.entry.Entry.{Entry}
use Rattle.lawful_report.specs.Course.{Course, entry_at, entry_or_none}
use Rattle.lawful_report.specs.declared.seen.Seen.{Seen}
use Rattle.lawful_report.specs.Calls.{MayAnswer, IsTime}
use Rattle.lawful_report.specs.Lawful.{Standing, standing_start, Follow}
use Rattle.lawful_report.proofs.PointLaws.{least_is_number}

abbrev trace : Trace
trace = record {
  drift = 50000;
  tries = 10;
  clients = 1;
  layout = Two;
  image = 0 ∷ 0 ∷ 0 ∷ 0 ∷ 0 ∷ 0 ∷ 0 ∷ 0 ∷ 0 ∷ 0 ∷ [];
  page = None;
  clock = record { mono = 1000000000; real = 1700000001000000000; truth = None } ∷ record { mono = 2500000000; real = 1700000002500000000; truth = None } ∷ [];
  host = Clock 1 ∷ Clock 2 ∷ [];
  polls = record { reply = []; stop = None } ∷ [];
  calls = record { client = 1; tries = 10 } ∷ [];
  turns = [];
  order = [];
}

abbrev publication : Publication
publication = record {
  poll = 1;
  generation = 2;
  asked = 1;
  sequence = 0;
  replied = 2;
  base = 0;
  rec = record { as_of = pos 1000000000; void_after = pos 1001000000000; bound = pos 0; marker = 0; drift = 50000; status = Unknown; support = false };
}

abbrev timed : Timed
timed = record { generation = 2; row = 2; sequence = 0; interval = record { earliest = pos 1700000002499925000; latest = pos 1700000002500075000; status = Unknown } }

abbrev daemon : List Printed
daemon = Header ∷ Opened 1 Fresh ∷ Published 1 0 publication ∷ []

-- the daemon's lines follow one another
daemon_follows : (after : Standing) × Follow trace (standing_start trace) daemon after
unfolding image_of base_of_poll
daemon_follows = (
  _,
  (
    _,
    refl,
    (
      _,
      record { poll_is = refl; start_is = refl; after_is = refl },
      (
        _,
        record {
          row = record { reply = []; stop = None };
          life = _;
          here = record { row_is = refl; life_is = refl };
          goes_on = tt;
          is = record { position_is = refl; poll = refl; generation = refl; asked = omega arith; replied = omega arith; done = omega arith; page_kept = omega arith; page_done = omega arith; rec = refl; base = refl };
          after_is = refl;
        },
        refl,
      ),
    ),
  ),
)

-- where they lead
abbrev course : Course
course = record {
  polled = 1;
  before = 0;
  entries = record { rec = publication.rec; replied = 2; page = 0; base = 0 } ∷ [];
  point = 2;
  row = 2;
  page = 0;
  life = None;
}

leads_there : (daemon_follows.0.course.entries ≡ course.entries) × (daemon_follows.0.course.point ≡ course.point)
unfolding daemon_follows
leads_there = (refl, refl)

abbrev seen : Seen
seen = record { point = 0; row = 1; page = 0 }

-- an interval at row 2 stands for point 2
time_may_stand : MayAnswer trace course 10 seen 0 (Time timed) (record { point = 2; row = 2; page = 0 })
unfolding interval_of
time_may_stand = record {
  published = omega arith;
  row_kept = omega arith;
  row_done = omega arith;
  page_kept = omega arith;
  page_done = omega arith;
  least = record {
    not_before = omega arith;
    not_past = omega arith;
    has = record { even = refl; number = refl; entry = record { rec = publication.rec; replied = 2; page = 0; base = 0 }; stands = refl; replied = omega arith; page_of = omega arith; is = refl };
    none_less = λ n le has. least_is_number 32767 2 n (omega arith) has.number;
  };
  row_after = refl;
  page_after = refl;
}

-- at row 1 it can't stand: the record's reply was taken at row 2
replied_at : (point : ℕ) (entry : Entry) → 2 ≤ point → point ≤ 2 → entry_at course (point / 2) ≡ Some entry → entry.replied ≡ 2
replied_at point entry low high stands =
    let half : point / 2 ≡ 1 = omega arith in
    let there : entry_at course 1 ≡ Some entry = rw half at stands in
    sym (ap (λ (o : Option Entry). (entry_or_none o).replied) there)

time_at_row_1 : (page : ℕ) (interval : Interval) (next : Seen) → IsTime trace course seen page (record { generation = 2; row = 1; sequence = 0; interval = interval }) next → ⊥
time_at_row_1 page interval next is =
    let low : 2 ≤ next.point = least_is_number 32767 2 next.point (omega arith) is.least.has.number in
    omega (arith, is.least.has.replied, replied_at next.point is.least.has.entry low is.least.not_past is.least.has.stands)

-- nothing was published at point 0
nothing_may_stand : MayAnswer trace course 10 seen 0 NotInitialized seen
nothing_may_stand = (refl, refl)

-- an odd number stands for point 1
busy_may_stand : MayAnswer trace course 10 seen 0 (Busy 10 1 1) (record { point = 1; row = 1; page = 0 })
busy_may_stand = (
  refl,
  record {
    found = inl (record { odd = refl; same = refl; least = record { not_before = omega arith; not_past = omega arith; has = refl; none_less = λ n le has. least_is_number 32767 1 n (omega arith) has } });
    row_after = refl;
    page_after = refl;
  },
)

-- number 4 stands for no point of the run
busy_past_the_last : (next : Seen) → MayAnswer trace course 10 seen 0 (Busy 10 2 4) next → ⊥
busy_past_the_last next is = elim is.1.found [
  | inl found ↦ absurd (omega (arith, found.odd))
  | inr change ↦ omega (arith, least_is_number 32767 4 next.point (omega arith) change.least_last.has, change.least_last.not_past)
]
