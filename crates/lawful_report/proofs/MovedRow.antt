-- A record of layout 2 that the first opening moves, by hand.
use Rattle.std.proofs.Common.{◌≡◌, pos, false, List, [], ◌∷◌, None, refl, arith}
use Rattle.clock_gate.specs.declared.clock_status.ClockStatus.TheVariants.{FreeRunning, Synchronized}
use Rattle.clock_gate.specs.declared.trace.Trace.{Trace}
use Rattle.clock_gate.specs.declared.trace.HostRow.TheVariants.{Clock}
use Rattle.generation_word.specs.declared.layout.Layout.TheVariants.{Two, Three}
use Rattle.generation_word.specs.Header.{word1_of}
use Rattle.segment_layout.specs.declared.publication.Publication.{Publication}
use Rattle.segment_layout.specs.declared.start.Start.TheVariants.{Kept}
use Rattle.segment_layout.specs.Image.{image_of}
use Rattle.segment_layout.specs.Record.{RecordFields}
use Rattle.segment_layout.specs.Words.{record_words}
use Rattle.status_machine.specs.Poll.{base_of_poll}
use Rattle.lawful_report.specs.declared.printed.Printed.{Printed}
use Rattle.lawful_report.specs.declared.printed.Printed.TheVariants.{Header, Opened, Published, Moved}
use Rattle.lawful_report.specs.Lawful.{Standing, standing_start, Follow}

abbrev kept : RecordFields
kept = record { as_of = pos 1000000000; void_after = pos 1001000000000; bound = pos 5; marker = 0; drift = 50000; status = Synchronized; support = false }

abbrev trace : Trace
trace = record {
  drift = 50000;
  tries = 10;
  clients = 1;
  layout = Three;
  image = record_words (word1_of Two 65534) kept;
  page = None;
  clock = record { mono = 2000000000; real = 1700000001000000000; truth = None } ∷ [];
  host = Clock 1 ∷ [];
  polls = record { reply = []; stop = None } ∷ [];
  calls = record { client = 1; tries = 1 } ∷ [];
  turns = [];
  order = [];
}

abbrev publication : Publication
publication = record {
  poll = 1;
  generation = 65538;
  asked = 1;
  sequence = 0;
  replied = 1;
  base = 0;
  rec = record kept { status = FreeRunning };
}

abbrev daemon : List Printed
daemon = Header ∷ Opened 1 (Kept 65534 kept) ∷ Moved 1 32768 65536 ∷ Published 32769 0 publication ∷ []

daemon_follows : (after : Standing) × Follow trace (standing_start trace) daemon after
unfolding image_of base_of_poll
daemon_follows = (
  _,
  (
    _,
    refl,
    (
      _,
      record { poll_is = refl; start_is = refl; after_is = refl },
      (
        _,
        record { poll_is = refl; position_is = refl; generation_is = refl; after_is = refl },
        (
          _,
          record {
            row = record { reply = []; stop = None };
            life = _;
            here = record { row_is = refl; life_is = refl };
            goes_on = tt;
            is = record { position_is = refl; poll = refl; generation = refl; asked = omega arith; replied = omega arith; done = omega arith; page_kept = omega arith; page_done = omega arith; rec = refl; base = refl };
            after_is = refl;
          },
          refl,
        ),
      ),
    ),
  ),
)

-- the run has points up to 65,538, with the entries of three positions
leads_to : (daemon_follows.0.course.point ≡ 65538) × (daemon_follows.0.course.before ≡ 32766)
unfolding daemon_follows
leads_to = (refl, refl)
