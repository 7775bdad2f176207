use Rattle.vmclock_page.proofs.PageTries.{follows_its_tries, always_there, takes_a_word}
use Rattle.vmclock_page.proofs.machine_laws.page_read_laws.Goals as goal

pub returns : goal.returns
returns c = record { follows = follows_its_tries; there = always_there; words = takes_a_word }
