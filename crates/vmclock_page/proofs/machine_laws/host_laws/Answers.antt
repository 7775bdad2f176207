use Rattle.vmclock_page.proofs.Accepted.{starts_even, even_starts}
use Rattle.vmclock_page.proofs.HostRows.{makes_stores, comes_nearer, begins_host, leaves_its_words}
use Rattle.vmclock_page.proofs.Laws.{counts_on, page_number-count, page_number-updating, count_in_word-word_with_count, constants_in_word-word_with_count}
use Rattle.vmclock_page.proofs.machine_laws.host_laws.Goals as goal

pub returns : goal.returns
returns c = record {
  stores = makes_stores;
  nearer = comes_nearer;
  begins = begins_host;
  leaves = leaves_its_words;
  starts = starts_even;
  even = even_starts;
  counts = counts_on;
  numbers = page_number-count;
  updating = page_number-updating;
  in_word = count_in_word-word_with_count;
  half = constants_in_word-word_with_count;
}
