use Rattle.std.proofs.Common.{◌∙◌, List, ℕ, ap, arith}
use Rattle.vmclock_page.specs.Page.{page_of}
use Rattle.vmclock_page.specs.Words.{bytes_of_words}
use Rattle.vmclock_page.proofs.Agree.{page_of-words}
use Rattle.vmclock_page.proofs.WordLemmas.{words_of-read}
use Rattle.vmclock_page.proofs.words.words_in.Goals as goal

pub returns-clause-text : goal.returns-clause-text
returns-clause-text c =
    words_of-read c.args.bytes.now c.read_u64_into.new.dst (omega arith) c.read_u64_into.ensures

pub returns-clause-same : goal.returns-clause-same
returns-clause-same c =
    ap (λ (words : List ℕ). page_of (bytes_of_words words)) (returns-clause-text c)
    ∙ page_of-words c.args.bytes.now c.fits-bytes (omega (arith, c.told-bytes))
