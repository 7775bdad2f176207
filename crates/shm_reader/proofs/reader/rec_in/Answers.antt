use Rattle.std.proofs.Common.{subst}
use Rattle.segment_layout.specs.Words.{AreGoodWords}
use Rattle.shm_reader.proofs.Stands.{nine_loads}
use Rattle.shm_reader.proofs.reader.rec_in.Goals as goal

pub from_words-requires : goal.from_words-requires
from_words-requires c = subst AreGoodWords (nine_loads c.args.loads.now c.told-loads) c.requires
