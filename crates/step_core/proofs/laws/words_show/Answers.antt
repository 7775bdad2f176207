use Rattle.step_core.proofs.WordsShown.{events_are, turns_show, whole_words}
use Rattle.step_core.proofs.laws.words_show.Goals as goal

pub returns : goal.returns
returns c = record { turns = turns_show; whole = whole_words; events = events_are }
