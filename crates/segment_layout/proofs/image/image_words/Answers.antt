use Rattle.std.proofs.Common.{arith}
use Rattle.segment_layout.proofs.ImageWords.{words_of_image-read}
use Rattle.segment_layout.proofs.image.image_words.Goals as goal

pub returns : goal.returns
returns c = words_of_image-read c.args.image.now c.read_u64_into.new.dst (omega arith) c.read_u64_into.ensures
