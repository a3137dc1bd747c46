use Rattle.std.proofs.Common.{◌∙◌, ap, map}
use Rattle.record.specs.Bytes.{word}
use Rattle.record.proofs.Fields.{chunks_are, word_front}
use Rattle.record.proofs.items.U16Field.split.Goals as goal

pub returns : goal.returns
returns c = ap (map (word 0)) c.as_chunks.ensures.front ∙ chunks_are 2 (word 0) word_front _ _
