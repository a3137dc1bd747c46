use Rattle.std.proofs.Common.{◌∙◌, ap, map}
use Rattle.record.proofs.Fields.{chunks_are, reading_front}
use Rattle.record.proofs.items.ReadingField.split.Goals as goal

pub returns : goal.returns
returns c = ap (map _) c.as_chunks.ensures.front ∙ chunks_are 6 _ reading_front _ _
