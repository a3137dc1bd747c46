use Rattle.std.proofs.Common.{◌∙◌, ap, map}
use Rattle.record.specs.Bytes.{long}
use Rattle.record.proofs.Fields.{chunks_are, long_front}
use Rattle.record.proofs.items.U32Field.split.Goals as goal

pub returns : goal.returns
returns c = ap (map (long 0)) c.as_chunks.ensures.front ∙ chunks_are 4 (long 0) long_front _ _
