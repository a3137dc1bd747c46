use Rattle.std.proofs.Common.{◌≡◌, ◌+◌, refl}
use denote.Enum.Declared.{tag_of}
use Rattle.contrast.specs.declared.Verdict.{Verdict}
use Rattle.contrast.specs.declared.Verdict.TheVariants.{Pass, Fail}
use Rattle.contrast.specs.contracts.Verdict.{the_type}
use Rattle.contrast.specs.Check.{verdict_number}
use Rattle.contrast.proofs.U32FromVerdict.from.Goals as goal

numbered : (verdict : Verdict) → tag_of the_type verdict + 1 ≡ verdict_number verdict
numbered Pass = refl
numbered Fail = refl

pub returns : goal.returns
returns c = numbered c.args.verdict
