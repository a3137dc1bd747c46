use Rattle.std.proofs.Common.{◌≡◌, ◌+◌, refl}
use denote.Enum.Declared.{tag_of}
use Rattle.record.specs.declared.Class.{Class}
use Rattle.record.specs.declared.Class.TheVariants.{Primary, Secondary}
use Rattle.record.specs.contracts.Class.{the_type}
use Rattle.record.specs.Tests.{class_number}
use Rattle.record.proofs.U16FromClass.from.Goals as goal

numbered : (class : Class) → tag_of the_type class + 1 ≡ class_number class
numbered Primary = refl
numbered Secondary = refl

pub returns : goal.returns
returns c = numbered c.args.c
