use Rattle.std.proofs.Common.{◌≡◌, refl}
use denote.Enum.Declared.{tag_of}
use Rattle.record.specs.declared.Meter.{Meter}
use Rattle.record.specs.declared.Meter.TheVariants.{Contact, Telescopic}
use Rattle.record.specs.contracts.Meter.{the_type}
use Rattle.record.specs.Tests.{meter_number}
use Rattle.record.proofs.U16FromMeter.from.Goals as goal

numbered : (meter : Meter) → tag_of the_type meter ≡ meter_number meter
numbered Contact = refl
numbered Telescopic = refl

pub returns : goal.returns
returns c = numbered c.args.m
