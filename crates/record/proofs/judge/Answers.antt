use Rattle.laws.proofs.Cases.{err_returned}
use Rattle.std.proofs.Common.{arith}
use Rattle.record.specs.Tests.{judged, settings_in_range, settings_of}
use Rattle.std.proofs.lemmas.List.{length-map}
use Rattle.record.specs.Bytes.{word}
use Rattle.record.proofs.judge.Goals as goal

pub returns-in_err-settings : goal.returns-in_err-settings
unfolding judged
returns-in_err-settings c = grind (arith, err_returned c.from_residual.ensures.1)

pub returns-then-not-lamps_in_range : goal.returns-then-not-lamps_in_range
unfolding judged
returns-then-not-lamps_in_range c = grind arith

pub max_ddl-top-requires : goal.max_ddl-top-requires
unfolding settings_in_range settings_of
max_ddl-top-requires c = grind arith

pub returns-then-not-ends_span : goal.returns-then-not-ends_span
unfolding judged settings_of
returns-then-not-ends_span c = grind (arith, length-map c.args.sweep.now.raw.now (word 0))

pub returns-then-rise_from : goal.returns-then-rise_from
unfolding judged settings_of
returns-then-rise_from c = grind (arith, length-map c.args.sweep.now.raw.now (word 0))

pub returns-in-Some : goal.returns-in-Some
unfolding judged settings_of
returns-in-Some c = grind (arith, length-map c.args.sweep.now.raw.now (word 0))

pub returns : goal.returns
unfolding judged settings_of
returns c = grind (arith, length-map c.args.sweep.now.raw.now (word 0))
