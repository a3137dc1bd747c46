use Rattle.std.proofs.Common.{arith, refl, map}
use Rattle.std.proofs.lemmas.Iterator.Consumers.{YieldsList-from_first, fits_from_yields_list}
use Rattle.record.specs.Bytes.{word}
use Rattle.record.specs.Reader.{words}
use Rattle.std.proofs.lemmas.List.{length-map}
use Rattle.record.proofs.Scans.{sum_up_to}
use Rattle.record.proofs.lamp_sum.Goals as goal

pub sum-requires-clause-fits : goal.sum-requires-clause-fits
sum-requires-clause-fits c =
    fits_from_yields_list _ _ (YieldsList-from_first (λ x. x) (λ v. map (word 0) v.raw.now) _ refl)
    (omega (arith, sum_up_to 2000 (words c.args.lamps.now) c.requires.1, length-map c.args.lamps.now.raw.now (word 0)))
