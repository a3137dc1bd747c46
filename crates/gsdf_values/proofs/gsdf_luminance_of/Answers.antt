use Rattle.gsdf_values.proofs.gsdf_luminance_of.Goals as goal

pub returns : goal.returns
returns c = c.luminance_of.ensures
