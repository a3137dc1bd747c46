use Rattle.gsdf_values.proofs.gsdf_index_of.Goals as goal

pub returns : goal.returns
returns c = c.index_of.ensures
