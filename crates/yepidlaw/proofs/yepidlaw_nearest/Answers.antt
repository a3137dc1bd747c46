use Rattle.yepidlaw.proofs.yepidlaw_nearest.Goals as goal

pub returns : goal.returns
returns c = let p = c.nearest_table-answer.ensures in record { numbers = rw (← p.answers) c.from.ensures; promise = rw (← p.answers) p }
