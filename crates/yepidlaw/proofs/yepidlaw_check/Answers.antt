use Rattle.yepidlaw.proofs.yepidlaw_check.Goals as goal

pub returns : goal.returns
returns c = let p = c.contrast_check-answer.ensures in record { numbers = rw (← p.answers) c.from.ensures; promise = rw (← p.answers) p }
