use Rattle.yepidlaw.proofs.CheckResultFromResultOptionVerdictRefusal.from.Goals as goal

pub returns-in-Err : goal.returns-in-Err
returns-in-Err c = rw c.in-Err.is (cc)
