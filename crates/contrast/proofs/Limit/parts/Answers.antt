use Rattle.contrast.proofs.Limit.parts.Goals as goal

pub returns-in-TenPercent : goal.returns-in-TenPercent
returns-in-TenPercent c = rw c.in-TenPercent.is

pub returns-in-TwentyPercent : goal.returns-in-TwentyPercent
returns-in-TwentyPercent c = rw c.in-TwentyPercent.is
