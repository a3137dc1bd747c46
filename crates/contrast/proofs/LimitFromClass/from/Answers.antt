use Rattle.contrast.proofs.LimitFromClass.from.Goals as goal

pub returns-in-Primary : goal.returns-in-Primary
returns-in-Primary c = rw c.in-Primary.is

pub returns-in-Secondary : goal.returns-in-Secondary
returns-in-Secondary c = rw c.in-Secondary.is
