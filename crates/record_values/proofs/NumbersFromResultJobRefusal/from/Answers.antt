use Rattle.record_values.proofs.NumbersFromResultJobRefusal.from.Goals as goal

pub returns-in-Ok : goal.returns-in-Ok
returns-in-Ok c = rw c.in-Ok.is (cc)

pub returns-in-Err : goal.returns-in-Err
returns-in-Err c = rw c.in-Err.is (cc)
