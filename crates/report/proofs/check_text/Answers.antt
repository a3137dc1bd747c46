use Rattle.report.proofs.check_text.Goals as goal

pub returns-in-None : goal.returns-in-None
returns-in-None c = rw c.in-None.is

pub returns-in-Some-Pass : goal.returns-in-Some-Pass
returns-in-Some-Pass c = rw (c.in-Some-Pass.is, rw c.in-Some-Pass.is at c.in-Some-Pass.field-0-is)

pub returns-in-Some-Fail : goal.returns-in-Some-Fail
returns-in-Some-Fail c = rw (c.in-Some-Fail.is, rw c.in-Some-Fail.is at c.in-Some-Fail.field-0-is)
