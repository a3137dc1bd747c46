use Rattle.report.proofs.room_text.Goals as goal

pub returns-in-Low : goal.returns-in-Low
returns-in-Low c = rw c.in-Low.is

pub returns-in-High : goal.returns-in-High
returns-in-High c = rw c.in-High.is
