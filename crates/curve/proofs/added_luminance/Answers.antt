use Rattle.curve.proofs.added_luminance.Goals as goal

pub returns-in-Contact : goal.returns-in-Contact
returns-in-Contact c = rw c.in-Contact.is

pub returns-in-Telescopic : goal.returns-in-Telescopic
returns-in-Telescopic c = rw c.in-Telescopic.is
