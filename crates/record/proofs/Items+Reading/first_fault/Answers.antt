use Rattle.std.proofs.Common.{rules, ◌≡◌, true, false}
use Rattle.std.proofs.lemmas.Iterator.{first_from_Range}
use borrow.Author.Tests.{tests}
use Rattle.record.specs.Reader.{ddls_of, luminances_of, steps_up}
use Rattle.std.proofs.lemmas.List.{length-map}
use Rattle.record.proofs.Climbing.{FirstFault, all_step_up}
use Rattle.record.proofs.Items+Reading.first_fault.Goals as goal

found : (c : goal.After-find) → FirstFault (ddls_of c.args.self.now) (luminances_of c.args.self.now) c.len.result c.find.result
found c =
    let dd = ddls_of c.args.self.now in
    let lu = luminances_of c.args.self.now in
    first_from_Range _ _ _ _ (λ i. steps_up dd lu i ≡ false) (λ i. steps_up dd lu i ≡ true) c.find.ensures.ran
    (λ x q k. search (rules, tests))
    (λ x q k. search (rules, tests))

pub returns-clause-none : goal.returns-clause-none
returns-clause-none c = all_step_up _ _ (rw c.len.ensures (length-map _ _)) (rw c.len.ensures (length-map _ _)) c.find.result (found c)
