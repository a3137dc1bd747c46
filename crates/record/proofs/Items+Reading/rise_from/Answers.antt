use Rattle.std.proofs.Common.{rules, sym, ◌-◌, ◌≤◌, ◌<◌}
use borrow.Author.Tests.{tests}
use Rattle.record.proofs.Climbing.{level_at, rise_after}
use Rattle.record.proofs.Scans.{cases_from_Range}
use Rattle.record.proofs.Items+Reading.rise_from.Goals as goal

pub returns : goal.returns
returns c =
    let s = c.args.self.now.raw.now in
    rise_after s c.requires c.all.result
    (rw (sym c.len.ensures) (cases_from_Range _ _ _ _ (λ k. level_at s (k - 1) < level_at s k) (λ k. level_at s k ≤ level_at s (k - 1)) c.all.ensures.ran
    (λ x q k. search (rules, tests))
    (λ x q k. search (rules, tests))))
