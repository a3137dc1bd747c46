use Rattle.std.proofs.Common.{leb, refl, rules, map}
use borrow.Author.Tests.{tests}
use Rattle.std.proofs.lemmas.Iterator.Consumers.{YieldsList-from_first}
use Rattle.std.proofs.lemmas.Iterator.Search.{all_from_yields_List}
use Rattle.record.specs.Bytes.{word}
use Rattle.record.specs.Tests.{all_up_to}
use Rattle.record.proofs.lamps_in_range.Goals as goal

pub returns : goal.returns
unfolding all_up_to
returns c = all_from_yields_List (λ x. leb x 2000) c.all.new.self c.all.new.f _ c.all.ensures.ran (YieldsList-from_first (λ x. x) (λ v. map (word 0) v.raw.now) _ refl) (λ x b q k. search (rules, tests))
