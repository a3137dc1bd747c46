use Rattle.std.proofs.Common.{sym, refl, ap, map, ◌∙◌, arith, rules}
use lib.ListN.{length-drop}
use Prim.Native.Nat.{ℕ}
use Rattle.record.proofs.Held.{taken, taken_as}
use Rattle.record.specs.Sections.{count_of}
use Rattle.record.proofs.take_section.Goals as goal

pub returns-then-bytes-lt2 : goal.returns-then-bytes-lt2
unfolding count_of
returns-then-bytes-lt2 g c = grind arith

pub returns-then-not-permits : goal.returns-then-not-permits
unfolding count_of
returns-then-not-permits g c = grind arith

pub returns-then-rest-size : goal.returns-then-rest-size
unfolding count_of
returns-then-rest-size g c = grind (arith, length-drop {A = ℕ})

pub returns : goal.returns
returns g c =
    taken_as g.F.Field.value (taken _ _ c.if-bytes-lt2.false (c.from-n.ensures ∙ (search rules)) (c.WIDTH.ensures ∙ c.requires) (sym c.if-not-permits.ensures) c.if-rest-size.false c.split_at.ensures.front c.split_at.ensures.back refl refl)
    c.requires (rw (← c.WIDTH.ensures) c.split_at.ensures.front_len) (ap (map g.F.Field.held) c.new.ensures ∙ c.split.ensures)
