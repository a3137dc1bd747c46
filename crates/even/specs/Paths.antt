-- Paths through layers 0 to `last` of levels, one level in each layer.
use Rattle.std.specs.Prelude.{ℕ, zero, suc, ◌-◌, Bool, ◌&&◌}
use Rattle.laws.specs.Search.{any, lowest}

pub record Layers : Type 0 where
  -- level d may stand in layer p
  pub stands : (p d : ℕ) → Bool
  -- level d in layer p may be followed by level e in the next layer
  pub follows : (p d e : ℕ) → Bool
  -- levels are below this number
  pub levels : ℕ
  pub last : ℕ

-- from level d in layer p a path goes on through n layers more
unfoldable pub continues : Layers → (n p d : ℕ) → Bool
continues ls zero p d = ls.stands p d
continues ls (suc n) p d =
    let rest = any (λ e. let on = continues ls n (suc p) e in ls.follows p d e && on) ls.levels in
    ls.stands p d && rest

-- from level d in layer p a path goes on to the last layer
unfoldable pub good : Layers → (p d : ℕ) → Bool
good ls p d = continues ls (ls.last - p) p d

-- the lowest level that may follow d and from which a path goes on
unfoldable pub next : Layers → (p d : ℕ) → ℕ
next ls p d = lowest (λ e. ls.follows p d e && good ls (suc p) e) ls.levels

-- the path that takes the lowest such level in each layer
unfoldable pub lowest_path : Layers → (p : ℕ) → ℕ
lowest_path ls zero = lowest (good ls zero) ls.levels
lowest_path ls (suc p) = next ls p (lowest_path ls p)
