-- The written form of five lists, as a record's bytes.
use Rattle.std.specs.Prelude.{ℕ, List, [], ◌∷◌, ◌++◌, ◌≡◌, length, T}
use Rattle.record.specs.Bytes.{bytes16, bytes32}
use Rattle.record.specs.Sections.{permitted, Lists}
use Rattle.record.specs.Tests.{all_up_to}
use Rattle.record.specs.declared.Section.TheVariants.{Settings, Lamps, Sweep, Check}

-- the numbers one after the other, each written by f
unfoldable pub run : (ℕ → List ℕ) → List ℕ → List ℕ
run f [] = []
run f (x ∷ xs) = f x ++ run f xs

-- each drive level with its luminance, in as many items as there are of both
unfoldable pub run_sweep : List ℕ → List ℕ → List ℕ
run_sweep [] luminances = []
run_sweep (d ∷ ddls) [] = []
run_sweep (d ∷ ddls) (l ∷ luminances) = bytes16 d ++ (bytes32 l ++ run_sweep ddls luminances)

-- a section of n items, and what follows it
abbrev pub section : ℕ → List ℕ → List ℕ → List ℕ
section n items more = bytes16 n ++ (items ++ more)

-- the record of five lists
unfoldable pub written : Lists → List ℕ
written l =
    section (length l.settings) (run bytes16 l.settings)
    (section (length l.lamps) (run bytes16 l.lamps)
    (section (length l.ddls) (run_sweep l.ddls l.luminances)
    (section (length l.check) (run bytes32 l.check) [])))

-- the counts are permitted, and the values fit their fields
pub record Writable (l : Lists) : Type 0 where
  pub settings_count : T (permitted Settings (length l.settings))
  pub lamps_count : T (permitted Lamps (length l.lamps))
  pub sweep_count : T (permitted Sweep (length l.ddls))
  pub pairs : length l.luminances ≡ length l.ddls
  pub check_count : T (permitted Check (length l.check))
  pub settings_fit : T (all_up_to 65535 l.settings)
  pub lamps_fit : T (all_up_to 65535 l.lamps)
  pub ddls_fit : T (all_up_to 65535 l.ddls)
  pub luminances_fit : T (all_up_to 4294967295 l.luminances)
  pub check_fit : T (all_up_to 4294967295 l.check)
