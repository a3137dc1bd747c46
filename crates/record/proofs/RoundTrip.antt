-- The record written from five lists is read back as those lists.
-- Assumes nothing.
use Prim.Native.Nat.{ℕ, ◌*◌}
use mathlib.Core.Path.{◌≡◌, refl, ap, ◌∙◌}
use mathlib.Core.List.{List, []}
use lib.ListN.{length, length-append}
use lib.Seq.{take_at, drop_at, drop-drop}
use native.Mathlib.Omega.{arith}
use Rattle.std.specs.Prelude.{Ok}
use Rattle.laws.proofs.Cases.{is_yes}
use Rattle.record.specs.Bytes.{word, long, bytes16, bytes32}
use Rattle.record.specs.Sections.{Lists, permitted, width, items, rest, sections}
use Rattle.record.specs.Written.{run, run_sweep, section, written, Writable}
use Rattle.record.specs.Reader.{Taken}
use Rattle.record.specs.Outcome.{Whole}
use Rattle.record.specs.declared.Section.{Section}
use Rattle.record.specs.declared.Section.TheVariants.{Settings, Lamps, Sweep, Check}
use Rattle.record.proofs.Counted.{up_to_1024}
use Rattle.record.proofs.Held.{whole_lists}
use Rattle.record.specs.Sections.{count_of}
use Rattle.record.proofs.Written.{word_back, run_back, long_back, ddls_back, luminances_back, run_length, run_sweep_length}

-- a section that stands whole at the front is taken off
pub whole_taken : {k : Section} {s more : List ℕ} (w : Whole k s more) → Taken k s w.count w.items more
unfolding count_of
whole_taken {k} {s} {more} w =
    let small = up_to_1024 k w.count (is_yes (permitted k w.count) w.may) in
    let n : word 0 s ≡ w.count = ap (word 0) w.is ∙ word_back w.count (omega arith) in
    record {
      count = grind (arith, w.may, ap length w.is, length-append w.items more);
      may = w.may;
      items = grind (arith, ap (items k w.count) w.is, take_at w.items more (w.count * width k));
      rest = grind (arith, ap (rest k w.count) w.is, drop-drop (w.count * width k) 2 (section w.count w.items more), drop_at w.items more (w.count * width k));
    }

-- the record written from five lists gives them back
module _ (l : Lists) (w : Writable l) where
  abbrev from_check : List ℕ
  from_check = section (length l.check) (run bytes32 l.check) []

  abbrev from_sweep : List ℕ
  from_sweep = section (length l.ddls) (run_sweep l.ddls l.luminances) from_check

  abbrev from_lamps : List ℕ
  from_lamps = section (length l.lamps) (run bytes16 l.lamps) from_sweep

  settings_whole : Whole Settings (written l) from_lamps
  unfolding written
  settings_whole = record { count = length l.settings; items = run bytes16 l.settings; may = w.settings_count; all = run_length _ _ (λ x. refl) _; is = refl }

  lamps_whole : Whole Lamps from_lamps from_sweep
  lamps_whole = record { count = length l.lamps; items = run bytes16 l.lamps; may = w.lamps_count; all = run_length 2 bytes16 (λ x. refl) l.lamps; is = refl }

  sweep_whole : Whole Sweep from_sweep from_check
  sweep_whole = record { count = length l.ddls; items = run_sweep l.ddls l.luminances; may = w.sweep_count; all = run_sweep_length l.ddls l.luminances w.pairs; is = refl }

  check_whole : Whole Check from_check []
  check_whole = record { count = length l.check; items = run bytes32 l.check; may = w.check_count; all = run_length 4 bytes32 (λ x. refl) l.check; is = refl }

  pub round_trip : sections (written l) ≡ Ok l
  unfolding settings_whole lamps_whole sweep_whole check_whole
  round_trip =
      whole_lists (written l) (whole_taken settings_whole) (whole_taken lamps_whole) (whole_taken sweep_whole) (whole_taken check_whole) refl
      ∙ rw (run_back 65535 2 (word 0) bytes16 (λ x. refl) (λ x h s. word_back x h) l.settings w.settings_fit, run_back 65535 2 (word 0) bytes16 (λ x. refl) (λ x h s. word_back x h) l.lamps w.lamps_fit, ddls_back l.ddls l.luminances w.pairs w.ddls_fit, luminances_back l.ddls l.luminances w.pairs w.luminances_fit, run_back 4294967295 4 (long 0) bytes32 (λ x. refl) (λ x h s. long_back x h) l.check w.check_fit)
