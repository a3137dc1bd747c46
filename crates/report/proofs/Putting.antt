-- Pieces of text put one after another.
-- Assumes nothing.
use Prim.Native.Nat.{ℕ, zero, suc, ◌+◌, ◌-◌, ◌*◌, ◌^◌, ◌≤◌, ◌<◌}
use mathlib.Core.Path.{◌≡◌}
use mathlib.Core.List.{List, [], ◌∷◌, ◌++◌, append_assoc}
use Rattle.std.specs.Prelude.{Option, Some, None}
use lib.ListN.{length, take, drop, set, get_or, length-append, length-take}
use native.Mathlib.Nat.{le_refl}
use native.Mathlib.Omega.{arith}
use Rattle.curve.specs.declared.RoomMark.{RoomMark}
use Rattle.curve.specs.declared.RoomMark.TheVariants.{Low, High}
use Rattle.contrast.specs.declared.Verdict.{Verdict}
use Rattle.contrast.specs.declared.Verdict.TheVariants.{Pass, Fail}
use Rattle.engine.specs.declared.NearestFigures.{NearestFigures}
use Rattle.report.specs.Report.{room_line, check_line, row, rows, lines_of}
use Rattle.report.proofs.Decimal.{decimal_fits}
use Rattle.report.specs.Putting.{HasRoom}

-- each row has room where all have it
rows_grow : (nearest even : List ℕ) (p more : ℕ) → length (rows nearest even p) ≤ length (rows nearest even (more + p))
unfolding rows
rows_grow nearest even p zero = let same : 0 + p ≡ p = omega arith in rw same (le_refl _)
rows_grow nearest even p (suc more) =
    let next : suc more + p ≡ suc (more + p) = omega arith in
    rw (next, length-append) (omega (arith, rows_grow nearest even p more))

pub row_fits : (nearest even : List ℕ) (p : ℕ) → p < 256
    → length (rows nearest even p) + length (row p (get_or nearest p 0) (get_or even p 0)) ≤ length (rows nearest even 256)
unfolding rows
row_fits nearest even p h =
    let last : (255 - p) + suc p ≡ 256 = omega arith in
    rw last at (rw length-append at (rows_grow nearest even (suc p) (255 - p)))

-- ---- all lines have room

rows_short : (nearest even : List ℕ) (n : ℕ) → n ≤ 256 → ((p : ℕ) → get_or nearest p 0 < 2 ^ 16) → ((p : ℕ) → get_or even p 0 < 2 ^ 16) → length (rows nearest even n) ≤ 18 * n
unfolding rows
rows_short nearest even zero k f g = omega arith
rows_short nearest even (suc n) k f g =
    simp length-append
    (omega (arith, rows_short nearest even n (omega arith) f g, decimal_fits 4 n (omega arith), decimal_fits 4 (get_or nearest n 0) (omega (arith, f n)), decimal_fits 4 (get_or even n 0) (omega (arith, g n))))

room_short : (mark : RoomMark) → length (room_line mark) ≤ 10
room_short Low = omega arith
room_short High = omega arith

check_short : (check : Option Verdict) → length (check_line check) ≤ 11
check_short None = omega arith
check_short (Some Pass) = omega arith
check_short (Some Fail) = omega arith

pub lines_fit : (f : NearestFigures) (worst_step : ℕ) (check : Option Verdict) (nearest even : List ℕ) → f.indices.low.0 < 2 ^ 32 → f.indices.high.0 < 2 ^ 32 → f.indices.range.0 < 2 ^ 32
    → worst_step < 2 ^ 64 → ((p : ℕ) → get_or nearest p 0 < 2 ^ 16) → ((p : ℕ) → get_or even p 0 < 2 ^ 16) → HasRoom [] (lines_of f worst_step check nearest even)
lines_fit f worst_step check nearest even a b c d n v =
    simp length-append
    (omega (arith, decimal_fits 9 f.indices.low.0 (omega arith), decimal_fits 9 f.indices.high.0 (omega arith), decimal_fits 9 f.indices.range.0 (omega arith), decimal_fits 19 worst_step (omega arith), room_short f.mark, check_short check, rows_short nearest even 256 (omega arith) n v))

-- what the goals of the lines are found by
pub ruleset pieces = (append_assoc, length-append)
