-- The contrast of two neighbouring patches against the contrast that the display function asks of them.
-- p and s are the luminances shown at a patch and at the next one, c and h those expected there, in units of 0.0001 cd/m².
use Rattle.std.specs.Prelude.{ℕ, ◌+◌, ◌-◌, ◌*◌, ◌/◌, Bool, leb, ℤ, pos, negsuc, nat_abs, ◌-ℤ◌, ◌*ℤ◌}

-- z / d rounded toward minus infinity; `negsuc a` is −(a + 1), and its floor is −(a / d + 1)
abbrev pub floor_of : ℤ → (d : ℕ) → ℤ
floor_of (pos a) d = pos (a / d)
floor_of (negsuc a) d = negsuc (a / d)

-- X of document 01: the contrast shown, (s − p) / (s + p), times (s + p) × (h + c); negative where s is below p
unfoldable pub shown_contrast : (p s c h : ℕ) → ℤ
shown_contrast p s c h = (pos s -ℤ pos p) *ℤ pos (h + c)

-- Y of document 01: the contrast expected, (h − c) / (h + c), times the same; c is at most h
unfoldable pub expected_contrast : (p s c h : ℕ) → ℕ
expected_contrast p s c h = (h - c) * (s + p)

-- X − Y
unfoldable pub excess : (p s c h : ℕ) → ℤ
excess p s c h = shown_contrast p s c h -ℤ pos (expected_contrast p s c h)

-- the deviation, in parts per thousand of Y, rounded down
unfoldable pub deviation_of : (p s c h : ℕ) → ℤ
deviation_of p s c h = floor_of (pos 1000 *ℤ excess p s c h) (expected_contrast p s c h)

-- |X − Y| × parts ≤ Y: X is off Y by at most one part in so many, either way
unfoldable pub keeps_limit : (parts p s c h : ℕ) → Bool
keeps_limit parts p s c h = leb (nat_abs (excess p s c h) * parts) (expected_contrast p s c h)
