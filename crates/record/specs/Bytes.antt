-- Numbers in a list of bytes, low byte first: read, and written.
use Rattle.std.specs.Prelude.{ℕ, zero, suc, ◌+◌, ◌*◌, ◌/◌, ◌%◌, List, [], ◌∷◌, ◌++◌, get_or, drop}

-- the 16 bits at place i
abbrev pub word : ℕ → List ℕ → ℕ
word i s = get_or s i 0 + 256 * get_or s (i + 1) 0

-- the 32 bits at place i
abbrev pub long : ℕ → List ℕ → ℕ
long i s = word i s + 65536 * word (i + 2) s

-- the field that f reads in each of n items, which are w bytes long
unfoldable pub fields : {A : Type 0} → ℕ → (List ℕ → A) → ℕ → List ℕ → List A
fields w f zero s = []
fields w f (suc n) s = f s ∷ fields w f n (drop w s)

-- a number of 16 bits, written
abbrev pub bytes16 : ℕ → List ℕ
bytes16 x = x % 256 ∷ x / 256 % 256 ∷ []

-- a number of 32 bits, written
abbrev pub bytes32 : ℕ → List ℕ
bytes32 x = bytes16 x ++ bytes16 (x / 65536)
