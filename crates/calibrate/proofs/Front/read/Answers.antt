-- What a read puts behind the bytes that were read before is the next of the input.
use Rattle.std.proofs.Common.{◌≡◌, ℕ, ◌+◌, ◌-◌, ◌≤◌, List, ◌++◌, rules, arith, length, length-take, length-drop, take, drop, ◌∙◌, le_refl, drop_at, length-take-le}
use Rattle.std.proofs.lemmas.Slice.{take-put_mid_below}
use Rattle.std.proofs.KnownBytes.{Consumes-trans}
use borrow.Rule.Slice.PartMut.{put_mid, post_of, same_len_mid}
use lib.Seq.{take-add, take-append-le}
use Rattle.calibrate.proofs.Front.read.Goals as goal

-- where k places from the a-th on were lent, and n of them written
length_written : (a k : ℕ) (xs ys : List ℕ) → a + k ≤ length xs → length ys ≡ k → length (put_mid a k xs ys) ≡ length xs
length_written a k xs ys within whole = same_len_mid a k xs ys (omega (arith, whole, within, length-take k (drop a xs), length-drop a xs))

take_written : (a k n : ℕ) (xs ys : List ℕ) → a ≤ length xs → n ≤ length ys → take (a + n) (put_mid a k xs ys) ≡ take a xs ++ take n ys
take_written a k n xs ys within fits =
    take-add a n (put_mid a k xs ys)
    ∙ rw (take-put_mid_below a k xs ys a (le_refl a) within, drop_at (take a xs) (ys ++ post_of a k xs) a (length-take-le a xs within), take-append-le n ys (post_of a k xs) fits)

pub loop-self-preserved : goal.loop-self-preserved
loop-self-preserved g c =
    let before = c.loop-self.self-inside in
    let room = 6251 - before.size in
    let lent : length c.read.new.buf ≡ room =
    omega (arith, c.read.auto.buf, c.loop-self.invariant.fits, c.loop-self.invariant.whole, length-take room (drop before.size before.bytes), length-drop before.size before.bytes)
    in
    let read : c.in_ok-n.n ≤ length c.read.new.buf = search rules in
    record {
      whole = length_written before.size room before.bytes c.read.new.buf (omega (arith, c.loop-self.invariant.fits, c.loop-self.invariant.whole)) lent ∙ c.loop-self.invariant.whole;
      fits = omega (arith, lent, read, c.loop-self.invariant.fits);
      taken = rw
          (take_written before.size room c.in_ok-n.n before.bytes c.read.new.buf (omega (arith, c.loop-self.invariant.fits, c.loop-self.invariant.whole)) read)
          (Consumes-trans _ _ _ _ _ c.loop-self.invariant.taken c.in_ok-n.ensures.bytes.0);
    }

pub returns-after-loop-self-clause-whole : goal.returns-after-loop-self-clause-whole
returns-after-loop-self-clause-whole g c =
    λ h. absurd (omega (arith, h, c.loop-self-test.false, c.loop-self.invariant.whole, length-take c.loop-self.self-inside.size c.loop-self.self-inside.bytes))
