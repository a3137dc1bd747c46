-- The arrays that are filled hold what the record shows.
use Rattle.std.proofs.Common.{◌≡◌, ℕ, List, ◌++◌, length, take, map, refl}
use Rattle.std.proofs.Math.Seq.{take-append_seam}
use Rattle.std.proofs.lemmas.List.{length-map}
use Rattle.record_values.proofs.RecordValuesFromResultJobRecordRefusal.from.Goals as goal

-- an array that begins with what f shows of n items
filled : {A : Type 0} (f : A → ℕ) (items : List A) (n : ℕ) (array tail : List ℕ) → n ≡ length items → array ≡ map f items ++ tail → take n array ≡ map f items
filled f items n array tail e a = rw (e, a, ← length-map items f) (take-append_seam (map f items) tail)

pub returns-in-Ok : goal.returns-in-Ok
returns-in-Ok c = rw c.in-Ok.is record {
  answer = c.into.ensures;
  given = rw length-map c.len.ensures;
  settings = filled _ _ _ _ _ c.len.ensures c.fill.ensures;
  sources = rw length-map c.len-in-Ok.ensures;
  lamps = filled _ _ _ _ _ c.len-in-Ok.ensures c.fill-in-Ok.ensures;
  readings = rw length-map c.len-in-Ok-2.ensures;
  ddls = filled _ _ _ _ _ c.len-in-Ok-2.ensures c.fill_sweep.ensures.ddls;
  luminances = filled _ _ _ _ _ c.len-in-Ok-2.ensures c.fill_sweep.ensures.luminances;
  patches = rw length-map c.len-in-Ok-3.ensures;
  check = filled _ _ _ _ _ c.len-in-Ok-3.ensures c.fill-in-Ok-2.ensures;
}

pub returns-in-Err : goal.returns-in-Err
returns-in-Err c = rw c.in-Err.is record {
  answer = c.into-in-Err.ensures;
  given = refl;
  settings = refl;
  sources = refl;
  lamps = refl;
  readings = refl;
  ddls = refl;
  luminances = refl;
  patches = refl;
  check = refl;
}
