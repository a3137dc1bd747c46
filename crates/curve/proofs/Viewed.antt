-- The sweep of a record, as readings by their places.
-- Assumes nothing.
use Rattle.std.proofs.Common.{◌≡◌, sym, ℕ, List, ◌<◌, length}
use Rattle.std.proofs.lemmas.List.{length-map}
use Rattle.record.specs.Bytes.{word}
use Rattle.record.specs.Reader.{ddls_of}
use Rattle.record.specs.declared.items.Items.{Items}
use Rattle.record.specs.declared.items.Reading.{Reading}

module _ (sweep : Items Reading (List ℕ)) where
  pub readings : length sweep.raw.now ≡ length (ddls_of sweep)
  readings = sym (length-map sweep.raw.now (word 0))

  pub place_in : {i : ℕ} → i < length (ddls_of sweep) → i < length sweep.raw.now
  place_in h = rw readings h
