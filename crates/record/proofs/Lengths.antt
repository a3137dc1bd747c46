-- The shortest accepted record has 30 bytes, the longest 6,250.
-- Assumes nothing.
use Prim.Native.Nat.{ℕ, zero, suc, ◌≤◌}
use mathlib.Core.Path.{◌≡◌, refl}
use mathlib.Core.List.{List, [], ◌∷◌}
use lib.ListN.{length, replicate}
use native.Mathlib.Omega.{arith}
use Rattle.std.specs.Prelude.{Result, Ok, Err}
use Rattle.laws.specs.Rises.{rises_from, rises_by}
use Rattle.record.specs.Bytes.{fields}
use Rattle.record.specs.Sections.{Counts, count_of, layout_of, sections}
use Rattle.record.specs.Tests.{settings_in_range, all_up_to, judged, job_of, answer_of}
use Rattle.record.specs.Written.{run, run_sweep, written, Writable}
use Rattle.record.specs.Lengths.{AcceptedOf, AcceptedLengths}
use Rattle.record.specs.declared.Job.{Job}
use Rattle.record.specs.declared.Refusal.{Refusal}
use Rattle.record.proofs.Placed.{sizes}
use Rattle.record.proofs.Parts.{lists}
use Rattle.record.proofs.RoundTrip.{round_trip}

module _ (s : List ℕ) (job : Job) (h : answer_of s ≡ Ok job) where
  between : (l : Result Counts Refusal) → layout_of s ≡ l → (30 ≤ length s) × (length s ≤ 6250)
  unfolding answer_of sections
  between (Ok n) e = let z = sizes s n e in (omega arith, omega arith)
  between (Err r) e = grind arith

  within_lengths : (30 ≤ length s) × (length s ≤ 6250)
  within_lengths = between (layout_of s) refl

-- two readings at depth 8, no lamps and no check
shortest : AcceptedOf 30
unfolding answer_of sections layout_of count_of judged settings_in_range all_up_to rises_by rises_from fields
shortest = record {
  s = 5 ∷ 0 ∷ 8 ∷ 0 ∷ 0 ∷ 0 ∷ 1 ∷ 0 ∷ 0 ∷ 0 ∷ 0 ∷ 0 ∷ 0 ∷ 0 ∷ 2 ∷ 0 ∷ 0 ∷ 0 ∷ 0 ∷ 0 ∷ 0 ∷ 0 ∷ 255 ∷ 0 ∷ 0 ∷ 0 ∷ 0 ∷ 0 ∷ 0 ∷ 0 ∷ [];
  bytes = tt;
  size = refl;
  job = job_of (8 ∷ 0 ∷ 1 ∷ 0 ∷ 0 ∷ []) [];
  accepted = refl;
}

-- every drive level of depth 10, 8 lamps and a check
counting : ℕ → ℕ → List ℕ
counting from zero = []
counting from (suc n) = from ∷ counting (suc from) n

longest : AcceptedOf 6250
unfolding answer_of judged settings_in_range all_up_to rises_by rises_from written run run_sweep counting
longest =
    let settings : List ℕ = 10 ∷ 0 ∷ 1 ∷ 0 ∷ 0 ∷ [] in
    let lamps = replicate {A = ℕ} 8 0 in
    let ddls = counting 0 1024 in
    let luminances = replicate {A = ℕ} 1024 0 in
    let check = replicate {A = ℕ} 18 0 in
    let l = lists settings lamps ddls luminances check in
    let w : Writable l = record {
      settings_count = tt;
      lamps_count = tt;
      sweep_count = tt;
      pairs = refl;
      check_count = tt;
      settings_fit = tt;
      lamps_fit = tt;
      ddls_fit = tt;
      luminances_fit = tt;
      check_fit = tt;
    } in
    record {
      s = written l;
      bytes = tt;
      size = refl;
      job = job_of settings lamps;
      accepted = rw (round_trip l w);
    }

pub accepted_lengths : AcceptedLengths
accepted_lengths = record {
  least = λ s job h. (within_lengths s job h).0;
  most = λ s job h. (within_lengths s job h).1;
  shortest = shortest;
  longest = longest;
}
