-- A run of elements copied further down is the run's elements stored there.
use Rattle.std.proofs.Common.{◌≡◌, ℕ, ◌+◌, ◌-◌, ◌≤◌, List, length, refl, sym, ◌∙◌, arith}
use Rattle.std.proofs.lemmas.List.Edits.{sets, sets-eq}
use Rattle.std.specs.List.{copy_within}
use Rattle.store.specs.Parts.{share}
use Rattle.store.proofs.Shares.{length_share}

pub moved : {A : Type 0} (xs : List A) (from to n : ℕ) → to ≤ from → from + n ≤ length xs → copy_within xs from (from + n) to ≡ sets xs to (share from n xs)
unfolding share
moved xs from to n down room =
    let m : from + n - from ≡ n = omega arith in
    let size : length (share from n xs) ≡ n = length_share from n xs room in
    rw m (sym (sets-eq (share from n xs) xs to (omega arith) ∙ rw size refl))
