-- A store whose first bytes are zeroed, as many as its places have, has empty places only.
use Prim.Native.Nat.{ℕ, zero, suc, ◌+◌, ◌*◌, ◌≤◌}
use mathlib.Core.Path.{◌≡◌, refl, sym, ◌∙◌, ap}
use mathlib.Core.List.{List, ◌++◌}
use native.Mathlib.Omega.{arith}
use lib.ListN.{length, replicate, length-replicate, replicate-append-replicate}
use lib.Seq.{sets}
use Rattle.area.specs.Laid.{laid, in_front}
use Rattle.area.proofs.Laid.{laid_front}
use Rattle.record.specs.Sizes.{record_bytes}
use Rattle.retransmission.specs.Sizes.{held_results, held_bytes}
use Rattle.retransmission.specs.Places.{joined, with_places, empty_place}

joined_empty : (n : ℕ) → joined (replicate n empty_place) ≡ replicate (n * record_bytes) 0
unfolding joined empty_place
joined_empty zero = refl
joined_empty (suc n) =
    let e : record_bytes + n * record_bytes ≡ suc n * record_bytes = omega arith in
    ap (λ (bytes : List ℕ). replicate record_bytes 0 ++ bytes) (joined_empty n) ∙
    replicate-append-replicate record_bytes (n * record_bytes) 0 ∙
    ap (λ (m : ℕ). replicate m 0) e

pub emptied :
    (sent : List ℕ) → held_bytes ≤ length sent →
    sets sent 0 (replicate held_bytes 0) ≡ with_places sent (replicate held_results empty_place)
unfolding laid with_places
emptied sent h =
    laid_front sent (replicate held_bytes 0) (omega (arith, length-replicate {A = ℕ} held_bytes 0)) ∙
    ap (λ (bytes : List ℕ). in_front bytes sent) (sym (joined_empty held_results))
