-- The end of a stable bucket is a time of 32 bits as soon as one line has been tested: that line's boundary finishes it.
use Prim.Native.Nat.{ℕ, ◌<◌, ◌^◌}
use mathlib.Core.Path.{◌≡◌}
use mathlib.Core.Bool.{Bool, true, ◌&&◌}
use Rattle.clock.specs.Buckets.{bucket_end}
use Rattle.store.proofs.Choices.{and_parts}

-- i lines have been tested
abbrev pub EndWithin : ℕ → ℕ → Bool → ℕ → Type 0
EndWithin bucket j stable i = stable ≡ true → 0 < i → bucket_end bucket j < 2 ^ 32

-- and now line i
pub end_within_turn :
    (bucket j : ℕ) (stable finished : Bool) (i : ℕ) → (finished ≡ true → bucket_end bucket j < 2 ^ 32) →
    EndWithin bucket j (stable && finished) i
end_within_turn bucket j stable finished i told e some = told (and_parts stable finished e).1
