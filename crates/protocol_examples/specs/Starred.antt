-- The twelve starred examples of document 01, section 'On the last tick and past it', with their means rounded as document 02 asks (W1),
-- and the further mean that it names: one table about the definitions that the contracts cite.
use Rattle.std.specs.Prelude.{ℕ, ◌≤◌, ◌≡◌, true, false, [], ◌∷◌, pos, neg_ℤ}
use Rattle.clock.specs.Buckets.{bucket_of, finishes}
use Rattle.signed.specs.Mean.{mean}
use Rattle.store.specs.declared.Reading.{Reading}
use Rattle.store.specs.Order.{in_bucket}
use Rattle.protocol.specs.Node.{Line, is_stable_bucket}
use Rattle.protocol.specs.Refusals.{answer_to}
use Rattle.protocol_examples.specs.Given.{settings, tick, on, node, undo}

pub record Starred : Type 0 where
  -- time 99 is bucket 0
  pub time99 : bucket_of settings.bucket (tick 99) ≡ 0
  -- time 100 is bucket 1
  pub time100 : bucket_of settings.bucket (tick 100) ≡ 1
  -- time 4,294,967,295 is bucket 42,949,672, which no boundary of 32 bits finishes
  pub last_time :
      (bucket_of settings.bucket (tick 4_294_967_295) ≡ 42_949_672) ×
      ((m : ℕ) → m ≤ 4_294_967_295 → finishes settings.bucket (tick m) 42_949_672 ≡ false)
  -- two lines with boundaries 99 and 100, whatever else is known of them: bucket 0 is not stable
  pub boundaries99 :
      (a b : Line) → a.boundary ≡ tick 99 → b.boundary ≡ tick 100 → is_stable_bucket settings 0 (a ∷ b ∷ []) ≡ false
  -- with boundaries 100 and 100 it is
  pub boundaries100 :
      (a b : Line) → a.boundary ≡ tick 100 → b.boundary ≡ tick 100 → is_stable_bucket settings 0 (a ∷ b ∷ []) ≡ true
  -- the mean of 5 over 2 is 2
  pub five_halves : mean (pos 5) 2 ≡ pos 2
  -- of -5 over 2 it is -2
  pub minus_five_halves : mean (neg_ℤ (pos 5)) 2 ≡ neg_ℤ (pos 2)
  -- of 7 over 2 it is 4
  pub seven_halves : mean (pos 7) 2 ≡ pos 4
  -- of 7 over 3 it is 2
  pub seven_thirds : mean (pos 7) 3 ≡ pos 2
  -- of -8 over 3 it is -3
  pub minus_eight_thirds : mean (neg_ℤ (pos 8)) 3 ≡ neg_ℤ (pos 3)
  -- equal time 10, id 4 on line 1 and id 1 on line 2: line 1's reading is the first of the bucket
  pub equal_times :
      (r s : Reading) → r.time ≡ tick 10 → r.id ≡ 4 → s.time ≡ tick 10 → s.id ≡ 1 →
      in_bucket settings.bucket 0 ((r ∷ []) ∷ (s ∷ []) ∷ []) ≡ on 1 r ∷ on 2 s ∷ []
  -- last stable id 2, last id 5: an undo to 2 is accepted
  pub undo_to2 : answer_to settings node (undo 2) ≡ 0
  -- an undo to 1 is refused with 11
  pub undo_to1 : answer_to settings node (undo 1) ≡ 11
