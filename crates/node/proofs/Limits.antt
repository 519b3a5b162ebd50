-- The limits of the settings, one by one, from the test of all of them.
use Prim.Native.Nat.{◌≤◌}
use mathlib.Core.Path.{◌≡◌}
use mathlib.Core.Bool.{Bool, true, ◌&&◌}
use borrow.Author.Tests.{leb-true}
use lib.Dec.{leb}
use lib.Signed.{le_z}
use Rattle.settings.specs.declared.Settings.{Settings}
use Rattle.settings.specs.Limits.{max_lines, min_bucket, max_bucket, max_window, max_hold, max_displays, within_limits}
use Rattle.store.proofs.Choices.{and_parts}

pub record Limits (s : Settings) : Type 0 where
  pub some_lines : 1 ≤ s.lines
  pub lines : s.lines ≤ max_lines
  pub least_bucket : min_bucket ≤ s.bucket
  pub bucket : s.bucket ≤ max_bucket
  pub some_window : 1 ≤ s.window
  pub window : s.window ≤ max_window
  pub hold : s.hold ≤ max_hold
  pub values : le_z s.low s.high ≡ true
  pub some_displays : 1 ≤ s.displays
  pub displays : s.displays ≤ max_displays

pub limits_hold : (s : Settings) → within_limits s ≡ true → Limits s
unfolding within_limits
limits_hold s e =
    let a : Bool = leb 1 s.lines && leb s.lines max_lines in
    let b : Bool = leb min_bucket s.bucket && leb s.bucket max_bucket in
    let c : Bool = leb 1 s.window && leb s.window max_window in
    let d : Bool = leb s.hold max_hold && le_z s.low s.high in
    let f : Bool = leb 1 s.displays && leb s.displays max_displays in
    let ea : a ≡ true = (and_parts a (b && (c && (d && f))) e).0 in
    let ebcd : b && (c && (d && f)) ≡ true = (and_parts a (b && (c && (d && f))) e).1 in
    let eb : b ≡ true = (and_parts b (c && (d && f)) ebcd).0 in
    let ecd : c && (d && f) ≡ true = (and_parts b (c && (d && f)) ebcd).1 in
    let ec : c ≡ true = (and_parts c (d && f) ecd).0 in
    let edf : d && f ≡ true = (and_parts c (d && f) ecd).1 in
    let ed : d ≡ true = (and_parts d f edf).0 in
    let ef : f ≡ true = (and_parts d f edf).1 in
    record {
      some_lines = leb-true _ _ (and_parts (leb 1 s.lines) (leb s.lines max_lines) ea).0;
      lines = leb-true _ _ (and_parts (leb 1 s.lines) (leb s.lines max_lines) ea).1;
      least_bucket = leb-true _ _ (and_parts (leb min_bucket s.bucket) (leb s.bucket max_bucket) eb).0;
      bucket = leb-true _ _ (and_parts (leb min_bucket s.bucket) (leb s.bucket max_bucket) eb).1;
      some_window = leb-true _ _ (and_parts (leb 1 s.window) (leb s.window max_window) ec).0;
      window = leb-true _ _ (and_parts (leb 1 s.window) (leb s.window max_window) ec).1;
      hold = leb-true _ _ (and_parts (leb s.hold max_hold) (le_z s.low s.high) ed).0;
      values = (and_parts (leb s.hold max_hold) (le_z s.low s.high) ed).1;
      some_displays = leb-true _ _ (and_parts (leb 1 s.displays) (leb s.displays max_displays) ef).0;
      displays = leb-true _ _ (and_parts (leb 1 s.displays) (leb s.displays max_displays) ef).1;
    }
