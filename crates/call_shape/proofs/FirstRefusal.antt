-- The first of refusals 3 to 5 that stands, from what was found of the stores' lengths and of the shape. A store that is not short lends
-- its columns.
use Prim.Native.Nat.{ℕ, ◌≤◌, ◌<◌}
use mathlib.Core.Path.{◌≡◌, refl, sym, ◌∙◌}
use mathlib.Core.Bool.{Bool, true, false, not, ◌&&◌}
use mathlib.Core.List.{List}
use borrow.Author.Tests.{lt-ltb, le-ltb, ltb-false, not-true, not-false}
use lib.ListN.{length}
use Rattle.store.specs.declared.StoreView.{StoreView}
use Rattle.store.specs.Columns.{Columns}
use Rattle.store.specs.Lent.{viewed}
use Rattle.protocol.specs.Tests.{first_failed}
use Rattle.retransmission.specs.Sizes.{held_bytes}
use Rattle.node.specs.Held.{Held}
use Rattle.node.specs.Sizes.{area_bytes}
use Rattle.node.specs.View.{lent_of}
use Rattle.node.specs.Shape.{displays_ok, sent_ok, state_in_shape, in_shape}
use Rattle.node.specs.Opening.{shares_short, is_short}
use Rattle.node.specs.Calls.{host_tests}
use Rattle.call_shape.specs.Lent.{Lends}

pub lent :
    (lines : ℕ) (store : StoreView) (short : Bool) → short ≡ shares_short lines (viewed store) → short ≡ false →
    Lends (viewed store) lines store
unfolding shares_short
lent lines store short found long =
    record {
      room = ltb-false _ _ (sym found ∙ long);
      of_ids = refl;
      of_kinds = refl;
      of_meters = refl;
    }

module _ (st : Held) (x : Columns) (sent area : List ℕ) (short : Bool) (found : short ≡ shares_short st.settings.lines x) where
  pub short_store : short ≡ true → 3 ≡ first_failed (host_tests st (lent_of x sent) area)
  unfolding host_tests first_failed is_short
  short_store e = rw (← found, e)

  module _ (long : short ≡ false) where
    pub short_sent : length sent < held_bytes → 3 ≡ first_failed (host_tests st (lent_of x sent) area)
    unfolding host_tests first_failed is_short
    short_sent h = rw (← found, long, lt-ltb (length sent) held_bytes h)

    module _ (room : held_bytes ≤ length sent) (shaped : Bool) (tested : shaped ≡ state_in_shape st x) where
      pub out_of_shape : not shaped ≡ true → 4 ≡ first_failed (host_tests st (lent_of x sent) area)
      unfolding host_tests first_failed is_short in_shape
      out_of_shape e = rw (← found, long, le-ltb (length sent) held_bytes room, ← tested, not-true shaped e)

      module _ (is : not shaped ≡ false) (held : Bool) (looked : held ≡ displays_ok st && sent_ok st sent) where
        pub out_of_places : not held ≡ true → 4 ≡ first_failed (host_tests st (lent_of x sent) area)
        unfolding host_tests first_failed is_short in_shape
        out_of_places e = rw (← found, long, le-ltb (length sent) held_bytes room, ← tested, not-false shaped is, ← looked, e)

        pub short_area : not held ≡ false → length area < area_bytes → 5 ≡ first_failed (host_tests st (lent_of x sent) area)
        unfolding host_tests first_failed is_short in_shape
        short_area e h =
            rw (
              ← found,
              long,
              le-ltb (length sent) held_bytes room,
              ← tested,
              not-false shaped is,
              ← looked,
              e,
              lt-ltb (length area) area_bytes h,
            )

        pub nothing_refused : not held ≡ false → area_bytes ≤ length area → 0 ≡ first_failed (host_tests st (lent_of x sent) area)
        unfolding host_tests first_failed is_short in_shape
        nothing_refused e h =
            rw (
              ← found,
              long,
              le-ltb (length sent) held_bytes room,
              ← tested,
              not-false shaped is,
              ← looked,
              e,
              le-ltb (length area) area_bytes h,
            )
