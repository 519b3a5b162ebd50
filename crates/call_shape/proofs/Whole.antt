-- Held and store in shape, from the tests of their parts in the order in which the code makes them: the state's own, the lines, the meters.
-- The definition joins them in another order; by cases on the tests.
use mathlib.Core.Path.{◌≡◌, refl, sym, ◌∙◌}
use mathlib.Core.Bool.{Bool, true, false, not, ◌&&◌}
use borrow.Author.Tests.{not-true, not-false}
use lib.ListN.{take}
use Rattle.settings.specs.Limits.{within_limits}
use Rattle.store.specs.Lists.{all_of}
use Rattle.store.proofs.Choices.{and_parts}
use Rattle.store.specs.Columns.{Columns}
use Rattle.operator_meter.specs.Bounds.{meter_ok}
use Rattle.node.specs.Held.{Held}
use Rattle.node.specs.View.{view}
use Rattle.node.specs.Shape.{head_ok, kept_ok, buckets_ok, numbers_ok, state_in_shape}

abbrev pub own_in_shape : Held → Bool
own_in_shape st = within_limits st.settings && (buckets_ok st && numbers_ok st)

abbrev pub lines_in_shape : Held → Columns → Bool
lines_in_shape st x = all_of head_ok (take st.settings.lines st.heads) && all_of kept_ok (view st x).lines

abbrev pub meters_in_shape : Held → Bool
meters_in_shape st = all_of meter_ok st.operator.meters && all_of meter_ok st.checkpoint.meters

own_first :
    (limits buckets numbers heads kept meters : Bool) →
    (limits && (buckets && numbers)) && ((heads && kept) && meters) ≡
    limits && (heads && (kept && (buckets && (numbers && meters))))
own_first false buckets numbers heads kept meters = refl
own_first true true true true kept meters = refl
own_first true true true false kept meters = refl
own_first true true false true true meters = refl
own_first true true false true false meters = refl
own_first true true false false kept meters = refl
own_first true false numbers true true meters = refl
own_first true false numbers true false meters = refl
own_first true false numbers false kept meters = refl

in_parts :
    (st : Held) (x : Columns) (own lines meters : Bool) → own ≡ own_in_shape st → lines ≡ lines_in_shape st x → meters ≡ meters_in_shape st →
    own && (lines && meters) ≡ state_in_shape st x
unfolding state_in_shape
in_parts st x own lines meters o l m = rw (o, l, m, own_first)

module _ (st : Held) (own : Bool) (found : own ≡ own_in_shape st) where
  pub wrong_state : (x : Columns) → not own ≡ true → false ≡ state_in_shape st x
  wrong_state x e = rw (not-true own e) at (in_parts st x own _ _ found refl refl)

  module _ (right : not own ≡ false) where
    pub own_limits : within_limits st.settings ≡ true
    own_limits = (and_parts (within_limits st.settings) _ (sym found ∙ not-false own right)).0

    module _ (x : Columns) (lines : Bool) (tested : lines ≡ lines_in_shape st x) where
      pub wrong_lines : not lines ≡ true → false ≡ state_in_shape st x
      wrong_lines e = rw (not-false own right, not-true lines e) at (in_parts st x own lines _ found tested refl)

      pub left_to_meters : not lines ≡ false → (meters : Bool) → meters ≡ meters_in_shape st → meters ≡ state_in_shape st x
      left_to_meters e meters m = rw (not-false own right, not-false lines e) at (in_parts st x own lines meters found tested m)

pub shape_limits : (st : Held) (x : Columns) → state_in_shape st x ≡ true → within_limits st.settings ≡ true
unfolding state_in_shape
shape_limits st x e = (and_parts (within_limits st.settings) _ e).0
