-- A display catches up exactly if it is behind, and all do so in turn.
use Prim.Native.Nat.{ℕ, zero, suc, ◌+◌, ◌<◌, ◌≤◌}
use mathlib.Core.Path.{◌≡◌, refl, sym, ap, ◌∙◌}
use mathlib.Core.Bool.{Bool, true, false, cond, ◌&&◌, ◌||◌}
use native.Mathlib.Numerals.{add-one}
use native.Mathlib.Omega.{arith}
use borrow.Author.Tests.{ltb-true, ltb-false}
use lib.Dec.{ltb}
use lib.ListN.{length, get_or, take}
use lib.Seq.{take_all}
use Rattle.std.specs.Prelude.{min}
use Rattle.std.specs.List.{list_any}
use Rattle.std.proofs.Math.Bool.{or-false}
use Rattle.std.proofs.lemmas.List.Folds.{list_any_more}
use Rattle.protocol.proofs.Displays.{neither}
use Rattle.settings.specs.Limits.{max_displays}
use Rattle.node.specs.Held.{Held}
use Rattle.node.specs.Calls.{Called}
use Rattle.node.specs.Displays.{acknowledged_on}
use Rattle.playback_dispatch.specs.Dispatch.{is_behind, caught_up, all_caught_up}
use Rattle.playback_dispatch.specs.Behind.{some_behind}

module _ (i : ℕ) (q : Called) where
  pub up_to_date : is_behind q.state i ≡ false → q ≡ caught_up i q
  unfolding caught_up
  up_to_date e = rw e

  pub was_behind :
      (a : Called) → is_behind q.state i ≡ true →
      a ≡ acknowledged_on q.state q.lent (i + 1) q.state.checkpoint.number q.area →
      record { answer = q.answer; records = q.records; state = a.state; lent = a.lent; area = q.area } ≡ caught_up i q
  unfolding caught_up
  was_behind a e same = rw (e, rw add-one at same)

pub in_turn : (n : ℕ) (q r s : Called) → r ≡ caught_up n s → s ≡ all_caught_up n q → r ≡ all_caught_up (n + 1) q
unfolding all_caught_up
in_turn n q r s e f = rw add-one (e ∙ ap (caught_up n) f)

-- where none is behind, nothing changes
pub none_behind : (n : ℕ) (q : Called) → some_behind n q.state ≡ false → q ≡ all_caught_up n q
unfolding some_behind all_caught_up
none_behind zero q e = refl
none_behind (suc n) q e =
    let parts = neither (some_behind n q.state) (is_behind q.state n) e in
    up_to_date n q parts.1 ∙ ap (caught_up n) (none_behind n q parts.0)

-- of the first n displays one is, if its last id is before the newest stable result's
pub behind_of :
    (st : Held) (n m : ℕ) → n ≤ length st.acknowledged → m ≡ min n st.settings.displays →
    some_behind n st ≡ list_any (λ id. ltb id st.checkpoint.number) (take m st.acknowledged)
unfolding some_behind is_behind
behind_of st zero m h e =
    let z : m ≡ 0 = omega arith in
    rw z refl
behind_of st (suc n) m h e =
    let test = λ (id : ℕ). ltb id st.checkpoint.number in
    let more = list_any_more test st.acknowledged n 0 (omega arith) in
    let so_far : (k : ℕ) → k ≡ min n st.settings.displays → some_behind n st ≡ list_any test (take k st.acknowledged) =
    λ k p. behind_of st n k (omega arith) p in
    (elim (ltb n st.settings.displays) as
    (λ b. ltb n st.settings.displays ≡ b →
    some_behind n st || (b && ltb (get_or st.acknowledged n 0) st.checkpoint.number) ≡ list_any test (take m st.acknowledged)) [
      | true ↦ λ is.
          let within : n < st.settings.displays = ltb-true _ _ is in
          let all : m ≡ n + 1 = omega arith in
          rw (all, more, so_far n (omega arith)) refl
      | false ↦ λ is.
          let past : st.settings.displays ≤ n = ltb-false _ _ is in
          let same : some_behind n st ≡ list_any test (take m st.acknowledged) = so_far m (omega arith) in
          or-false (some_behind n st) ∙ same
    ])
    refl

pub behind_any :
    (st : Held) → length st.acknowledged ≡ max_displays →
    some_behind max_displays st ≡ list_any (λ id. ltb id st.checkpoint.number) (take st.settings.displays st.acknowledged)
behind_any st all =
    let ids = st.acknowledged in
    let displays = st.settings.displays in
    let test = λ (id : ℕ). ltb id st.checkpoint.number in
    (elim (ltb displays max_displays) as
    (λ b. ltb displays max_displays ≡ b → some_behind max_displays st ≡ list_any test (take displays ids)) [
      | true ↦ λ e.
          let few : displays < max_displays = ltb-true _ _ e in
          behind_of st max_displays displays (omega arith) (omega arith)
      | false ↦ λ e.
          let many : max_displays ≤ displays = ltb-false _ _ e in
          behind_of st max_displays max_displays (omega arith) (omega arith)
          ∙ ap (list_any test) (take_all max_displays ids (omega arith) ∙ sym (take_all displays ids (omega arith)))
    ])
    refl

-- a call after which the displays acknowledge, one after which none is behind, and one after which none is to
module _ (acknowledging : Bool) (n : ℕ) (q r : Called) where
  pub all_follow : acknowledging ≡ true → r ≡ all_caught_up n q → r ≡ cond acknowledging (all_caught_up n q) q
  all_follow on same = rw on same

  pub none_lags : acknowledging ≡ true → some_behind n r.state ≡ false → r ≡ q → r ≡ cond acknowledging (all_caught_up n q) q
  none_lags on none same = rw on (none_behind n r none ∙ ap (all_caught_up n) same)

  pub none_follows : acknowledging ≡ false → r ≡ q → r ≡ cond acknowledging (all_caught_up n q) q
  none_follows off same = rw off same
