-- The order inside a bucket: `before` is `Earlier`, and so a strict total order on time, line and id. The definition's tests are taken
-- apart in the laws between `before` and `Earlier` alone; the rest is arithmetic by cases.
use Prim.Native.Nat.{ℕ, ◌≤◌, ◌<◌}
use mathlib.Core.Path.{◌≡◌, refl, sym, ◌∙◌}
use mathlib.Core.Bool.{true, false, not, true≢false}
use mathlib.Core.Logic.{◌↔◌, ◌⊎◌, inl, inr, ⊎_elim}
use native.Mathlib.Omega.{arith}
use lib.Dec.{eqb, ltb}
use borrow.Author.Tests.{eqb-true, eqb-false, ltb-true, ltb-false, eq-eqb, ne_eqb, lt-ltb}
use Rattle.store.specs.Order.{Placed, before}
use Rattle.store.specs.Sorted.{is_level}
use Rattle.store.proofs.Choices.{false_unless, and_parts, cond_either}

-- earlier in time; at equal times, on a lower line; on one line, with a lower id
pub data Earlier (a b : Placed) : Type 0 where
  by_time : a.reading.time.0 < b.reading.time.0 → Earlier a b
  by_line : a.reading.time.0 ≡ b.reading.time.0 → a.line < b.line → Earlier a b
  by_id : a.reading.time.0 ≡ b.reading.time.0 → a.line ≡ b.line → a.reading.id < b.reading.id → Earlier a b

pub earlier_before : (a b : Placed) → Earlier a b → before a b ≡ true
unfolding before
earlier_before a b (by_time h) = rw (ne_eqb a.reading.time.0 b.reading.time.0 (omega arith)) (lt-ltb _ _ h)
earlier_before a b (by_line e h) =
    rw (eq-eqb a.reading.time.0 b.reading.time.0 e, ne_eqb a.line b.line (omega arith)) (lt-ltb _ _ h)
earlier_before a b (by_id e f h) =
    rw (eq-eqb a.reading.time.0 b.reading.time.0 e, eq-eqb a.line b.line f) (lt-ltb _ _ h)

pub before_earlier : (a b : Placed) → before a b ≡ true → Earlier a b
unfolding before
before_earlier a b =
    cond_either (λ t. t ≡ true → Earlier a b) (eqb a.reading.time.0 b.reading.time.0)
    (λ e.
    cond_either (λ t. t ≡ true → Earlier a b) (eqb a.line b.line)
    (λ f h. by_id (eqb-true _ _ e) (eqb-true _ _ f) (ltb-true _ _ h))
    (λ f h. by_line (eqb-true _ _ e) (ltb-true _ _ h)))
    (λ e h. by_time (ltb-true _ _ h))

earlier_irreflexive : (a : Placed) → Earlier a a → ⊥
earlier_irreflexive a (by_time h) = omega arith
earlier_irreflexive a (by_line e h) = omega arith
earlier_irreflexive a (by_id e f h) = omega arith

earlier_transitive : (a b c : Placed) → Earlier a b → Earlier b c → Earlier a c
earlier_transitive a b c (by_time h) (by_time k) = by_time (omega arith)
earlier_transitive a b c (by_time h) (by_line e k) = by_time (omega arith)
earlier_transitive a b c (by_time h) (by_id e f k) = by_time (omega arith)
earlier_transitive a b c (by_line e h) (by_time k) = by_time (omega arith)
earlier_transitive a b c (by_line e h) (by_line e' k) = by_line (omega arith) (omega arith)
earlier_transitive a b c (by_line e h) (by_id e' f k) = by_line (omega arith) (omega arith)
earlier_transitive a b c (by_id e f h) (by_time k) = by_time (omega arith)
earlier_transitive a b c (by_id e f h) (by_line e' k) = by_line (omega arith) (omega arith)
earlier_transitive a b c (by_id e f h) (by_id e' f' k) = by_id (omega arith) (omega arith) (omega arith)

-- no reading goes before itself
pub before_irreflexive : (a : Placed) → before a a ≡ false
before_irreflexive a = false_unless (before a a) (λ e. earlier_irreflexive a (before_earlier a a e))

-- a reading that goes before another is not later in time
pub before_times : (a b : Placed) → before a b ≡ true → a.reading.time.0 ≤ b.reading.time.0
before_times a b h = go (before_earlier a b h)
  where
    go : Earlier a b → a.reading.time.0 ≤ b.reading.time.0
    go (by_time l) = omega arith
    go (by_line e l) = omega arith
    go (by_id e f l) = omega arith

-- nor is one earlier in time that does not go before another
pub not_before_times : (a b : Placed) → before a b ≡ false → b.reading.time.0 ≤ a.reading.time.0
not_before_times a b h =
    ltb-false _ _
    (false_unless (ltb a.reading.time.0 b.reading.time.0)
    (λ e. true≢false (sym (earlier_before a b (by_time (ltb-true _ _ e))) ∙ h)))

pub before_transitive : (a b c : Placed) → before a b ≡ true → before b c ≡ true → before a c ≡ true
before_transitive a b c h k = earlier_before a c (earlier_transitive a b c (before_earlier a b h) (before_earlier b c k))

pub before_asymmetric : (a b : Placed) → before a b ≡ true → before b a ≡ false
before_asymmetric a b h =
    false_unless (before b a) (λ e. true≢false (sym (before_transitive a b a h e) ∙ before_irreflexive a))

-- a reading that does not go before another goes before none that is before that one
pub not_before_earlier : (a b c : Placed) → before a b ≡ true → before c b ≡ false → before c a ≡ false
not_before_earlier a b c h k = false_unless (before c a) (λ e. true≢false (sym (before_transitive c a b e h) ∙ k))

-- level readings are those with equal time, line and id
pub level_equal :
    (a b : Placed) →
    (is_level a b ≡ true) ↔ ((a.reading.time.0 ≡ b.reading.time.0) × (a.line ≡ b.line) × (a.reading.id ≡ b.reading.id))
unfolding is_level
level_equal a b = (
  λ e.
      let (t, rest) = and_parts _ _ e in
      let (l, i) = and_parts _ _ rest in
      (eqb-true _ _ t, eqb-true _ _ l, eqb-true _ _ i),
  λ (t, l, i).
      rw (
        eq-eqb a.reading.time.0 b.reading.time.0 t,
        eq-eqb a.line b.line l,
        eq-eqb a.reading.id b.reading.id i,
      ),
)

pub level_turned : (a b : Placed) → is_level a b ≡ false → is_level b a ≡ false
level_turned a b h =
    false_unless (is_level b a)
    (λ e.
    let (t, l, i) = (level_equal b a).0 e in
    true≢false (sym ((level_equal a b).1 (sym t, sym l, sym i)) ∙ h))

pub data Compared (m n : ℕ) : Type 0 where
  below : m < n → Compared m n
  same : m ≡ n → Compared m n
  above : n < m → Compared m n

pub compare : (m n : ℕ) → Compared m n
compare m n =
    (elim (ltb m n) as (λ t. ltb m n ≡ t → Compared m n) [
      | true ↦ λ e. below (ltb-true m n e)
      | false ↦
          λ e.
          (elim (eqb m n) as (λ t. eqb m n ≡ t → Compared m n) [
            | true ↦ λ q. same (eqb-true m n q)
            | false ↦ λ q. above (omega (arith, ltb-false m n e, eqb-false m n q))
          ])
          refl
    ])
    refl

one_earlier : (a b : Placed) → is_level a b ≡ false → Earlier a b ⊎ Earlier b a
one_earlier a b h =
    go (compare a.reading.time.0 b.reading.time.0) (compare a.line b.line) (compare a.reading.id b.reading.id)
  where
    go :
        Compared a.reading.time.0 b.reading.time.0 → Compared a.line b.line →
        Compared a.reading.id b.reading.id → Earlier a b ⊎ Earlier b a
    go (below t) l i = inl (by_time t)
    go (above t) l i = inr (by_time t)
    go (same t) (below l) i = inl (by_line t l)
    go (same t) (above l) i = inr (by_line (sym t) l)
    go (same t) (same l) (below i) = inl (by_id t l i)
    go (same t) (same l) (above i) = inr (by_id (sym t) (sym l) i)
    go (same t) (same l) (same i) = absurd (true≢false (sym ((level_equal a b).1 (t, l, i)) ∙ h))

-- of two readings that differ in time, line or id exactly one goes before the other
pub exactly_one_before : (a b : Placed) → is_level a b ≡ false → before b a ≡ not (before a b)
exactly_one_before a b h =
    ⊎_elim (λ e. rw (earlier_before a b e) (before_asymmetric a b (earlier_before a b e)))
    (λ e. rw (before_asymmetric b a (earlier_before b a e)) (earlier_before b a e)) (one_earlier a b h)
