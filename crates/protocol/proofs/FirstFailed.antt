-- Tests in their order: the number of the first that fails, told by the tests' numbers and not by their places in the list.
use Prim.Native.Nat.{ℕ, ◌<◌}
use mathlib.Core.Path.{◌≡◌, refl, sym, ◌∙◌, ap, subst}
use mathlib.Core.Bool.{Bool, true, false, cond, not, ◌&&◌, true≢false}
use mathlib.Core.List.{List, [], ◌∷◌, ◌++◌}
use mathlib.Core.Logic.{◌↔◌}
use native.Mathlib.Omega.{arith}
use lib.Dec.{ltb, eqb}
use borrow.Author.Tests.{ltb-true, eqb-true, eq-eqb, ne_eqb}
use Rattle.store.specs.Lists.{Every, all_of}
use Rattle.store.proofs.Choices.{and_parts}
use Rattle.store.proofs.Pairs.{every_to, every_passes}
use Rattle.protocol.specs.Tests.{Test, first_failed}

-- every test has a number of its own, above 0
unfoldable pub numbered : List Test → Bool
numbered [] = true
numbered (t ∷ ts) = ltb 0 t.number && (all_of (λ (u : Test). not (eqb u.number t.number)) ts && numbered ts)

abbrev pub AllPass : List Test → Type 0
AllPass = Every (λ (t : Test). t.fails ≡ false)

-- whether the test with this number fails
unfoldable pub fails_with : ℕ → List Test → Bool
fails_with m [] = false
fails_with m (t ∷ ts) = cond (eqb t.number m) t.fails (fails_with m ts)

-- the tests in front of the one with this number
unfoldable pub tests_before : ℕ → List Test → List Test
tests_before m [] = []
tests_before m (t ∷ ts) = cond (eqb t.number m) [] (t ∷ tests_before m ts)

-- the first test that fails has this number
pub record FirstWith (m : ℕ) (ts : List Test) : Type 0 where
  pub fails : fails_with m ts ≡ true
  pub before : AllPass (tests_before m ts)

module _ (t : Test) (ts : List Test) (h : numbered (t ∷ ts) ≡ true) where
  abbrev differs : Test → Bool
  differs u = not (eqb u.number t.number)

  parts : (ltb 0 t.number ≡ true) × (all_of differs ts && numbered ts ≡ true)
  unfolding numbered
  parts = and_parts (ltb 0 t.number) (all_of differs ts && numbered ts) h

  above : 0 < t.number
  above = ltb-true 0 t.number parts.0

  different : Every (λ (u : Test). u.number ≡ t.number → ⊥) ts
  different =
      every_to ts (λ u d e. true≢false (sym d ∙ ap not (eq-eqb _ _ e)))
      (every_passes differs ts (and_parts (all_of differs ts) (numbered ts) parts.1).0)

  others : numbered ts ≡ true
  others = (and_parts (all_of differs ts) (numbered ts) parts.1).1

-- ---- none fails

pub none_failed : (ts : List Test) → numbered ts ≡ true → first_failed ts ≡ 0 → AllPass ts
unfolding first_failed
none_failed [] h e = tt
none_failed (t ∷ ts) h e =
    (elim t.fails as (λ b. t.fails ≡ b → cond b t.number (first_failed ts) ≡ 0 → AllPass (t ∷ ts)) [
      | true ↦ λ q e. absurd (omega (arith, above t ts h, e))
      | false ↦ λ q e. (q, none_failed ts (others t ts h) e)
    ])
    refl e

-- so the test with any number passes
pub passes_with : (ts : List Test) → AllPass ts → (m : ℕ) → fails_with m ts ≡ false
unfolding fails_with
passes_with [] h m = refl
passes_with (t ∷ ts) h m =
    (elim (eqb t.number m) as (λ b. cond b t.fails (fails_with m ts) ≡ false) [
      | true ↦ h.0
      | false ↦ passes_with ts h.1 m
    ])

pub passes_each : (ts : List Test) → numbered ts ≡ true → first_failed ts ≡ 0 → (m : ℕ) → fails_with m ts ≡ false
passes_each ts h e = passes_with ts (none_failed ts h e)

-- ---- one fails

-- a number that no test has is not answered
pub never_answered : (m : ℕ) → 0 < m → (ts : List Test) → Every (λ (t : Test). t.number ≡ m → ⊥) ts → first_failed ts ≡ m → ⊥
unfolding first_failed
never_answered m some [] h e = omega (arith, e)
never_answered m some (t ∷ ts) h e =
    (elim t.fails as (λ b. cond b t.number (first_failed ts) ≡ m → ⊥) [
      | true ↦ λ e. h.0 e
      | false ↦ λ e. never_answered m some ts h.1 e
    ])
    e

first_answered : (m : ℕ) (ts : List Test) → 0 < m → numbered ts ≡ true → first_failed ts ≡ m → FirstWith m ts
unfolding first_failed fails_with tests_before
first_answered m [] l h e = absurd (omega (arith, e))
first_answered m (t ∷ ts) l h e =
    (elim t.fails as (λ b. t.fails ≡ b → cond b t.number (first_failed ts) ≡ m → FirstWith m (t ∷ ts)) [
      | true ↦ λ q e. let is = eq-eqb t.number m e in record { fails = rw is q; before = rw is tt }
      | false ↦ λ q e.
          let other : (t.number ≡ m → ⊥) =
          λ is. never_answered m l ts (subst (λ (j : ℕ). Every (λ (u : Test). u.number ≡ j → ⊥) ts) is (different t ts h)) e in
          let not_here = ne_eqb t.number m other in
          let rest = first_answered m ts l (others t ts h) e in
          record { fails = rw not_here rest.fails; before = rw not_here (q, rest.before) }
    ])
    refl e

answered_first : (m : ℕ) (ts : List Test) → FirstWith m ts → first_failed ts ≡ m
unfolding first_failed fails_with tests_before
answered_first m [] f = absurd (true≢false (sym f.fails))
answered_first m (t ∷ ts) f =
    (elim (eqb t.number m) as
    (λ b.
    eqb t.number m ≡ b → cond b t.fails (fails_with m ts) ≡ true → AllPass (cond b [] (t ∷ tests_before m ts)) →
    cond t.fails t.number (first_failed ts) ≡ m) [
      | true ↦ λ q e h. rw e (eqb-true _ _ q)
      | false ↦ λ q e h. rw h.0 (answered_first m ts (record { fails = e; before = h.1 }))
    ])
    refl f.fails f.before

pub first_with : (m : ℕ) (ts : List Test) → 0 < m → numbered ts ≡ true → (first_failed ts ≡ m) ↔ FirstWith m ts
first_with m ts l h = (first_answered m ts l h, answered_first m ts)

-- ---- tests behind others

pub failed_before : (ts rest : List Test) → (first_failed ts ≡ 0 → ⊥) → first_failed (ts ++ rest) ≡ first_failed ts
unfolding first_failed
failed_before [] rest h = absurd (h refl)
failed_before (t ∷ ts) rest h =
    (elim t.fails as
    (λ b.
    (cond b t.number (first_failed ts) ≡ 0 → ⊥) →
    cond b t.number (first_failed (ts ++ rest)) ≡ cond b t.number (first_failed ts)) [
      | true ↦ λ g. refl
      | false ↦ λ g. failed_before ts rest g
    ])
    h

pub passed_before : (ts rest : List Test) → AllPass ts → first_failed (ts ++ rest) ≡ first_failed rest
unfolding first_failed
passed_before [] rest h = refl
passed_before (t ∷ ts) rest h =
    ap (λ (b : Bool). cond b t.number (first_failed (ts ++ rest))) h.0 ∙ passed_before ts rest h.1
