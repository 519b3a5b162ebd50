-- Laws of tests and of `cond`, by the test's two values.
use mathlib.Core.Path.{◌≡◌, refl, sym, ◌∙◌}
use mathlib.Core.Bool.{Bool, true, false, cond, ◌&&◌, true≢false, and-eq-true_iff}

-- a test that cannot be true
pub false_unless : (b : Bool) → (b ≡ true → ⊥) → b ≡ false
false_unless true f = absurd (f refl)
false_unless false f = refl

-- a test that cannot fail
pub true_unless : (b : Bool) → (b ≡ false → ⊥) → b ≡ true
true_unless true f = refl
true_unless false f = absurd (f refl)

-- a test does not both hold and fail
pub not_both : {X : Type 0} {b : Bool} → b ≡ true → b ≡ false → X
not_both p q = absurd (true≢false (sym p ∙ q))

pub and_parts : (b c : Bool) → b && c ≡ true → (b ≡ true) × (c ≡ true)
and_parts b c e = (and-eq-true_iff b c).0 e

-- a choice has a property where each side has it, under its value of the test
pub cond_either : {A : Type 0} (P : A → Type 0) (b : Bool) {x y : A} → (b ≡ true → P x) → (b ≡ false → P y) → P (cond b x y)
cond_either P true f g = f refl
cond_either P false f g = g refl

-- a function goes through a choice
pub cond_map : {A B : Type 0} (f : A → B) (b : Bool) (x y : A) → cond b (f x) (f y) ≡ f (cond b x y)
cond_map f true x y = refl
cond_map f false x y = refl
