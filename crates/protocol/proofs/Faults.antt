-- What each test of a call says in plain arithmetic.
use Prim.Native.Nat.{ℕ, zero, suc, ◌≤◌, ◌<◌}
use mathlib.Core.Path.{◌≡◌, refl, sym, ap}
use mathlib.Core.Bool.{Bool, true, false, not, ◌&&◌, true≢false}
use mathlib.Core.List.{List, [], ◌∷◌}
use mathlib.Core.Logic.{◌↔◌}
use native.Mathlib.Omega.{arith}
use lib.Dec.{leb, eqb}
use lib.IntN.{ℤ, pos, negsuc, pos-ne-negsuc}
use lib.ListN.{length, get_or}
use borrow.Author.Tests.{leb-true, le-leb, eqb-true, eq-eqb, not-false}
use Rattle.settings.specs.declared.Settings.{Settings}
use Rattle.store.specs.Lists.{modify}
use Rattle.protocol.specs.Kinds.{Kind, uses}
use Rattle.protocol.specs.Node.{Line}
use Rattle.protocol.specs.Refusals.{is_zero, is_full}

pub get_d_modify : {A : Type 0} (f : A → A) (xs : List A) (i : ℕ) (d : A) → i < length xs → get_or (modify f i xs) i d ≡ f (get_or xs i d)
unfolding modify
get_d_modify f [] i d h = absurd (omega arith)
get_d_modify f (x ∷ xs) zero d h = refl
get_d_modify f (x ∷ xs) (suc i) d h = get_d_modify f xs i d (omega arith)

-- a test of two tests is both facts, a test turned round the fact itself
pub and_iff : {X Y : Type 0} (a b : Bool) → (a ≡ true) ↔ X → (b ≡ true) ↔ Y → (a && b ≡ true) ↔ (X × Y)
and_iff true b f g = (λ e. (f.0 refl, g.0 e), λ h. g.1 h.1)
and_iff false b f g = (λ e. absurd (true≢false (sym e)), λ h. f.1 h.0)

pub not_iff : {X : Type 0} (a : Bool) → (a ≡ true) ↔ X → (not a ≡ false) ↔ X
not_iff a f = (λ e. f.0 (not-false a e), λ h. ap not (f.1 h))

pub leb_iff : (a b : ℕ) → (leb a b ≡ true) ↔ (a ≤ b)
leb_iff a b = (leb-true a b, le-leb a b)

pub eqb_iff : (a b : ℕ) → (eqb a b ≡ true) ↔ (a ≡ b)
eqb_iff a b = (eqb-true a b, eq-eqb a b)

pub zero_iff : (z : ℤ) → (is_zero z ≡ true) ↔ (z ≡ pos 0)
unfolding is_zero
zero_iff (pos n) = (λ e. ap pos (eqb-true n 0 e), λ q. eq-eqb n 0 (cc))
zero_iff (negsuc n) = (λ e. absurd (true≢false (sym e)), λ q. absurd (pos-ne-negsuc 0 n (sym q)))

-- a number from a to c
pub between : (a b c : ℕ) → (leb a b && leb b c ≡ true) ↔ ((a ≤ b) × (b ≤ c))
between a b c = and_iff (leb a b) (leb b c) (leb_iff a b) (leb_iff b c)

-- the line's number is one of the settings' lines
pub line_iff : (s : Settings) (line : ℕ) → (not (leb 1 line && leb line s.lines) ≡ false) ↔ ((1 ≤ line) × (line ≤ s.lines))
line_iff s line = not_iff (leb 1 line && leb line s.lines) (between 1 line s.lines)

-- three fields are 0
pub three_iff : (a b : ℕ) (z : ℤ) → (eqb a 0 && (eqb b 0 && is_zero z) ≡ true) ↔ ((a ≡ 0) × ((b ≡ 0) × (z ≡ pos 0)))
three_iff a b z =
    and_iff (eqb a 0) (eqb b 0 && is_zero z) (eqb_iff a 0) (and_iff (eqb b 0) (is_zero z) (eqb_iff b 0) (zero_iff z))

-- four fields are 0
pub four_iff :
    (a b c : ℕ) (z : ℤ) →
    (eqb a 0 && (eqb b 0 && (eqb c 0 && is_zero z)) ≡ true) ↔ ((a ≡ 0) × ((b ≡ 0) × ((c ≡ 0) × (z ≡ pos 0))))
four_iff a b c z = and_iff (eqb a 0) (eqb b 0 && (eqb c 0 && is_zero z)) (eqb_iff a 0) (three_iff b c z)

pub full_256 : (l : Line) (kind : Kind) → is_full l kind ≡ true → 256 ≤ length l.kept
unfolding is_full uses
full_256 l Kind.S e = leb-true 256 (length l.kept) e
full_256 l Kind.T e = leb-true 256 (length l.kept) e
full_256 l Kind.B e = absurd (true≢false (sym e))
full_256 l Kind.U e = absurd (true≢false (sym e))
full_256 l Kind.R e = absurd (true≢false (sym e))
full_256 l Kind.P e = absurd (true≢false (sym e))
