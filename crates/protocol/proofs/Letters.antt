-- Only the letter S has the kind S, and only T the kind T: by cases on the tests before.
use Prim.Native.Nat.{ℕ}
use mathlib.Core.Path.{◌≡◌, refl}
use mathlib.Core.Bool.{Bool, true, false, cond}
use lib.Dec.{eqb}
use borrow.Author.Tests.{eqb-true}
use Rattle.journal.specs.Kinds.{letter_s, letter_t, letter_b, letter_u, letter_r}
use Rattle.protocol.specs.Kinds.{Kind, kind_of}

-- the kind by the tests for the first five letters
by_tests : Bool → Bool → Bool → Bool → Bool → Kind
by_tests a b c d e =
    cond a Kind.S (cond b Kind.T (cond c Kind.B (cond d Kind.U (cond e Kind.R Kind.P))))

first_test : (a b c d e : Bool) → by_tests a b c d e ≡ Kind.S → a ≡ true
unfolding by_tests
first_test true b c d e h = refl
first_test false true c d e h = cc
first_test false false true d e h = cc
first_test false false false true e h = cc
first_test false false false false true h = cc
first_test false false false false false h = cc

second_test : (a b c d e : Bool) → by_tests a b c d e ≡ Kind.T → b ≡ true
unfolding by_tests
second_test a true c d e h = refl
second_test true false c d e h = cc
second_test false false true d e h = cc
second_test false false false true e h = cc
second_test false false false false true h = cc
second_test false false false false false h = cc

pub S-kind : (letter : ℕ) → eqb letter letter_s ≡ true → kind_of letter ≡ Kind.S
unfolding kind_of
S-kind letter e = rw e

pub kind_S : (letter : ℕ) → kind_of letter ≡ Kind.S → letter ≡ letter_s
unfolding kind_of by_tests
kind_S letter h = eqb-true _ _ (first_test (eqb letter letter_s) (eqb letter letter_t) (eqb letter letter_b) (eqb letter letter_u) (eqb letter letter_r) h)

pub kind_T : (letter : ℕ) → kind_of letter ≡ Kind.T → letter ≡ letter_t
unfolding kind_of by_tests
kind_T letter h = eqb-true _ _ (second_test (eqb letter letter_s) (eqb letter letter_t) (eqb letter letter_b) (eqb letter letter_u) (eqb letter letter_r) h)
