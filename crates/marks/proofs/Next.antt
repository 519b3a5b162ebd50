-- The next marked place is the smallest marked one at or above a place, and there is none exactly if no such place is marked. By the
-- number of places that are left.
use Prim.Native.Nat.{ℕ, zero, suc, ◌+◌, ◌*◌, ◌-◌, ◌/◌, ◌^◌, ◌≤◌, ◌<◌}
use mathlib.Core.Path.{◌≡◌, refl, sym, ◌∙◌, ap, subst}
use mathlib.Core.Bool.{Bool, true, false, true≢false}
use mathlib.Core.List.{List}
use mathlib.Core.Logic.{⊎_elim}
use native.Mathlib.Omega.{arith}
use lib.Count.{count_trailing_zeros}
use lib.ListN.{length, get_or}
use Rattle.signed.proofs.Comparing.{lt_or_le}
use Rattle.std.proofs.Common.{Option, Some, None}
use Rattle.marks.specs.Words.{word_bits}
use Rattle.marks.specs.Marks.{is_marked, first_marked, next_marked}
use Rattle.marks.specs.Next.{SmallestMarked, NoneMarked, IsNext}
use Rattle.marks.proofs.Places.{rest, unmarked_behind, word_none, word_next}

-- what an answer claims
abbrev Claim : List ℕ → ℕ → Option ℕ → Type 0
Claim words from (Some i) = SmallestMarked words from i
Claim words from None = NoneMarked words from

module _ (words : List ℕ) where
  -- ---- a step of the definition

  next_here : (from : ℕ) → from < word_bits * length words → is_marked words from ≡ true → next_marked words from ≡ Some from
  unfolding next_marked first_marked
  next_here from h e =
      let one : word_bits * length words - from ≡ suc (word_bits * length words - suc from) = omega arith in
      rw one (rw e)

  next_later : (from : ℕ) → from < word_bits * length words → is_marked words from ≡ false
      → next_marked words from ≡ next_marked words (suc from)
  unfolding next_marked first_marked
  next_later from h e =
      let one : word_bits * length words - from ≡ suc (word_bits * length words - suc from) = omega arith in
      rw one (rw e)

  pub next_behind : (from : ℕ) → word_bits * length words ≤ from → next_marked words from ≡ None
  unfolding next_marked first_marked
  next_behind from h =
      let none : word_bits * length words - from ≡ 0 = omega arith in
      rw none

  -- ---- what it answers

  earlier : (from k : ℕ) → from ≤ k → is_marked words from ≡ false → (suc from ≤ k → is_marked words k ≡ false) → is_marked words k ≡ false
  earlier from k h e later = ⊎_elim later (λ g. let q : k ≡ from = omega arith in rw q e) (lt_or_le from k)

  claim_earlier : (from : ℕ) (r : Option ℕ) → is_marked words from ≡ false → Claim words (suc from) r → Claim words from r
  claim_earlier from (Some i) e c =
      record {
        above = omega (arith, c.above);
        marked = c.marked;
        smallest = λ k p q. earlier from k p e (λ s. c.smallest k s q);
      }
  claim_earlier from None e c = λ k p. earlier from k p e (c k)

  claim_here : (from : ℕ) (b : Bool) → from < word_bits * length words → is_marked words from ≡ b
      → Claim words (suc from) (next_marked words (suc from)) → Claim words from (next_marked words from)
  claim_here from true h e c =
      rw (next_here from h e)
      (record { above = omega arith; marked = e; smallest = λ k p q. absurd (omega arith) })
  claim_here from false h e c = rw (next_later from h e) (claim_earlier from (next_marked words (suc from)) e c)

  claim_end : (from : ℕ) → word_bits * length words ≤ from → Claim words from (next_marked words from)
  claim_end from h = rw (next_behind from h) (λ k p. unmarked_behind words k (omega arith))

  claims : (left from : ℕ) → word_bits * length words ≤ from + left → Claim words from (next_marked words from)
  claims zero from h = claim_end from (omega arith)
  claims (suc left) from h =
      ⊎_elim
      (λ g. claim_here from (is_marked words from) g refl (claims left (suc from) (omega arith)))
      (claim_end from)
      (lt_or_le from (word_bits * length words))

  only_at : (from i : ℕ) (r : Option ℕ) → Claim words from r → SmallestMarked words from i → r ≡ Some i
  only_at from i (Some j) c g =
      ⊎_elim
      (λ l. absurd (true≢false (sym c.marked ∙ g.smallest j c.above l)))
      (λ l.
      ⊎_elim
      (λ k. absurd (true≢false (sym g.marked ∙ c.smallest i g.above k)))
      (λ k. let e : j ≡ i = omega arith in ap Some e)
      (lt_or_le i j))
      (lt_or_le j i)
  only_at from i None c g = absurd (true≢false (sym g.marked ∙ c i g.above))

  only_nothing : (from : ℕ) (r : Option ℕ) → Claim words from r → NoneMarked words from → r ≡ None
  only_nothing from (Some j) c g = absurd (true≢false (sym c.marked ∙ g j c.above))
  only_nothing from None c g = refl

  its_claim : (from : ℕ) → Claim words from (next_marked words from)
  its_claim from = claims (word_bits * length words) from (omega arith)

  pub next_is_next : (from : ℕ) → IsNext words from (next_marked words from)
  next_is_next from =
      record {
        one = λ i. (λ e. subst (Claim words from) e (its_claim from), only_at from i (next_marked words from) (its_claim from));
        none = (λ e. subst (Claim words from) e (its_claim from), only_nothing from (next_marked words from) (its_claim from));
      }

  -- ---- places that are not marked are passed over

  next_skip : (from : ℕ) → is_marked words from ≡ false → next_marked words from ≡ next_marked words (suc from)
  next_skip from e =
      ⊎_elim
      (λ h. next_later from h e)
      (λ h. next_behind from h ∙ sym (next_behind (suc from) (omega arith)))
      (lt_or_le from (word_bits * length words))

  next_passed : (d from to : ℕ) → from + d ≡ to → ((k : ℕ) → from ≤ k → k < to → is_marked words k ≡ false)
      → next_marked words from ≡ next_marked words to
  next_passed zero from to h none = let same : from ≡ to = omega arith in ap (next_marked words) same
  next_passed (suc d) from to h none =
      next_skip from (none from (omega arith) (omega arith)) ∙ next_passed d (suc from) to (omega arith) (λ k p q. none k (omega arith) q)

  -- where nothing is left of a word, the next one is looked at
  pub word_passed : (from : ℕ) → rest words from ≡ 0 → next_marked words from ≡ next_marked words ((from / word_bits + 1) * word_bits)
  word_passed from e =
      let there : from + ((from / word_bits + 1) * word_bits - from) ≡ (from / word_bits + 1) * word_bits = omega arith in
      next_passed ((from / word_bits + 1) * word_bits - from) from ((from / word_bits + 1) * word_bits) there
      (λ k p q. word_none words from e k p (omega arith))

  -- where something is left, the place is found
  pub next_in_word : (from : ℕ) → get_or words (from / word_bits) 0 < 2 ^ word_bits → 0 < rest words from
      → next_marked words from ≡ Some (from + count_trailing_zeros word_bits (rest words from))
  next_in_word from fits some = ((next_is_next from).one (from + count_trailing_zeros word_bits (rest words from))).1 (word_next words from fits some)

  -- an answer that meets the equation is also the one that the sentence asks for
  pub next_answered : (from : ℕ) {r : Option ℕ} → r ≡ next_marked words from → (r ≡ next_marked words from) × IsNext words from r
  next_answered from e = (e, subst (IsNext words from) (sym e) (next_is_next from))
