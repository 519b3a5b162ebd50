-- What an opening answers and leaves, by what its text is read as and by the room that the stores have.
use Prim.Native.Nat.{ℕ, ◌+◌, ◌*◌, ◌-◌, ◌≤◌}
use mathlib.Core.Path.{◌≡◌, sym, ◌∙◌, ap}
use mathlib.Core.Bool.{Bool, true, false, ◌||◌}
use mathlib.Core.List.{List, ◌++◌}
use native.Mathlib.Omega.{arith}
use lib.Dec.{ltb}
use lib.ListN.{length, take, drop, replicate, length-replicate}
use lib.Seq.{sets, sets-eq, length-take-le}
use Rattle.std.specs.Prelude.{Ok, Err}
use Rattle.answer.specs.declared.Refusal.{Refusal}
use Rattle.answer.specs.Refusals.{number}
use Rattle.settings.specs.declared.Settings.{Settings}
use Rattle.settings.specs.ReadLine.{settings_of}
use Rattle.store.specs.Sizes.{readings_per_line}
use Rattle.store.specs.Columns.{Columns, store_length, zeroed, with_rows}
use Rattle.store.specs.Parts.{with_rows_at}
use Rattle.store.proofs.Columns.{with_rows_at_front}
use Rattle.retransmission.specs.Sizes.{held_results, held_bytes}
use Rattle.retransmission.specs.Places.{empty_place, with_places}
use Rattle.retransmission.proofs.Emptied.{emptied}
use Rattle.node.specs.Held.{Held}
use Rattle.node.specs.View.{Lent, lent_of}
use Rattle.node.specs.Opening.{shares_short, is_short, fresh_state, opened_with, opened_on}
use Rattle.node.proofs.Opening.{not_short}

-- both stores are measured in one test
pub measured :
    (lines : ℕ) (x : Lent) (short : Bool) → {y : Columns} → y ≡ x.readings → short ≡ shares_short lines y →
    is_short lines x ≡ (short || ltb (length x.sent) held_bytes)
unfolding is_short
measured lines x short viewed e =
    sym (ap (λ (b : Bool). b || ltb (length x.sent) held_bytes) (e ∙ ap (shares_short lines) viewed))

-- a slice of which the first n bytes are filled
pub front_filled :
    (xs part : List ℕ) (n : ℕ) → n ≤ length xs → part ≡ replicate (length (take n xs)) 0 →
    part ++ drop n xs ≡ sets xs 0 (replicate n 0)
front_filled xs part n h e =
    let end : 0 + length (replicate {A = ℕ} n 0) ≡ n = omega (arith, length-replicate {A = ℕ} n 0) in
    rw (e, length-take-le n xs h) (rw end at (sym (sets-eq (replicate n 0) xs 0 (omega arith))))

module _ (st : Held) (x : Lent) (text : List ℕ) where
  pub opening_refused :
      (refusal : Refusal) → settings_of text ≡ Err refusal → record { answer = number refusal; state = st; lent = x } ≡ opened_on st x text
  unfolding opened_on opened_with
  opening_refused refusal e = sym (ap (opened_with st x) e)

  module _ (s : Settings) (read : settings_of text ≡ Ok s) where
    pub opening_short : is_short s.lines x ≡ true → record { answer = 3; state = st; lent = x } ≡ opened_on st x text
    unfolding opened_on opened_with
    opening_short e = sym (ap (opened_with st x) read ∙ rw e)

    pub opening_done :
        is_short s.lines x ≡ false →
        {fresh : Held} → fresh ≡ fresh_state s →
        {y : Columns} → y ≡ with_rows_at x.readings 0 (replicate (s.lines * readings_per_line - 0) zeroed) →
        {sent : List ℕ} → sent ≡ sets x.sent 0 (replicate held_bytes 0) →
        record { answer = 0; state = fresh; lent = lent_of y sent } ≡ opened_on st x text
    unfolding opened_on opened_with
    opening_done e f {y} g {sent} h =
        let n : ℕ = s.lines * readings_per_line in
        let all : n - 0 ≡ n = omega arith in
        let fits : length (replicate n zeroed) ≤ store_length x.readings =
        omega (arith, length-replicate n zeroed, (not_short s.lines x e).0) in
        let shares : y ≡ with_rows x.readings (replicate n zeroed) =
        g ∙ rw (all, with_rows_at_front x.readings (replicate n zeroed) fits) in
        let places : sent ≡ with_places x.sent (replicate held_results empty_place) =
        h ∙ emptied x.sent (not_short s.lines x e).1 in
        rw (f, shares, places) (sym (ap (opened_with st x) read ∙ rw e))
