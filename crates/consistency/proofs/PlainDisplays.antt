-- What a display has acknowledged is one number, by the account and carried from call to call; and some display has not acknowledged an id
-- exactly if the least of these numbers is below it.
use Prim.Native.Nat.{ℕ, zero, suc, ◌-◌, ◌≤◌, ◌<◌, min}
use mathlib.Core.Path.{◌≡◌, refl, sym, ◌∙◌, ap, subst}
use mathlib.Core.Bool.{Bool, true, false, cond, ◌&&◌, ◌||◌, false≢true}
use mathlib.Core.List.{List, [], ◌∷◌}
use mathlib.Core.Logic.{◌↔◌}
use native.Mathlib.Omega.{arith}
use borrow.Author.Tests.{eqb-true, eqb-false, leb-true, ltb-true, lt-ltb, leb-false}
use lib.Dec.{leb, ltb, eqb}
use lib.ListN.{length, get_or, set, length-set}
use lib.Seq.{get_or-set_same, get_or-set_other}
use Rattle.std.specs.Prelude.{Option, Some, None}
use Rattle.journal.specs.declared.Call.{Call}
use Rattle.settings.specs.declared.Settings.{Settings}
use Rattle.journal.specs.ReadLine.{call_of}
use Rattle.store.proofs.Pairs.{every_index}
use Rattle.protocol.specs.Displays.{least_of, last_of, acknowledging}
use Rattle.protocol.specs.Calls.{acknowledged_after}
use Rattle.protocol.proofs.Displays.{least_each}
use Rattle.node.specs.Held.{Held}
use Rattle.node.specs.View.{Lent}
use Rattle.node.specs.Calls.{called_on}
use Rattle.node.specs.Displays.{acknowledged_on, fetched_on}
use Rattle.node.proofs.Displays.{accepted_acknowledgement}
use Rattle.consistency.specs.Runs.{Box, Input, called, left}
use Rattle.consistency.specs.Accounts.{Account, account_with, account_next, account_after}
use Rattle.consistency.specs.PlainSentBack.{last_by, wanted}

abbrev pub box_in : Held → Lent → Box
box_in st x = record { state = st; lent = x }

journal_passes : (s : Settings) (a : Account) (read : Option Call) (t : Bool) → (account_with s a read t).acknowledged ≡ a.acknowledged
unfolding account_with
journal_passes s a (Some k) t = refl
journal_passes s a None t = refl

-- one acknowledgement, accepted or not
module _ (ids : List ℕ) (display other id last : ℕ) (first : 1 ≤ display) (at : display ≤ length ids) (same : last_of ids display ≡ last) where
  raised : 1 ≤ other → (b : Bool) → eqb other display ≡ b → last_of (set ids (other - 1) id) display ≡ cond b id last
  unfolding last_of
  raised low true q =
      let is : other ≡ display = eqb-true _ _ q in
      ap (λ (d : ℕ). get_or (set ids (d - 1) id) (display - 1) 0) is ∙ get_or-set_same ids (display - 1) id 0 (omega arith)
  raised low false q =
      let is_not : other ≡ display → ⊥ = eqb-false _ _ q in
      get_or-set_other ids (other - 1) (display - 1) id 0 (λ e. is_not (omega arith)) ∙ same

  acknowledged_once :
      (b : Bool) → (b ≡ true → 1 ≤ other) → last_of (acknowledged_after ids other id b) display ≡ cond (b && eqb other display) id last
  unfolding acknowledged_after acknowledging
  acknowledged_once true low = raised (low refl) (eqb other display) refl
  acknowledged_once false low = same

length_acknowledged : (ids : List ℕ) (display id : ℕ) (b : Bool) → length (acknowledged_after ids display id b) ≡ length ids
unfolding acknowledged_after acknowledging
length_acknowledged ids display id true = length-set ids (display - 1) id
length_acknowledged ids display id false = refl

-- by the account it is the same number
pub last_is :
    (s : Settings) (a : Account) (st : Held) (x : Lent) (is : List Input) (display last : ℕ) →
    1 ≤ display → display ≤ length a.acknowledged → last_of a.acknowledged display ≡ last →
    last_of (account_after s a (box_in st x) is).acknowledged display ≡ last_by display last st x is
unfolding account_after account_next last_by left called
last_is s a st x [] display last first at same = same
last_is s a st x (Input.journal text area ∷ is) display last first at same =
    let r = called_on st x text area in
    let ids = journal_passes s a (call_of text) (eqb r.answer 0) in
    last_is s (account_with s a (call_of text) (eqb r.answer 0)) r.state r.lent is display last first
    (subst (λ (l : List ℕ). display ≤ length l) (sym ids) at) (ap (λ (l : List ℕ). last_of l display) ids ∙ same)
last_is s a st x (Input.acknowledge other id area ∷ is) display last first at same =
    let r = acknowledged_on st x other id area in
    last_is s _ r.state r.lent is display (cond (eqb r.answer 0 && eqb other display) id last) first
    (omega (arith, at, length_acknowledged a.acknowledged other id (eqb r.answer 0)))
    (acknowledged_once a.acknowledged display other id last first at same (eqb r.answer 0)
    (λ t. (accepted_acknowledgement st x other id area (eqb-true _ _ t)).fits.first))
last_is s a st x (Input.fetch other from area ∷ is) display last first at same =
    let r = fetched_on st x other from area in
    last_is s a r.state r.lent is display last first at same

pub count_is :
    (s : Settings) (a : Account) (st : Held) (x : Lent) (is : List Input) →
    length (account_after s a (box_in st x) is).acknowledged ≡ length a.acknowledged
unfolding account_after account_next left called
count_is s a st x [] = refl
count_is s a st x (Input.journal text area ∷ is) =
    let r = called_on st x text area in
    count_is s (account_with s a (call_of text) (eqb r.answer 0)) r.state r.lent is ∙
    ap length (journal_passes s a (call_of text) (eqb r.answer 0))
count_is s a st x (Input.acknowledge other id area ∷ is) =
    let r = acknowledged_on st x other id area in
    count_is s _ r.state r.lent is ∙ length_acknowledged a.acknowledged other id (eqb r.answer 0)
count_is s a st x (Input.fetch other from area ∷ is) =
    let r = fetched_on st x other from area in
    count_is s a r.state r.lent is

-- ---- the least of the displays

or-true : (b : Bool) → b || true ≡ true
or-true true = refl
or-true false = refl

wanted_by : (d : ℕ) (last : ℕ → ℕ) (n j : ℕ) → 1 ≤ j → j ≤ d → last j < n → wanted d last n ≡ true
unfolding wanted
wanted_by zero last n j low high e = absurd (omega arith)
wanted_by (suc d) last n j low high e =
    (elim (eqb j (suc d)) as (λ b. eqb j (suc d) ≡ b → ltb (last (suc d)) n || wanted d last n ≡ true) [
      | true ↦ λ q. rw (lt-ltb (last (suc d)) n (subst (λ (i : ℕ). last i < n) (eqb-true _ _ q) e))
      | false ↦ λ q.
          let other : j ≡ suc d → ⊥ = eqb-false _ _ q in
          rw (wanted_by d last n j low (omega (arith, other)) e) (or-true (ltb (last (suc d)) n))
    ])
    refl

by_wanted : (d : ℕ) (last : ℕ → ℕ) (n : ℕ) → wanted d last n ≡ true → (j : ℕ) × (1 ≤ j) × (j ≤ d) × (last j < n)
unfolding wanted
by_wanted zero last n e = absurd (false≢true e)
by_wanted (suc d) last n e =
    (elim (ltb (last (suc d)) n) as (λ b. ltb (last (suc d)) n ≡ b → b || wanted d last n ≡ true → (j : ℕ) × (1 ≤ j) × (j ≤ suc d) × (last j < n)) [
      | true ↦ λ q e. (suc d, omega arith, omega arith, ltb-true _ _ q)
      | false ↦ λ q e. let f = by_wanted d last n e in (f.0, f.1, (let h : f.0 ≤ suc d = omega (arith, f.2) in h), f.3)
    ])
    refl e

least_there : (a : ℕ) (ids : List ℕ) → (i : ℕ) × (i < length (a ∷ ids)) × (get_or (a ∷ ids) i 0 ≡ least_of (a ∷ ids))
unfolding least_of
least_there a [] = (0, omega arith, refl)
least_there a (b ∷ ids) =
    let f = least_there b ids in
    (elim (leb a (least_of (b ∷ ids))) as
    (λ t. leb a (least_of (b ∷ ids)) ≡ t → (i : ℕ) × (i < length (a ∷ b ∷ ids)) × (get_or (a ∷ b ∷ ids) i 0 ≡ min a (least_of (b ∷ ids)))) [
      | true ↦ λ q. let low : a ≤ least_of (b ∷ ids) = leb-true _ _ q in (0, omega arith, omega arith)
      | false ↦ λ q.
          let high : least_of (b ∷ ids) < a = leb-false _ _ q in
          (suc f.0, omega (arith, f.1), (let h : get_or (b ∷ ids) f.0 0 ≡ min a (least_of (b ∷ ids)) = omega (arith, f.2) in h))
    ])
    refl

-- some display has not acknowledged n exactly if the least of them is below it
pub wanted_least :
    (ids : List ℕ) (last : ℕ → ℕ) → 0 < length ids → ((d : ℕ) → 1 ≤ d → d ≤ length ids → last_of ids d ≡ last d) →
    (n : ℕ) → (wanted (length ids) last n ≡ true) ↔ (least_of ids < n)
unfolding last_of
wanted_least [] last some same n = absurd (omega arith)
wanted_least (a ∷ ids) last some same n = (
  λ e.
      let f = by_wanted (length (a ∷ ids)) last n e in
      let at : f.0 - 1 < length (a ∷ ids) = omega (arith, f.1, f.2) in
      let low = every_index (λ (i : ℕ). least_of (a ∷ ids) ≤ i) (a ∷ ids) (f.0 - 1) 0 at (least_each (a ∷ ids)) in
      omega (arith, low, same f.0 f.1 f.2, f.3),
  λ l.
      let f = least_there a ids in
      let is : get_or (a ∷ ids) (suc f.0 - 1) 0 ≡ last (suc f.0) = same (suc f.0) (omega arith) (omega (arith, f.1)) in
      let back : suc f.0 - 1 ≡ f.0 = omega arith in
      let there : get_or (a ∷ ids) f.0 0 ≡ last (suc f.0) = subst (λ (i : ℕ). get_or (a ∷ ids) i 0 ≡ last (suc f.0)) back is in
      wanted_by (length (a ∷ ids)) last n (suc f.0) (omega arith) (omega (arith, f.1)) (omega (arith, f.2, there)),
)
