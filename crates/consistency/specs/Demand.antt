-- Demand 3: the statement. It speaks of texts and areas, states and stores, and of bytes.
use Rattle.std.specs.Prelude.{ℕ, zero, suc, ◌+◌, ◌≤◌, ◌≡◌, true, false, List, [], ◌∷◌, ◌++◌, map, Some}
use Rattle.settings.specs.declared.Settings.{Settings}
use Rattle.journal.specs.declared.Call.{Call}
use Rattle.journal.specs.ReadLine.{call_of}
use Rattle.record.specs.declared.Record.{Record}
use Rattle.record.specs.Layout.{bytes_of}
use Rattle.record.specs.Kinds.{is_tentative}
use Rattle.record.specs.Decoded.{decoded}
use Rattle.store.specs.Lists.{Every}
use Rattle.protocol.specs.Kinds.{Kind, kind_of}
use Rattle.protocol.specs.Monitor.{stable_buckets, left_to_work}
use Rattle.protocol.specs.FailureFree.{failure_free}
use Rattle.protocol.specs.Undos.{applied, struck, stable_records, done_due}
use Rattle.node.specs.Held.{Held}
use Rattle.node.specs.View.{Lent}
use Rattle.node.specs.Opening.{Opened, opened_on}
use Rattle.consistency.specs.Runs.{Box, Input, called, area_of, left, left_after, record_in, output}
use Rattle.consistency.specs.Accounts.{Account, empty_account, account_after, sent_in, boundaries_in}

-- what is handed to an opening: any earlier state, also one in use, any stores, any text
pub record Handed : Type 0 where
  pub state : Held
  pub lent : Lent
  pub text : List ℕ

unfoldable pub opening : Handed → Opened
opening h = opened_on h.state h.lent h.text

unfoldable pub is_opened : Handed → Type 0
is_opened h = (opening h).answer ≡ 0

-- the box that an accepted opening leaves, its settings, and a list's account and output from there on
unfoldable pub box_of : Handed → Box
box_of h = record { state = (opening h).state; lent = (opening h).lent }

unfoldable pub settings_in : Handed → Settings
settings_in h = (opening h).state.settings

unfoldable pub account_of : Handed → List Input → Account
account_of h is = account_after (settings_in h) (empty_account (settings_in h)) (box_of h) is

unfoldable pub output_of : Handed → List Input → List (List ℕ)
output_of h is = output (box_of h) is

-- what the producers should be paid from: the failure-free results, and their bytes
unfoldable pub failure_free_records : Handed → List Input → List Record
failure_free_records h is = (failure_free (settings_in h) (account_of h is).stables (account_of h is).monitor.d).records

unfoldable pub failure_free_bytes : Handed → List Input → List (List ℕ)
failure_free_bytes h is = map bytes_of (failure_free_records h is)

-- the stable buckets left to work
unfoldable pub remaining : Handed → List Input → ℕ
remaining h is = left_to_work (settings_in h) (account_of h is).monitor

-- clauses 1 and 2: with its undos applied the output is the failure-free results, and then tentative ones; only tentative ones were
-- struck; the stable records as they came are the failure-free results; every piece of the output is a record; no number of a failure-free
-- result is cut to its width; no more buckets were worked than are stable
pub record Clean (h : Handed) (is : List Input) : Type 0 where
  pub tentative : List (List ℕ)
  pub undone : applied record_in [] (output_of h is) ≡ failure_free_bytes h is ++ tentative
  pub all_tentative : Every (λ (b : List ℕ). is_tentative (record_in b).kind ≡ true) tentative
  pub never_struck : Every (λ (b : List ℕ). is_tentative (record_in b).kind ≡ true) (struck record_in [] (output_of h is))
  pub as_they_came : stable_records record_in (output_of h is) ≡ failure_free_bytes h is
  pub all_records : Every (λ (b : List ℕ). decoded b ≡ Some (record_in b)) (output_of h is)
  pub uncut : Every (λ (r : Record). record_in (bytes_of r) ≡ r) (failure_free_records h is)
  pub worked : (account_of h is).monitor.d ≤ stable_buckets (settings_in h) (account_of h is).monitor

-- so many accepted steps, and between them nothing but refused calls and the displays'; texts, clocks, ids and areas are anything
pub data Steps : Box → ℕ → List Input → Type 0 where
  rest : {b : Box} → Steps b zero []
  step :
      {b : Box} {n : ℕ} {is : List Input} (text area : List ℕ) (k : Call) →
      call_of text ≡ Some k →
      kind_of k.kind ≡ Kind.P →
      (called b (Input.journal text area)).answer ≡ 0 →
      Steps (left b (Input.journal text area)) n is →
      Steps b (suc n) (Input.journal text area ∷ is)
  acknowledge :
      {b : Box} {n : ℕ} {is : List Input} (display id : ℕ) (area : List ℕ) →
      Steps (left b (Input.acknowledge display id area)) n is →
      Steps b n (Input.acknowledge display id area ∷ is)
  fetch :
      {b : Box} {n : ℕ} {is : List Input} (display from : ℕ) (area : List ℕ) →
      Steps (left b (Input.fetch display from area)) n is →
      Steps b n (Input.fetch display from area ∷ is)
  refused : {b : Box} {n : ℕ} {is : List Input} (i : Input) → ((called b i).answer ≡ 0 → ⊥) → Steps (left b i) n is → Steps b n (i ∷ is)

-- a call leaves the box and the lent area as they were, and gives no record
unfoldable pub Unchanged : Box → Input → Type 0
Unchanged b i = (left b i ≡ b) × ((called b i).records ≡ 0) × ((called b i).area ≡ area_of i)

pub record Demand3 : Type 0 where
  -- 1 and 2
  pub clean : (h : Handed) → is_opened h → (is : List Input) → Clean h is
  -- 3: whatever else differs, settings, sent readings and greatest boundaries fix the stable records of two boxes that have worked all
  -- their stable buckets: the same bytes in the same order
  pub replicas :
      (h g : Handed) → is_opened h → is_opened g →
      settings_in h ≡ settings_in g →
      (is js : List Input) →
      sent_in (account_of h is) ≡ sent_in (account_of g js) →
      boundaries_in (account_of h is) ≡ boundaries_in (account_of g js) →
      remaining h is ≡ 0 →
      remaining g js ≡ 0 →
      stable_records record_in (output_of h is) ≡ stable_records record_in (output_of g js)
  -- 4: with k stable buckets left to work, k + 2 steps leave none, and every undo has its R behind it
  pub settles :
      (h : Handed) → is_opened h → (is js : List Input) →
      Steps (left_after (box_of h) is) (remaining h is + 2) js →
      (remaining h (is ++ js) ≡ 0) × (done_due record_in false (output_of h (is ++ js)) ≡ false)
  -- whatever is refused changes nothing
  pub refused : (b : Box) (i : Input) → ((called b i).answer ≡ 0 → ⊥) → Unchanged b i
  -- 5, beyond the demand: from an opening on no call is refused for a short store or a state out of shape
  pub in_shape :
      (h : Handed) → is_opened h → (is : List Input) (i : Input) →
      ((called (left_after (box_of h) is) i).answer ≡ 3 → ⊥) × ((called (left_after (box_of h) is) i).answer ≡ 4 → ⊥)
