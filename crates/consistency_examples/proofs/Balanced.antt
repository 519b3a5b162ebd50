-- The table of the balance: every row computes. Then the theorem applied to the run.
use Prim.Native.Nat.{ℕ, ◌<◌}
use mathlib.Core.Path.{◌≡◌, refl, ◌∙◌, ap}
use mathlib.Core.List.{List, [], ◌++◌, flatten, map}
use native.Mathlib.Omega.{arith}
use lib.Dec.{eqb}
use lib.IntN.{pos, neg_ℤ}
use lib.ListN.{get_or}
use Rattle.record.specs.declared.Record.{Record}
use Rattle.store.specs.Lists.{keep}
use Rattle.operator_meter.specs.Values.{no_meter}
use Rattle.protocol.specs.Node.{kept_of}
use Rattle.node.specs.View.{view}
use Rattle.node.specs.Calls.{Called}
use Rattle.consistency.specs.Runs.{Box, Input, called, left_after, record_in}
use Rattle.consistency.specs.Accounts.{Account}
use Rattle.consistency.specs.Demand.{Handed, is_opened, box_of, settings_in, account_of, output_of}
use Rattle.consistency.specs.Balance.{Heat, plus, heat_of, of_reading, of_meter, of_result, counts_for, pays_for}
use Rattle.consistency.specs.Balance.{sent_heat, paid_heat, open_heat, kept_heat}
use Rattle.consistency.proofs.Balance.{balance}
use Rattle.consistency_examples.specs.Given.{bytes_in, store_of, lent_filled, call}
use Rattle.consistency_examples.specs.Balanced.{handed, before, refused, fetches, step, calls, box, heat, Balanced}
use Rattle.consistency_examples.proofs.Surely.{surely, ran, box_is, account_is, output_is, call_is}
use Rattle.consistency_examples.proofs.Computed.{heat_from}

opened : is_opened handed
unfolding bytes_in store_of lent_filled handed is_opened heat_from
opened = refl

-- ---- what is said of a call, the account, the output and the box, said of what is computed

of_call :
    (f : Called → ℕ) (i : Input) (v : ℕ) → f (surely (ran handed (before ++ [])).box i) ≡ v →
    f (called (left_after (box_of handed) before) i) ≡ v
unfolding left_after
of_call f i v e = ap f (call_is handed opened before [] i) ∙ e

of_account : (f : Account → Heat) (v : Heat) → f (ran handed calls).account ≡ v → f (account_of handed calls) ≡ v
of_account f v e = ap f (account_is handed opened calls) ∙ e

of_output : (f : List (List ℕ) → Heat) (v : Heat) → f (ran handed calls).bytes ≡ v → f (output_of handed calls) ≡ v
of_output f v e = ap f (output_is handed opened calls) ∙ e

of_box : (f : Box → Heat) (v : Heat) → f (ran handed calls).box ≡ v → f box ≡ v
unfolding box
of_box f v e = ap f (box_is handed opened calls) ∙ e

-- the parts
abbrev sent : ℕ → Account → Heat
sent i a = heat_of of_reading (keep (counts_for (settings_in handed) i) (flatten a.stables))

abbrev paid : ℕ → List (List ℕ) → Heat
paid i bytes = heat_of of_result (keep (pays_for i) (map record_in bytes))

-- whatever is kept, and whatever was given
abbrev any_kept : Box → Heat
any_kept b = heat_of of_reading (keep (counts_for (settings_in handed) 3) (flatten (kept_of (view b.state b.lent.readings).lines)))

abbrev any_result : List (List ℕ) → Heat
any_result bytes = heat_of of_result (keep (λ (r : Record). eqb r.meter 3) (map record_in bytes))

pub balanced : Balanced
unfolding bytes_in store_of lent_filled call handed before refused fetches step calls heat sent_heat paid_heat heat_from
balanced =
    record {
      opened = opened;
      refusal = of_call (λ (r : Called). r.answer) refused 11 refl;
      fetched = of_call (λ (r : Called). r.records) fetches 2 refl;
      sent3 = of_account (sent 3) (heat 5 (pos 605)) refl;
      paid3 = of_output (paid 3) (heat 2 (pos 5)) refl;
      open3 = of_box (λ (b : Box). open_heat b 3) (heat 1 (pos 40)) refl;
      kept3 = of_box (λ (b : Box). kept_heat (settings_in handed) b 3) (heat 2 (pos 560)) refl;
      total3 = refl;
      sent5 = of_account (sent 5) (heat 1 (neg_ℤ (pos 1000))) refl;
      paid5 = of_output (paid 5) (heat 1 (neg_ℤ (pos 1000))) refl;
      operator3 = of_box (λ (b : Box). of_meter (get_or b.state.operator.meters 3 no_meter)) (heat 1 (pos 9)) refl;
      any_kept3 = of_box any_kept (heat 3 (pos 569)) refl;
      any_result3 = of_output any_result (heat 4 (pos 545)) refl;
    }

-- ---- the theorem, whole, and there

balances :
    (h : Handed) → is_opened h → (is : List Input) (i : ℕ) → i < 64 →
    sent_heat h is i ≡
    plus (paid_heat h is i) (plus (open_heat (left_after (box_of h) is) i) (kept_heat (settings_in h) (left_after (box_of h) is) i))
balances = balance

balances_there : sent_heat handed calls 3 ≡ plus (paid_heat handed calls 3) (plus (open_heat box 3) (kept_heat (settings_in handed) box 3))
unfolding box
balances_there = balances handed balanced.opened calls 3 (omega arith)
