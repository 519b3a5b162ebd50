-- From an opening on the host's tests find nothing but a short area (demand 3), so that a list of calls does what it does without the other
-- tests. The rows are computed so: the tests go through the whole of both stores at each call.
use Prim.Native.Nat.{ℕ}
use mathlib.Core.Path.{◌≡◌, refl, sym, ◌∙◌, ap, ap₂, subst}
use mathlib.Core.Bool.{true, false, cond}
use mathlib.Core.List.{List, [], ◌∷◌, ◌++◌}
use native.Mathlib.Omega.{arith}
use lib.Dec.{eqb, ltb}
use lib.ListN.{length}
use Rattle.settings.specs.declared.Settings.{Settings}
use Rattle.journal.specs.ReadLine.{call_of}
use Rattle.retransmission.specs.Places.{pieces}
use Rattle.protocol.specs.Tests.{first_failed}
use Rattle.protocol.specs.Calls.{acknowledged_after}
use Rattle.node.specs.Sizes.{area_bytes}
use Rattle.node.specs.Calls.{Called, host_tests, refused_with, called_with, called_on}
use Rattle.node.specs.Displays.{acknowledged_with, acknowledged_on, fetched_with, fetched_on}
use Rattle.consistency.specs.Runs.{Box, Input, called, area_of, left, left_after, given, output}
use Rattle.consistency.specs.Accounts.{Account, empty_account, account_with, account_next, account_after}
use Rattle.consistency.specs.Demand.{Handed, is_opened, box_of, settings_in, account_of, output_of}
use Rattle.consistency.proofs.Runs.{left_append}
use Rattle.consistency.proofs.ShapedRuns.{host_after, host_answer}

-- ---- a call

-- a call that the host's tests let through
unfoldable pub itself : Box → Input → Called
itself b (Input.journal text area) = called_with b.state b.lent area (call_of text)
itself b (Input.acknowledge display id area) = acknowledged_with b.state b.lent display id area
itself b (Input.fetch display from area) = fetched_with b.state b.lent display from area

-- a call with the area's test alone
unfoldable pub surely : Box → Input → Called
surely b i = cond (ltb (length (area_of i)) area_bytes) (refused_with 5 b.state b.lent (area_of i)) (itself b i)

-- the host's tests, with this answer
abbrev host_if : Box → Input → ℕ → Called
host_if b i n = cond (eqb n 0) (itself b i) (refused_with n b.state b.lent (area_of i))

by_tests : (b : Box) (i : Input) → called b i ≡ host_if b i (first_failed (host_tests b.state b.lent (area_of i)))
unfolding called area_of itself called_on acknowledged_on fetched_on
by_tests b (Input.journal text area) = refl
by_tests b (Input.acknowledge display id area) = refl
by_tests b (Input.fetch display from area) = refl

-- the host's tests find nothing but a short area
abbrev Passes : Box → Type 0
Passes b = (area : List ℕ) → first_failed (host_tests b.state b.lent area) ≡ cond (ltb (length area) area_bytes) 5 0

by_area : (b : Box) (i : Input) → Passes b → called b i ≡ surely b i
unfolding surely
by_area b i passes =
    by_tests b i ∙ ap (host_if b i) (passes (area_of i)) ∙
    (elim (ltb (length (area_of i)) area_bytes) as
    (λ short. host_if b i (cond short 5 0) ≡ cond short (refused_with 5 b.state b.lent (area_of i)) (itself b i)) [
      | true ↦ refl
      | false ↦ refl
    ])

-- ---- a list of calls

-- what a call with this answer adds to the account, and what one that left this adds to the output
unfoldable pub noted : Settings → Account → Input → ℕ → Account
noted s a (Input.journal text area) answer = account_with s a (call_of text) (eqb answer 0)
noted s a (Input.acknowledge display id area) answer =
    record {
      monitor = a.monitor;
      stables = a.stables;
      acknowledged = acknowledged_after a.acknowledged display id (eqb answer 0);
    }
noted s a (Input.fetch display from area) answer = a

unfoldable pub gives : Input → Called → List (List ℕ)
gives (Input.journal text area) r = pieces r.records r.area
gives (Input.acknowledge display id area) r = []
gives (Input.fetch display from area) r = []

noted_is : (s : Settings) (a : Account) (b : Box) (i : Input) → account_next s a b i ≡ noted s a i (called b i).answer
unfolding account_next noted
noted_is s a b (Input.journal text area) = refl
noted_is s a b (Input.acknowledge display id area) = refl
noted_is s a b (Input.fetch display from area) = refl

gives_is : (b : Box) (i : Input) → given b i ≡ gives i (called b i)
unfolding given gives
gives_is b (Input.journal text area) = refl
gives_is b (Input.acknowledge display id area) = refl
gives_is b (Input.fetch display from area) = refl

-- all that a list leaves
pub record Done : Type 0 where
  pub box : Box
  pub account : Account
  pub bytes : List (List ℕ)

abbrev behind : Called → Box
behind r = record { state = r.state; lent = r.lent }

unfoldable pub doing : Settings → Account → Box → List Input → Done
doing s a b [] = record { box = b; account = a; bytes = [] }
doing s a b (i ∷ is) =
    let r : Called = surely b i in
    let rest : Done = doing s (noted s a i r.answer) (behind r) is in
    record { box = rest.box; account = rest.account; bytes = gives i r ++ rest.bytes }

-- the same by the statement's words
unfoldable pub done : Settings → Account → Box → List Input → Done
done s a b is = record { box = left_after b is; account = account_after s a b is; bytes = output b is }

-- every call of a list finds nothing but a short area
unfoldable AllPass : Box → List Input → Type 0
AllPass b [] = Unit {0}
AllPass b (i ∷ is) = Passes b × AllPass (left b i) is

done_is : (s : Settings) (a : Account) (b : Box) (is : List Input) → AllPass b is → done s a b is ≡ doing s a b is
unfolding AllPass done doing left_after account_after output left
done_is s a b [] p = refl
done_is s a b (i ∷ is) p =
    let e = by_area b i p.0 in
    ap₂
    (λ (z : Account) (bs : List (List ℕ)).
    record { box = left_after (left b i) is; account = account_after s z (left b i) is; bytes = bs ++ output (left b i) is })
    (noted_is s a b i) (gives_is b i) ∙
    ap (λ (d : Done). record { box = d.box; account = d.account; bytes = gives i (called b i) ++ d.bytes })
    (done_is s (noted s a i (called b i).answer) (left b i) is p.1) ∙
    ap
    (λ (r : Called).
    let rest : Done = doing s (noted s a i r.answer) (behind r) is in
    record { box = rest.box; account = rest.account; bytes = gives i r ++ rest.bytes })
    e

-- ---- from an opening on

module _ (h : Handed) (e : is_opened h) where
  passes : (is : List Input) → Passes (left_after (box_of h) is)
  passes is area =
      let b = left_after (box_of h) is in
      let v = host_after h e is in
      host_answer b.state b.lent area 3 (omega arith, omega arith) v.0 v.1 v.2

  all_pass : (is js : List Input) → AllPass (left_after (box_of h) is) js
  unfolding AllPass left_after
  all_pass is [] = tt
  all_pass is (j ∷ js) =
      (passes is, subst (λ (b : Box). AllPass b js) (left_append (box_of h) is (j ∷ [])) (all_pass (is ++ j ∷ []) js))

-- what a list leaves, computed
unfoldable pub ran : Handed → List Input → Done
ran h is = doing (settings_in h) (empty_account (settings_in h)) (box_of h) is

module _ (h : Handed) (e : is_opened h) (is : List Input) where
  all_is : done (settings_in h) (empty_account (settings_in h)) (box_of h) is ≡ ran h is
  unfolding ran left_after
  all_is = done_is (settings_in h) (empty_account (settings_in h)) (box_of h) is (all_pass h e [] is)

  pub box_is : left_after (box_of h) is ≡ (ran h is).box
  unfolding done
  box_is = ap (λ (d : Done). d.box) all_is

  pub account_is : account_of h is ≡ (ran h is).account
  unfolding done account_of
  account_is = ap (λ (d : Done). d.account) all_is

  pub output_is : output_of h is ≡ (ran h is).bytes
  unfolding done output_of
  output_is = ap (λ (d : Done). d.bytes) all_is

-- a call behind two lists, which may be one behind the other
pub call_is :
    (h : Handed) → is_opened h → (is js : List Input) (i : Input) →
    called (left_after (left_after (box_of h) is) js) i ≡ surely (ran h (is ++ js)).box i
call_is h e is js i =
    ap (λ (b : Box). called b i) (sym (left_append (box_of h) is js)) ∙
    by_area (left_after (box_of h) (is ++ js)) i (passes h e (is ++ js)) ∙
    ap (λ (b : Box). surely b i) (box_is h e (is ++ js))
