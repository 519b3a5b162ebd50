-- What a call leaves has as many lines, and each line keeps at most what its share has places for: a reading more is refused at 256 kept,
-- everything else keeps as many or fewer. By cases on kind and rule.
use Prim.Native.Nat.{ℕ, ◌-◌}
use mathlib.Core.Path.{◌≡◌, refl}
use mathlib.Core.Bool.{Bool, true, false, cond, not}
use mathlib.Core.List.{[]}
use native.Mathlib.Omega.{arith}
use borrow.Author.Tests.{leb-false, eqb-true}
use lib.Dec.{leb, eqb}
use lib.ListN.{length, length-append, length-map}
use Rattle.settings.specs.declared.Settings.{Settings}
use Rattle.journal.specs.declared.Call.{Call}
use Rattle.store.specs.declared.Reading.{Reading}
use Rattle.store.specs.Order.{is_in}
use Rattle.store.specs.Lists.{Every}
use Rattle.store.proofs.Pairs.{every_to, every_map}
use Rattle.store.proofs.Keeping.{length_keep}
use Rattle.protocol.specs.Kinds.{Kind, kind_of, uses, is_step}
use Rattle.protocol.specs.Node.{Line, Node, no_line, on_line}
use Rattle.protocol.specs.Refusals.{named_line, is_full, answer_to}
use Rattle.protocol.specs.declared.Rule.{Rule}
use Rattle.protocol.specs.Rules.{Outcome, rule_of, without, act}
use Rattle.protocol.specs.Calls.{input, done, accepted, outcome_of}
use Rattle.protocol.proofs.Places.{length_modify}
use Rattle.protocol.proofs.Passed.{passed}
use Rattle.node.proofs.Lists.{every_modify}
use Rattle.node.proofs.Shares.{SmallLine}

-- ---- an input

-- a line that is not full stays within its share
pub on_line_small : (k : Call) (kind : Kind) (l : Line) → is_full l kind ≡ false → SmallLine l → SmallLine (on_line k kind l)
unfolding on_line is_full uses
on_line_small k Kind.S l e h = simp length-append (omega (arith, leb-false))
on_line_small k Kind.T l e h = simp length-append (omega (arith, leb-false))
on_line_small k Kind.B l e h = h
on_line_small k Kind.U l e h = omega (arith, length_keep (λ (r : Reading). leb r.id k.id) l.kept)
on_line_small k Kind.R l e h = h
on_line_small k Kind.P l e h = h

input_lines : (n : Node) (k : Call) (kind : Kind) → length (input n k kind).node.lines ≡ length n.lines
unfolding input
input_lines n k kind = length_modify (on_line k kind) (k.line - 1) n.lines

input_small :
    (n : Node) (k : Call) (kind : Kind) → is_full (named_line n k) kind ≡ false → Every SmallLine n.lines →
    Every SmallLine (input n k kind).node.lines
unfolding input named_line
input_small n k kind e h =
    every_modify SmallLine (on_line k kind) no_line (k.line - 1) n.lines (on_line_small k kind (named_line n k) e) h

-- ---- a step

act_lines : (s : Settings) (n : Node) (q : Rule) → length (act s n q).node.lines ≡ length n.lines
unfolding act
act_lines s n Rule.Withdraw = refl
act_lines s n Rule.WorkStable = length-map n.lines (without s n.c)
act_lines s n Rule.EndCorrection = refl
act_lines s n Rule.WorkTentative = refl
act_lines s n Rule.Idle = refl

pub without_small : (s : Settings) (j : ℕ) (l : Line) → SmallLine l → SmallLine (without s j l)
unfolding without
without_small s j l h = omega (arith, length_keep (λ (r : Reading). not (is_in s.bucket j r)) l.kept)

act_small : (s : Settings) (n : Node) (q : Rule) → Every SmallLine n.lines → Every SmallLine (act s n q).node.lines
unfolding act
act_small s n Rule.Withdraw h = h
act_small s n Rule.WorkStable h = every_map (without s n.c) SmallLine n.lines (every_to n.lines (without_small s n.c) h)
act_small s n Rule.EndCorrection h = h
act_small s n Rule.WorkTentative h = h
act_small s n Rule.Idle h = h

-- ---- a call

done_lines : (s : Settings) (n : Node) (k : Call) (kind : Kind) → length (done s n k kind).node.lines ≡ length n.lines
unfolding done is_step uses
done_lines s n k Kind.S = input_lines n k Kind.S
done_lines s n k Kind.T = input_lines n k Kind.T
done_lines s n k Kind.B = input_lines n k Kind.B
done_lines s n k Kind.U = input_lines n k Kind.U
done_lines s n k Kind.R = input_lines n k Kind.R
done_lines s n k Kind.P = act_lines s n (rule_of s n k.now)

done_small :
    (s : Settings) (n : Node) (k : Call) (kind : Kind) → is_full (named_line n k) kind ≡ false → Every SmallLine n.lines →
    Every SmallLine (done s n k kind).node.lines
unfolding done is_step uses
done_small s n k Kind.S e h = input_small n k Kind.S e h
done_small s n k Kind.T e h = input_small n k Kind.T e h
done_small s n k Kind.B e h = input_small n k Kind.B e h
done_small s n k Kind.U e h = input_small n k Kind.U e h
done_small s n k Kind.R e h = input_small n k Kind.R e h
done_small s n k Kind.P e h = act_small s n (rule_of s n k.now) h

-- an outcome, the call accepted or not
abbrev outcome_if : Settings → Node → Call → Bool → Outcome
outcome_if s n k b = cond b (accepted k.now (done s n k (kind_of k.kind))) (record { node = n; records = [] })

pub outcome_lines : (s : Settings) (n : Node) (k : Call) → length (outcome_of s n k).node.lines ≡ length n.lines
unfolding outcome_of accepted
outcome_lines s n k =
    elim (eqb (answer_to s n k) 0) as (λ b. length (outcome_if s n k b).node.lines ≡ length n.lines) [
      | true ↦ done_lines s n k (kind_of k.kind)
      | false ↦ refl
    ]

pub outcome_kept : (s : Settings) (n : Node) (k : Call) → Every SmallLine n.lines → Every SmallLine (outcome_of s n k).node.lines
unfolding outcome_of accepted
outcome_kept s n k h =
    (elim (eqb (answer_to s n k) 0) as (λ b. eqb (answer_to s n k) 0 ≡ b → Every SmallLine (outcome_if s n k b).node.lines) [
      | true ↦ λ e. done_small s n k (kind_of k.kind) (passed s n k (eqb-true _ _ e)).room h
      | false ↦ λ e. h
    ])
    refl
