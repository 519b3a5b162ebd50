-- `fields::has_key` meets its contract: behind the first word the first i bytes agree, so that the rest decides.
use Rattle.std.proofs.Common.{rules, ◌+◌, ℕ, eqb, sym, ap, ◌∙◌, take, drop, arith, length-drop}
use lib.Pointwise.{pointwise}
use Rattle.std.proofs.lemmas.Bool.Decides.{nat_tests}
use Rattle.fields.proofs.Keys.{starts_pointwise, starts_short, starts_further, starts_differs, starts_all}
use Rattle.fields.proofs.Words.{word_differs, word_agrees}
use Rattle.fields.proofs.has_key.Goals as goal

pub returns-then-s-at : goal.returns-then-s-at
returns-then-s-at c =
    let a = c.args in
    sym (starts_short a.key.now (drop a.at a.s.now) (omega (arith, length-drop a.at a.s.now)))

pub returns-then-key-lt4 : goal.returns-then-key-lt4
returns-then-key-lt4 c =
    let a = c.args in
    let t = drop a.at a.s.now in
    c.eq.ensures
    ∙ ap (λ (n : ℕ). pointwise eqb a.key.now (take n t)) (omega arith)
    ∙ starts_pointwise a.key.now t (omega (arith, length-drop a.at a.s.now))

pub returns-then-get : goal.returns-then-get
returns-then-get c =
    let a = c.args in
    sym (word_differs a.key.now a.s.now a.at (omega arith) (rw (c.get.ensures, c.get-2.ensures) at c.if-get.true))

pub loop-i-init : goal.loop-i-init
loop-i-init c =
    let a = c.args in (
      omega arith,
      omega arith,
      word_agrees a.key.now a.s.now a.at (omega arith) (λ i. search rules) (λ i. search rules) (omega arith)
          (rw (c.get.ensures, c.get-2.ensures) at c.if-get.false),
    )

pub returns-then-s-at-2 : goal.returns-then-s-at-2
returns-then-s-at-2 c =
    let a = c.args in
    let l = c.loop-i in
    sym (starts_differs a.key.now a.s.now a.at l.i (omega arith) (omega arith) c.if-s-at-2.true) ∙ l.invariant.2

pub loop-i-preserved : goal.loop-i-preserved
loop-i-preserved c =
    let a = c.args in
    let l = c.loop-i in (
      omega arith,
      omega arith,
      sym (starts_further a.key.now a.s.now a.at l.i (omega arith) (omega arith) c.if-s-at-2.false) ∙ l.invariant.2,
    )

pub returns : goal.returns
returns c =
    let a = c.args in
    let l = c.loop-i in
    sym (starts_all a.key.now (drop (a.at + l.i) a.s.now) l.i (omega arith)) ∙ l.invariant.2
