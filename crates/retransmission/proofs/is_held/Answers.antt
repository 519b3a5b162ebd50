-- `retransmission::is_held` meets its contract: the place's kind and its id are read from the store's bytes.
use Rattle.std.proofs.Common.{◌∙◌, ap, sym, ◌+◌, ℕ, Bool, eqb, take, drop}
use mathlib.Core.Path.{ap₂}
use mathlib.Core.Bool.{◌&&◌}
use Rattle.endian.specs.LittleEndian.{number_of}
use Rattle.retransmission.proofs.Passing.{held_test}
use Rattle.retransmission.proofs.is_held.Goals as goal

pub returns-then-is_stable : goal.returns-then-is_stable
returns-then-is_stable c =
    sym
    (held_test c.args.sent.now c.args.n c.place_after-at.result c.place_after-at.ensures ∙
    ap₂ (λ (kind : Bool) (id : ℕ). kind && eqb id (c.args.n + 1)) (sym c.if-is_stable.ensures) (sym (c.from.ensures ∙ c.get.ensures)))

pub returns-else-is_stable : goal.returns-else-is_stable
returns-else-is_stable c =
    let at = c.place_after-at.result in
    c.if-is_stable.false ∙
    sym
    (held_test c.args.sent.now c.args.n at c.place_after-at.ensures ∙
    ap (λ (kind : Bool). kind && eqb (number_of (take 4 (drop (at + 4) c.args.sent.now))) (c.args.n + 1)) (sym c.if-is_stable.ensures))
