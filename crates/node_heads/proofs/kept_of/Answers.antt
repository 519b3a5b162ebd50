-- `node_heads::kept_of` meets its contract: each head's number, by what the array's `map` ensures at its place.
use Rattle.std.proofs.Common.{◌≡◌, ◌<◌, length, map, sym, ◌∙◌, arith, rules}
use Rattle.std.proofs.lemmas.List.{get_or-map}
use lib.Seq.{ext_get_or}
use lib.ListN.{length-map}
use Rattle.settings.specs.Limits.{max_lines}
use Rattle.protocol.specs.Node.{no_line}
use Rattle.node.specs.View.{head_of}
use Rattle.node.specs.declared.LineHead.{LineHead as Head}
use Rattle.node_heads.proofs.kept_of.Goals as goal

pub returns : goal.returns
returns c =
    let heads = c.args.heads.now in
    let eight : length heads ≡ max_lines = search rules in
    let each = c.map.ensures.items in
    ext_get_or 0 c.map.result (map (λ (h : Head). h.kept) heads) (each.long ∙ sym eight ∙ sym (length-map heads (λ (h : Head). h.kept)))
    (λ i below.
    let within : i < length heads = omega (arith, each.long, eight, below) in
    let call = (each.at i (head_of no_line) 0 (omega (arith, within, eight))).2.met in
    search rules ∙ sym (get_or-map (λ (h : Head). h.kept) heads i (head_of no_line) 0 within))
