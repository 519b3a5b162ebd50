-- `journal::read_call` meets its contract: the answer is the definition's, which is exact.
use Rattle.std.proofs.Common.{arith, rules, sym, ◌∙◌}
use Rattle.std.proofs.lemmas.Grind.{common_steps}
use Rattle.fields.proofs.Fields.{end_inside, line_ended}
use Rattle.journal.specs.ReadLine.{whole, call_of}
use Rattle.journal.proofs.Exact.{exact, not_line}
use Rattle.journal.proofs.read_call.Goals as goal

pub returns-then-not-is_line-clause-value : goal.returns-then-not-is_line-clause-value
returns-then-not-is_line-clause-value c = grind (arith, not_line)

pub returns-then-not-is_line-clause-exact_call : goal.returns-then-not-is_line-clause-exact_call
returns-then-not-is_line-clause-exact_call c = search (rules, exact, not_line)

-- a line has a byte
pub call_at-requires : goal.call_at-requires
call_at-requires c =
    let ends = sym c.is_line.ensures ∙ c.if-not-is_line.false in
    (omega (arith, end_inside c.args.text.now _ ends), line_ended c.args.text.now ends)

pub returns-in_err-call-clause-exact_call : goal.returns-in_err-call-clause-exact_call
unfolding call_of whole
returns-in_err-call-clause-exact_call c = exact _ _ (grind (arith, common_steps))

pub returns-then-end-text-clause-exact_call : goal.returns-then-end-text-clause-exact_call
unfolding call_of whole
returns-then-end-text-clause-exact_call c = exact _ _ (grind (arith, common_steps))

pub returns-else-end-text-clause-exact_call : goal.returns-else-end-text-clause-exact_call
unfolding call_of whole
returns-else-end-text-clause-exact_call c = exact _ _ (grind (arith, common_steps))
