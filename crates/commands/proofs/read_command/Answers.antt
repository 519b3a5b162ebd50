-- `commands::read_command` meets its contract: the answer is the definition's, which is exact.
use Rattle.std.proofs.Common.{sym, ◌∙◌, rules}
use Rattle.fields.proofs.Fields.{line_ended}
use Rattle.commands.specs.ReadLine.{or_else, command_of}
use Rattle.commands.proofs.Exact.{exact, not_line}
use Rattle.commands.proofs.read_command.Goals as goal

pub returns-then-not-is_line-clause-value : goal.returns-then-not-is_line-clause-value
returns-then-not-is_line-clause-value c = sym (not_line c.args.text.now (sym c.is_line.ensures ∙ c.if-not-is_line.true))

pub returns-then-not-is_line-clause-exact_command : goal.returns-then-not-is_line-clause-exact_command
returns-then-not-is_line-clause-exact_command c =
    exact c.args.text.now _ (sym (not_line c.args.text.now (sym c.is_line.ensures ∙ c.if-not-is_line.true)))

pub display_line-requires : goal.display_line-requires
display_line-requires c = line_ended c.args.text.now (sym c.is_line.ensures ∙ c.if-not-is_line.false)

pub returns-in-Some-clause-exact_command : goal.returns-in-Some-clause-exact_command
unfolding command_of or_else
returns-in-Some-clause-exact_command c = exact c.args.text.now _ (search rules)

pub display_line-requires-2 : goal.display_line-requires-2
display_line-requires-2 c = line_ended c.args.text.now (sym c.is_line.ensures ∙ c.if-not-is_line.false)

pub returns-in_err-display-clause-exact_command : goal.returns-in_err-display-clause-exact_command
unfolding command_of or_else
returns-in_err-display-clause-exact_command c = exact c.args.text.now _ (search rules)

pub returns-clause-exact_command : goal.returns-clause-exact_command
unfolding command_of or_else
returns-clause-exact_command c = exact c.args.text.now _ (search rules)
