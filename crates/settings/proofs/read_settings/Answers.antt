-- `settings::read_settings` meets its contract: the answer is the definition's, which is exact.
use Rattle.std.proofs.Common.{arith, rules, sym, ◌∙◌}
use Rattle.std.proofs.lemmas.Grind.{common_steps}
use Rattle.fields.proofs.Fields.{end_inside, line_ended}
use Rattle.settings.specs.SettingsLine.{limited}
use Rattle.settings.specs.ReadLine.{judged, settings_of}
use Rattle.settings.proofs.Exact.{exact, not_line}
use Rattle.settings.proofs.read_settings.Goals as goal

pub returns-then-not-is_line-clause-value : goal.returns-then-not-is_line-clause-value
returns-then-not-is_line-clause-value c = grind (arith, not_line)

pub returns-then-not-is_line-clause-exact_settings : goal.returns-then-not-is_line-clause-exact_settings
returns-then-not-is_line-clause-exact_settings c = search (rules, exact, not_line)

-- a line has a byte
pub settings_at-requires : goal.settings_at-requires
settings_at-requires c =
    let ends = sym c.is_line.ensures ∙ c.if-not-is_line.false in
    (omega (arith, end_inside c.args.text.now _ ends), line_ended c.args.text.now ends)

pub returns-in_err-settings-clause-exact_settings : goal.returns-in_err-settings-clause-exact_settings
unfolding settings_of judged
returns-in_err-settings-clause-exact_settings c = search (rules, exact)

pub returns-then-end-text-clause-exact_settings : goal.returns-then-end-text-clause-exact_settings
unfolding settings_of judged
returns-then-end-text-clause-exact_settings c = search (rules, exact)

pub returns-then-within_limits-clause-exact_settings : goal.returns-then-within_limits-clause-exact_settings
unfolding settings_of judged limited
returns-then-within_limits-clause-exact_settings c = exact _ _ (grind (arith, common_steps))

pub returns-else-within_limits-clause-exact_settings : goal.returns-else-within_limits-clause-exact_settings
unfolding settings_of judged limited
returns-else-within_limits-clause-exact_settings c = exact _ _ (grind (arith, common_steps))
