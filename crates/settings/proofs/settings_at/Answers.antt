-- `settings::settings_at` meets its contract: each field begins where the one before it ended, within the text.
use Rattle.std.proofs.Common.{sym, ◌∙◌, arith}
use Rattle.fields.proofs.Fields.{number_field_within, integer_field_within, end_inside}
use Rattle.settings.proofs.settings_at.Goals as goal

pub number_field-requires-2 : goal.number_field-requires-2
number_field-requires-2 c = (number_field_within _ _ _ _ _ _ (sym c.number_field.ensures ∙ c.in_ok-lines.was), c.requires.1)

pub number_field-requires-3 : goal.number_field-requires-3
number_field-requires-3 c = (number_field_within _ _ _ _ _ _ (sym c.number_field-2.ensures ∙ c.in_ok-bucket.was), c.requires.1)

pub number_field-requires-4 : goal.number_field-requires-4
number_field-requires-4 c = (number_field_within _ _ _ _ _ _ (sym c.number_field-3.ensures ∙ c.in_ok-window.was), c.requires.1)

pub integer_field-requires : goal.integer_field-requires
integer_field-requires c = (number_field_within _ _ _ _ _ _ (sym c.number_field-4.ensures ∙ c.in_ok-hold.was), c.requires.1)

pub integer_field-requires-2 : goal.integer_field-requires-2
integer_field-requires-2 c = (integer_field_within _ _ _ _ _ (sym c.integer_field.ensures ∙ c.in_ok-low.was), c.requires.1)

pub number_field-requires-5 : goal.number_field-requires-5
number_field-requires-5 c = (integer_field_within _ _ _ _ _ (sym c.integer_field-2.ensures ∙ c.in_ok-high.was), c.requires.1)

pub overflow_add-result : goal.overflow_add-result
overflow_add-result c =
    let inside = end_inside c.args.s.now c.in_ok-displays.at (sym c.ends_line.ensures ∙ c.if-ends_line.true) in
    omega (arith, inside, c.well_formed)
