-- `commands::display_line` meets its contract: each field that was read lies within the text.
use Rattle.std.proofs.Common.{sym, ◌∙◌, arith}
use Rattle.fields.proofs.Fields.{number_field_within, end_inside}
use Rattle.commands.proofs.display_line.Goals as goal

pub wide_field-requires : goal.wide_field-requires
wide_field-requires c = number_field_within _ _ _ _ _ _ (sym c.number_field.ensures ∙ c.in_ok-display.was)

pub overflow_add-e2 : goal.overflow_add-e2
overflow_add-e2 c =
    let inside = end_inside c.args.text.now c.in_ok-id.e2 (sym c.ends_line.ensures ∙ c.if-ends_line.true) in
    omega (arith, inside, c.well_formed)
