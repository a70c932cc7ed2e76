use Rattle.std.proofs.Common.{rules, ne_eqb, ◌≡◌, sym, ◌∙◌, true, ◌&&◌}
use Rattle.below.proofs.Refused.{number_some}
use Rattle.box_step.specs.BoxSteps.{is_block, box_row_after, box_sent_after}
use Rattle.box_step.proofs.Stepped.{acted}
use Rattle.box_step.proofs.step.Goals as goal

pub returns-in_err-sends : goal.returns-in_err-sends
unfolding box_row_after box_sent_after
returns-in_err-sends c =
    let long : is_block c.args.row.now && (is_block c.args.message.now && is_block c.args.sent.now) ≡ true = search rules in
    let said = acted c.args.row.now c.args.message.now c.args.sent.now _ c.perform.result long (sym c.of.ensures ∙ c.in_ok-code.ensures.ok_part) c.read_stamp-own.ensures c.numbers_in_range.ensures c.unless-late.ensures c.narrow.ensures c.perform.ensures in
    let some = ne_eqb _ _ (number_some c.in_err-sends.field-0.0) in
    search rules

pub returns : goal.returns
unfolding box_row_after box_sent_after
returns c =
    let long : is_block c.args.row.now && (is_block c.args.message.now && is_block c.args.sent.now) ≡ true = search rules in
    let said = acted c.args.row.now c.args.message.now c.args.sent.now _ c.perform.result long (sym c.of.ensures ∙ c.in_ok-code.ensures.ok_part) c.read_stamp-own.ensures c.numbers_in_range.ensures c.unless-late.ensures c.narrow.ensures c.perform.ensures in
    search rules
