use Rattle.std.proofs.Common.{rules, ◌∙◌}
use Rattle.readers.proofs.CountedWays.{counted_enough}
use Rattle.readers.proofs.counting.counted.Goals as goal

pub returns-in_err-page : goal.returns-in_err-page
returns-in_err-page c = search rules ∙ counted_enough c.args.setup c.args.row c.args.round (c.from-need.ensures ∙ c.majority.ensures) c.held_boxes-boxes.ensures (search rules) c.blank_racks-blanks.ensures c.agreed_page-chosen.ensures c.in_err-page.ensures

pub returns : goal.returns
returns c = counted_enough c.args.setup c.args.row c.args.round (c.from-need.ensures ∙ c.majority.ensures) c.held_boxes-boxes.ensures (search rules) c.blank_racks-blanks.ensures c.agreed_page-chosen.ensures c.in_ok-page.ensures
