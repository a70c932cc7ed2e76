use Rattle.std.proofs.Common.{rules, sym, ◌∙◌}
use Rattle.pages.specs.Racks.{has}
use Rattle.records.specs.Slots.{held_at}
use Rattle.readers.proofs.CountedWays.{line_held, line_left}
use Rattle.readers.proofs.counting.held_line.Goals as goal

pub returns-then-is_held : goal.returns-then-is_held
unfolding held_at
returns-then-is_held c =
    let e = line_held c.args.setup c.args.row.now c.args.round (has c.args.blanks) c.args.rack c.args.b (sym c.is_held.ensures ∙ c.if-is_held.true) c.requires.a_rack in
    search rules

pub returns-else-is_held : goal.returns-else-is_held
returns-else-is_held c = sym (line_left c.args.setup c.args.row.now c.args.round (has c.args.blanks) c.args.rack c.args.b (sym c.is_held.ensures ∙ c.if-is_held.false) c.requires.a_rack)
