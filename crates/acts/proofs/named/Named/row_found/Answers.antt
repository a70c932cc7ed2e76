use Rattle.std.proofs.Common.{rules, ◌||◌}
use Rattle.below.specs.Refusals.{unless, granted, wrong_message, number_of}
use Rattle.kinds.specs.Known.{known}
use Rattle.acts.specs.Named.{stamp_of, own_row}
use Rattle.acts.proofs.Read.{row_stopped}
use Rattle.acts.proofs.named.Named.row_found.Goals as goal

pub returns-in_err-good_row : goal.returns-in_err-good_row
returns-in_err-good_row c =
    search (
      rules,
      row_stopped (c.args.right || known c.args.self.now.row.now) (own_row c.args.self.now.hall (stamp_of c.args.self.now.row.now)) (number_of c.args.self.now.late)
          (unless c.args.right wrong_message granted) _ c.in_err-good_row.ensures,
    )
