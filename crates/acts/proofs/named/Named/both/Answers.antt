use Rattle.std.proofs.Common.{sym, ap, ◌∙◌}
use Rattle.below.specs.Refusals.{number_of}
use Rattle.acts.proofs.Read.{both_named, both_read}
use Rattle.acts.proofs.named.Named.both.Goals as goal

pub returns-in_err-own-clause-number : goal.returns-in_err-own-clause-number
returns-in_err-own-clause-number g c =
    absurd (both_read c.is_ok-2.result c.in_err-own.was c.is_ok.ensures.value
    (both_named c.args.self.now.hall (number_of c.args.self.now.late) c.args.self.now.row.now c.args.self.now.message.now c.is_ok.result c.is_ok-2.result (sym c.both_found.ensures ∙ ap number_of c.in_ok-both_found.was)))
