use Rattle.std.proofs.Common.{rules, false, []}
use Rattle.below.proofs.Runs.{all_counted}
use Rattle.pages.proofs.Filled.{length_mapped}
use Rattle.records.specs.Slots.{no_round, held_at}
use Rattle.records.specs.Rules.{held_rules, all_held}
use Rattle.records.proofs.rows.ReaderRow.held_rules.Goals as goal

pub returns : goal.returns
unfolding held_at all_held
returns c = all_counted _ 5 (λ k h. held_rules c.args.setup k h) (record { filled = false; round = no_round; page = record { lines = [] } }) c.all.ensures.ran (cc) (cc) (search length_mapped) (λ x b q k. search rules)
