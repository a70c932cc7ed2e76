use Rattle.std.proofs.Common.{rules, false, []}
use Rattle.below.proofs.Runs.{all_counted}
use Rattle.pages.proofs.Filled.{length_mapped}
use Rattle.records.specs.Slots.{no_round, heard_at}
use Rattle.records.specs.Rules.{heard_rules, all_heard}
use Rattle.records.proofs.rows.CoordinatorRow.heard_rules.Goals as goal

pub returns : goal.returns
unfolding heard_at all_heard
returns c = all_counted _ 5 (λ k h. heard_rules c.args.setup c.args.self.crnd k h) (record { filled = false; vrnd = no_round; vote = record { some = false; page = record { lines = [] } } }) c.all.ensures.ran (cc) (cc) (search length_mapped) (λ x b q k. search rules)
