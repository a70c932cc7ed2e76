use Rattle.std.proofs.Common.{rules}
use Rattle.below.proofs.Runs.{all_counted}
use Rattle.pages.proofs.Filled.{length_mapped}
use Rattle.records.specs.Slots.{no_blank, blank_at}
use Rattle.records.specs.Rules.{blank_rules, all_blanks}
use Rattle.records.proofs.rows.ReaderRow.blank_rules.Goals as goal

pub returns : goal.returns
unfolding blank_at all_blanks
returns c = all_counted _ 8 (λ k h. blank_rules c.args.setup k h) no_blank c.all.ensures.ran (cc) (cc) (search length_mapped) (λ x b q k. search rules)
