use Rattle.std.proofs.Common.{rules}
use Rattle.below.proofs.Tallies.{count_in}
use Rattle.pages.proofs.Filled.{length_mapped}
use Rattle.rounds.specs.Setups.{most_boxes}
use Rattle.records.specs.declared.slots.Heard.{Heard}
use Rattle.records.specs.Slots.{heard_at}
use Rattle.coordinators.specs.Steps.{heard_count}
use Rattle.coordinators.proofs.heard.heard_count.Goals as goal

pub returns : goal.returns
unfolding heard_at heard_count
returns c = count_in {xs = c.args.row.heard} most_boxes (λ (h : Heard). h.filled) _ _ c.count.ensures.ran (cc) (search rules) (search length_mapped) (λ x b q k. search rules)
