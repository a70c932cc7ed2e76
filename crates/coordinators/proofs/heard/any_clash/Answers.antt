use Rattle.std.proofs.Common.{rules}
use Rattle.below.proofs.Runs.{any_in}
use Rattle.pages.proofs.Filled.{length_mapped}
use Rattle.rounds.specs.Setups.{most_boxes}
use Rattle.records.specs.Slots.{heard_at}
use Rattle.below.specs.Below.{any}
use Rattle.coordinators.specs.Steps.{clashing, any_clash}
use Rattle.coordinators.proofs.heard.any_clash.Goals as goal

pub returns : goal.returns
unfolding heard_at any_clash
returns c = any_in {xs = c.args.row.heard} _ most_boxes (λ h. any most_boxes (λ b. clashing h (heard_at c.args.row b))) _ c.any.ensures.ran (cc) (search length_mapped) (λ x b q k. search rules)
