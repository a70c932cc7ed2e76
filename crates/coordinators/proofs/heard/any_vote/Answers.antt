use Rattle.std.proofs.Common.{rules}
use Rattle.below.proofs.Runs.{any_in}
use Rattle.pages.proofs.Filled.{length_mapped}
use Rattle.rounds.specs.Setups.{most_boxes}
use Rattle.records.specs.Slots.{heard_at}
use Rattle.coordinators.specs.Steps.{is_vote, any_vote}
use Rattle.coordinators.proofs.heard.any_vote.Goals as goal

pub returns : goal.returns
unfolding heard_at any_vote
returns c = any_in {xs = c.args.row.heard} _ most_boxes (λ h. is_vote h) _ c.any.ensures.ran (cc) (search length_mapped) (λ x b q k. search rules)
