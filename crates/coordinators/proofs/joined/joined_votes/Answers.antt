use Rattle.std.proofs.Common.{rules, refl}
use Rattle.below.specs.Below.{row}
use Rattle.below.proofs.Tallies.{fold_in}
use Rattle.pages.specs.Pages.{empty, page}
use Rattle.pages.specs.declared.page.Vote.{Vote}
use Rattle.pages.proofs.Filled.{length_mapped}
use Rattle.rounds.specs.Setups.{most_boxes}
use Rattle.records.specs.declared.slots.Heard.{Heard}
use Rattle.records.specs.Slots.{heard_at}
use Rattle.coordinators.specs.Steps.{highest, join_more, join_votes, joined_votes}
use Rattle.coordinators.proofs.joined.joined_votes.Goals as goal

pub returns : goal.returns
unfolding heard_at joined_votes join_votes empty page row
returns c =
    fold_in {xs = c.args.row.heard} most_boxes (λ (v : Vote) (h : Heard). join_more (highest c.args.row h) h.vote.page v)
    (λ n. join_votes (λ box. highest c.args.row (heard_at c.args.row box)) (λ box. (heard_at c.args.row box).vote.page) n)
    _ _ c.fold.ensures.ran (cc) c.of-nothing.ensures (search length_mapped) (λ a x b q k. search rules) (λ k l. refl)
