use Rattle.std.proofs.Common.{rules, refl, ◌∙◌}
use Rattle.words.proofs.Summed.{together_more}
use Rattle.below.proofs.Rows.{filled_start, filled_ends}
use Rattle.words.proofs.sums.thirds_together.Goals as goal

pub loop-k-init : goal.loop-k-init
loop-k-init c = (refl, filled_start _ _)

pub loop-k-preserved : goal.loop-k-preserved
loop-k-preserved c =
    (search rules, together_more c.args.block.now _ _ c.loop-k.invariant.1 (search rules) c.get_u32-low.ensures c.get_u32-middle.ensures c.get_u32-high.ensures refl refl)

pub returns : goal.returns
returns c = c.loop-k.invariant.1 ∙ filled_ends _ 42 _ _ c.loop-k.invariant.0 (search rules) (search rules)
