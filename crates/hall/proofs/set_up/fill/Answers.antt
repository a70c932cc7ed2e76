use Rattle.std.proofs.Common.{rules, refl}
use Rattle.fields.specs.Codecs.{run}
use Rattle.hall.proofs.FreshBlocks.{turned, fill_ends}
use Rattle.hall.proofs.set_up.fill.Goals as goal

pub loop-place-init : goal.loop-place-init
unfolding run
loop-place-init c = (search rules, (c.requires, refl))

pub loop-place-preserved : goal.loop-place-preserved
loop-place-preserved c = turned _ _ _ _ _ _ (search rules) c.loop-place.invariant.0 c.requires c.loop-place.invariant.1.1 c.fresh_block.ensures

pub returns : goal.returns
returns c = fill_ends _ _ _ _ _ c.requires (search rules) (search rules) c.loop-place.invariant.1.1
