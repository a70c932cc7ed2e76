use Rattle.std.proofs.Common.{◌≤◌, ◌*◌, ◌≡◌, ◌++◌, length, drop}
use Rattle.fields.specs.Codecs.{run}
use Rattle.blocks.specs.Frame.{block_size}
use Rattle.hall.specs.Halls.{blocks_of_hall, hall_size, fresh_block}
use Rattle.hall.proofs.set_up.fill.Given as goal

abbrev pub invariant-loop-place : goal.invariant-loop-place
invariant-loop-place l = (l.place ≤ blocks_of_hall) × ((length l.hall ≡ hall_size) × (l.hall ≡ run l.place (fresh_block l.instance.0 l.setup) ++ drop (block_size * l.place) l.initial.hall))
