-- What the functions of the hall's step hand to each other; no public contract cites this.
use Rattle.std.specs.Prelude.{ℕ, length, ◌≡◌, true, List}
use Rattle.records.specs.declared.stamp.Stamp.{Stamp}
use Rattle.blocks.specs.Kinds.{good}
use Rattle.blocks.specs.Rows.{head}
use Rattle.acts.specs.declared.step.Step.{Step}
use Rattle.hall.specs.Halls.{hall_size, block_at}
use Rattle.hall.specs.Steps.{step_exists, numbers_in_range, head_of, count_of}

-- past the refusals 1, 2 for the head, 4 and 11; the head's stamp and count are at hand
pub record Reached (hall : List ℕ) (stamp : Stamp) (count : ℕ) (x : Step) : Type 0 where
  pub long : length hall ≡ hall_size
  pub headed : good head (block_at hall 0) ≡ true
  pub stamped : stamp ≡ head_of hall
  pub counted : count ≡ count_of hall
  pub exists : step_exists stamp.setup count x ≡ true
  pub ranged : numbers_in_range stamp.setup x ≡ true
