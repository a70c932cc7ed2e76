use Rattle.std.specs.Prelude.{◌+◌, ◌≤◌, ◌<◌}
use Rattle.fields.proofs.Lawful.{Lawful}
use Rattle.blocks.specs.Frame.{words_end, body_at}
use Rattle.blocks.specs.Kinds.{Kind}

-- what a kind has to show: its number is a byte, its body has room, and its codec is lawful for the values that fit
pub record Proper {A : Type 0} (k : Kind A) (P : A → Type 0) : Type 0 where
  pub number_small : k.number < 256
  pub room : body_at + k.body.size ≤ words_end
  pub lawful : Lawful k.body P
