-- The refusal that comes of the blocks that a step names, as the code takes them.
use Rattle.std.specs.Prelude.{ℕ}
use Rattle.below.specs.Refusals.{number_of}
use Rattle.blocks.specs.Kinds.{Kind, good}
use Rattle.acts.specs.declared.named.Named.{Named}
use Rattle.acts.specs.Named.{row_found, both_found}

abbrev pub row_number : {R : Type 0} → Kind R → Named → ℕ
row_number r named = row_found named.hall (number_of named.late) named.row.now (good r named.row.now)

abbrev pub both_number : {R M : Type 0} → Kind R → Kind M → Named → ℕ
both_number r m named = both_found named.hall (number_of named.late) named.row.now (good r named.row.now) named.message.now (good m named.message.now)
