use Rattle.std.proofs.Common.{ℕ, ◌∷◌, [], rules, refl, ap}
use Rattle.pages.specs.declared.line.Reading.{Reading}
use Rattle.words.proofs.Splices.{next, same_put}
use Rattle.fields.specs.Layout.{reading}
use Rattle.fields.proofs.lines.LineField.put.Goals as goal

pub returns : goal.returns
returns c =
    next _ _ _ _ _ _ _ (search rules) (same_put (ap (λ (x : ℕ). x ∷ []) c.state_of.ensures) c.put_u8.ensures) refl
    (same_put (ap (λ (r : Reading). reading.put r) c.payload_of.ensures) c.put.ensures)
