-- Two majorities share a box, over any number of boxes.
use Rattle.std.proofs.Common.{ℕ, ◌≤◌, ◌<◌, arith, ◌≡◌, Bool, true}
use Rattle.below.specs.Below.{count}
use Rattle.below.proofs.Counts.{count_some, counts_meet}
use Rattle.rounds.specs.Setups.{majority_of}

pub majorities_meet : (boxes : ℕ) (f g : ℕ → Bool) → majority_of boxes ≤ count boxes f → majority_of boxes ≤ count boxes g →
    (k : ℕ) × (k < boxes) × ((f k ≡ true) × (g k ≡ true))
majorities_meet boxes f g p q = counts_meet boxes f g (omega arith)

-- a majority has a box
pub majority_some : (boxes : ℕ) (f : ℕ → Bool) → majority_of boxes ≤ count boxes f → (k : ℕ) × (k < boxes) × (f k ≡ true)
majority_some boxes f p = count_some boxes f (omega arith)
