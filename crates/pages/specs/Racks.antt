-- A set of racks: bits, rack 0 lowest.
use Rattle.std.specs.Prelude.{ℕ, zero, suc, ◌+◌, ◌*◌, ◌/◌, ◌%◌, ◌^◌, eqb, ltb, Bool, cond, not, ◌&&◌}

-- the most racks that a hall has, and so the lines of a page
abbrev pub most_racks : ℕ
most_racks = 8

abbrev pub has : ℕ → ℕ → Bool
has set rack = eqb (set / 2 ^ rack % 2) 1

-- the racks of a hall of P racks
abbrev pub racks_below : ℕ → ℕ → Bool
racks_below racks rack = ltb rack racks

-- the racks of a hall of P racks that are not in cf
abbrev pub outside : ℕ → ℕ → ℕ → Bool
outside cf racks rack = ltb rack racks && not (has cf rack)

-- the bits of the racks below n that pass a test
unfoldable pub set_of : ℕ → (ℕ → Bool) → ℕ
set_of zero f = 0
set_of (suc n) f = cond (f 0) 1 0 + 2 * set_of n (λ k. f (suc k))
