-- A set of racks, tested by a shift.
use Rattle.std.proofs.Common.{ℕ, ◌/◌, ◌^◌, ◌≤◌, ◌<◌, arith, ltb, eqb, pow_mono, pow_pos, lt-ltb, eq-eqb, ltb-true, eqb-true, ◌≡◌, true}
use Rattle.std.proofs.Math.Nat.{div-eq_of_lt, lt-div-mul-add}
use Rattle.below.proofs.Tests.{same_yes}
use Rattle.rounds.specs.Setups.{some_racks}

-- a number below a power has nothing left when it is shifted down by it
pub shifted_out : (x k : ℕ) → eqb (x / 2 ^ k) 0 ≡ ltb x (2 ^ k)
shifted_out x k = same_yes (eqb (x / 2 ^ k) 0) (ltb x (2 ^ k)) down up
  where
    up : ltb x (2 ^ k) ≡ true → eqb (x / 2 ^ k) 0 ≡ true
    up h = eq-eqb (x / 2 ^ k) 0 (div-eq_of_lt {n = x} {m = 2 ^ k} (ltb-true x (2 ^ k) h))

    down : eqb (x / 2 ^ k) 0 ≡ true → ltb x (2 ^ k) ≡ true
    down h = lt-ltb x (2 ^ k) (below (eqb-true (x / 2 ^ k) 0 h))
      where
        below : x / 2 ^ k ≡ 0 → x < 2 ^ k
        below e = omega (arith, rw e at (lt-div-mul-add {a = x} {b = 2 ^ k} (pow_pos k)))

pub racks_many : (racks cf : ℕ) → 0 < cf → 32 ≤ racks → cf < 2 ^ 32 → true ≡ some_racks racks cf
racks_many racks cf h l f = rw (lt-ltb 0 cf h, lt-ltb cf (2 ^ racks) (omega (arith, pow_mono {i = 32} {j = racks} l)))
