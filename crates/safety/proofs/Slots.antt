-- What holds of the slots of a row: of a row of equal slots, and after one was filled.
use Rattle.std.proofs.Common.{ℕ, zero, suc, ◌<◌, arith, sym, subst, get_or, set, List, [], ◌∷◌}
use Rattle.std.proofs.Math.Decide.{dec_lt}
use Rattle.below.specs.Below.{row}
use Rattle.below.proofs.Rows.{row_at, row_past}

-- equal slots, and what stands past the last one
pub equal_slots : {X : Type 0} (Q : X → Type 0) (n : ℕ) (x d : X) → Q x → Q d → (j : ℕ) → Q (get_or (row n (λ i. x)) j d)
equal_slots Q n x d here past j = go (dec_lt j n)
  where
    go : Dec (j < n) → Q (get_or (row n (λ i. x)) j d)
    go (yes l) = subst Q (sym (row_at n (λ i. x) j d l)) here
    go (no m) = subst Q (sym (row_past n (λ i. x) j d (omega (arith, m)))) past

-- the new one, and the old ones
pub slot_cases : {X : Type 0} (Q : ℕ → X → Type 0) (l : List X) (i : ℕ) (x d : X) → Q i x → ((j : ℕ) → Q j (get_or l j d)) → (j : ℕ) →
    Q j (get_or (set l i x) j d)
slot_cases Q [] i x d new old j = old j
slot_cases Q (y ∷ l) zero x d new old zero = new
slot_cases Q (y ∷ l) zero x d new old (suc j) = old (suc j)
slot_cases Q (y ∷ l) (suc i) x d new old zero = old zero
slot_cases Q (y ∷ l) (suc i) x d new old (suc j) = slot_cases (λ k. Q (suc k)) l i x d new (λ k. old (suc k)) j
