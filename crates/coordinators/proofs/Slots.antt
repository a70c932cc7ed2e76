-- The slots of a row after one was set.
use Rattle.std.proofs.Common.{ℕ, ◌<◌, arith, length, get_or, set, get_or-set_same, get_or-set_other, ◌≡◌, ap, List, ◌⊎◌, inl, inr}
use Rattle.std.proofs.Math.Decide.{dec_lt, ℕ_discrete}
use Rattle.std.proofs.Math.Seq.{set_out}
use Rattle.records.specs.declared.slots.Heard.{Heard}

pub slot_set : (l : List Heard) (i : ℕ) (v d : Heard) (k : ℕ) → (get_or (set l i v) k d ≡ get_or l k d) ⊎ ((k ≡ i) × (get_or (set l i v) k d ≡ v))
slot_set l i v d k = go (ℕ_discrete k i) (dec_lt i (length l))
  where
    go : Dec (k ≡ i) → Dec (i < length l) → (get_or (set l i v) k d ≡ get_or l k d) ⊎ ((k ≡ i) × (get_or (set l i v) k d ≡ v))
    go (no e) y = inl (get_or-set_other l i k v d e)
    go (yes e) (yes m) = inr (e, rw e (get_or-set_same l i v d m))
    go (yes e) (no m) = inl (ap (λ (x : List Heard). get_or x k d) (set_out l i v (omega (arith, m))))
