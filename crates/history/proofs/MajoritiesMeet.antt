-- Two majorities share a box.
use Rattle.std.proofs.Common.{ℕ, ◌<◌, arith}
use Rattle.below.proofs.Counts.{count_some, counts_meet}
use Rattle.history.specs.History.{Most}

pub most_meet : {A : ℕ} {F G : ℕ → Type 0} → Most A F → Most A G → (b : ℕ) × (b < A) × (F b × G b)
most_meet {A} m n =
    let (b, l, (p, q)) = counts_meet A m.among n.among (omega (arith, m.enough, n.enough)) in
    (b, l, (m.each b l p, n.each b l q))

pub most_some : {A : ℕ} {F : ℕ → Type 0} → Most A F → (b : ℕ) × (b < A) × F b
most_some {A} m = let (b, l, p) = count_some A m.among (omega (arith, m.enough)) in (b, l, m.each b l p)

pub most_map : {A : ℕ} {F G : ℕ → Type 0} → ((b : ℕ) → F b → G b) → Most A F → Most A G
most_map f m = record { among = m.among; enough = m.enough; each = λ b l p. f b (m.each b l p) }
