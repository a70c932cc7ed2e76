-- What the code of an act promises whatever its step is, once the blocks that it names are found good: `post` says what the step may
-- answer of what they hold. (The refusal that comes of the blocks is in Reached.antt.)
use Rattle.std.specs.Prelude.{ℕ, ◌≡◌, Bool, true, false, Result, Ok, Err, MatchResult, List}
use Rattle.below.specs.declared.refusals.Refusal.{Refusal}
use Rattle.records.specs.declared.granted.Granted.{Granted}
use Rattle.records.specs.declared.stamp.Stamp.{Stamp}
use Rattle.blocks.specs.declared.body.Stamped.{Stamped}
use Rattle.blocks.specs.Kinds.{Kind, encode, decode}

-- what a block holds, read as of a kind
abbrev pub held_by : {A : Type 0} → Kind A → List ℕ → Stamped A
held_by k block = record { stamp = (decode k block).0; body = (decode k block).1 }

-- a step that sends: row and message are written of the row's own stamp, or its refusal is answered and both buffers stay
abbrev pub Sends : {R S : Type 0} → Kind R → Kind S → Stamp → (Result (Granted R S) Refusal → Type 0) → List ℕ → List ℕ → List ℕ → List ℕ → Result Bool Refusal → Type 0
Sends {R} {S} r s stamp post after sent after' sent' result =
    (y : Result (Granted R S) Refusal) × post y × MatchResult y
    (λ g. (result ≡ Ok true) × (after' ≡ encode r stamp g.row) × (sent' ≡ encode s stamp g.sent))
    (λ e. (result ≡ Err e) × (after' ≡ after) × (sent' ≡ sent))

-- one that doesn't
abbrev pub Stays : {R : Type 0} → Kind R → Stamp → (Result R Refusal → Type 0) → List ℕ → List ℕ → Result Bool Refusal → Type 0
Stays {R} r stamp post after after' result =
    (y : Result R Refusal) × post y × MatchResult y
    (λ row. (result ≡ Ok false) × (after' ≡ encode r stamp row))
    (λ e. (result ≡ Err e) × (after' ≡ after))
