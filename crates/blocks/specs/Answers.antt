-- What the reader and the writer of a kind answer.
use Rattle.std.specs.Prelude.{ℕ, eqb, length, ◌≡◌, Bool, cond, ◌&&◌, List, [], Result, Ok, Err}
use Rattle.below.specs.declared.refusals.Refusal.{Refusal}
use Rattle.blocks.specs.declared.body.Stamped.{Stamped}
use Rattle.records.specs.declared.stamp.Stamp.{Stamp}
use Rattle.blocks.specs.Frame.{block_size}
use Rattle.blocks.specs.Kinds.{Kind, encode, decode, kept, good}

-- 1 for a wrong length, 2 where the test fails, else 0
abbrev pub answer : List ℕ → Bool → ℕ
answer bytes test = cond (eqb (length bytes) block_size) (cond test 0 2) 1

-- a good block's record; on refusal the record of no bytes, all zero
pub record Reads {A : Type 0} (k : Kind A) (bytes : List ℕ) (refusal : ℕ) (stamp : Stamp) (body : A) : Type 0 where
  pub refused : refusal ≡ answer bytes (good k bytes)
  pub stamped : stamp ≡ (decode k (cond (good k bytes) bytes [])).0
  pub bodied : body ≡ (decode k (cond (good k bytes) bytes [])).1

-- the record's block where it keeps the rules; on refusal nothing is written
pub record Writes {A : Type 0} (k : Kind A) (stamp : Stamp) (body : A) (old after : List ℕ) (refusal : ℕ) : Type 0 where
  pub refused : refusal ≡ answer old (kept k stamp body)
  pub written : after ≡ cond (eqb (length old) block_size && kept k stamp body) (encode k stamp body) old

-- what a reader's answer holds; a refused one, the record of no bytes
abbrev pub stamp_in : {A : Type 0} → Kind A → Result (Stamped A) Refusal → Stamp
stamp_in k (Ok s) = s.stamp
stamp_in k (Err e) = (decode k []).0

abbrev pub body_in : {A : Type 0} → Kind A → Result (Stamped A) Refusal → A
body_in k (Ok s) = s.body
body_in k (Err e) = (decode k []).1
