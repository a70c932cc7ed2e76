-- What holds of every kind, for any bytes and any record: a block is of one kind, is good exactly if a record that keeps the
-- rules encodes to it, and then its check words are the document's sums; and the contracts of reader and writer leave no choice.
use Rattle.std.proofs.Common.{ℕ, ◌+◌, ◌-◌, ◌<◌, eqb, ◌≡◌, sym, ap, subst, ◌∙◌, Bool, true, ◌&&◌, List, eqb-true}
use Rattle.below.proofs.Tests.{and_left, and_right}
use Rattle.records.specs.declared.stamp.Stamp.{Stamp}
use Rattle.words.specs.Bytes.{byte, Small, number4, zero_at}
use Rattle.words.specs.Sums.{first_sum_of, second_sum_of}
use Rattle.words.proofs.Zeroes.{zero_at_lem}
use Rattle.blocks.specs.Frame.{words_end, body_at, framed}
use Rattle.blocks.specs.Kinds.{Kind, encode, kept, good}
use Rattle.blocks.specs.Answers.{Reads, Writes}
use Rattle.blocks.proofs.Framing.{StampFits}
use Rattle.blocks.specs.Proper.{Proper}
use Rattle.blocks.proofs.Judged.{encode-decode, encode-good, good_length, same_framed}

-- (c) a good block's third byte is its kind's number, so no block is good for two kinds
pub kind_byte : {A : Type 0} (k : Kind A) (P : A → Type 0) (proper : Proper k P) (bytes : List ℕ) → good k bytes ≡ true → byte bytes 2 ≡ k.number
unfolding encode
kind_byte k P proper bytes h = ap (λ (l : List ℕ). byte l 2) (encode-decode k P proper bytes h)

pub one_kind : {A B : Type 0} (k : Kind A) (P : A → Type 0) (j : Kind B) (Q : B → Type 0) → Proper k P → Proper j Q → (bytes : List ℕ) → good k bytes ≡ true → good j bytes ≡ true →
    k.number ≡ j.number
one_kind k P j Q p q bytes g h = sym (kind_byte k P p bytes g) ∙ kind_byte j Q q bytes h

-- a good block's body bytes are exact (so its flags are 0 or 1, and its states 0 to 2), its rest is zero, its check words right
pub record Sound {A : Type 0} (k : Kind A) (bytes : List ℕ) : Type 0 where
  pub exact : k.body.exact bytes body_at ≡ true
  pub rest : (i : ℕ) → i < words_end - (body_at + k.body.size) → byte bytes (body_at + k.body.size + i) ≡ 0
  pub first : number4 bytes words_end ≡ first_sum_of bytes
  pub second : number4 bytes (words_end + 4) ≡ second_sum_of bytes

module _ {A : Type 0} (k : Kind A) (P : A → Type 0) (proper : Proper k P) where
  -- (e) good exactly if some record that keeps the rules encodes to it: from good to a record see `good_kept` and `encode-decode`
  pub good_from : (stamp : Stamp) (body : A) → StampFits stamp → P body → kept k stamp body ≡ true → (bytes : List ℕ) → bytes ≡ encode k stamp body → good k bytes ≡ true
  good_from stamp body s p h bytes e = subst (λ (l : List ℕ). good k l ≡ true) (sym e) (encode-good k P proper stamp body s p h)

  pub good_sound : (bytes : List ℕ) → Small bytes → good k bytes ≡ true → Sound k bytes
  unfolding framed
  good_sound bytes small h =
      record {
        exact = and_left (k.body.exact bytes body_at) _ tests;
        rest = zero_at_lem bytes (words_end - (body_at + k.body.size)) (body_at + k.body.size) (and_right (eqb (byte bytes 2) k.number) _ (and_left _ sums frame));
        first = eqb-true _ _ (and_left _ (eqb (number4 bytes (words_end + 4)) (second_sum_of bytes)) (and_right outside _ frame));
        second = eqb-true _ _ (and_right (eqb (number4 bytes words_end) (first_sum_of bytes)) _ (and_right outside _ frame));
      }
    where
      outside : Bool
      outside = eqb (byte bytes 2) k.number && zero_at (words_end - (body_at + k.body.size)) bytes (body_at + k.body.size)

      sums : Bool
      sums = eqb (number4 bytes words_end) (first_sum_of bytes) && eqb (number4 bytes (words_end + 4)) (second_sum_of bytes)

      tests : k.body.exact bytes body_at && (outside && sums) ≡ true
      tests = same_framed k P proper bytes small (good_length k P proper bytes h) (encode-decode k P proper bytes h)

      frame : outside && sums ≡ true
      frame = and_right (k.body.exact bytes body_at) _ tests

-- two answers that a reader's or a writer's contract permits are the same
pub reads_unique : {A : Type 0} {k : Kind A} {bytes : List ℕ} {n m : ℕ} {s t : Stamp} {a b : A} → Reads k bytes n s a → Reads k bytes m t b → (n ≡ m) × ((s ≡ t) × (a ≡ b))
reads_unique p q = (p.refused ∙ sym q.refused, (p.stamped ∙ sym q.stamped, p.bodied ∙ sym q.bodied))

pub writes_unique : {A : Type 0} {k : Kind A} {stamp : Stamp} {body : A} {old after late : List ℕ} {n m : ℕ} → Writes k stamp body old after n → Writes k stamp body old late m →
    (n ≡ m) × (after ≡ late)
writes_unique p q = (p.refused ∙ sym q.refused, p.written ∙ sym q.written)
