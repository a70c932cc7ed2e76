-- Laws of the kind of a block.
use Rattle.std.proofs.Common.{ℕ, eqb, length, ◌≡◌, refl, sym, ap, ◌∙◌, Bool, true, false, cond, ◌&&◌, List, Option, None, Some, eqb-true, eq-eqb}
use Rattle.below.specs.declared.refusals.Refusal.{Refusal}
use Rattle.below.specs.Refusals.{number as refusal}
use Rattle.below.proofs.Refused.{number_some}
use Rattle.words.specs.Bytes.{byte}
use Rattle.blocks.specs.declared.kind.Kind.{Kind}
use Rattle.blocks.specs.declared.kind.Kind.TheVariants.{Propose, OneA, OneB, TwoS, TwoA, TwoB, Head, Coordinator, Box, Rack, Reader}
use Rattle.blocks.specs.Frame.{block_size}
use Rattle.blocks.specs.Kinds.{Kind as KindOf, good}
use Rattle.blocks.specs.Numbers.{number, named}
use Rattle.blocks.specs.Answers.{answer}
use Rattle.blocks.specs.Proper.{Proper}
use Rattle.blocks.proofs.Judged.{good_length}
use Rattle.kinds.specs.Known.{good_as, known, Told}

-- a refused reader's block is not good, so no number is told with it
pub number_refused : {A : Type 0} (k : KindOf A) (P : A → Type 0) → Proper k P → (bytes : List ℕ) (n : ℕ) (e : Refusal) → refusal e ≡ answer bytes (good k bytes) →
    ◌≡◌ {A = ℕ} 0 (cond (good k bytes) n 0)
number_refused k P proper bytes n e h = go (good k bytes) refl
  where
    go : (g : Bool) → good k bytes ≡ g → ◌≡◌ {A = ℕ} 0 (cond g n 0)
    go true p =
        absurd (number_some e (h ∙ ap (answer bytes) p ∙ ap (λ (b : Bool). cond b 0 1) (eq-eqb (length bytes) block_size (good_length k P proper bytes p))))
    go false p = refl

-- the one number that each name has
one_more : (n m : ℕ) (k j : Kind) (rest : Option Kind) → number j ≡ m → (rest ≡ Some k → n ≡ number k) → cond (eqb n m) (Some j) rest ≡ Some k → n ≡ number k
one_more n m k j rest s later h = go (eqb n m) refl h
  where
    go : (b : Bool) → eqb n m ≡ b → cond b (Some j) rest ≡ Some k → n ≡ number k
    go true p e = (let same : j ≡ k = cc in eqb-true n m p ∙ sym s ∙ ap number same)
    go false p e = later e

pub number_named : (n : ℕ) (k : Kind) → named n ≡ Some k → n ≡ number k
number_named n k =
    one_more n 1 k Propose _ refl
    (one_more n 2 k OneA _ refl
    (one_more n 3 k OneB _ refl
    (one_more n 4 k TwoS _ refl
    (one_more n 5 k TwoA _ refl
    (one_more n 6 k TwoB _ refl
    (one_more n 16 k Head _ refl
    (one_more n 17 k Coordinator _ refl
    (one_more n 18 k Box _ refl
    (one_more n 19 k Rack _ refl
    (one_more n 20 k Reader _ refl (λ e. cc)))))))))))

named_number : (k : Kind) → named (number k) ≡ Some k
named_number Propose = refl
named_number OneA = refl
named_number OneB = refl
named_number TwoS = refl
named_number TwoA = refl
named_number TwoB = refl
named_number Head = refl
named_number Coordinator = refl
named_number Box = refl
named_number Rack = refl
named_number Reader = refl

pub number_one : (k j : Kind) → number k ≡ number j → k ≡ j
number_one k j e = (let same : Some k ≡ Some j = sym (named_number k) ∙ ap named e ∙ named_number j in cc)

none_more : (n m : ℕ) (j : Kind) (rest : Option Kind) (g later : Bool) → (rest ≡ None → later ≡ false) → cond (eqb n m) (Some j) rest ≡ None → cond (eqb n m) g later ≡ false
none_more n m j rest g later h e = go (eqb n m) e
  where
    go : (b : Bool) → cond b (Some j) rest ≡ None → cond b g later ≡ false
    go true p = cc
    go false p = h p

pub no_kind : (bytes : List ℕ) (n : ℕ) → named n ≡ None → good_as n bytes ≡ false
unfolding good_as
no_kind bytes n =
    none_more n 1 Propose _ _ _
    (none_more n 2 OneA _ _ _
    (none_more n 3 OneB _ _ _
    (none_more n 4 TwoS _ _ _
    (none_more n 5 TwoA _ _ _
    (none_more n 6 TwoB _ _ _
    (none_more n 16 Head _ _ _
    (none_more n 17 Coordinator _ _ _
    (none_more n 18 Box _ _ _
    (none_more n 19 Rack _ _ _
    (none_more n 20 Reader _ _ _ (λ e. refl)))))))))))

module _ (bytes : List ℕ) where
  -- where the kind byte is a kind's number, what the reader of that kind answers
  pub told : {n r m : ℕ} {g : Bool} → length bytes ≡ block_size → byte bytes 2 ≡ n → good_as n bytes ≡ g → r ≡ answer bytes g → m ≡ cond g n 0 → Told bytes r m
  told {n} {r} {m} {g} long e f p q =
      record {
        refused = p ∙ ap (answer bytes) (sym is);
        named = q ∙ both is (eq-eqb (length bytes) block_size long) e;
      }
    where
      is : known bytes ≡ g
      is = ap (λ (x : ℕ). good_as x bytes) e ∙ f

      both : {a b : Bool} {x : ℕ} → b ≡ g → a ≡ true → x ≡ n → cond g n 0 ≡ cond (a && b) x 0
      both u v w = rw (u, v, w)
