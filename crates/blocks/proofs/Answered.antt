-- What the reader of any kind answers, from what its calls answered, one law for each way through it; and what is put.
use Rattle.std.proofs.Common.{ℕ, ◌+◌, ◌-◌, ◌≤◌, ◌<◌, arith, length, length-append, ◌≡◌, refl, sym, ap, subst, ◌∙◌, Bool, true, false, cond, ◌&&◌, List, [], ◌++◌, eq-eqb, ne_eqb, zero-add}
use Rattle.below.proofs.Tests.{not_true_false, and_true, and_false_right}
use Rattle.records.specs.declared.stamp.Stamp.{Stamp}
use Rattle.records.specs.Rules.{stamp_rules}
use Rattle.words.specs.Bytes.{byte, Small, bytes4, zeros, splice, Spliced}
use Rattle.words.proofs.Splices.{next, splice_next, splice_whole, splice_at}
use Rattle.fields.specs.Codecs.{Got}
use Rattle.blocks.specs.Frame.{block_size, words_end, body_at, stamp_as, framed, checks, sealed, Sealed}
use Rattle.blocks.specs.Kinds.{Kind, content, encode, decode, kept, good}
use Rattle.blocks.specs.Answers.{answer, Reads}
use Rattle.blocks.proofs.Framing.{first_agrees, second_agrees}
use Rattle.blocks.specs.Proper.{Proper}
use Rattle.blocks.proofs.Judged.{length-content, good_length, good_tested}

module _ {A : Type 0} (k : Kind A) (P : A → Type 0) (proper : Proper k P) (bytes : List ℕ) where
  -- a block that is refused
  refusing : good k bytes ≡ false → {n : ℕ} → n ≡ answer bytes false → Reads k bytes n (decode k []).0 (decode k []).1
  refusing g e =
      record {
        refused = e ∙ ap (answer bytes) (sym g);
        stamped = ap (λ (b : Bool). (decode k (cond b bytes [])).0) (sym g);
        bodied = ap (λ (b : Bool). (decode k (cond b bytes [])).1) (sym g);
      }

  pub read_short : (length bytes ≡ block_size → ⊥) → Reads k bytes 1 (decode k []).0 (decode k []).1
  read_short h =
      refusing (not_true_false (good k bytes) (λ g. h (good_length k P proper bytes g))) (ap (λ (b : Bool). cond b 2 1) (sym (ne_eqb (length bytes) block_size h)))

  module _ (small : Small bytes) (long : length bytes ≡ block_size) where
    bad : 2 ≡ answer bytes false
    bad = ap (λ (b : Bool). cond b 2 1) (sym (eq-eqb (length bytes) block_size long))

    -- a block of another kind
    pub read_other : (byte bytes 2 ≡ k.number → ⊥) → Reads k bytes 2 (decode k []).0 (decode k []).1
    unfolding framed
    read_other h = refusing other bad
      where
        unframed : framed k.number (body_at + k.body.size) bytes ≡ false
        unframed = rw (ne_eqb (byte bytes 2) k.number h) refl

        other : good k bytes ≡ false
        other =
            good_tested k P proper bytes small long ∙ ap (λ (t : Bool). (k.body.exact bytes body_at && t) && kept k (decode k bytes).0 (decode k bytes).1) unframed ∙
            ap (λ (t : Bool). t && kept k (decode k bytes).0 (decode k bytes).1) (and_false_right (k.body.exact bytes body_at) refl)

    module _ {stamp : Stamp} {body : A} (stamped : stamp ≡ (stamp_as 0).get bytes 0) {e : Bool} (got : Got k.body bytes body_at body e) {a b : Bool}
        (ruled : a ≡ stamp_rules stamp (k.agents stamp.setup)) (kept_so : b ≡ k.rules stamp.setup stamp.agent body) where
      -- the tests of the reader's code, in its order: the frame last, whose sums take longest
      judged : (e && (a && b)) && framed k.number (body_at + k.body.size) bytes ≡ good k bytes
      judged =
          ap (λ (t : Bool). t && framed k.number (body_at + k.body.size) bytes) (join got.tested (join ruled kept_so ∙ rules_of stamped got.is)) ∙
          turn (k.body.exact bytes body_at) _ _ ∙ sym (good_tested k P proper bytes small long)
        where
          join : {x y x' y' : Bool} → x ≡ x' → y ≡ y' → x && y ≡ x' && y'
          join w z = rw (w, z)

          turn : (x y z : Bool) → (x && y) && z ≡ (x && z) && y
          turn true true z = go z
            where
              go : (z : Bool) → z ≡ z && true
              go true = refl
              go false = refl
          turn true false z = go z
            where
              go : (z : Bool) → false ≡ z && false
              go true = refl
              go false = refl
          turn false y z = refl

          rules_of : {w : Stamp} {z : A} → stamp ≡ w → body ≡ z → kept k stamp body ≡ kept k w z
          rules_of w z = λ i. kept k (w i) (z i)

      pub read_good : e && (a && b) ≡ true → framed k.number (body_at + k.body.size) bytes ≡ true → Reads k bytes 0 stamp body
      read_good r f =
          record {
            refused = ap (λ (b : Bool). cond b (cond true 0 2) 1) (sym (eq-eqb (length bytes) block_size long)) ∙ ap (answer bytes) is;
            stamped = stamped ∙ ap (λ (b : Bool). (decode k (cond b bytes [])).0) is;
            bodied = got.is ∙ ap (λ (b : Bool). (decode k (cond b bytes [])).1) is;
          }
        where
          is : true ≡ good k bytes
          is = sym (and_true r f) ∙ judged

      pub read_bad : e && (a && b) ≡ false → Reads k bytes 2 (decode k []).0 (decode k []).1
      read_bad r = refusing (sym judged ∙ ap (λ (t : Bool). t && framed k.number (body_at + k.body.size) bytes) r) bad

      pub read_unframed : framed k.number (body_at + k.body.size) bytes ≡ false → Reads k bytes 2 (decode k []).0 (decode k []).1
      read_unframed f = refusing (sym judged ∙ and_false_right (e && (a && b)) f) bad

-- What is put.
seal_words : (words old : List ℕ) → length words ≡ words_end → length old ≡ block_size →
    splice words_end (checks (splice 0 words old)) (splice 0 words old) ≡ words ++ checks words
seal_words words old h l =
    ap (λ (c : List ℕ). splice words_end c (splice 0 words old)) checked ∙ ap (λ (n : ℕ). splice n (checks words) (splice 0 words old)) (sym h ∙ sym (zero-add (length words))) ∙
    splice_next 0 words (checks words) old (omega (arith, h, l)) ∙ splice_whole (words ++ checks words) old (length-append words (checks words) ∙ ap (λ (n : ℕ). n + 8) h ∙ sym l)
  where
    agree : (j : ℕ) → j < words_end → byte (splice 0 words old) j ≡ byte words j
    agree j b = ap (λ (i : ℕ). byte (splice 0 words old) i) (sym (zero-add j)) ∙ splice_at 0 words old j 0 (omega arith) (subst (λ (n : ℕ). j < n) (sym h) b)

    checked : checks (splice 0 words old) ≡ checks words
    checked = λ i. bytes4 (first_agrees (splice 0 words old) words agree i) ++ bytes4 (second_agrees (splice 0 words old) words agree i)

module _ {A : Type 0} (k : Kind A) (P : A → Type 0) (proper : Proper k P) (stamp : Stamp) (body : A) where
  -- what is put is the record's block
  pub put_good : {old one two after : List ℕ} → length old ≡ block_size → Spliced 0 ((stamp_as k.number).put stamp) old one → Spliced body_at (k.body.put body) one two →
      Sealed (body_at + k.body.size) two after → after ≡ encode k stamp body
  unfolding encode sealed
  put_good {old} {one} {two} {after} l p q s =
      s.is ∙ ap (λ (m : List ℕ). splice words_end (checks m) m) middle ∙ seal_words ((content k).put (stamp, body)) old (length-content k P proper (stamp, body)) l
    where
      -- stamp, body and zeros are the words
      front : Spliced 0 ((stamp_as k.number).put stamp ++ k.body.put body) old two
      front = next 0 ((stamp_as k.number).put stamp) (k.body.put body) old one two body_at (omega (arith, l)) p refl q

      sized : 0 + length ((stamp_as k.number).put stamp ++ k.body.put body) ≡ body_at + k.body.size
      sized = omega (arith, proper.lawful.long body)

      middle : splice (body_at + k.body.size) (zeros (words_end - (body_at + k.body.size))) two ≡ splice 0 ((content k).put (stamp, body)) old
      middle =
          ap (λ (m : List ℕ). splice (body_at + k.body.size) (zeros (words_end - (body_at + k.body.size))) m) front.is ∙
          ap (λ (n : ℕ). splice n (zeros (words_end - (body_at + k.body.size))) (splice 0 ((stamp_as k.number).put stamp ++ k.body.put body) old)) (sym sized) ∙
          splice_next 0 ((stamp_as k.number).put stamp ++ k.body.put body) (zeros (words_end - (body_at + k.body.size))) old (omega (arith, sized, proper.room, l))

-- two writes in a row, of which the first has a size that its law says
pub behind : {at there : ℕ} {a b old mid after : List ℕ} (size : ℕ) → length a ≡ size → at + size ≤ length old → Spliced at a old mid → there ≡ at + size →
    Spliced there b mid after → Spliced at (a ++ b) old after
behind {at} {there} {a} {b} {old} {mid} {after} size l h p e q =
    next at a b old mid after there (subst (λ (n : ℕ). at + n ≤ length old) (sym l) h) p (e ∙ ap (λ (n : ℕ). at + n) (sym l)) q
