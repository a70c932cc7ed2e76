-- Once over the generic kind: the length and the bytes of an encoding, both round trips, and what makes a block good.
use Rattle.std.proofs.Common.{ℕ, ◌+◌, ◌-◌, ◌<◌, arith, zero-add, eqb, length, length-append, ◌≡◌, refl, sym, ap, subst, ◌∙◌, Bool, true, ◌&&◌, List, [], ◌++◌, eqb-true, eq-eqb}
use Rattle.below.proofs.Tests.{all_at, all_true, same_yes, and_true, and_left, and_right}
use Rattle.records.specs.declared.stamp.Stamp.{Stamp}
use Rattle.words.specs.Bytes.{byte, Small, number4, bytes4, zero_at}
use Rattle.words.specs.Sums.{words, word_of, first_sum_of, second_sum_of}
use Rattle.fields.proofs.Cuts.{cut, length_cut, cut_parts, cut_all, cut_byte, cut_middle, ext, front_same, rest_same}
use Rattle.fields.proofs.Lawful.{Lawful, four_lawful, small_join}
use Rattle.blocks.specs.Frame.{block_size, words_end, body_at, framed, checks}
use Rattle.blocks.specs.Kinds.{Kind, content, encode, decode, kept, same, good}
use Rattle.blocks.specs.Proper.{Proper}
use Rattle.blocks.proofs.Framing.{StampFits, content_lawful, first_agrees, second_agrees}
use Rattle.words.proofs.Summed.{first_small, second_small}

-- lists of bytes that pass the test are equal
pub same_is : (a b : List ℕ) → same a b ≡ true → a ≡ b
unfolding same
same_is a b h =
    ext (length a) a b refl (sym (eqb-true _ _ (and_left (eqb (length a) (length b)) _ h)))
    (λ k l. eqb-true _ _ (all_at (length a) (λ j. eqb (byte a j) (byte b j)) (and_right (eqb (length a) (length b)) _ h) k l))

pub is_same : (a b : List ℕ) → a ≡ b → same a b ≡ true
unfolding same
is_same a b e = subst (λ (x : List ℕ). same a x ≡ true) e (and_true (eq-eqb (length a) (length a) refl) (all_true (length a) (λ j. eqb (byte a j) (byte a j)) (λ k l. eq-eqb (byte a k) (byte a k) refl)))

-- a block in its three parts
pub block_parts : (bytes : List ℕ) → length bytes ≡ block_size → bytes ≡ cut words_end bytes 0 ++ (cut 4 bytes words_end ++ cut 4 bytes (words_end + 4))
block_parts bytes h =
    sym (cut_all bytes) ∙ ap (λ (n : ℕ). cut n bytes 0) h ∙ cut_parts words_end 8 bytes 0 ∙ ap (λ (l : List ℕ). cut words_end bytes 0 ++ l) (cut_parts 4 4 bytes words_end)

module _ {A : Type 0} (k : Kind A) (P : A → Type 0) (proper : Proper k P) where
  whole : Lawful (content k) (λ v. StampFits v.0 × P v.1)
  whole = content_lawful k P proper.number_small proper.lawful

  content_size : (content k).size ≡ words_end
  content_size = omega arith

  pub length-content : (v : Stamp × A) → length ((content k).put v) ≡ words_end
  length-content v = whole.long v ∙ content_size

  -- an encoding has length 512
  pub encode-length : (stamp : Stamp) (body : A) → length (encode k stamp body) ≡ block_size
  unfolding encode
  encode-length stamp body = length-append ((content k).put (stamp, body)) _ ∙ ap (λ (n : ℕ). n + 8) (length-content (stamp, body))

  -- and each of it is a byte
  pub encode_small : (stamp : Stamp) (body : A) → StampFits stamp → P body → Small (encode k stamp body)
  unfolding encode
  encode_small stamp body s p =
      small_join ((content k).put (stamp, body)) (checks ((content k).put (stamp, body))) (whole.small (stamp, body) (s, p))
      (small_join (bytes4 (first_sum_of ((content k).put (stamp, body)))) (bytes4 (second_sum_of ((content k).put (stamp, body)))) (four_lawful.small _ (first_small 1 (word_of ((content k).put (stamp, body))) (omega arith) words)) (four_lawful.small _ (second_small 1 (word_of ((content k).put (stamp, body))) words)))

  -- what is written reads back
  pub decode-encode : (stamp : Stamp) (body : A) → StampFits stamp → P body → decode k (encode k stamp body) ≡ (stamp, body)
  unfolding encode
  decode-encode stamp body s p =
      whole.back (stamp, body) (s, p) (encode k stamp body) 0
      (ap (λ (n : ℕ). cut n (encode k stamp body) 0) (sym (whole.long (stamp, body))) ∙ cut_middle [] ((content k).put (stamp, body)) (checks ((content k).put (stamp, body))))

  -- a good block is the one that its record writes
  pub encode-decode : (bytes : List ℕ) → good k bytes ≡ true → bytes ≡ encode k (decode k bytes).0 (decode k bytes).1
  unfolding good
  encode-decode bytes h = same_is _ _ (and_right (kept k (decode k bytes).0 (decode k bytes).1) _ h)

  pub good_kept : (bytes : List ℕ) → good k bytes ≡ true → kept k (decode k bytes).0 (decode k bytes).1 ≡ true
  unfolding good
  good_kept bytes h = and_left _ (same bytes (encode k (decode k bytes).0 (decode k bytes).1)) h

  pub good_length : (bytes : List ℕ) → good k bytes ≡ true → length bytes ≡ block_size
  good_length bytes h = ap length (encode-decode bytes h) ∙ encode-length _ _

  -- what a record that keeps the rules is written as is a good block
  pub encode-good : (stamp : Stamp) (body : A) → StampFits stamp → P body → kept k stamp body ≡ true → good k (encode k stamp body) ≡ true
  unfolding good
  encode-good stamp body s p h =
      subst (λ (v : Stamp × A). kept k v.0 v.1 && same (encode k stamp body) (encode k v.0 v.1) ≡ true) (sym (decode-encode stamp body s p))
      (and_true h (is_same _ _ refl))

  -- a block of bytes is its record's encoding exactly if the body's bytes are exact and the frame is right
  module _ (bytes : List ℕ) (small : Small bytes) (long : length bytes ≡ block_size) where
    -- where the words are the record's, so are their sums
    before : cut words_end bytes 0 ≡ (content k).put (decode k bytes) → (j : ℕ) → j < words_end → byte bytes j ≡ byte ((content k).put (decode k bytes)) j
    before e j l = ap (λ (i : ℕ). byte bytes i) (sym (zero-add j)) ∙ cut_byte words_end bytes 0 ((content k).put (decode k bytes)) e j l

    first_sum_is : cut words_end bytes 0 ≡ (content k).put (decode k bytes) → first_sum_of bytes ≡ first_sum_of ((content k).put (decode k bytes))
    first_sum_is e = first_agrees bytes ((content k).put (decode k bytes)) (before e)

    second_sum_is : cut words_end bytes 0 ≡ (content k).put (decode k bytes) → second_sum_of bytes ≡ second_sum_of ((content k).put (decode k bytes))
    second_sum_is e = second_agrees bytes ((content k).put (decode k bytes)) (before e)

    pub framed_same : k.body.exact bytes body_at && framed k.number (body_at + k.body.size) bytes ≡ true → bytes ≡ encode k (decode k bytes).0 (decode k bytes).1
    unfolding encode framed
    framed_same h = block_parts bytes long ∙ joined is (check words_end (eqb-true _ _ (and_left _ second_right sums) ∙ first_sum_is is)) (check (words_end + 4) (eqb-true _ _ (and_right first_right _ sums) ∙ second_sum_is is))
      where
        first_right : Bool
        first_right = eqb (number4 bytes words_end) (first_sum_of bytes)

        second_right : Bool
        second_right = eqb (number4 bytes (words_end + 4)) (second_sum_of bytes)

        kind_right : Bool
        kind_right = eqb (byte bytes 2) k.number

        rest_right : Bool
        rest_right = zero_at (words_end - (body_at + k.body.size)) bytes (body_at + k.body.size)

        frame : (kind_right && rest_right) && (first_right && second_right) ≡ true
        frame = and_right (k.body.exact bytes body_at) _ h

        sums : first_right && second_right ≡ true
        sums = and_right (kind_right && rest_right) _ frame

        outside : kind_right && rest_right ≡ true
        outside = and_left _ (first_right && second_right) frame

        is : cut words_end bytes 0 ≡ (content k).put (decode k bytes)
        is =
            ap (λ (n : ℕ). cut n bytes 0) (sym content_size) ∙
            whole.exact_cut bytes small 0
            (and_true (and_true (and_left kind_right rest_right outside) refl)
            (and_true (and_left (k.body.exact bytes body_at) ((kind_right && rest_right) && (first_right && second_right)) h) (and_right kind_right rest_right outside)))

        check : (at : ℕ) {x : ℕ} → number4 bytes at ≡ x → cut 4 bytes at ≡ bytes4 x
        check at e = four_lawful.exact_cut bytes small at refl ∙ ap bytes4 e

        joined : {a b c x y z : List ℕ} → a ≡ x → b ≡ y → c ≡ z → a ++ (b ++ c) ≡ x ++ (y ++ z)
        joined p q r = rw (p, q, r)

    pub same_framed : bytes ≡ encode k (decode k bytes).0 (decode k bytes).1 → k.body.exact bytes body_at && framed k.number (body_at + k.body.size) bytes ≡ true
    unfolding encode framed
    same_framed h =
        and_true (and_left (k.body.exact bytes body_at) rest_right inside)
        (and_true (and_true (and_left kind_right true (and_left (kind_right && true) _ exact)) (and_right (k.body.exact bytes body_at) rest_right inside))
        (and_true (eq-eqb _ _ (four_lawful.back (first_sum_of words_is) (first_small 1 (word_of words_is) (omega arith) words) bytes words_end first_cut ∙ sym (first_sum_is is)))
        (eq-eqb _ _ (four_lawful.back (second_sum_of words_is) (second_small 1 (word_of words_is) words) bytes (words_end + 4) second_cut ∙ sym (second_sum_is is)))))
      where
        words_is : List ℕ
        words_is = (content k).put (decode k bytes)

        kind_right : Bool
        kind_right = eqb (byte bytes 2) k.number

        rest_right : Bool
        rest_right = zero_at (words_end - (body_at + k.body.size)) bytes (body_at + k.body.size)

        parts : cut words_end bytes 0 ++ (cut 4 bytes words_end ++ cut 4 bytes (words_end + 4)) ≡ words_is ++ (bytes4 (first_sum_of words_is) ++ bytes4 (second_sum_of words_is))
        parts = sym (block_parts bytes long) ∙ h

        sized : length (cut words_end bytes 0) ≡ length words_is
        sized = length_cut words_end bytes 0 ∙ sym (length-content (decode k bytes))

        is : cut words_end bytes 0 ≡ words_is
        is = front_same (cut words_end bytes 0) (cut 4 bytes words_end ++ cut 4 bytes (words_end + 4)) words_is (bytes4 (first_sum_of words_is) ++ bytes4 (second_sum_of words_is)) sized parts

        both_cut : cut 4 bytes words_end ++ cut 4 bytes (words_end + 4) ≡ bytes4 (first_sum_of words_is) ++ bytes4 (second_sum_of words_is)
        both_cut = rest_same (cut words_end bytes 0) (cut 4 bytes words_end ++ cut 4 bytes (words_end + 4)) words_is (bytes4 (first_sum_of words_is) ++ bytes4 (second_sum_of words_is)) sized parts

        first_cut : cut 4 bytes words_end ≡ bytes4 (first_sum_of words_is)
        first_cut = front_same (cut 4 bytes words_end) (cut 4 bytes (words_end + 4)) (bytes4 (first_sum_of words_is)) (bytes4 (second_sum_of words_is)) (length_cut 4 bytes words_end) both_cut

        second_cut : cut 4 bytes (words_end + 4) ≡ bytes4 (second_sum_of words_is)
        second_cut = rest_same (cut 4 bytes words_end) (cut 4 bytes (words_end + 4)) (bytes4 (first_sum_of words_is)) (bytes4 (second_sum_of words_is)) (length_cut 4 bytes words_end) both_cut

        exact : (kind_right && true) && (k.body.exact bytes body_at && rest_right) ≡ true
        exact = whole.cut_exact bytes small 0 (ap (λ (n : ℕ). cut n bytes 0) content_size ∙ is)

        inside : k.body.exact bytes body_at && rest_right ≡ true
        inside = and_right (kind_right && true) _ exact

    pub good_tested : good k bytes ≡ (k.body.exact bytes body_at && framed k.number (body_at + k.body.size) bytes) && kept k (decode k bytes).0 (decode k bytes).1
    unfolding good
    good_tested =
        same_yes _ _
        (λ h. and_true (same_framed (encode-decode bytes h)) (good_kept bytes h))
        (λ h. and_true (and_right (k.body.exact bytes body_at && framed k.number (body_at + k.body.size) bytes) _ h)
        (is_same _ _ (framed_same (and_left _ (kept k (decode k bytes).0 (decode k bytes).1) h))))
