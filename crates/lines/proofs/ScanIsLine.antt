-- The scan finds what the line says: `scan_is_line`, over any split into parts (`feed_parts`).
use Rattle.std.proofs.Common.{ℕ, suc, ◌+◌, ◌*◌, ◌-◌, ◌^◌, ◌≤◌, arith, add-zero, mul_assoc, mul_left_comm, add-mul, le-mul_of_pos_right, add-one, leb, ltb, eqb, length, drop, set, replicate, ltb-true, ltb-false, leb-true, leb-false, eqb-true, eq-eqb, ne_eqb, lt-ltb, ◌≡◌, refl, sym, ap, subst, ◌∙◌, Bool, true, false, not, cond, ◌&&◌, ◌||◌, true≢false, Option, List, [], ◌∷◌, ◌++◌, map, append-nil}
use Rattle.std.proofs.Math.Nat.{pow-succ', pow-le-pow_right}
use Rattle.std.proofs.Math.ListN.{length-map}
use Rattle.std.proofs.Math.Seq.{sets, sets-eq}
use borrow.Author.Tests.{lt-leb}
use Rattle.below.proofs.Tests.{and_left, and_right, and_false_left, and_false_right, or_true_right, same_yes}
use Rattle.lines.specs.declared.scan.Scan.{Scan}
use Rattle.lines.specs.Fields.{space, fields_of_line, largest, every, in_front, fields_of, is_digit, value_of, is_decimal, is_readable, answer_of, numbers_of}
use Rattle.lines.specs.Scans.{start, field_reads, with_digit, spoiled, end_field, feed_of, finish_of, feed_all}

-- a line in two parts
pub feed_parts : (s : Scan) (a b : List ℕ) → feed_all s (a ++ b) ≡ feed_all (feed_all s a) b
unfolding feed_all
feed_parts s [] b = refl
feed_parts s (x ∷ a) b = feed_parts (feed_of s x) a b

-- the open field's value where these bytes follow it
unfoldable whole : ℕ → List ℕ → ℕ
whole v f = v * 10 ^ length f + value_of f

whole_none : (v : ℕ) → whole v [] ≡ v
unfolding whole value_of
whole_none v = omega arith

whole_zero : (f : List ℕ) → whole 0 f ≡ value_of f
unfolding whole
whole_zero f = omega arith

whole_more : (v b : ℕ) (f : List ℕ) → whole v (b ∷ f) ≡ whole (10 * v + (b - 48)) f
unfolding whole value_of
whole_more v b f =
    omega (
      arith,
      ap (λ (x : ℕ). v * x) (pow-succ' 10 (length f)),
      mul_left_comm v 10 (10 ^ length f),
      mul_assoc 10 v (10 ^ length f),
      add-mul (10 * v) (b - 48)
          (10 ^ length f),
    )

whole_grows : (v : ℕ) (f : List ℕ) → v ≤ whole v f
unfolding whole
whole_grows v f = omega (arith, le-mul_of_pos_right v (pow-le-pow_right {n = 10} (omega arith) {i = 0} {j = length f} (omega arith)))

-- a value that is too large stays so
module _ (v d : ℕ) (f : List ℕ) where
  frozen_tests : leb (whole (cond (leb v largest) (10 * v + d) v) f) largest ≡ leb (whole (10 * v + d) f) largest
  frozen_tests = go (leb v largest) refl
    where
      go : (b : Bool) → leb v largest ≡ b → leb (whole (cond b (10 * v + d) v) f) largest ≡ leb (whole (10 * v + d) f) largest
      go true e = refl
      go false e =
          let l = leb-false v largest e in
          lt-leb (whole v f) largest (omega (arith, whole_grows v f)) ∙
          sym (lt-leb (whole (10 * v + d) f) largest (omega (arith, whole_grows (10 * v + d) f)))

  frozen_value : leb (whole (10 * v + d) f) largest ≡ true → whole (cond (leb v largest) (10 * v + d) v) f ≡ whole (10 * v + d) f
  frozen_value h = go (leb v largest) refl
    where
      go : (b : Bool) → leb v largest ≡ b → whole (cond b (10 * v + d) v) f ≡ whole (10 * v + d) f
      go true e = refl
      go false e =
          let l = leb-false v largest e in
          let m = leb-true (whole (10 * v + d) f) largest h in
          absurd (omega (arith, whole_grows (10 * v + d) f))

-- what a scan in the middle of a line makes of the fields that follow, the first of which goes on from the open one
unfoldable ok_from : Scan → List ℕ → List (List ℕ) → Bool
ok_from s f rest =
    ((s.digits || ltb 0 (length f)) && (every is_digit f && leb (whole s.value f) largest)) && (eqb (s.ended + length rest) 6 && every is_decimal rest)

unfoldable from : Scan → List (List ℕ) → Option (List ℕ)
from s [] = answer_of false []
from s (f ∷ rest) = answer_of (ok_from s f rest) (sets s.numbers s.ended (whole s.value f ∷ map value_of rest))

answer_same : (a b : Bool) (x y : List ℕ) → a ≡ b → (b ≡ true → x ≡ y) → answer_of a x ≡ answer_of b y
answer_same a true x y e h = rw (e, h refl)
answer_same a false x y e h = rw e

answer_false : (b : Bool) (x : List ℕ) → b ≡ false → answer_of b x ≡ answer_of false []
answer_false b x e = rw e

-- once spoiled, for ever
bad_stays : (s : Scan) (b : ℕ) → s.bad ≡ true → (feed_of s b).bad ≡ true
unfolding feed_of end_field
bad_stays s b h = go (eqb b space) (is_digit b) (field_reads s && ltb s.ended 6)
  where
    go : (x y z : Bool) →
        (cond x (cond z (record { numbers = sets s.numbers s.ended (s.value ∷ []); ended = s.ended + 1; value = 0; digits = false; bad = s.bad }) (spoiled s))
        (cond y (with_digit s (b - 48)) (spoiled s))).bad ≡ true
    go true y true = h
    go true y false = refl
    go false true z = h
    go false false z = refl

spoilt : (line : List ℕ) (s : Scan) → s.bad ≡ true → finish_of (feed_all s line) ≡ answer_of false []
unfolding feed_all finish_of
spoilt [] s h = answer_false _ _ (and_false_right (eqb s.ended 6 && field_reads s) (ap not h))
spoilt (b ∷ line) s h = spoilt line (feed_of s b) (bad_stays s b h)

-- a digit, a byte that no decimal has, and a space, in front of the fields that follow
module _ (s : Scan) (b : ℕ) (f : List ℕ) (rest : List (List ℕ)) where
  digit_ok : is_digit b ≡ true → ok_from (with_digit s (b - 48)) f rest ≡ ok_from s (b ∷ f) rest
  unfolding ok_from every
  digit_ok h = rw (h, or_true_right s.digits (lt-ltb 0 (suc (length f)) (omega arith)), frozen_tests s.value (b - 48) f, whole_more s.value b f)

  ok_fits : ok_from s (b ∷ f) rest ≡ true → leb (whole (10 * s.value + (b - 48)) f) largest ≡ true
  unfolding ok_from
  ok_fits ok =
      subst (λ (v : ℕ). leb v largest ≡ true) (whole_more s.value b f)
      (and_right (every is_digit (b ∷ f)) _
      (and_right (s.digits || ltb 0 (suc (length f))) _ (and_left _ (eqb (s.ended + length rest) 6 && every is_decimal rest) ok)))

  digit_in_front : is_digit b ≡ true → from (with_digit s (b - 48)) (f ∷ rest) ≡ from s (in_front b (f ∷ rest))
  unfolding from in_front
  digit_in_front h =
      answer_same (ok_from (with_digit s (b - 48)) f rest) (ok_from s (b ∷ f) rest) _ _ (digit_ok h)
      (λ ok. ap (λ (v : ℕ). sets s.numbers s.ended (v ∷ map value_of rest))
      (frozen_value s.value (b - 48) f (ok_fits ok) ∙ sym (whole_more s.value b f)))

  other_in_front : is_digit b ≡ false → from s (in_front b (f ∷ rest)) ≡ answer_of false []
  unfolding from ok_from in_front every
  other_in_front h =
      answer_false (ok_from s (b ∷ f) rest) _ (and_false_left _ (and_false_right (s.digits || ltb 0 (suc (length f))) (rw h)))

-- the scan after a space that ends a field
abbrev next : Scan → Scan
next s = record { numbers = set s.numbers s.ended s.value; ended = s.ended + 1; value = 0; digits = false; bad = s.bad }

and_swap : (a b c : Bool) → a && (b && c) ≡ b && (a && c)
and_swap true b c = refl
and_swap false true c = refl
and_swap false false c = refl

module _ (s : Scan) (f : List ℕ) (rest : List (List ℕ)) where
  space_ok : field_reads s ≡ true → ok_from (next s) f rest ≡ ok_from s [] (f ∷ rest)
  unfolding ok_from every
  space_ok h =
      let shift : s.ended + 1 + length rest ≡ s.ended + suc (length rest) = omega arith in
      rw (whole_zero f, whole_none s.value, and_left s.digits _ h, and_right s.digits (leb s.value largest) h)
      (and_swap (is_decimal f) (eqb (s.ended + 1 + length rest) 6) (every is_decimal rest) ∙ ap (λ (n : ℕ). eqb n 6 && (is_decimal f && every is_decimal rest)) shift)

  space_in_front : field_reads s ≡ true → from (next s) (f ∷ rest) ≡ from s ([] ∷ (f ∷ rest))
  unfolding from
  space_in_front h =
      answer_same (ok_from (next s) f rest) (ok_from s [] (f ∷ rest)) _ _ (space_ok h) (λ ok. rw (whole_zero f, whole_none s.value, add-one s.ended))

  -- a field that doesn't read, or one too many
  space_too_many : s.ended ≤ 6 → field_reads s && ltb s.ended 6 ≡ false → from s ([] ∷ (f ∷ rest)) ≡ answer_of false []
  unfolding from ok_from every
  space_too_many l h = answer_false (ok_from s [] (f ∷ rest)) _ (rw whole_none (go s.digits (leb s.value largest) (ltb s.ended 6) refl h))
    where
      go : (d v e : Bool) → ltb s.ended 6 ≡ e → (d && v) && e ≡ false →
          ((d || false) && (true && v)) && (eqb (s.ended + suc (length rest)) 6 && every is_decimal (f ∷ rest)) ≡ false
      go true true true p q = absurd (true≢false q)
      go true true false p q = let b = ltb-false s.ended 6 p in rw (ne_eqb (s.ended + suc (length rest)) 6 (λ x. omega arith))
      go true false e p q = refl
      go false v e p q = refl

-- the line's last field
last_field : (s : Scan) → s.bad ≡ false → finish_of s ≡ from s ([] ∷ [])
unfolding finish_of from ok_from every
last_field s h = answer_same _ (ok_from s [] []) _ _ tests (λ ok. rw (whole_none s.value, at ok))
  where
    shuffle : (e d v : Bool) → (e && (d && v)) && true ≡ ((d || false) && (true && v)) && (e && true)
    shuffle true true true = refl
    shuffle true true false = refl
    shuffle true false v = refl
    shuffle false true true = refl
    shuffle false true false = refl
    shuffle false false v = refl

    tests : eqb s.ended 6 && field_reads s && not s.bad ≡ ok_from s [] []
    tests = rw (h, whole_none s.value, add-zero s.ended) (shuffle (eqb s.ended 6) s.digits (leb s.value largest))

    at : ok_from s [] [] ≡ true → s.ended ≡ 6
    at ok =
        eqb-true _ _
        (and_left (eqb s.ended 6) (field_reads s) (and_left _ (not s.bad) (tests ∙ ok)))

-- there is always a first field
fields_some : (line : List ℕ) → (f : List ℕ) × (rest : List (List ℕ)) × (fields_of line ≡ f ∷ rest)
unfolding fields_of in_front
fields_some [] = ([], [], refl)
fields_some (b ∷ line) = go (eqb b space) (fields_of line)
  where
    go : (x : Bool) (fields : List (List ℕ)) → (f : List ℕ) × (rest : List (List ℕ)) × (cond x ([] ∷ fields) (in_front b fields) ≡ f ∷ rest)
    go true fields = ([], fields, refl)
    go false [] = (b ∷ [], [], refl)
    go false (f ∷ rest) = (b ∷ f, rest, refl)

-- a byte more in front of a line whose rest is judged right
module _ (s : Scan) (good : s.bad ≡ false) (l : s.ended ≤ 6) (b : ℕ) (line f : List ℕ) (rest : List (List ℕ))
    (judged : (t : Scan) → t.bad ≡ false → t.ended ≤ 6 → finish_of (feed_all t line) ≡ from t (f ∷ rest)) where
  after : {t : Scan} → feed_of s b ≡ t → finish_of (feed_all (feed_of s b) line) ≡ finish_of (feed_all t line)
  after e = ap (λ (t : Scan). finish_of (feed_all t line)) e

  at_space : eqb b space ≡ true → finish_of (feed_all (feed_of s b) line) ≡ from s ([] ∷ (f ∷ rest))
  unfolding feed_of end_field
  at_space p = go (field_reads s && ltb s.ended 6) refl
    where
      go : (r : Bool) → field_reads s && ltb s.ended 6 ≡ r → finish_of (feed_all (feed_of s b) line) ≡ from s ([] ∷ (f ∷ rest))
      go true r =
          after (rw (p, r)) ∙ judged (next s) good (omega (arith, ltb-true s.ended 6 (and_right (field_reads s) _ r))) ∙
          space_in_front s f rest (and_left (field_reads s) _ r)
      go false r = after (rw (p, r)) ∙ spoilt line (spoiled s) refl ∙ sym (space_too_many s f rest l r)

  at_byte : eqb b space ≡ false → finish_of (feed_all (feed_of s b) line) ≡ from s (in_front b (f ∷ rest))
  unfolding feed_of
  at_byte p = go (is_digit b) refl
    where
      go : (d : Bool) → is_digit b ≡ d → finish_of (feed_all (feed_of s b) line) ≡ from s (in_front b (f ∷ rest))
      go true d = after (rw (p, d)) ∙ judged (with_digit s (b - 48)) good l ∙ digit_in_front s b f rest d
      go false d = after (rw (p, d)) ∙ spoilt line (spoiled s) refl ∙ sym (other_in_front s b f rest d)

scanned : (line : List ℕ) (s : Scan) → s.bad ≡ false → s.ended ≤ 6 → finish_of (feed_all s line) ≡ from s (fields_of line)
unfolding feed_all fields_of
scanned [] s good l = last_field s good
scanned (b ∷ line) s good l = go (fields_some line).0 (fields_some line).1 (fields_some line).2 (scanned line) (eqb b space) refl
  where
    go : (f : List ℕ) (rest : List (List ℕ)) → fields_of line ≡ f ∷ rest →
        ((t : Scan) → t.bad ≡ false → t.ended ≤ 6 → finish_of (feed_all t line) ≡ from t (fields_of line)) → (x : Bool) → eqb b space ≡ x →
        finish_of (feed_all (feed_of s b) line) ≡ from s (cond x ([] ∷ fields_of line) (in_front b (fields_of line)))
    go f rest are ih true p =
        at_space s good l b line f rest (λ t g m. ih t g m ∙ ap (from t) are) p ∙ ap (λ (fields : List (List ℕ)). from s ([] ∷ fields)) (sym are)
    go f rest are ih false p =
        at_byte s good l b line f rest (λ t g m. ih t g m ∙ ap (from t) are) p ∙ ap (λ (fields : List (List ℕ)). from s (in_front b fields)) (sym are)

-- from the start, the fields that follow are the line's
whole_line : (fields : List (List ℕ)) → from start fields ≡ answer_of (is_readable fields) (map value_of fields)
unfolding from ok_from every
whole_line [] = refl
whole_line (f ∷ rest) = answer_same (ok_from start f rest) (is_readable (f ∷ rest)) _ _ tests (λ ok. rw (whole_zero f) (filled ok))
  where
    six : eqb (0 + length rest) 6 ≡ eqb (suc (length rest)) 7
    six =
        same_yes _ _ (λ h. eq-eqb (suc (length rest)) 7 (omega (arith, eqb-true (0 + length rest) 6 h)))
        (λ h. eq-eqb (0 + length rest) 6 (omega (arith, eqb-true (suc (length rest)) 7 h)))

    tests : ok_from start f rest ≡ is_readable (f ∷ rest)
    tests =
        rw (whole_zero f)
        (and_swap (is_decimal f) (eqb (0 + length rest) 6) (every is_decimal rest) ∙ ap (λ (x : Bool). x && (is_decimal f && every is_decimal rest)) six)

    filled : is_readable (f ∷ rest) ≡ true → sets (replicate fields_of_line 0) 0 (value_of f ∷ map value_of rest) ≡ value_of f ∷ map value_of rest
    filled ok =
        let l : length rest ≡ 6 = omega (arith, eqb-true (length (f ∷ rest)) fields_of_line (and_left _ (every is_decimal (f ∷ rest)) ok)) in
        let m : length (map value_of (f ∷ rest)) ≡ 7 = omega (arith, length-map rest value_of) in
        sets-eq (map value_of (f ∷ rest)) (replicate fields_of_line 0) 0 (omega arith) ∙
        ap (λ (n : ℕ). map value_of (f ∷ rest) ++ drop (0 + n) (replicate fields_of_line 0)) m ∙ append-nil (map value_of (f ∷ rest))

pub scan_is_line : (line : List ℕ) → finish_of (feed_all start line) ≡ numbers_of line
unfolding numbers_of
scan_is_line line = scanned line start refl (omega arith) ∙ whole_line (fields_of line)
