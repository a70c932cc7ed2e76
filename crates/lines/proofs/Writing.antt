-- Text put at a place: two texts in a row, the digits of a number, and that the room is enough.
use Rattle.std.proofs.Common.{ℕ, zero, suc, ◌+◌, ◌-◌, ◌/◌, ◌%◌, ◌^◌, ◌≤◌, ◌<◌, arith, ltb, length, length-append, le-leb, lt-ltb, le-ltb, ◌≡◌, refl, sym, ap, subst, ◌∙◌, Bool, true, false, cond, List, [], ◌∷◌, ◌++◌}
use Rattle.std.proofs.Math.Nat.{pow-succ'}
use borrow.Rule.Slice.PartMut.{put_mid, Post-is}
use Rattle.pages.specs.declared.line.Mark.{Mark}
use Rattle.pages.specs.declared.line.Mark.TheVariants.{Absent, Nil, Reading as reads}
use Rattle.words.specs.Bytes.{splice}
use Rattle.words.proofs.Splices.{next, length-splice}
use Rattle.lines.specs.Fields.{space, line_feed}
use Rattle.lines.specs.Texts.{decimal_by, decimal, field_text, answer_text, mark_text, page_line_text, answer_room, page_line_room, Put, PutIn}

-- a text written over a part
pub text_put : (at : ℕ) (text old : List ℕ) {new : List ℕ} → at + length text ≤ length old → new ≡ text →
    Put at text old (put_mid at (at + length text - at) old new) (at + length text)
unfolding splice
text_put at text old l e =
    let is : put_mid at (at + length text - at) old _ ≡ splice at text old = rw (Post-is at (at + length text) old (omega arith), e) in
    record { spliced = record { is = is; kept = ap length is ∙ length-splice at text old l }; ends = refl }

-- two texts in a row
pub put_next : {at there end : ℕ} {a b old mid after : List ℕ} → at + length a ≤ length old → Put at a old mid there → Put there b mid after end →
    Put at (a ++ b) old after end
put_next {at} {there} {end} {a} {b} {old} {mid} {after} l p q =
    record {
      spliced = next at a b old mid after there l p.spliced p.ends q.spliced;
      ends = q.ends ∙ omega (arith, p.ends, length-append a b);
    }

-- a number of at most k digits
pub length-decimal_by : (k n : ℕ) → length (decimal_by k n) ≤ k
unfolding decimal_by
length-decimal_by zero n = omega arith
length-decimal_by (suc k) n = go (ltb n 10) (length-decimal_by k (n / 10))
  where
    go : (b : Bool) → length (decimal_by k (n / 10)) ≤ k → length (cond b ((48 + n) ∷ []) (decimal_by k (n / 10) ++ ((48 + n % 10) ∷ []))) ≤ suc k
    go true h = omega arith
    go false h = omega (arith, length-append (decimal_by k (n / 10)) ((48 + n % 10) ∷ []))

-- more digits than it has change nothing
enough : (k n : ℕ) → n < 10 ^ suc k → decimal_by (suc (suc k)) n ≡ decimal_by (suc k) n
unfolding decimal_by
enough zero n l = rw (lt-ltb n 10 l)
enough (suc k) n l = ap (λ (t : List ℕ). cond (ltb n 10) ((48 + n) ∷ []) (t ++ ((48 + n % 10) ∷ []))) (enough k (n / 10) (omega (arith, pow-succ' 10 (suc k))))

pub decimal_small : {n : ℕ} → n < 10 → decimal n ≡ (48 + n) ∷ []
unfolding decimal_by
decimal_small {n} l = rw (lt-ltb n 10 l)

pub decimal_more : {n : ℕ} → 10 ≤ n → n < 10 ^ 10 → decimal n ≡ decimal (n / 10) ++ ((48 + n % 10) ∷ [])
unfolding decimal_by
decimal_more {n} l m = rw (le-ltb n 10 l) (ap (λ (t : List ℕ). t ++ ((48 + n % 10) ∷ [])) (sym (enough 8 (n / 10) (omega arith))))

pub length_small : {n : ℕ} → n < 10 → length (decimal n) ≡ 1
length_small l = ap length (decimal_small l)

pub length_more : {n : ℕ} → 10 ≤ n → n < 10 ^ 10 → length (decimal n) ≡ length (decimal (n / 10)) + 1
length_more {n} l m = ap length (decimal_more l m) ∙ length-append (decimal (n / 10)) ((48 + n % 10) ∷ [])

-- the two ways of writing a number
pub put_small : {at n r : ℕ} {old after : List ℕ} → n < 10 → Put at ((48 + n) ∷ []) old after r → Put at (decimal n) old after r
put_small {at} {n} {r} {old} {after} l p = subst (λ (t : List ℕ). Put at t old after r) (sym (decimal_small l)) p

pub put_more : {at n there end : ℕ} {old mid after : List ℕ} → 10 ≤ n → n < 10 ^ 10 → at + length (decimal n) ≤ length old → Put at (decimal (n / 10)) old mid there →
    Put there ((48 + n % 10) ∷ []) mid after end → Put at (decimal n) old after end
put_more {at} {n} {there} {end} {old} {mid} {after} l m r p q =
    subst (λ (t : List ℕ). Put at t old after end) (sym (decimal_more l m)) (put_next (omega (arith, length_more l m)) p q)

-- the longest of each
pub decimal_short : (n : ℕ) → length (decimal n) ≤ 10
decimal_short n = length-decimal_by 10 n

pub field_short : (n : ℕ) → length (field_text n) ≤ 11
field_short n = omega (arith, length-append (decimal n) (space ∷ []), decimal_short n)

pub mark_short : (m : Mark) → length (mark_text m) ≤ 10
mark_short Absent = omega arith
mark_short Nil = omega arith
mark_short (reads r) = decimal_short r.0

-- a whole line, part by part
pub answer_put : (refusal count : ℕ) {at second end next : ℕ} {old a b after : List ℕ} → at + answer_room ≤ length old → Put at (field_text refusal) old a second →
    Put second (decimal count) a b end → Put end (line_feed ∷ []) b after next → Put at (answer_text refusal count) old after next
unfolding answer_text
answer_put refusal count l p q r =
    let f = field_short refusal in
    let d = decimal_short count in
    put_next (omega (arith, length-append (field_text refusal) (decimal count))) (put_next (omega arith) p q) r

pub page_line_put : (reader rack : ℕ) (mark : Mark) {at second third fourth end next : ℕ} {old a b d e after : List ℕ} → at + page_line_room ≤ length old →
    Put at (76 ∷ (space ∷ [])) old a second → Put second (field_text reader) a b third → Put third (field_text rack) b d fourth → Put fourth (mark_text mark) d e end →
    Put end (line_feed ∷ []) e after next → Put at (page_line_text reader rack mark) old after next
unfolding page_line_text
page_line_put reader rack mark {at} {old = old} l p q r s t =
    let l1 : length first ≤ 13 = omega (arith, field_short reader) in
    let l2 : length (first ++ field_text rack) ≤ 24 = omega (arith, length-append first (field_text rack), field_short rack) in
    let l3 : length (first ++ field_text rack ++ mark_text mark) ≤ 34 = omega (arith, length-append (first ++ field_text rack) (mark_text mark), mark_short mark) in
    put_next (omega arith) (put_next (omega arith) (put_next (omega arith) (put_next (omega arith) p q) r) s) t
  where
    first : List ℕ
    first = (76 ∷ (space ∷ [])) ++ field_text reader

-- a caller that knows of the room
pub put_with_room : {room at next : ℕ} {text old after : List ℕ} → at + room ≤ length old → PutIn room at text old after next → Put at text old after next
put_with_room {room} {at} {next} {text} {old} {after} l p =
    let e = le-leb (at + room) (length old) l in
    record {
      spliced = record { is = p.left ∙ ap (λ (b : Bool). cond b (splice at text old) old) e; kept = p.kept };
      ends = p.ends ∙ ap (λ (b : Bool). cond b (at + length text) at) e;
    }

-- no line is longer than its room
pub answer_short : (refusal count : ℕ) → length (answer_text refusal count) ≤ answer_room
unfolding answer_text
answer_short refusal count =
    simp length-append
    (omega (arith, decimal_short refusal, decimal_short count))

pub page_line_short : (reader rack : ℕ) (mark : Mark) → length (page_line_text reader rack mark) ≤ page_line_room
unfolding page_line_text
page_line_short reader rack mark = simp length-append (omega (arith, decimal_short reader, decimal_short rack, mark_short mark))
