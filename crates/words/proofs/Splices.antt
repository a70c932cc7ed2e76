-- Laws of `splice`.
use Rattle.std.proofs.Common.{add-zero, ◌≡◌, ℕ, ◌+◌, ◌/◌, ◌%◌, ◌^◌, refl, ◌<◌, ◌≤◌, List, [], ◌∷◌, ◌++◌, length, get_or, take, drop, set, sym, ap, ◌∙◌, subst, append_assoc, append-nil, add_assoc, add-one, arith, length-append, length-drop, length-set, take-append-drop, drop_of_length-le, length-take-le, get_or-drop, get_or-take, drop-drop, take_at, get_or-append-add}
use Rattle.std.proofs.Math.ListN.{get_or-append}
use Rattle.std.proofs.Math.Seq.{set_split, drop-append-add}
use Rattle.std.specs.Int.{w16, w32, to_le_bytes}
use Rattle.words.specs.Bytes.{splice, Spliced, bytes2, bytes4}

-- a splice that fits keeps the length
pub length-splice : (at : ℕ) (new old : List ℕ) → at + length new ≤ length old → length (splice at new old) ≡ length old
unfolding splice
length-splice at new old h = simp (length-append, length-drop, length-take-le at old (omega arith)) (omega arith)

-- one byte stored
pub stored : (at x : ℕ) (old : List ℕ) → at + 1 ≤ length old → Spliced at (x ∷ []) old (set old at x)
unfolding splice
stored at x old h = record { is = set_split old at x (omega arith) ∙ ap (λ (n : ℕ). take at old ++ (x ∷ drop n old)) (sym (add-one at)); kept = length-set old at x }

-- a part of n bytes, and one written as a whole
pub length-part : (at n : ℕ) {k : ℕ} (old : List ℕ) → k ≡ n → at + n ≤ length old → length (take k (drop at old)) ≡ n
length-part at n {k} old e h = length-take-le k (drop at old) (simp length-drop (omega arith)) ∙ e

pub placed : (at n : ℕ) {k : ℕ} {new part old : List ℕ} → part ≡ new → length new ≡ n → k ≡ n → at + n ≤ length old →
    Spliced at new old (take at old ++ (part ++ drop k (drop at old)))
unfolding splice
placed at n {k} {new} {part} {old} p q r h = record { is = same; kept = ap length same ∙ length-splice at new old (omega (arith, q)) }
  where
    same : take at old ++ (part ++ drop k (drop at old)) ≡ take at old ++ (new ++ drop (at + length new) old)
    same = rw p (ap (λ (l : List ℕ). take at old ++ (new ++ l)) (drop-drop k at old ∙ ap (λ (m : ℕ). drop (at + m) old) (r ∙ sym q)))

-- the bytes of a number, as the library has them
pub two_bytes : (x : ℕ) → x < 2 ^ 16 → to_le_bytes w16 x ≡ bytes2 x
two_bytes x h = λ i. (x % 256) ∷ (high i ∷ [])
  where
    high : x / 256 % 256 ≡ x / 256
    high = omega arith

pub four_bytes : (x : ℕ) → x < 2 ^ 32 → to_le_bytes w32 x ≡ bytes4 x
four_bytes x h = λ i. b0 i ∷ (b1 i ∷ (b2 i ∷ (b3 i ∷ [])))
  where
    b0 : x % 256 ≡ x % 65536 % 256
    b0 = omega arith

    b1 : x / 256 % 256 ≡ x % 65536 / 256
    b1 = omega arith

    b2 : x / 65536 % 256 ≡ x / 65536 % 256
    b2 = refl

    b3 : x / 16777216 % 256 ≡ x / 65536 / 256
    b3 = omega arith

-- nothing written
pub splice_none : (at : ℕ) (old : List ℕ) → splice at [] old ≡ old
unfolding splice
splice_none at old = rw add-zero (take-append-drop at old)

-- two neighbours are one
pub splice_next : (at : ℕ) (a b old : List ℕ) → at + length a ≤ length old → splice (at + length a) b (splice at a old) ≡ splice at (a ++ b) old
unfolding splice
splice_next at a b old h =
    ap₂_append
    (ap (λ (l : List ℕ). take (at + length a) l) (sym (append_assoc (take at old) a (drop (at + length a) old))) ∙
    take_at (take at old ++ a) (drop (at + length a) old) (at + length a) (front))
    (ap (λ (l : List ℕ). b ++ drop ((at + length a) + length b) l) (sym (append_assoc (take at old) a (drop (at + length a) old))) ∙ ap (λ (l : List ℕ). b ++ l) tail) ∙
    simp append_assoc
  where
    front : length (take at old ++ a) ≡ at + length a
    front = simp (length-append, length-take-le at old (omega arith))

    ap₂_append : {x y z w : List ℕ} → x ≡ y → z ≡ w → x ++ z ≡ y ++ w
    ap₂_append p q = rw (p, q)

    ends : (at + length a) + length b ≡ at + length (a ++ b)
    ends = simp length-append (add_assoc at (length a) (length b))

    tail : drop ((at + length a) + length b) ((take at old ++ a) ++ drop (at + length a) old) ≡ drop (at + length (a ++ b)) old
    tail =
        ap (λ (n : ℕ). drop (n + length b) ((take at old ++ a) ++ drop (at + length a) old)) (sym front) ∙
        drop-append-add (take at old ++ a) (drop (at + length a) old) (length b) ∙ drop-drop (length b) (at + length a) old ∙
        ap (λ (n : ℕ). drop n old) ends

-- all written anew
pub splice_whole : (new old : List ℕ) → length new ≡ length old → splice 0 new old ≡ new
unfolding splice
splice_whole new old h = ap (λ (l : List ℕ). new ++ l) (drop_of_length-le old {i = 0 + length new} (omega (arith, h))) ∙ append-nil new

-- the written bytes, and those before and after them
pub splice_at : (at : ℕ) (new old : List ℕ) (k d : ℕ) → at ≤ length old → k < length new → get_or (splice at new old) (at + k) d ≡ get_or new k d
unfolding splice
splice_at at new old k d h l =
    ap (λ (n : ℕ). get_or (take at old ++ (new ++ drop (at + length new) old)) (n + k) d) (sym (length-take-le at old h)) ∙
    get_or-append-add (take at old) (new ++ drop (at + length new) old) k d ∙ get_or-append new (drop (at + length new) old) d k l

pub splice_before : (at : ℕ) (new old : List ℕ) (k d : ℕ) → at ≤ length old → k < at → get_or (splice at new old) k d ≡ get_or old k d
unfolding splice
splice_before at new old k d h l =
    get_or-append (take at old) (new ++ drop (at + length new) old) d k (subst (λ (n : ℕ). k < n) (sym (length-take-le at old h)) l) ∙ get_or-take at old k d l

pub splice_after : (at : ℕ) (new old : List ℕ) (k d : ℕ) → at ≤ length old → get_or (splice at new old) ((at + length new) + k) d ≡ get_or old ((at + length new) + k) d
unfolding splice
splice_after at new old k d h =
    ap (λ (n : ℕ). get_or (take at old ++ (new ++ drop (at + length new) old)) n d) (add_assoc at (length new) k ∙ ap (λ (n : ℕ). n + (length new + k)) (sym (length-take-le at old h))) ∙
    get_or-append-add (take at old) (new ++ drop (at + length new) old) (length new + k) d ∙ get_or-append-add new (drop (at + length new) old) k d ∙
    get_or-drop (at + length new) old k d

-- two writes in a row to neighbouring places, of which the first is known to fit
pub next : (at : ℕ) (a b old mid after : List ℕ) (there : ℕ) → at + length a ≤ length old → Spliced at a old mid → there ≡ at + length a → Spliced there b mid after →
    Spliced at (a ++ b) old after
next at a b old mid after there h p e q =
    record {
      is = q.is ∙ ap (λ (n : ℕ). splice n b mid) e ∙ ap (λ (l : List ℕ). splice (at + length a) b l) p.is ∙ splice_next at a b old h;
      kept = q.kept ∙ p.kept;
    }

-- the same bytes, said otherwise
pub same_put : {at : ℕ} {a b old after : List ℕ} → a ≡ b → Spliced at a old after → Spliced at b old after
same_put {at} {a} {b} {old} {after} e p = subst (λ (l : List ℕ). Spliced at l old after) e p
