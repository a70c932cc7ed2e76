-- The parts of a block around its body are lawful, and so are its words as a whole.
use Rattle.std.proofs.Common.{ℕ, ◌+◌, ◌-◌, ◌*◌, ◌/◌, ◌%◌, ◌≤◌, ◌<◌, arith, eqb, length, ◌≡◌, refl, sym, ap, subst, ◌∙◌, Bool, false, ◌&&◌, List, [], ◌∷◌, ◌++◌, eqb-true, eq-eqb, ne_eqb}
use Rattle.std.proofs.Math.Decide.{dec_lt}
use Rattle.std.proofs.Math.ListN.{length-replicate, get_or-replicate, get_or-eq_default}
use Rattle.records.specs.declared.stamp.Stamp.{Stamp}
use Rattle.words.specs.Bytes.{byte, number4, bytes4, zeros, zero_at, splice, Spliced}
use Rattle.words.specs.Sums.{words, word_of, first_sum_of, second_sum_of}
use Rattle.words.proofs.Zeroes.{zero_at_lem, zero_true, zero_parts}
use Rattle.words.proofs.Splices.{next}
use Rattle.words.proofs.Summed.{first_same, second_same}
use Rattle.fields.specs.Codecs.{Codec, one_byte, two_bytes, both}
use Rattle.fields.proofs.Cuts.{cut, length_cut, cut_at, cut_byte, ext}
use Rattle.fields.proofs.Lawful.{Lawful, one_lawful, two_lawful, both_lawful, like_lawful}
use Rattle.fields.proofs.Fitted.{Any}
use Rattle.blocks.specs.Frame.{block_size, words_end, body_at, fixed, zero_run, stamp_as, framed, checks, sealed, Sealed}
use Rattle.blocks.specs.Kinds.{Kind, content}

pub fixed_lawful : (x : ℕ) → x < 256 → Lawful (fixed x) Any
fixed_lawful x l =
    record {
      long = λ u. refl;
      small = λ u h. one_lawful.small x l;
      fit = λ bytes h at. tt;
      back = λ u h bytes at e. refl;
      exact_cut = λ bytes h at e. one_lawful.exact_cut bytes h at refl ∙ ap (λ (y : ℕ). y ∷ []) (eqb-true (byte bytes at) x e);
      cut_exact = λ bytes h at e. eq-eqb (byte bytes at) x (one_lawful.back x l bytes at e);
    }

pub zero_run_lawful : (n : ℕ) → Lawful (zero_run n) Any
zero_run_lawful n =
    record {
      long = λ u. length-replicate n 0;
      small = λ u h k. none k (dec_lt k n);
      fit = λ bytes h at. tt;
      back = λ u h bytes at e. refl;
      exact_cut = λ bytes h at e. ext n (cut n bytes at) (zeros n) (length_cut n bytes at) (length-replicate n 0)
          (λ k l. cut_at n bytes at k l ∙ zero_at_lem bytes n at e k l ∙ sym (get_or-replicate n k 0 0 l));
      cut_exact = λ bytes h at e. zero_true bytes n at (λ k l. cut_byte n bytes at (zeros n) e k l ∙ get_or-replicate n k 0 0 l);
    }
  where
    none : (k : ℕ) → Dec (k < n) → byte (zeros n) k < 256
    none k (yes l) = subst (λ (x : ℕ). x < 256) (sym (get_or-replicate n k 0 0 l)) (omega arith)
    none k (no l) =
        subst (λ (x : ℕ). x < 256) (sym (get_or-eq_default (zeros n) 0 {n = k} (subst (λ (m : ℕ). m ≤ k) (sym (length-replicate n 0)) (omega (arith, l))))) (omega arith)

-- which stamps fit: every number in its bytes
abbrev pub StampFits : Stamp → Type 0
StampFits s =
    (s.instance.0 < 65536) × (Unit {0} × ((s.setup.racks < 256) × ((s.setup.boxes < 256) × ((s.setup.coordinators < 256) × ((s.setup.readers < 256) ×
    ((s.setup.c0 < 256) × ((s.setup.cf0 < 256) × (s.agent < 256))))))))

pub stamp_lawful : (kind : ℕ) → kind < 256 → Lawful (stamp_as kind) StampFits
stamp_lawful kind l =
    like_lawful _ _ _ StampFits _
    (both_lawful two_bytes _ (λ x. x < 65536) _ two_lawful
    (both_lawful (fixed kind) _ Any _ (fixed_lawful kind l)
    (bytes_lawful _ _ (bytes_lawful _ _ (bytes_lawful _ _ (bytes_lawful _ _ (bytes_lawful _ _ (bytes_lawful _ _ one_lawful))))))))
    (λ v h. h) (λ w h. h) (λ v h. refl) (λ w h. refl)
  where
    bytes_lawful : {B : Type 0} (d : Codec B) (Q : B → Type 0) → Lawful d Q → Lawful (both one_byte d) (λ v. (v.0 < 256) × Q v.1)
    bytes_lawful d Q q = both_lawful one_byte d (λ x. x < 256) Q one_lawful q

pub content_lawful : {A : Type 0} (k : Kind A) (P : A → Type 0) → k.number < 256 → Lawful k.body P → Lawful (content k) (λ v. StampFits v.0 × P v.1)
content_lawful k P n l =
    like_lawful _ _ _ (λ v. StampFits v.0 × P v.1) _
    (both_lawful (stamp_as k.number) _ StampFits _ (stamp_lawful k.number n)
    (both_lawful k.body (zero_run (words_end - (body_at + k.body.size))) P Any l (zero_run_lawful (words_end - (body_at + k.body.size)))))
    (λ v h. (h.0, (h.1, tt))) (λ w h. (h.0, h.1.0)) (λ v h. refl) (λ w h. refl)

-- bytes that agree before the check words have the same sums
module _ (a b : List ℕ) (h : (j : ℕ) → j < words_end → byte a j ≡ byte b j) where
  words_agree : (k : ℕ) → k < words → word_of a k ≡ word_of b k
  words_agree k l =
      sum (h (4 * k) (omega arith)) (h (4 * k + 1) (omega arith)) (h (4 * k + 2) (omega arith)) (h (4 * k + 2 + 1) (omega arith))
    where
      sum : {p q r s p' q' r' s' : ℕ} → p ≡ p' → q ≡ q' → r ≡ r' → s ≡ s' → (p + 256 * q) + 65536 * (r + 256 * s) ≡ (p' + 256 * q') + 65536 * (r' + 256 * s')
      sum e f g i = rw (e, f, g, i)

  pub first_agrees : first_sum_of a ≡ first_sum_of b
  first_agrees = first_same 1 words (word_of a) (word_of b) words_agree

  pub second_agrees : second_sum_of a ≡ second_sum_of b
  second_agrees = second_same 1 words (word_of a) (word_of b) words_agree

-- the rest is looked at by odd bytes first, then by words
rest_zero : (bytes : List ℕ) (end rest : ℕ) → zero_at (rest % 4) bytes end && zero_at (4 * (rest / 4)) bytes (end + rest % 4) ≡ zero_at rest bytes end
rest_zero bytes end rest = sym (zero_parts bytes (rest % 4) (4 * (rest / 4)) end) ∙ ap (λ (n : ℕ). zero_at n bytes end) (omega arith)

-- the parts of the frame's test, and of sealing, as the code has them
pub framed_is : (kind end : ℕ) (bytes : List ℕ) {f s : ℕ} {z z₁ z₂ x r : Bool} {g h : ℕ} → byte bytes 2 ≡ kind → z₁ ≡ zero_at ((words_end - end) % 4) bytes end →
    z₂ ≡ zero_at (4 * ((words_end - end) / 4)) bytes (end + (words_end - end) % 4) → z ≡ z₁ && z₂ → (f ≡ first_sum_of bytes) × (s ≡ second_sum_of bytes) → g ≡ number4 bytes words_end →
    h ≡ number4 bytes (words_end + 4) → x ≡ eqb g f && eqb h s → r ≡ z && x → r ≡ framed kind end bytes
unfolding framed
framed_is kind end bytes w p q t sums a b c e =
    e ∙ join (t ∙ join p q ∙ rest_zero bytes end (words_end - end) ∙ ap (λ (b : Bool). b && zero_at (words_end - end) bytes end) (sym (eq-eqb _ _ w))) (c ∙ join (equal a sums.0) (equal b sums.1))
  where
    join : {a b a' b' : Bool} → a ≡ a' → b ≡ b' → a && b ≡ a' && b'
    join u v = rw (u, v)

    equal : {m n m' n' : ℕ} → m ≡ m' → n ≡ n' → eqb m n ≡ eqb m' n'
    equal u v = rw (u, v)

pub other_kind : (kind end : ℕ) (bytes : List ℕ) → (byte bytes 2 ≡ kind → ⊥) → false ≡ framed kind end bytes
unfolding framed
other_kind kind end bytes h = rw (ne_eqb (byte bytes 2) kind h)

pub sealed_is : (end : ℕ) {f s : ℕ} {old one two after : List ℕ} → length old ≡ block_size → end ≤ words_end → Spliced end (zeros (words_end - end)) old one →
    (f ≡ first_sum_of one) × (s ≡ second_sum_of one) → Spliced words_end (bytes4 f) one two → Spliced (words_end + 4) (bytes4 s) two after → Sealed end old after
unfolding sealed
sealed_is end {f} {s} {old} {one} {two} {after} long h z sums p q =
    record { is = is_sealed; kept = q.kept ∙ p.kept ∙ z.kept }
  where
    both_checks : {a b : ℕ} → a ≡ first_sum_of one → b ≡ second_sum_of one → bytes4 a ++ bytes4 b ≡ checks one
    both_checks u v = rw (u, v)

    is_sealed : after ≡ splice words_end (checks (splice end (zeros (words_end - end)) old)) (splice end (zeros (words_end - end)) old)
    is_sealed =
        (next words_end (bytes4 f) (bytes4 s) one two after (words_end + 4) (subst (λ (n : ℕ). words_end + 4 ≤ n) (sym (z.kept ∙ long)) (omega arith)) p refl q).is ∙
        ap (λ (l : List ℕ). splice words_end l one) (both_checks sums.0 sums.1) ∙ ap (λ (l : List ℕ). splice words_end (checks l) l) z.is
