-- Values one behind the other: the law of `times`, and the loops that read and write them.
use Rattle.std.proofs.Common.{ℕ, zero, suc, ◌+◌, ◌*◌, ◌≤◌, ◌<◌, arith, le_antisymm, mul-zero, add-one, ◌≡◌, refl, sym, ap, subst, ◌∙◌, Bool, true, ◌&&◌, List, [], ◌++◌, length, get_or, set, length-append, ⊎_elim}
use Rattle.below.specs.Below.{all, row}
use Rattle.below.proofs.Tests.{all_at, all_true, below_suc}
use Rattle.below.proofs.Rows.{length-row, row_at, row_same, row_of_list, filled, filled_more, filled_ends}
use Rattle.words.specs.Bytes.{Small, Spliced}
use Rattle.words.proofs.Splices.{next, splice_none}
use Rattle.fields.specs.Codecs.{Codec, run, times, Got}
use Rattle.fields.proofs.Cuts.{cut, length_cut, cut_parts, front_same, rest_same}
use Rattle.fields.proofs.Lawful.{Lawful, small_join}

-- runs of pieces of one size
pub length_run : (size n : ℕ) (f : ℕ → List ℕ) → ((k : ℕ) → length (f k) ≡ size) → length (run n f) ≡ size * n
unfolding run
length_run size zero f h = sym (mul-zero size)
length_run size (suc n) f h = length-append (run n f) (f n) ∙ sum (length_run size n f h) (h n) ∙ omega arith
  where
    sum : {a b x y : ℕ} → a ≡ x → b ≡ y → a + b ≡ x + y
    sum p q = rw (p, q)

pub run_same : (n : ℕ) (f g : ℕ → List ℕ) → ((k : ℕ) → k < n → f k ≡ g k) → run n f ≡ run n g
unfolding run
run_same zero f g h = refl
run_same (suc n) f g h = rw (run_same n f g (λ k l. h k (omega arith)), h n (omega arith))

pub run_at : (size n : ℕ) (f g : ℕ → List ℕ) → ((k : ℕ) → length (f k) ≡ size) → ((k : ℕ) → length (g k) ≡ size) → run n f ≡ run n g →
    (k : ℕ) → k < n → f k ≡ g k
unfolding run
run_at size zero f g p q e k l = absurd (omega arith)
run_at size (suc n) f g p q e k l =
    ⊎_elim (λ j. rw j (rest_same (run n f) (f n) (run n g) (g n) same e)) (λ m. run_at size n f g p q (front_same (run n f) (f n) (run n g) (g n) same e) k m)
    (below_suc l)
  where
    same : length (run n f) ≡ length (run n g)
    same = length_run size n f p ∙ sym (length_run size n g q)

cut_none : (bytes : List ℕ) (at : ℕ) → cut 0 bytes at ≡ []
unfolding cut row
cut_none bytes at = refl

pub cut_run : (size n : ℕ) (bytes : List ℕ) (at : ℕ) → cut (size * n) bytes at ≡ run n (λ k. cut size bytes (at + size * k))
unfolding run
cut_run size zero bytes at = ap (λ (m : ℕ). cut m bytes at) (mul-zero size) ∙ cut_none bytes at
cut_run size (suc n) bytes at =
    ap (λ (m : ℕ). cut m bytes at) {y = size * n + size} (omega arith) ∙ cut_parts (size * n) size bytes at ∙
    ap (λ (l : List ℕ). l ++ cut size bytes (at + size * n)) (cut_run size n bytes at)

small_run : (n : ℕ) (f : ℕ → List ℕ) → ((k : ℕ) → k < n → Small (f k)) → Small (run n f)
unfolding run
small_run zero f h k = omega arith
small_run (suc n) f h k = small_join (run n f) (f n) (small_run n f (λ j l. h j (omega arith))) (h n (omega arith)) k

-- a list of n values that fit
pub record Listed {A : Type 0} (n : ℕ) (past : A) (P : A → Type 0) (l : List A) : Type 0 where
  pub many : length l ≡ n
  pub each : (k : ℕ) → k < n → P (get_or l k past)

module _ {A : Type 0} (n : ℕ) (past : A) (c : Codec A) (P : A → Type 0) (p : Lawful c P) where
  pub times_lawful : Lawful (times n past c) (Listed n past P)
  times_lawful =
      record {
        long = λ l. length_run c.size n (pieces l) (λ k. p.long (get_or l k past));
        small = λ l h. small_run n (pieces l) (λ k b. p.small (get_or l k past) (h.each k b));
        fit = λ bytes h at. record {
          many = length-row n (values bytes at);
          each = λ k b. subst P (sym (row_at n (values bytes at) k past b)) (p.fit bytes h (at + c.size * k));
        };
        back = λ l h bytes at e. row_same n (values bytes at) (λ k. get_or l k past) (λ k b. p.back (get_or l k past) (h.each k b) bytes (at + c.size * k) (piece l bytes at e k b)) ∙
            ap (λ (m : ℕ). row m (λ k. get_or l k past)) (sym h.many) ∙ row_of_list past l;
        exact_cut = λ bytes h at e. cut_run c.size n bytes at ∙
            run_same n _ (pieces (row n (values bytes at))) (λ k b. p.exact_cut bytes h (at + c.size * k) (all_at n (λ j. c.exact bytes (at + c.size * j)) e k b) ∙
            ap c.put (sym (row_at n (values bytes at) k past b)));
        cut_exact = λ bytes h at e. all_true n (λ j. c.exact bytes (at + c.size * j)) (λ k b. p.cut_exact bytes h (at + c.size * k)
            (piece (row n (values bytes at)) bytes at e k b ∙ ap c.put (row_at n (values bytes at) k past b)));
      }
    where
      pieces : List A → ℕ → List ℕ
      pieces l k = c.put (get_or l k past)

      values : List ℕ → ℕ → ℕ → A
      values bytes at k = c.get bytes (at + c.size * k)

      piece : (l : List A) (bytes : List ℕ) (at : ℕ) → cut (c.size * n) bytes at ≡ run n (λ k. c.put (get_or l k past)) → (k : ℕ) → k < n → cut c.size bytes (at + c.size * k) ≡ c.put (get_or l k past)
      piece l bytes at e k b =
          run_at c.size n (λ j. cut c.size bytes (at + c.size * j)) (λ j. c.put (get_or l j past)) (λ j. length_cut c.size bytes (at + c.size * j)) (λ j. p.long (get_or l j past))
          (sym (cut_run c.size n bytes at) ∙ e) k b

-- The loop that reads: after k turns the first k values stand in the array, and the flag says whether their bytes are exact.
pub read_more : {A : Type 0} (f : ℕ → A) (k : ℕ) (l m : List A) (v : A) → m ≡ filled f k l → v ≡ f k → k < length l → set m k v ≡ filled f (k + 1) l
read_more {A} f k l m v h e b = ap (λ (x : List A). set x k v) h ∙ ap (λ (x : A). set (filled f k l) k x) e ∙ filled_more f k l b

pub exact_more : {e x r : Bool} (f : ℕ → Bool) (k : ℕ) → e ≡ all k f → x ≡ f k → r ≡ e && x → r ≡ all (k + 1) f
unfolding all
exact_more f k p q h = rw (add-one k, ← p, ← q) h

pub exact_start : (f : ℕ → Bool) → true ≡ all 0 f
unfolding all
exact_start f = refl

module _ {A : Type 0} (n : ℕ) (past : A) (c : Codec A) where
  pub read_ends : {e : Bool} (bytes : List ℕ) (at k : ℕ) (l m : List A) → m ≡ filled (λ j. c.get bytes (at + c.size * j)) k l → e ≡ all k (λ j. c.exact bytes (at + c.size * j)) →
      length l ≡ n → k ≤ n → n ≤ k → Got (times n past c) bytes at m e
  read_ends {e} bytes at k l m h t b p q =
      record {
        is = h ∙ filled_ends (λ j. c.get bytes (at + c.size * j)) n k l b p q;
        tested = subst (λ (j : ℕ). e ≡ all j (λ i. c.exact bytes (at + c.size * i))) (le_antisymm p q) t;
      }

  -- The loop that writes.
  pub write_start : (l : List A) (at : ℕ) (old : List ℕ) → Spliced at (run 0 (λ j. c.put (get_or l j past))) old old
  unfolding run
  write_start l at old = record { is = sym (splice_none at old); kept = refl }

  pub write_more : (l : List A) (at k : ℕ) (old mid after : List ℕ) → ((v : A) → length (c.put v) ≡ c.size) → at + c.size * k ≤ length old →
      Spliced at (run k (λ j. c.put (get_or l j past))) old mid → Spliced (at + c.size * k) (c.put (get_or l k past)) mid after →
      Spliced at (run (k + 1) (λ j. c.put (get_or l j past))) old after
  unfolding run
  write_more l at k old mid after long fits p q =
      rw (add-one k) (next at (run k (λ j. c.put (get_or l j past))) (c.put (get_or l k past)) old mid after (at + c.size * k)
      (subst (λ (m : ℕ). at + m ≤ length old) (sym sized) fits) p (ap (λ (m : ℕ). at + m) (sym sized)) q)
    where
      sized : length (run k (λ j. c.put (get_or l j past))) ≡ c.size * k
      sized = length_run c.size k (λ j. c.put (get_or l j past)) (λ j. long (get_or l j past))

  pub write_ends : (l : List A) (at k : ℕ) (old after : List ℕ) → Spliced at (run k (λ j. c.put (get_or l j past))) old after → k ≤ n → n ≤ k →
      Spliced at ((times n past c).put l) old after
  write_ends l at k old after h p q = subst (λ (m : ℕ). Spliced at (run m (λ j. c.put (get_or l j past))) old after) (le_antisymm p q) h
