-- The line that enough of n boxes agree on, over any number of boxes and any lines: counting finds it exactly if there is one.
use Rattle.std.proofs.Common.{ℕ, zero, suc, ◌≤◌, ◌<◌, arith, leb, leb-true, le-leb, ◌≡◌, refl, sym, ap, subst, ◌∙◌, Bool, true, false, not, ◌&&◌, true≢false, ⊎_elim, List, length, get_or, Option, Some, None, Iter, Bor}
use Rattle.std.specs.Fn.{CalledAt}
use Rattle.std.specs.Iterator.{YieldsThen}
use Rattle.std.specs.Iterator.Adapters.{copied_source}
use Rattle.std.specs.List.{FoldsTo, AllWithin, HoldsAt}
use Rattle.std.specs.Option.{MatchOption, IfSome, unwrap_or}
use Rattle.std.specs.Slice.Iter.{iter_rest}
use Rattle.std.specs.declared.iter.Copied.{Copied}
use Rattle.std.proofs.iter.Yields.{fronts, copies}
use Rattle.std.proofs.lemmas.Iterator.{YieldsList-from_slice, first_from_find}
use Rattle.std.proofs.lemmas.Iterator.Consumers.{YieldsList-from_copied}
use Rattle.std.proofs.Math.Decide.{dec_lt}
use denote.Param.Members.{Mut}
use borrow.Author.Tests.{not-true}
use Rattle.std.proofs.Math.Bool.{false≢true}
use Rattle.below.specs.Below.{any, count}
use Rattle.below.proofs.Tests.{and_true, and_left, and_right, decided, below_suc, any_at, any_true, any_same, any_none, any_false, not_true_false}
use Rattle.below.proofs.Counts.{count_same, count_some, count_cut, counts_meet}
use Rattle.pages.specs.declared.line.Mark.{Mark}
use Rattle.pages.specs.declared.line.Mark.TheVariants.{Absent}
use Rattle.pages.specs.declared.line.Line.{Line}
use Rattle.pages.specs.Lines.{is_absent, prefix_mark}
use Rattle.pages.specs.Pages.{line}
use Rattle.pages.proofs.Lines.{prefix_present}
use Rattle.rounds.specs.Setups.{majority_of}
use Rattle.rounds.proofs.Majorities.{majorities_meet}
use Rattle.readers.specs.Counting.{carrying, enough, first_line, agreed_line}

-- the first line that passes
first_left : (n : ℕ) (p : Mark → Bool) (lines : ℕ → Mark) (k : ℕ) → k < n → any k (λ b. p (lines b)) ≡ false → p (lines k) ≡ true →
    first_line n p lines ≡ lines k
unfolding first_line
first_left zero p lines k l a h = absurd (omega arith)
first_left (suc n) p lines k l a h = ⊎_elim here (λ m. before m (first_left n p lines k m a h)) (below_suc l)
  where
    here : k ≡ n → first_line (suc n) p lines ≡ lines k
    here e =
        rw (subst (λ (j : ℕ). any j (λ b. p (lines b)) ≡ false) e a, subst (λ (j : ℕ). p (lines j) ≡ true) e h)
        (ap lines (sym e))

    before : k < n → first_line n p lines ≡ lines k → first_line (suc n) p lines ≡ lines k
    before m e = rw (any_true n (λ b. p (lines b)) k m h) e

first_none : (n : ℕ) (p : Mark → Bool) (lines : ℕ → Mark) → any n (λ b. p (lines b)) ≡ false → first_line n p lines ≡ Absent
unfolding first_line
first_none zero p lines a = refl
first_none (suc n) p lines a =
    rw (not_true_false (any n (λ b. p (lines b))) (λ e. true≢false (sym (any_up e) ∙ a)), any_none (suc n) (λ b. p (lines b)) a n (omega arith))
  where
    any_up : any n (λ b. p (lines b)) ≡ true → any (suc n) (λ b. p (lines b)) ≡ true
    any_up e = let w : (k : ℕ) × (k < n) × (p (lines k) ≡ true) = any_at n (λ b. p (lines b)) e in
        any_true (suc n) (λ b. p (lines b)) w.0 (omega (arith, w.1)) w.2

-- what `iter().copied().find(f)` answers over n lines, where the closure answers p of its line, is the first line that passes
module _ {F : Type 0} {g : Mut F (Bor Line × Unit {0}) Bool} {s : Copied (Iter Line)} {f : F} {xs : List Line} (u : Copied (Iter Line)) (n : ℕ) (p : Mark → Bool) (d : Line) (r : Option Line) where
  pub line_found : ((ys : List Line) × (j : F) × YieldsThen (copies fronts) s ys r u × FoldsTo (λ c x q. CalledAt g c x false q) f ys j × IfSome r (λ x. (h : F) × CalledAt g j x true h)) →
      iter_rest (copied_source s) ≡ xs → length xs ≡ n → ((x : Line) (b : Bool) (q : F) → CalledAt g f x b q → (q ≡ f) × (b ≡ p x.mark)) →
      (unwrap_or r (line Absent)).mark ≡ first_line n p (λ b. (get_or xs b d).mark)
  line_found ran source long tells =
      go r (first_from_find u f r Passes Fails ran (YieldsList-from_copied (YieldsList-from_slice xs source))
      (λ x q k. sym (tells x true q k).1) (λ x q k. ((tells x false q k).0, sym (tells x false q k).1)))
    where
      Passes : Line → Type 0
      Passes l = p l.mark ≡ true

      Fails : Line → Type 0
      Fails l = p l.mark ≡ false

      mark_at : ℕ → Mark
      mark_at b = (get_or xs b d).mark

      go : (o : Option Line) → MatchOption o (AllWithin Fails xs 0 (length xs)) (λ x. Passes x × (k : ℕ) × (k < length xs) × HoldsAt (λ y. y ≡ x) xs k × AllWithin Fails xs 0 k) →
          (unwrap_or o (line Absent)).mark ≡ first_line n p mark_at
      go None none = sym (first_none n p mark_at (any_false n (λ b. p (mark_at b)) (λ k l. none k d (omega arith) (omega (arith, long)))))
      go (Some x) (passes, k, l, at, before) =
          ap (λ (y : Line). y.mark) (sym (at d)) ∙
          sym (first_left n p mark_at k (omega (arith, long)) (any_false k (λ b. p (mark_at b)) (λ j m. before j d (omega arith) m)) (ap (λ (y : Line). p y.mark) (at d) ∙ passes))

first_passes : (n : ℕ) (p : Mark → Bool) (lines : ℕ → Mark) → any n (λ b. p (lines b)) ≡ true → p (first_line n p lines) ≡ true
unfolding first_line any
first_passes zero p lines a = absurd (false≢true a)
first_passes (suc n) p lines a = ⊎_elim (λ e. earlier e (first_passes n p lines e)) last (decided (any n (λ b. p (lines b))))
  where
    earlier : any n (λ b. p (lines b)) ≡ true → p (first_line n p lines) ≡ true → p (first_line (suc n) p lines) ≡ true
    earlier e h = rw e h

    last : any n (λ b. p (lines b)) ≡ false → p (first_line (suc n) p lines) ≡ true
    last e = let h : p (lines n) ≡ true = rw e at a in rw (e, h) h

first_same : (n : ℕ) (p q : Mark → Bool) (f g : ℕ → Mark) → ((m : Mark) → p m ≡ q m) → ((k : ℕ) → k < n → f k ≡ g k) → first_line n p f ≡ first_line n q g
unfolding first_line
first_same zero p q f g h e = refl
first_same (suc n) p q f g h e =
    rw (
      any_same n (λ b. p (f b)) (λ b. q (g b)) (λ k l. h (f k) ∙ ap q (e k (omega arith))),
      first_same n p q f g h (λ k l. e k (omega arith)),
      h (f n),
      e n (omega arith),
    )

-- only the lines of the n boxes matter
pub agreed_same : (n need : ℕ) (f g : ℕ → Mark) → ((k : ℕ) → k < n → f k ≡ g k) → agreed_line n need f ≡ agreed_line n need g
unfolding agreed_line enough carrying
agreed_same n need f g e =
    first_same n (enough n need f) (enough n need g) f g
    (λ m. ap (λ (x : ℕ). not (is_absent m) && leb need x) (count_same n (λ b. prefix_mark m (f b)) (λ b. prefix_mark m (g b)) (λ k l. ap (prefix_mark m) (e k l)))) e

-- two majorities share a box: of n slots, of which only those of the A boxes count
pub majorities_share : (n A : ℕ) (f g : ℕ → Bool) → ((k : ℕ) → k < n → f k ≡ true → k < A) → ((k : ℕ) → k < n → g k ≡ true → k < A) →
    majority_of A ≤ count n f → majority_of A ≤ count n g → (k : ℕ) × (k < n) × ((f k ≡ true) × (g k ≡ true))
majorities_share n A f g a b p q = go (dec_lt A n)
  where
    go : Dec (A < n) → (k : ℕ) × (k < n) × ((f k ≡ true) × (g k ≡ true))
    go (no d) = counts_meet n f g (omega (arith, d))
    go (yes l) =
        let w : (k : ℕ) × (k < A) × ((f k ≡ true) × (g k ≡ true)) = majorities_meet A f g (omega (arith, count_cut n A f (omega arith) a))
        (omega (arith, count_cut n A g (omega arith) b)) in
        (w.0, omega (arith, w.1), w.2)

-- a line that passes is there, and enough boxes have it
pub enough_present : (n need : ℕ) (lines : ℕ → Mark) (m : Mark) → enough n need lines m ≡ true → is_absent m ≡ false
unfolding enough
enough_present n need lines m h = not-true (is_absent m) (and_left _ (leb need (carrying n lines m)) h)

pub enough_carrying : (n need : ℕ) (lines : ℕ → Mark) (m : Mark) → enough n need lines m ≡ true → need ≤ carrying n lines m
unfolding enough
enough_carrying n need lines m h = leb-true need (carrying n lines m) (and_right (not (is_absent m)) _ h)

pub carrying_enough : (n need : ℕ) (lines : ℕ → Mark) (m : Mark) → is_absent m ≡ false → need ≤ carrying n lines m → enough n need lines m ≡ true
unfolding enough
carrying_enough n need lines m p h = and_true (ap not p) (le-leb need (carrying n lines m) h)

-- an agreed line is there only if enough boxes have it
pub agreed_enough : (n need : ℕ) (lines : ℕ → Mark) → is_absent (agreed_line n need lines) ≡ false → enough n need lines (agreed_line n need lines) ≡ true
unfolding agreed_line
agreed_enough n need lines p =
    ⊎_elim (λ e. first_passes n (enough n need lines) lines e)
    (λ e. absurd (true≢false (sym (ap is_absent (first_none n (enough n need lines) lines e)) ∙ p)))
    (decided (any n (λ b. enough n need lines (lines b))))

-- a line that a majority has is the agreed one: lines are those of the A boxes alone
pub agreed_is : (n A : ℕ) (lines : ℕ → Mark) (m : Mark) → ((k : ℕ) → k < n → is_absent (lines k) ≡ false → k < A) → is_absent m ≡ false →
    majority_of A ≤ carrying n lines m → agreed_line n (majority_of A) lines ≡ m
unfolding agreed_line carrying
agreed_is n A lines m own p h = sym agree
  where
    need : ℕ
    need = majority_of A

    has_line : (x : Mark) → is_absent x ≡ false → (k : ℕ) → prefix_mark x (lines k) ≡ true → lines k ≡ x
    has_line x q k e = prefix_present x (lines k) e q

    below : (x : Mark) → is_absent x ≡ false → (k : ℕ) → k < n → prefix_mark x (lines k) ≡ true → k < A
    below x q k l e = own k l (ap is_absent (has_line x q k e) ∙ q)

    some : (k : ℕ) × (k < n) × (prefix_mark m (lines k) ≡ true)
    some = count_some n (λ b. prefix_mark m (lines b)) (positive h)
      where
        positive : majority_of A ≤ carrying n lines m → 0 < count n (λ b. prefix_mark m (lines b))
        positive h = omega arith

    found : enough n need lines (first_line n (enough n need lines) lines) ≡ true
    found =
        first_passes n (enough n need lines) lines
        (any_true n (λ b. enough n need lines (lines b)) some.0 some.1
        (carrying_enough n need lines (lines some.0) (ap is_absent (has_line m p some.0 some.2) ∙ p)
        (subst (λ (x : Mark). need ≤ carrying n lines x) (sym (has_line m p some.0 some.2)) h)))

    first : Mark
    first = first_line n (enough n need lines) lines

    there : is_absent first ≡ false
    there = enough_present n need lines first found

    agree : m ≡ first
    agree =
        let w : (k : ℕ) × (k < n) × ((prefix_mark m (lines k) ≡ true) × (prefix_mark first (lines k) ≡ true)) =
        majorities_share n A (λ b. prefix_mark m (lines b)) (λ b. prefix_mark first (lines b)) (below m p) (below first there) h
        (enough_carrying n need lines first found) in
        sym (has_line m p w.0 w.2.0) ∙ has_line first there w.0 w.2.1
