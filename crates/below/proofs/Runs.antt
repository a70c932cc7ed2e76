-- What `iter().all(f)` and `any(f)` answer, alone, over two slices together and with the index, and what `array::from_fn` makes,
-- in terms of `all`, `any` and `row`. The closure answers `p` of its item, which one call tells: `λ x b q k. search rules`.
use Rattle.std.proofs.Common.{ℕ, zero, suc, [], ◌∷◌, zero-add, ◌+◌, ◌<◌, arith, ◌≡◌, refl, sym, ap, subst, ◌∙◌, Bool, true, false, List, length, get_or, Option, Iter, Bor}
use Rattle.std.specs.Bool.{MatchBool}
use Rattle.std.specs.Fn.{Called}
use Rattle.std.specs.Iterator.{YieldsThen}
use Rattle.std.specs.Iterator.Adapters.{zip_first, zip_second, enumerate_source, enumerate_count, enumerate_steps}
use Rattle.std.specs.List.{FoldsTo, AllWithin, HoldsAt, zip, enumerate_from}
use Rattle.std.specs.Option.{MatchOption}
use Rattle.std.specs.Slice.Iter.{iter_rest}
use Rattle.std.specs.Array.{IsFromFnResult, IsFromFnResultFrom}
use Rattle.std.proofs.iter.Yields.{fronts}
use Rattle.std.proofs.lemmas.Iterator.{YieldsList, YieldsList-from_slice, YieldsList-from_zip, zips, cases_from_all, cases_from_any}
use Rattle.std.proofs.lemmas.Iterator.Consumers.{YieldsList-from_enumerate}
use Rattle.std.proofs.lemmas.Slice.Zip.{length-zip, get_or-zip}
use Rattle.std.proofs.lemmas.List.FromFn.{length-enumerate_from, get_or-enumerate_from}
use Rattle.std.specs.declared.iter.Zip.{Zip}
use Rattle.std.specs.declared.iter.Enumerate.{Enumerate}
use denote.Param.Members.{Mut}
use Rattle.below.specs.Below.{all, any, row}
use Rattle.below.proofs.Tests.{all_true, all_at, all_same, any_true, any_false, not_true_false}
use Rattle.below.proofs.Rows.{row_same, row_of_list}

-- the clause `ran` of `all` at `on` true, of `any` at `on` false: each call but the last answered `on`
abbrev pub Ran : {S A F : Type 0} → (S → Option A → S → Type 0) → Mut F (A × Unit {0}) Bool → S → S → F → Bool → Bool → Bool → Type 0
Ran {S} {A} {F} steps g s u f r on off =
    (xs : List A) × (o : Option A) × (j : F) × YieldsThen steps s xs o u × FoldsTo (λ c x q. Called g c (x, tt) on q) f xs j ×
    MatchOption o (r ≡ on) (λ x. (r ≡ off) × ((h : F) × Called g j (x, tt) off h))

-- each call of the closure f leaves it as it was and answers p of what v reads from its argument
abbrev pub Tells : {A B F R : Type 0} → Mut F (A × Unit {0}) R → F → (A → B) → (B → R) → Type 0
Tells {A} {B} {F} {R} g f v p = (x : A) (b : R) (q : F) → Called g f (x, tt) b q → (q ≡ f) × (b ≡ p (v x))

module _ {S A B F : Type 0} {steps : S → Option A → S → Type 0} {v : A → B} {g : Mut F (A × Unit {0}) Bool} {s : S} {f : F} {r : Bool} {ys : List B} (u : S) (p : B → Bool) (d : B) where
  pub all_run : Ran steps g s u f r true false → YieldsList steps v s ys → Tells g f v p → r ≡ all (length ys) (λ k. p (get_or ys k d))
  all_run ran yields tells =
      go r (cases_from_all u f r (λ y. p y ≡ true) (λ y. p y ≡ false) ran yields
      (λ x q k. ((tells x true q k).0, sym (tells x true q k).1)) (λ x q k. sym (tells x false q k).1))
    where
      both_ways : {b : Bool} → b ≡ true → b ≡ false → ⊥
      both_ways e o = cc

      go : (b : Bool) → MatchBool b (AllWithin (λ y. p y ≡ true) ys 0 (length ys)) ((k : ℕ) × (k < length ys) × HoldsAt (λ y. p y ≡ false) ys k) →
          b ≡ all (length ys) (λ k. p (get_or ys k d))
      go true h = sym (all_true (length ys) (λ k. p (get_or ys k d)) (λ k l. h k d (omega arith) l))
      go false (k, l, h) = sym (not_true_false _ (λ e. both_ways (all_at (length ys) (λ j. p (get_or ys j d)) e k l) (h d)))

  pub any_run : Ran steps g s u f r false true → YieldsList steps v s ys → Tells g f v p → r ≡ any (length ys) (λ k. p (get_or ys k d))
  any_run ran yields tells =
      go r (cases_from_any u f r (λ y. p y ≡ true) (λ y. p y ≡ false) ran yields
      (λ x q k. sym (tells x true q k).1) (λ x q k. ((tells x false q k).0, sym (tells x false q k).1)))
    where
      go : (b : Bool) → MatchBool b ((k : ℕ) × (k < length ys) × HoldsAt (λ y. p y ≡ true) ys k) (AllWithin (λ y. p y ≡ false) ys 0 (length ys)) →
          b ≡ any (length ys) (λ k. p (get_or ys k d))
      go true (k, l, h) = sym (any_true (length ys) (λ j. p (get_or ys j d)) k l (h d))
      go false h = sym (any_false (length ys) (λ k. p (get_or ys k d)) (λ k l. h k d (omega arith) l))

module _ {A F : Type 0} {g : Mut F (Bor A × Unit {0}) Bool} {s : Iter A} {f : F} {r : Bool} {xs : List A} (u : Iter A) (n : ℕ) (p : A → Bool) (d : A) where
  pub all_in : Ran fronts g s u f r true false → iter_rest s ≡ xs → length xs ≡ n → Tells g f (λ y. y.now) p → r ≡ all n (λ k. p (get_or xs k d))
  all_in ran source long tells =
      subst (λ (m : ℕ). r ≡ all m (λ k. p (get_or xs k d))) long (all_run u p d ran (YieldsList-from_slice xs source) tells)

  pub any_in : Ran fronts g s u f r false true → iter_rest s ≡ xs → length xs ≡ n → Tells g f (λ y. y.now) p → r ≡ any n (λ k. p (get_or xs k d))
  any_in ran source long tells =
      subst (λ (m : ℕ). r ≡ any m (λ k. p (get_or xs k d))) long (any_run u p d ran (YieldsList-from_slice xs source) tells)

-- two slices of n elements, element by element
pub all_zipped : {A B F : Type 0} {g : Mut F ((Bor A × Bor B) × Unit {0}) Bool} {s : Zip (Iter A) (Iter B)} {f : F} {r : Bool} {xs : List A} {ys : List B}
    (u : Zip (Iter A) (Iter B)) (n : ℕ) (p : A → B → Bool) (d : A) (e : B) → Ran (zips fronts fronts) g s u f r true false → iter_rest (zip_first s) ≡ xs → iter_rest (zip_second s) ≡ ys →
    length xs ≡ n → length ys ≡ n → Tells {B = A × B} g f (λ y. (y.0.now, y.1.now)) (λ y. p y.0 y.1) → r ≡ all n (λ k. p (get_or xs k d) (get_or ys k e))
all_zipped {r = r} {xs = xs} {ys = ys} u n p d e ran first second a b tells =
    all_run u (λ y. p y.0 y.1) (d, e) ran (YieldsList-from_zip (YieldsList-from_slice xs first) (YieldsList-from_slice ys second)) tells ∙
    ap (λ (m : ℕ). all m (λ k. p (get_or (zip xs ys) k (d, e)).0 (get_or (zip xs ys) k (d, e)).1)) (omega (arith, length-zip xs ys, a, b)) ∙
    all_same n _ _ (λ k l. rw (get_or-zip xs ys k (d, e) (omega arith) (omega arith)))

-- n elements with their index
pub all_counted : {A F : Type 0} {g : Mut F ((ℕ × Bor A) × Unit {0}) Bool} {s : Enumerate (Iter A)} {f : F} {r : Bool} {xs : List A}
    (u : Enumerate (Iter A)) (n : ℕ) (p : ℕ → A → Bool) (d : A) → Ran (enumerate_steps fronts) g s u f r true false → iter_rest (enumerate_source s) ≡ xs → enumerate_count s ≡ 0 →
    length xs ≡ n → Tells {B = ℕ × A} g f (λ y. (y.0, y.1.now)) (λ y. p y.0 y.1) → r ≡ all n (λ k. p k (get_or xs k d))
all_counted {r = r} {xs = xs} u n p d ran source zeroth long tells =
    all_run u (λ y. p y.0 y.1) (0, d) ran (YieldsList-from_enumerate (YieldsList-from_slice xs source) zeroth) tells ∙
    ap (λ (m : ℕ). all m (λ k. p (get_or (enumerate_from 0 xs) k (0, d)).0 (get_or (enumerate_from 0 xs) k (0, d)).1)) (length-enumerate_from 0 xs ∙ long) ∙
    all_same n _ _ (λ k l. rw (get_or-enumerate_from 0 xs k (0, d) (omega arith), zero-add))

-- what `array::from_fn` makes, of a closure that each call leaves as it was
module _ {A F : Type 0} {g : Mut F (ℕ × Unit {0}) A} {f : F} (xs : List A) (h : ℕ → A) where
  made_at : (i m : ℕ) → IsFromFnResultFrom g f xs i m → Tells g f (λ k. k) h → (k j : ℕ) (d : A) → k < m → i + k ≡ j → get_or xs j d ≡ h j
  made_at i zero made makes k j d l e = absurd (omega arith)
  made_at i (suc m) (q, y, is, call, later) makes zero j d l e =
      subst (λ (n : ℕ). get_or xs n d ≡ h n) (omega arith) (is.1 d ∙ (makes i y q call).1)
  made_at i (suc m) (q, y, is, call, later) makes (suc k) j d l e =
      made_at (i + 1) m (subst (λ (c : F). IsFromFnResultFrom g c xs (i + 1) m) (makes i y q call).0 later) makes k j d (omega arith) (omega arith)

  pub row_made : (n : ℕ) → IsFromFnResult g f xs n → Tells g f (λ k. k) h → xs ≡ row n h
  unfolding row
  row_made n made makes = go xs refl
    where
      go : (l : List A) → l ≡ xs → xs ≡ row n h
      go [] e = sym e ∙ subst (λ (m : ℕ). [] ≡ row m h) (ap length e ∙ made.long) refl
      go (d ∷ l) e =
          sym (row_of_list d xs) ∙ ap (λ (m : ℕ). row m (λ k. get_or xs k d)) made.long ∙ row_same n _ h (λ k l. made_at 0 n made.each makes k k d l (omega arith))
