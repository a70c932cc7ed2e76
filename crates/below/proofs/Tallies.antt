-- What `iter().filter(f).count()` and `iter().fold(init, f)` answer over a slice of n elements, in terms of `count` and of a
-- definition by recursion on the number of elements. One call tells what the closure answers, as in Runs.
use Rattle.std.proofs.Common.{ℕ, zero, suc, zero-add, [], ◌∷◌, ◌+◌, ◌<◌, arith, ◌≡◌, refl, sym, ap, subst, ◌∙◌, Bool, true, false, cond, List, length, get_or, Iter, Bor, filter}
use Rattle.std.specs.Fn.{Called, CalledAt}
use Rattle.std.specs.Iterator.{Drains}
use Rattle.std.specs.Iterator.Adapters.{filter_source, filter_callee, filter_steps}
use Rattle.std.specs.List.{FoldsTo, fold, range_with_len}
use Rattle.std.specs.Slice.Iter.{iter_rest}
use Rattle.std.proofs.iter.Yields.{fronts, nat_range_steps}
use Rattle.std.proofs.lemmas.Iterator.{YieldsList-from_slice, YieldsList-from_range}
use Rattle.std.proofs.lemmas.List.FromFn.{length-range_with_len, get_or-range_with_len}
use Rattle.std.proofs.lemmas.Iterator.Consumers.{YieldsList-from_filter, count_from_yields_List, fold_from_yields_List}
use Rattle.std.specs.declared.iter.Filter.{Filter}
use Rattle.std.specs.declared.ops.Range.{Range}
use denote.Param.Members.{Mut}
use Rattle.below.specs.Below.{count}
use Rattle.below.proofs.Counts.{count_same}

-- a count by its first number
count_first : (n : ℕ) (f : ℕ → Bool) → cond (f 0) 1 0 + count n (λ k. f (suc k)) ≡ count (suc n) f
unfolding count
count_first zero f = omega arith
count_first (suc n) f = let ih : cond (f 0) 1 0 + count n (λ k. f (suc k)) ≡ count n f + cond (f n) 1 0 = count_first n f in omega (arith, ih)

-- how many elements a filter keeps
filter_counted : {A : Type 0} (test : A → Bool) (l : List A) (d : A) → length (filter test l) ≡ count (length l) (λ k. test (get_or l k d))
unfolding count
filter_counted test [] d = refl
filter_counted test (x ∷ l) d = go (test x) (filter_counted test l d) ∙ count_first (length l) (λ k. test (get_or (x ∷ l) k d))
  where
    go : (b : Bool) → length (filter test l) ≡ count (length l) (λ k. test (get_or l k d)) →
        length (cond b (x ∷ filter test l) (filter test l)) ≡ cond b 1 0 + count (length l) (λ k. test (get_or l k d))
    go true e = omega (arith, e)
    go false e = omega (arith, e)

pub count_in : {A F : Type 0} {g : Mut F (Bor (Bor A) × Unit {0}) Bool} {s : Filter (Iter A) F} {f : F} {xs : List A} (n : ℕ) (test : A → Bool) (d : A) (r : ℕ) →
    ((ys : List (Bor A)) × Drains (filter_steps fronts g) s ys × (r ≡ length ys)) → iter_rest (filter_source s) ≡ xs → filter_callee s ≡ f → length xs ≡ n →
    ((x : Bor A) (b : Bool) (q : F) → CalledAt g f x b q → (q ≡ f) × (b ≡ test x.now)) → r ≡ count n (λ k. test (get_or xs k d))
count_in {g = g} {s = s} {xs = xs} n test d r ran source callee long tells =
    subst (λ (m : ℕ). r ≡ count m (λ k. test (get_or xs k d))) long
    (count_from_yields_List s r ran (YieldsList-from_filter g test (YieldsList-from_slice xs source) callee tells) ∙ filter_counted test xs d)

-- how many numbers below n pass
pub count_below : {F : Type 0} {g : Mut F (Bor ℕ × Unit {0}) Bool} {s : Filter (Range ℕ) F} {f : F} (n : ℕ) (test : ℕ → Bool) (r : ℕ) →
    ((ys : List ℕ) × Drains (filter_steps nat_range_steps g) s ys × (r ≡ length ys)) → filter_source s ≡ record { start = 0; end = n } → filter_callee s ≡ f →
    ((x : ℕ) (b : Bool) (q : F) → CalledAt g f x b q → (q ≡ f) × (b ≡ test x)) → r ≡ count n test
count_below {g = g} {s = s} n test r ran source callee tells =
    count_from_yields_List s r ran (YieldsList-from_filter g test (YieldsList-from_range 0 n n source (omega arith)) callee tells) ∙ filter_counted test numbers 0 ∙
    ap (λ (m : ℕ). count m (λ k. test (get_or numbers k 0))) (length-range_with_len 0 n) ∙
    count_same n _ test (λ k l. ap test (get_or-range_with_len 0 n k 0 l ∙ zero-add k))
  where
    numbers : List ℕ
    numbers = range_with_len 0 n

-- a fold, where each step is that of a definition `at` by recursion
fold_counted : {A C : Type 0} (h : C → A → C) (at : ℕ → C) (l : List A) (d : A) → ((k : ℕ) → k < length l → at (suc k) ≡ h (at k) (get_or l k d)) →
    fold h (at 0) l ≡ at (length l)
fold_counted h at [] d step = refl
fold_counted h at (x ∷ l) d step =
    ap (λ c. fold h c l) (sym (step 0 (omega arith))) ∙ fold_counted h (λ k. at (suc k)) l d (λ k m. step (suc k) (omega arith))

pub fold_in : {A C F : Type 0} {g : Mut F (C × (Bor A × Unit {0})) C} {s : Iter A} {f : F} {init : C} {xs : List A} (n : ℕ) (h : C → A → C) (at : ℕ → C) (d : A) (r : C) →
    ((ys : List (Bor A)) × (q : F) × Drains fronts s ys × FoldsTo {P = F × C} (λ a x b. Called g a.0 (a.1, (x, tt)) b.1 b.0) (f, init) ys (q, r)) → iter_rest s ≡ xs →
    init ≡ at 0 → length xs ≡ n → ((a : C) (x : Bor A) (b : C) (q : F) → Called g f (a, (x, tt)) b q → (q ≡ f) × (b ≡ h a x.now)) →
    ((k : ℕ) → k < n → at (suc k) ≡ h (at k) (get_or xs k d)) → r ≡ at n
fold_in {g = g} {init = init} {xs = xs} n h at d r ran source begins long tells step =
    fold_from_yields_List g h init r ran (YieldsList-from_slice xs source) tells ∙ ap (λ c. fold h c xs) begins ∙
    fold_counted h at xs d (λ k m. step k (subst (λ (j : ℕ). k < j) long m)) ∙ ap at long
