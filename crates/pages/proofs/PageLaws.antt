-- The tests and operations on pages, read line by line: what joins the definitions to the algebra.
use Rattle.std.proofs.Common.{ℕ, ◌<◌, ◌≡◌, refl, ap, subst, Bool, true, false, cond, not, ◌&&◌, ◌||◌}
use borrow.Author.Tests.{not-true}
use Rattle.below.proofs.Tests.{all_at, all_true, any_at, any_true, and_left, and_right, and_true}
use Rattle.pages.specs.declared.line.Mark.{Mark}
use Rattle.pages.specs.declared.line.Mark.TheVariants.{Absent, Nil}
use Rattle.pages.specs.declared.page.Page.{Page}
use Rattle.pages.specs.Lines.{is_absent, is_nil, is_reading, mark_in_range, append_mark, prefix_mark, compatible_mark}
use Rattle.pages.specs.Racks.{most_racks}
use Rattle.pages.specs.Pages.{at, empty, append_of, prefix_of, compatible_of, union_of, join_of, some, none, nil_extension, complete_of, trivial_of, valued_of, empty_of, within_of}
use Rattle.pages.proofs.Algebra.{Prefix, Compatible, Complete, Valued, append_lines, join_lines, nil_lines}
use Rattle.pages.proofs.Algebra as A
use Rattle.pages.proofs.Filled.{at_page, page_same}

-- the lines of what the operations build
pub at_empty : (k : ℕ) → k < most_racks → at empty k ≡ Absent
unfolding empty
at_empty k l = at_page (λ rack. Absent) k l

pub at_append : (v : Page) (rack : ℕ) (m : Mark) (k : ℕ) → k < most_racks → at (append_of v rack m) k ≡ append_lines (at v) rack m k
unfolding append_of
at_append v rack m k l = at_page (append_lines (at v) rack m) k l

pub at_union : (v w : Page) (k : ℕ) → k < most_racks → at (union_of v w) k ≡ join_lines (at v) (at w) k
unfolding union_of
at_union v w k l = at_page (join_lines (at v) (at w)) k l

pub at_nil : (set : ℕ → Bool) (v : Page) (k : ℕ) → k < most_racks → at (nil_extension set v) k ≡ nil_lines set (at v) k
unfolding nil_extension
at_nil set v k l = at_page (nil_lines set (at v)) k l

-- Nil-extensions over sets with the same racks
pub nil_same : (set other : ℕ → Bool) (v : Page) → ((k : ℕ) → k < most_racks → set k ≡ other k) → nil_extension set v ≡ nil_extension other v
unfolding nil_extension
nil_same set other v h = page_same _ _ (λ k l. ap (λ (b : Bool). cond b (append_mark (at v k) Nil) (at v k)) (h k l))

-- the tests say what the algebra says
pub prefix_lines : (v w : Page) → prefix_of v w ≡ true → Prefix most_racks (at v) (at w)
unfolding prefix_of
prefix_lines v w h = all_at most_racks (λ k. prefix_mark (at v k) (at w k)) h

pub lines_prefix : (v w : Page) → Prefix most_racks (at v) (at w) → prefix_of v w ≡ true
unfolding prefix_of
lines_prefix v w h = all_true most_racks (λ k. prefix_mark (at v k) (at w k)) h

pub compatible_lines : (v w : Page) → compatible_of v w ≡ true → Compatible most_racks (at v) (at w)
unfolding compatible_of
compatible_lines v w h = all_at most_racks (λ k. compatible_mark (at v k) (at w k)) h

pub lines_compatible : (v w : Page) → Compatible most_racks (at v) (at w) → compatible_of v w ≡ true
unfolding compatible_of
lines_compatible v w h = all_true most_racks (λ k. compatible_mark (at v k) (at w k)) h

pub complete_lines : (set : ℕ → Bool) (v : Page) → complete_of set v ≡ true → Complete most_racks set (at v)
unfolding complete_of
complete_lines set v h k l s =
    subst (λ (b : Bool). b && is_absent (at v k) ≡ false) s (not-true _ (all_at most_racks (λ j. not (set j && is_absent (at v j))) h k l))

pub lines_complete : (set : ℕ → Bool) (v : Page) → Complete most_racks set (at v) → complete_of set v ≡ true
unfolding complete_of
lines_complete set v h = all_true most_racks (λ k. not (set k && is_absent (at v k))) (λ k l. go k l (set k) refl)
  where
    go : (k : ℕ) → k < most_racks → (b : Bool) → set k ≡ b → not (set k && is_absent (at v k)) ≡ true
    go k l true e = rw (e, h k l e)
    go k l false e = rw e

pub valued_lines : (v : Page) → valued_of v ≡ true → Valued most_racks (at v)
unfolding valued_of
valued_lines v h = any_at most_racks (λ k. is_reading (at v k)) h

pub lines_valued : (v : Page) → Valued most_racks (at v) → valued_of v ≡ true
unfolding valued_of
lines_valued v w = any_true most_racks (λ k. is_reading (at v k)) w.0 w.1 w.2

pub trivial_lines : (set : ℕ → Bool) (v : Page) → trivial_of set v ≡ true → (k : ℕ) → k < most_racks → set k ≡ true → is_nil (at v k) ≡ true
unfolding trivial_of
trivial_lines set v h k l s = subst (λ (b : Bool). not b || is_nil (at v k) ≡ true) s (all_at most_racks (λ j. not (set j) || is_nil (at v j)) h k l)

pub empty_lines : (v : Page) → empty_of v ≡ true → (k : ℕ) → k < most_racks → is_absent (at v k) ≡ true
unfolding empty_of
empty_lines v h = all_at most_racks (λ k. is_absent (at v k)) h

pub lines_empty : (v : Page) → ((k : ℕ) → k < most_racks → is_absent (at v k) ≡ true) → empty_of v ≡ true
unfolding empty_of
lines_empty v h = all_true most_racks (λ k. is_absent (at v k)) h

-- within: outside the set absent, readings in range
pub within_absent : (set : ℕ → Bool) (v : Page) → within_of set v ≡ true → (k : ℕ) → k < most_racks → set k ≡ false → is_absent (at v k) ≡ true
unfolding within_of
within_absent set v h k l s =
    subst (λ (b : Bool). b || is_absent (at v k) ≡ true) s
    (and_left _ (mark_in_range (at v k)) (all_at most_racks (λ j. (set j || is_absent (at v j)) && mark_in_range (at v j)) h k l))

pub within_range : (set : ℕ → Bool) (v : Page) → within_of set v ≡ true → (k : ℕ) → k < most_racks → mark_in_range (at v k) ≡ true
unfolding within_of
within_range set v h k l = and_right (set k || is_absent (at v k)) _ (all_at most_racks (λ j. (set j || is_absent (at v j)) && mark_in_range (at v j)) h k l)

pub lines_within : (set : ℕ → Bool) (v : Page) → ((k : ℕ) → k < most_racks → set k ≡ false → is_absent (at v k) ≡ true) →
    ((k : ℕ) → k < most_racks → mark_in_range (at v k) ≡ true) → within_of set v ≡ true
unfolding within_of
lines_within set v a r = all_true most_racks (λ k. (set k || is_absent (at v k)) && mark_in_range (at v k)) (λ k l. and_true (go k l (set k) refl) (r k l))
  where
    go : (k : ℕ) → k < most_racks → (b : Bool) → set k ≡ b → set k || is_absent (at v k) ≡ true
    go k l true e = rw e
    go k l false e = rw e (a k l e)

-- the join of compatible pages is there, and is the least page above both
pub join_some : (v w : Page) → compatible_of v w ≡ true → join_of v w ≡ some (union_of v w)
unfolding join_of
join_some v w h = rw h

pub join_none : (v w : Page) → compatible_of v w ≡ false → join_of v w ≡ none
unfolding join_of
join_none v w h = rw h

pub union_left : (v w : Page) → prefix_of v (union_of v w) ≡ true
union_left v w = lines_prefix v (union_of v w) (λ k l. rw (at_union v w k l) (A.join_left most_racks (at v) (at w) k l))

pub union_right : (v w : Page) → compatible_of v w ≡ true → prefix_of w (union_of v w) ≡ true
union_right v w h = lines_prefix w (union_of v w) (λ k l. rw (at_union v w k l) (A.join_right most_racks (at v) (at w) (compatible_lines v w h) k l))

pub union_least : (v w x : Page) → prefix_of v x ≡ true → prefix_of w x ≡ true → prefix_of (union_of v w) x ≡ true
union_least v w x h j =
    lines_prefix (union_of v w) x (λ k l. rw (at_union v w k l) (A.join_least most_racks (at v) (at w) (at x) (prefix_lines v x h) (prefix_lines w x j) k l))

pub prefix_of_refl : (v : Page) → prefix_of v v ≡ true
prefix_of_refl v = lines_prefix v v (A.prefix_refl most_racks (at v))

pub prefix_of_trans : (v w x : Page) → prefix_of v w ≡ true → prefix_of w x ≡ true → prefix_of v x ≡ true
prefix_of_trans v w x h j = lines_prefix v x (A.prefix_trans most_racks (at v) (at w) (at x) (prefix_lines v w h) (prefix_lines w x j))
