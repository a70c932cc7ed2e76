-- What append, Nil-extension and join keep of a page's rules: lines of the hall's racks alone, readings in range, at least one reading.
use Rattle.std.proofs.Common.{ℕ, ◌<◌, eqb, length, eqb-true, eq-eqb, ◌≡◌, refl, sym, ap, ◌∙◌, Bool, true, false, cond, true≢false}
use Rattle.pages.specs.declared.line.Mark.{Mark}
use Rattle.pages.specs.declared.line.Mark.TheVariants.{Absent, Nil, Reading as reads}
use Rattle.pages.specs.declared.page.Page.{Page}
use Rattle.pages.specs.Lines.{is_absent, is_reading, mark_in_range, append_mark}
use Rattle.pages.specs.Racks.{most_racks}
use Rattle.pages.specs.Pages.{line, at, page, empty, append_of, union_of, nil_extension, prefix_of, valued_of, empty_of, within_of}
use Rattle.below.proofs.Rows.{length-row}
use Rattle.below.proofs.Tests.{not_true_false}
use Rattle.pages.proofs.Lines.{append_absent, reading_present}
use Rattle.pages.proofs.Algebra as A
use Rattle.pages.proofs.PageLaws.{empty_lines, at_empty, at_append, at_union, at_nil, prefix_lines, lines_prefix, valued_lines, lines_valued, lines_empty, within_absent, within_range, lines_within}

-- one line: in range if both are, absent if both are
append_range : (a b : Mark) → mark_in_range a ≡ true → mark_in_range b ≡ true → mark_in_range (append_mark a b) ≡ true
append_range Absent b p q = q
append_range Nil b p q = refl
append_range (reads r) b p q = p

append_both_absent : (a b : Mark) → is_absent a ≡ true → is_absent b ≡ true → is_absent (append_mark a b) ≡ true
append_both_absent a b p q = ap is_absent (append_absent a b p) ∙ q

append_or_not_range : (c : Bool) (a b : Mark) → mark_in_range a ≡ true → mark_in_range b ≡ true → mark_in_range (cond c (append_mark a b) a) ≡ true
append_or_not_range true a b p q = append_range a b p q
append_or_not_range false a b p q = p

-- a line that is not appended to is as it was
not_appended : (c : Bool) (a b : Mark) → c ≡ false → is_absent a ≡ true → is_absent (cond c (append_mark a b) a) ≡ true
not_appended c a b e p = rw e p

pub empty_empty : empty_of empty ≡ true
empty_empty = lines_empty empty (λ k l. ap is_absent (at_empty k l))

pub empty_within : (set : ℕ → Bool) → within_of set empty ≡ true
empty_within set = lines_within set empty (λ k l s. ap is_absent (at_empty k l)) (λ k l. ap mark_in_range (at_empty k l))

pub append_within : (set : ℕ → Bool) (v : Page) (rack : ℕ) (m : Mark) → within_of set v ≡ true → set rack ≡ true → mark_in_range m ≡ true →
    within_of set (append_of v rack m) ≡ true
append_within set v rack m h s r =
    lines_within set (append_of v rack m)
    (λ k l o. ap is_absent (at_append v rack m k l) ∙ not_appended (eqb k rack) (at v k) m (other k (eqb k rack) refl o) (within_absent set v h k l o))
    (λ k l. ap mark_in_range (at_append v rack m k l) ∙ append_or_not_range (eqb k rack) (at v k) m (within_range set v h k l) r)
  where
    other : (k : ℕ) (b : Bool) → eqb k rack ≡ b → set k ≡ false → b ≡ false
    other k true e o = absurd (true≢false (sym s ∙ ap set (sym (eqb-true k rack e)) ∙ o))
    other k false e o = refl

pub nil_within : (set over : ℕ → Bool) (v : Page) → within_of set v ≡ true → ((k : ℕ) → set k ≡ false → over k ≡ false) →
    within_of set (nil_extension over v) ≡ true
nil_within set over v h within =
    lines_within set (nil_extension over v)
    (λ k l o. ap is_absent (at_nil over v k l) ∙ not_appended (over k) (at v k) Nil (within k o) (within_absent set v h k l o))
    (λ k l. ap mark_in_range (at_nil over v k l) ∙ append_or_not_range (over k) (at v k) Nil (within_range set v h k l) refl)

pub union_within : (set : ℕ → Bool) (v w : Page) → within_of set v ≡ true → within_of set w ≡ true → within_of set (union_of v w) ≡ true
union_within set v w h j =
    lines_within set (union_of v w)
    (λ k l o. ap is_absent (at_union v w k l) ∙ append_both_absent (at v k) (at w k) (within_absent set v h k l o) (within_absent set w j k l o))
    (λ k l. ap mark_in_range (at_union v w k l) ∙ append_range (at v k) (at w k) (within_range set v h k l) (within_range set w j k l))

-- an extension has the readings
pub prefix_valued : (v w : Page) → prefix_of v w ≡ true → valued_of v ≡ true → valued_of w ≡ true
prefix_valued v w h j = lines_valued w (A.extension_keeps_valued most_racks (at v) (at w) (prefix_lines v w h) (valued_lines v j))

pub append_prefix : (v : Page) (rack : ℕ) (m : Mark) → prefix_of v (append_of v rack m) ≡ true
append_prefix v rack m = lines_prefix v (append_of v rack m) (λ k l. rw (at_append v rack m k l) (A.append_extends most_racks (at v) rack m k l))

pub nil_prefix : (over : ℕ → Bool) (v : Page) → prefix_of v (nil_extension over v) ≡ true
nil_prefix over v = lines_prefix v (nil_extension over v) (λ k l. rw (at_nil over v k l) (A.nil_extends most_racks over (at v) k l))

-- one line alone
pub at_one_line : (rack : ℕ) (m : Mark) → rack < most_racks → at (append_of empty rack m) rack ≡ m
at_one_line rack m l =
    at_append empty rack m rack l ∙ rw (eq-eqb rack rack refl, at_empty rack l)

pub one_reading_valued : (rack : ℕ) (m : Mark) → rack < most_racks → is_reading m ≡ true → valued_of (append_of empty rack m) ≡ true
one_reading_valued rack m l h = lines_valued (append_of empty rack m) (rack, l, ap is_reading (at_one_line rack m l) ∙ h)

-- a page with a reading is not empty
pub valued_not_empty : (v : Page) → valued_of v ≡ true → empty_of v ≡ false
valued_not_empty v h = not_true_false (empty_of v) (λ e. true≢false (sym (empty_lines v e w.0 w.1) ∙ reading_present (at v w.0) w.2))
  where
    w : (k : ℕ) × (k < most_racks) × (is_reading (at v k) ≡ true)
    w = valued_lines v h

-- a page has its eight lines; one that an operation built has them whatever it was built from
abbrev pub Whole : Page → Type 0
Whole p = length p.lines ≡ most_racks

pub page_whole : (f : ℕ → Mark) → Whole (page f)
unfolding page
page_whole f = length-row most_racks (λ rack. line (f rack))

pub empty_whole : Whole empty
unfolding empty
empty_whole = page_whole (λ rack. Absent)

pub append_whole : (v : Page) (rack : ℕ) (m : Mark) → Whole (append_of v rack m)
unfolding append_of
append_whole v rack m = page_whole (λ k. cond (eqb k rack) (append_mark (at v k) m) (at v k))

pub nil_whole : (over : ℕ → Bool) (v : Page) → Whole (nil_extension over v)
unfolding nil_extension
nil_whole over v = page_whole (λ k. cond (over k) (append_mark (at v k) Nil) (at v k))
