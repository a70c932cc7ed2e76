-- Laws of lines and pages that the history needs beside those of `pages`: what a present line of a built page is.
use Rattle.std.proofs.Common.{ℕ, ◌<◌, arith, eqb, ◌≡◌, refl, sym, ap, subst, ◌∙◌, Bool, true, false, cond, true≢false, ◌⊎◌, inl, inr, eq-eqb}
use Rattle.std.proofs.Math.Decide.{dec_lt}
use Rattle.std.proofs.Math.Bool.{false≢true}
use Rattle.std.proofs.Math.Logic.{⊎_map}
use Rattle.below.proofs.Tests.{not_false_true}
use Rattle.pages.specs.declared.line.Reading.{Reading}
use Rattle.pages.specs.declared.line.Mark.{Mark}
use Rattle.pages.specs.declared.line.Mark.TheVariants.{Absent, Nil, Reading as reads}
use Rattle.pages.specs.declared.page.Page.{Page}
use Rattle.pages.specs.Lines.{is_absent, is_reading, append_mark}
use Rattle.pages.specs.Racks.{most_racks}
use Rattle.pages.specs.Pages.{at, page, empty, append_of, prefix_of, compatible_of, nil_extension, valued_of}
use Rattle.pages.proofs.Lines.{absent_is, prefix_present, compatible_of_present}
use Rattle.pages.proofs.Algebra.{append_extends as append-extends-lines, nil_extends, extension_keeps_valued}
use Rattle.pages.proofs.Filled.{at_page, at_past}
use Rattle.pages.proofs.PageLaws.{at_append, at_nil, prefix_lines, lines_prefix, lines_compatible, valued_lines, lines_valued, prefix_of_refl}

pub absent_or_present : {m : Mark} → m ≡ Absent → is_absent m ≡ false → ⊥
absent_or_present e h = true≢false (sym (ap is_absent e) ∙ h)

pub nil_or_reading : {m : Mark} {v : Reading} → m ≡ Nil → m ≡ reads v → ⊥
nil_or_reading e d = false≢true (ap is_reading (sym e ∙ d))

-- a present line that is no reading is Nil
pub nil_is : (m : Mark) → is_absent m ≡ false → is_reading m ≡ false → m ≡ Nil
nil_is Absent h g = absurd (true≢false h)
nil_is Nil h g = refl
nil_is (reads v) h g = absurd (true≢false g)

pub at_same : {p q : Page} (k : ℕ) → p ≡ q → at p k ≡ at q k
at_same k e = ap (λ (p : Page). at p k) e

-- a prefix is equal where it is present
pub prefix_at : (p q : Page) → prefix_of p q ≡ true → (k : ℕ) → k < most_racks → is_absent (at p k) ≡ false → at q k ≡ at p k
prefix_at p q h k l a = prefix_present (at p k) (at q k) (prefix_lines p q h k l) a

pub prefix_same : (p q : Page) → p ≡ q → prefix_of p q ≡ true
prefix_same p q e = subst (λ (x : Page). prefix_of p x ≡ true) e (prefix_of_refl p)

pub at_compatible : (p q : Page) → ((k : ℕ) → is_absent (at p k) ≡ false → is_absent (at q k) ≡ false → at p k ≡ at q k) →
    compatible_of p q ≡ true
at_compatible p q h = lines_compatible p q (λ k l. compatible_of_present (at p k) (at q k) (h k))

pub at_valued : (p : Page) (k : ℕ) → k < most_racks → is_reading (at p k) ≡ true → valued_of p ≡ true
at_valued p k l h = lines_valued p (k, l, h)

pub valued_extends : (p q : Page) → prefix_of p q ≡ true → valued_of p ≡ true → valued_of q ≡ true
valued_extends p q h v = lines_valued q (extension_keeps_valued most_racks (at p) (at q) (prefix_lines p q h) (valued_lines p v))

-- a present line of a made page is one of its most_racks
made_within : (f : ℕ → Mark) (k : ℕ) → is_absent (at (page f) k) ≡ false → k < most_racks
made_within f k h = go (dec_lt k most_racks)
  where
    go : Dec (k < most_racks) → k < most_racks
    go (yes l) = l
    go (no n) = absurd (absent_or_present (at_past f k (omega (arith, n))) h)

pub at_empty : (k : ℕ) → at empty k ≡ Absent
unfolding empty
at_empty k = absent_is _ (not_false_true _ (λ h. absent_or_present (at_page _ k (made_within _ k h)) h))

append_either : (a m : Mark) → (append_mark a m ≡ a) ⊎ ((a ≡ Absent) × (append_mark a m ≡ m))
append_either Absent m = inr (refl, refl)
append_either Nil m = inl refl
append_either (reads v) m = inl refl

-- a page with a line appended where a test passes: what a present line of it is
module _ (set : ℕ → Bool) (v : Page) (m : Mark) where
  appended : ℕ → Mark
  appended k = cond (set k) (append_mark (at v k) m) (at v k)

  appended_line : (b : Bool) (a : Mark) →
      (cond b (append_mark a m) a ≡ a) ⊎ ((b ≡ true) × (a ≡ Absent) × (cond b (append_mark a m) a ≡ m))
  appended_line true a = ⊎_map (λ e. e) (λ e. (refl, e.0, e.1)) (append_either a m)
  appended_line false a = inl refl

  appended_either : (k : ℕ) → is_absent (at (page appended) k) ≡ false →
      (at (page appended) k ≡ at v k) ⊎ ((set k ≡ true) × (at v k ≡ Absent) × (at (page appended) k ≡ m))
  unfolding appended
  appended_either k h = rw (at_page appended k (made_within appended k h)) (appended_line (set k) (at v k))

pub append_extends : (v : Page) (rack : ℕ) (m : Mark) → prefix_of v (append_of v rack m) ≡ true
append_extends v rack m = lines_prefix v (append_of v rack m) (λ k l. rw (at_append v rack m k l) (append-extends-lines most_racks (at v) rack m k l))

pub append_at : (v : Page) (rack : ℕ) (m : Mark) → rack < most_racks → at (append_of v rack m) rack ≡ append_mark (at v rack) m
append_at v rack m l = at_append v rack m rack l ∙ ap (λ (b : Bool). cond b (append_mark (at v rack) m) (at v rack)) (eq-eqb rack rack refl)

pub append_lines_lem : (v : Page) (rack : ℕ) (m : Mark) (k : ℕ) → is_absent (at (append_of v rack m) k) ≡ false →
    (at (append_of v rack m) k ≡ at v k) ⊎ ((eqb k rack ≡ true) × (at v k ≡ Absent) × (at (append_of v rack m) k ≡ m))
unfolding append_of appended
append_lines_lem v rack m = appended_either (λ k. eqb k rack) v m

pub extension_extends : (set : ℕ → Bool) (v : Page) → prefix_of v (nil_extension set v) ≡ true
extension_extends set v = lines_prefix v (nil_extension set v) (λ k l. rw (at_nil set v k l) (nil_extends most_racks set (at v) k l))

pub extension_lines : (set : ℕ → Bool) (v : Page) (k : ℕ) → is_absent (at (nil_extension set v) k) ≡ false →
    (at (nil_extension set v) k ≡ at v k) ⊎ ((set k ≡ true) × (at v k ≡ Absent) × (at (nil_extension set v) k ≡ Nil))
unfolding nil_extension appended
extension_lines set v = appended_either set v Nil
