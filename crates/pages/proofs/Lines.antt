-- Laws of one line: each is a fact about the three states, and every law of pages comes from these.
use Rattle.std.proofs.Common.{◌≡◌, refl, sym, ap, subst, true, false, true≢false, eqb-true, eq-eqb}
use Rattle.std.proofs.Math.Bool.{false≢true}
use Rattle.pages.specs.declared.line.Reading
use Rattle.pages.specs.declared.line.Mark.{Mark}
use Rattle.pages.specs.declared.line.Mark.TheVariants.{Absent, Nil, Reading as reads}
use Rattle.pages.specs.Lines.{is_absent, is_nil, is_reading, holds, same_reading, append_mark, prefix_mark, compatible_mark}

pub same_reading_lem : (r s : Reading.Reading) → same_reading r s ≡ true → r ≡ s
same_reading_lem r s h = λ i. record { 0 = eqb-true r.0 s.0 h i }

pub same_reading_refl : (r : Reading.Reading) → same_reading r r ≡ true
same_reading_refl r = eq-eqb r.0 r.0 refl

-- what a test on a line says of it
pub absent_is : (a : Mark) → is_absent a ≡ true → a ≡ Absent
absent_is Absent h = refl
absent_is Nil h = absurd (false≢true h)
absent_is (reads r) h = absurd (false≢true h)

pub nil_is : (a : Mark) → is_nil a ≡ true → a ≡ Nil
nil_is Absent h = absurd (false≢true h)
nil_is Nil h = refl
nil_is (reads r) h = absurd (false≢true h)

pub reading_is : (a : Mark) → is_reading a ≡ true → (r : Reading.Reading) × (a ≡ reads r)
reading_is Absent h = absurd (false≢true h)
reading_is Nil h = absurd (false≢true h)
reading_is (reads r) h = (r, refl)

pub holds_is : (a : Mark) (r : Reading.Reading) → holds a r ≡ true → a ≡ reads r
holds_is Absent r h = absurd (false≢true h)
holds_is Nil r h = absurd (false≢true h)
holds_is (reads s) r h = ap reads (same_reading_lem s r h)

pub reading_present : (a : Mark) → is_reading a ≡ true → is_absent a ≡ false
reading_present Absent h = absurd (false≢true h)
reading_present Nil h = absurd (false≢true h)
reading_present (reads r) h = refl

pub reading_not_nil : (a : Mark) → is_reading a ≡ true → is_nil a ≡ false
reading_not_nil Absent h = absurd (false≢true h)
reading_not_nil Nil h = absurd (false≢true h)
reading_not_nil (reads r) h = refl

-- the prefix order of one line
pub prefix_refl : (a : Mark) → prefix_mark a a ≡ true
prefix_refl Absent = refl
prefix_refl Nil = refl
prefix_refl (reads r) = same_reading_refl r

pub prefix_present : (a b : Mark) → prefix_mark a b ≡ true → is_absent a ≡ false → b ≡ a
prefix_present Absent b h p = absurd (true≢false p)
prefix_present Nil b h p = nil_is b h
prefix_present (reads r) b h p = holds_is b r h

pub prefix_same : (a b : Mark) → b ≡ a → prefix_mark a b ≡ true
prefix_same a b e = subst (λ (x : Mark). prefix_mark a x ≡ true) (sym e) (prefix_refl a)

pub prefix_trans : (a b c : Mark) → prefix_mark a b ≡ true → prefix_mark b c ≡ true → prefix_mark a c ≡ true
prefix_trans Absent b c h k = refl
prefix_trans Nil b c h k = subst (λ (x : Mark). prefix_mark x c ≡ true) (nil_is b h) k
prefix_trans (reads r) b c h k = subst (λ (x : Mark). prefix_mark x c ≡ true) (holds_is b r h) k

pub prefix_antisym : (a b : Mark) → prefix_mark a b ≡ true → prefix_mark b a ≡ true → a ≡ b
prefix_antisym Absent b h k = sym (below_absent b k)
  where
    below_absent : (b : Mark) → prefix_mark b Absent ≡ true → b ≡ Absent
    below_absent Absent k = refl
    below_absent Nil k = absurd (false≢true k)
    below_absent (reads r) k = absurd (false≢true k)
prefix_antisym Nil b h k = sym (nil_is b h)
prefix_antisym (reads r) b h k = sym (holds_is b r h)

-- lines present in both are equal
pub compatible_present : (a b : Mark) → compatible_mark a b ≡ true → is_absent a ≡ false → is_absent b ≡ false → a ≡ b
compatible_present Absent b h p q = absurd (true≢false p)
compatible_present Nil b h p q = prefix_present b Nil h q
compatible_present (reads r) b h p q = prefix_present b (reads r) h q

pub compatible_of_bound : (a b c : Mark) → prefix_mark a c ≡ true → prefix_mark b c ≡ true → compatible_mark a b ≡ true
compatible_of_bound Absent b c h k = refl
compatible_of_bound Nil b c h k = subst (λ (x : Mark). prefix_mark b x ≡ true) (nil_is c h) k
compatible_of_bound (reads r) b c h k = subst (λ (x : Mark). prefix_mark b x ≡ true) (holds_is c r h) k

pub compatible_of_present : (a b : Mark) → (is_absent a ≡ false → is_absent b ≡ false → a ≡ b) → compatible_mark a b ≡ true
compatible_of_present Absent b h = refl
compatible_of_present Nil Absent h = refl
compatible_of_present Nil Nil h = refl
compatible_of_present Nil (reads r) h = prefix_same (reads r) Nil (h refl refl)
compatible_of_present (reads r) Absent h = refl
compatible_of_present (reads r) Nil h = prefix_same Nil (reads r) (h refl refl)
compatible_of_present (reads r) (reads s) h = prefix_same (reads s) (reads r) (h refl refl)

-- append extends, and where the two are compatible it is their least upper bound
pub append_left : (a b : Mark) → prefix_mark a (append_mark a b) ≡ true
append_left Absent b = refl
append_left Nil b = refl
append_left (reads r) b = same_reading_refl r

pub append_right : (a b : Mark) → compatible_mark a b ≡ true → prefix_mark b (append_mark a b) ≡ true
append_right Absent b h = prefix_refl b
append_right Nil b h = h
append_right (reads r) b h = h

pub append_least : (a b c : Mark) → prefix_mark a c ≡ true → prefix_mark b c ≡ true → prefix_mark (append_mark a b) c ≡ true
append_least Absent b c h k = k
append_least Nil b c h k = h
append_least (reads r) b c h k = h

pub append_present : (a b : Mark) → is_absent a ≡ false → append_mark a b ≡ a
append_present Absent b h = absurd (true≢false h)
append_present Nil b h = refl
append_present (reads r) b h = refl

pub append_absent : (a b : Mark) → is_absent a ≡ true → append_mark a b ≡ b
append_absent a b h = ap (λ (x : Mark). append_mark x b) (absent_is a h)
