-- The algebra of pages, once, over any number n of racks: a page is a function of the rack. Prefix is a partial order; append and
-- Nil-extension extend; the join is the least upper bound and exists exactly if compatible; what extensions keep.
use Rattle.std.proofs.Common.{ℕ, ◌<◌, eqb, ◌≡◌, refl, sym, ap, subst, ◌∙◌, Bool, true, false, cond, true≢false, ◌↔◌}
use Rattle.pages.specs.declared.line.Mark.{Mark}
use Rattle.pages.specs.declared.line.Mark.TheVariants.{Nil}
use Rattle.pages.specs.Lines.{is_absent, is_nil, is_reading, append_mark, prefix_mark, compatible_mark}
use Rattle.pages.proofs.Lines as L

-- the lines of a page
abbrev pub Lines : Type 0
Lines = ℕ → Mark

-- the definitions of document 01, said of the first n racks
abbrev pub Prefix : ℕ → Lines → Lines → Type 0
Prefix n v w = (k : ℕ) → k < n → prefix_mark (v k) (w k) ≡ true

abbrev pub Compatible : ℕ → Lines → Lines → Type 0
Compatible n v w = (k : ℕ) → k < n → compatible_mark (v k) (w k) ≡ true

abbrev pub Complete : ℕ → (ℕ → Bool) → Lines → Type 0
Complete n set v = (k : ℕ) → k < n → set k ≡ true → is_absent (v k) ≡ false

abbrev pub Valued : ℕ → Lines → Type 0
Valued n v = (k : ℕ) × (k < n) × (is_reading (v k) ≡ true)

abbrev pub Trivial : ℕ → Lines → Type 0
Trivial n v = (k : ℕ) → k < n → is_nil (v k) ≡ true

abbrev pub append_lines : Lines → ℕ → Mark → Lines
append_lines v rack m k = cond (eqb k rack) (append_mark (v k) m) (v k)

abbrev pub join_lines : Lines → Lines → Lines
join_lines v w k = append_mark (v k) (w k)

abbrev pub nil_lines : (ℕ → Bool) → Lines → Lines
nil_lines set v k = cond (set k) (append_mark (v k) Nil) (v k)

-- appended or not, the line only gains
append_or_not : (b : Bool) (a m : Mark) → prefix_mark a (cond b (append_mark a m) a) ≡ true
append_or_not true a m = L.append_left a m
append_or_not false a m = L.prefix_refl a

module _ (n : ℕ) where
  -- prefix is a partial order
  pub prefix_refl : (v : Lines) → Prefix n v v
  prefix_refl v k l = L.prefix_refl (v k)

  pub prefix_trans : (v w x : Lines) → Prefix n v w → Prefix n w x → Prefix n v x
  prefix_trans v w x h j k l = L.prefix_trans (v k) (w k) (x k) (h k l) (j k l)

  pub prefix_antisym : (v w : Lines) → Prefix n v w → Prefix n w v → (k : ℕ) → k < n → v k ≡ w k
  prefix_antisym v w h j k l = L.prefix_antisym (v k) (w k) (h k l) (j k l)

  -- append and Nil-extension extend
  pub append_extends : (v : Lines) (rack : ℕ) (m : Mark) → Prefix n v (append_lines v rack m)
  append_extends v rack m k l = append_or_not (eqb k rack) (v k) m

  pub nil_extends : (set : ℕ → Bool) (v : Lines) → Prefix n v (nil_lines set v)
  nil_extends set v k l = append_or_not (set k) (v k) Nil

  -- compatible exactly if lines present in both are equal
  pub compatible_iff_present : (v w : Lines) → Compatible n v w ↔ ((k : ℕ) → k < n → is_absent (v k) ≡ false → is_absent (w k) ≡ false → v k ≡ w k)
  compatible_iff_present v w =
      (λ h k l p q. L.compatible_present (v k) (w k) (h k l) p q, λ h k l. L.compatible_of_present (v k) (w k) (h k l))

  -- the join is the least upper bound, and there is an upper bound exactly if the two are compatible
  pub join_left : (v w : Lines) → Prefix n v (join_lines v w)
  join_left v w k l = L.append_left (v k) (w k)

  pub join_right : (v w : Lines) → Compatible n v w → Prefix n w (join_lines v w)
  join_right v w h k l = L.append_right (v k) (w k) (h k l)

  pub join_least : (v w x : Lines) → Prefix n v x → Prefix n w x → Prefix n (join_lines v w) x
  join_least v w x h j k l = L.append_least (v k) (w k) (x k) (h k l) (j k l)

  pub compatible_iff_bounded : (v w : Lines) → Compatible n v w ↔ ((x : Lines) × Prefix n v x × Prefix n w x)
  compatible_iff_bounded v w = (
    λ h. (join_lines v w, join_left v w, join_right v w h),
    λ b k l. L.compatible_of_bound (v k) (w k) (b.0 k) (b.1 k l) (b.2 k l),
  )

  -- Nil-extension is complete on the set, adds only Nil, and is the least such extension
  pub nil_complete : (set : ℕ → Bool) (v : Lines) → Complete n set (nil_lines set v)
  nil_complete set v k l h = subst (λ (b : Bool). is_absent (cond b (append_mark (v k) Nil) (v k)) ≡ false) (sym h) (filled_in (v k))
    where
      filled_in : (a : Mark) → is_absent (append_mark a Nil) ≡ false
      filled_in a = go (is_absent a) refl
        where
          go : (b : Bool) → is_absent a ≡ b → is_absent (append_mark a Nil) ≡ false
          go true h = ap is_absent (L.append_absent a Nil h)
          go false h = ap is_absent (L.append_present a Nil h) ∙ h

  pub nil_least : (set : ℕ → Bool) (v w : Lines) → Prefix n v w → ((k : ℕ) → k < n → set k ≡ true → is_absent (v k) ≡ true → w k ≡ Nil) →
      Prefix n (nil_lines set v) w
  nil_least set v w h only k l = go (set k) (is_absent (v k)) refl refl
    where
      go : (b a : Bool) → set k ≡ b → is_absent (v k) ≡ a → prefix_mark (cond (set k) (append_mark (v k) Nil) (v k)) (w k) ≡ true
      go true true p q = rw (p, L.append_absent (v k) Nil q) (L.prefix_same Nil (w k) (only k l p q))
      go true false p q = rw (p, L.append_present (v k) Nil q) (h k l)
      go false a p q = rw p (h k l)

  -- complete pages have no strict extension
  pub complete_no_strict_extension : (v w : Lines) → Complete n (λ k. true) v → Prefix n v w → (k : ℕ) → k < n → w k ≡ v k
  complete_no_strict_extension v w h j k l = L.prefix_present (v k) (w k) (j k l) (h k l refl)

  -- what every extension keeps, so append, join and Nil-extension too: readings and completeness; and a page with a reading is not trivial
  pub extension_keeps_valued : (v w : Lines) → Prefix n v w → Valued n v → Valued n w
  extension_keeps_valued v w h (k, l, e) =
      (k, l, subst (λ (x : Mark). is_reading x ≡ true) (sym (L.prefix_present (v k) (w k) (h k l) (L.reading_present (v k) e))) e)

  pub extension_keeps_complete : (set : ℕ → Bool) (v w : Lines) → Prefix n v w → Complete n set v → Complete n set w
  extension_keeps_complete set v w h c k l s = ap is_absent (L.prefix_present (v k) (w k) (h k l) (c k l s)) ∙ c k l s

  pub valued_not_trivial : (v : Lines) → Valued n v → Trivial n v → ⊥
  valued_not_trivial v (k, l, e) t = true≢false (sym (t k l) ∙ L.reading_not_nil (v k) e)
