-- Laws of refusals: what a granted answer says of the conditions, and which answer a step gives.
use Rattle.std.proofs.Common.{ℕ, ◌<◌, arith, eqb, eqb-true, eq-eqb, ne_eqb, ◌≡◌, refl, sym, ◌∙◌, Bool, true, false, cond}
use Rattle.below.specs.Refusals.{unless, granted}

-- granted: the condition held, and so did those after it
pub unless_held : (b : Bool) (number later : ℕ) → 0 < number → unless b number later ≡ granted → b ≡ true
unless_held true number later l h = refl
unless_held false number later l h = absurd (omega (arith, l, h))

pub unless_later : (b : Bool) (number later : ℕ) → 0 < number → unless b number later ≡ granted → later ≡ granted
unless_later true number later l h = h
unless_later false number later l h = absurd (omega (arith, l, h))

module _ {A : Type 0} where
  -- what a step answers where it is granted, and where it is not
  pub answer_granted : (number : ℕ) (done kept : A) → number ≡ granted → cond (eqb number granted) done kept ≡ done
  answer_granted number done kept h = rw (eq-eqb number granted h)

  pub answer_refused : (number : ℕ) (done kept : A) → (number ≡ granted → ⊥) → cond (eqb number granted) done kept ≡ kept
  answer_refused number done kept h = rw (ne_eqb number granted h)

  -- the number that a step answers is that of its refusal
  pub answer_number : (number_of : A → ℕ) (number : ℕ) (done kept : A) → number_of done ≡ granted → number_of kept ≡ number →
      number_of (cond (eqb number granted) done kept) ≡ number
  answer_number number_of number done kept p q = go (eqb number granted) refl
    where
      go : (b : Bool) → eqb number granted ≡ b → number_of (cond b done kept) ≡ number
      go true e = p ∙ sym (eqb-true number granted e)
      go false e = q
