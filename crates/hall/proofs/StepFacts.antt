-- What is known where a step exists, and where a number that stands for itself is 0.
use Rattle.std.proofs.Common.{ℕ, ◌≤◌, ◌<◌, eqb, ltb, eqb-true, ltb-true, leb-true, ◌≡◌, refl, sym, ap, ◌∙◌, Bool, true, false, not, ◌&&◌, ◌||◌, ⊎_elim}
use borrow.Author.Tests.{eqb-false}
use Rattle.std.proofs.Math.Bool.{false≢true}
use Rattle.below.specs.Refusals.{unless, granted}
use Rattle.below.proofs.Tests.{and_left, and_right, or_cases}
use Rattle.rounds.specs.declared.setup.Setup.{Setup}
use Rattle.acts.specs.declared.step.Step.{Step}
use Rattle.acts.specs.Named.{names}
use Rattle.hall.specs.Steps.{agents_for, is_code, step_exists}

module _ (s : Setup) (count : ℕ) (x : Step) (exists : step_exists s count x ≡ true) where
  pub exists_code : is_code x.code ≡ true
  unfolding step_exists
  exists_code = and_left (is_code x.code) _ (and_left (is_code x.code && ltb x.agent (agents_for s x.code)) _ exists)

  pub exists_agent : x.agent < agents_for s x.code
  unfolding step_exists
  exists_agent = ltb-true _ _ (and_right (is_code x.code) _ (and_left (is_code x.code && ltb x.agent (agents_for s x.code)) _ exists))

  pub exists_message : names x.code ≡ true → x.message < count
  unfolding step_exists
  exists_message n = ltb-true _ _ (⊎_elim (λ e. absurd (clash e)) (λ e. e) (or_cases (not (names x.code)) _ last))
    where
      last : not (names x.code) || ltb x.message count ≡ true
      last = and_right (is_code x.code && ltb x.agent (agents_for s x.code)) _ exists

      clash : not (names x.code) ≡ true → ⊥
      clash e = false≢true (ap not (sym n) ∙ e)

-- a refusal whose number is worked out: it is 0, and so is what comes after it
pub own_number : (n later : ℕ) → unless (eqb n granted) n later ≡ granted → (n ≡ granted) × (later ≡ granted)
own_number n later h = go (eqb n granted) refl h
  where
    go : (b : Bool) → eqb n granted ≡ b → unless b n later ≡ granted → (n ≡ granted) × (later ≡ granted)
    go true e k = (eqb-true _ _ e, k)
    go false e k = absurd (eqb-false _ _ e k)

pub code_range : (code : ℕ) → is_code code ≡ true → (1 ≤ code) × (code ≤ 13)
code_range code h = (ltb-true 0 code (and_left (ltb 0 code) _ h), leb-true code 13 (and_right (ltb 0 code) _ h))

pub exists_range : (s : Setup) (count : ℕ) (x : Step) → step_exists s count x ≡ true → (1 ≤ x.code) × (x.code ≤ 13)
exists_range s count x e = code_range x.code (exists_code s count x e)
