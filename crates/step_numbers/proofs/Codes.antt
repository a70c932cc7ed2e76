-- What `code_at` tells of a number: the step that has it, or that no step has.
use Rattle.std.proofs.Common.{ℕ, zero, suc, ◌≤◌, ◌<◌, arith, eqb, ne_eqb, leb-true, ◌≡◌, refl, sym, ap, subst, ◌∙◌, true, false, Option, Some, None, Result, Ok, Err}
use Rattle.std.specs.Option.{ok_or}
use Rattle.below.specs.declared.refusals.Refusal.{Refusal}
use Rattle.below.proofs.Tests.{and_right, not_true_false}
use Rattle.acts.specs.declared.code.Code.{Code}
use Rattle.acts.specs.Codes.{code_number, code_at}
use Rattle.hall.specs.Steps.{is_code}

Told : ℕ → Option Code → Type 0
Told n (Some k) = (code_number k ≡ n) × (is_code n ≡ true)
Told n None = is_code n ≡ false

-- no step has a number above 13
far : (n : ℕ) → 13 < n → code_at n ≡ None
unfolding code_at
far n h =
    rw (
      off 1 (omega arith),
      off 2 (omega arith),
      off 3 (omega arith),
      off 4 (omega arith),
      off 5 (omega arith),
      off 6 (omega arith),
      off 7 (omega arith),
      off 8 (omega arith),
      off 9 (omega arith),
      off 10 (omega arith),
      off 11 (omega arith),
      off 12 (omega arith),
      off 13 (omega arith),
    )
  where
    off : (k : ℕ) → k ≤ 13 → eqb n k ≡ false
    off k l = ne_eqb n k (λ e. omega (arith, e))

told_far : (n : ℕ) → 13 < n → Told n (code_at n)
unfolding Told
told_far n h = subst (Told n) (sym (far n h)) (not_true_false (is_code n) (λ e. omega (arith, leb-true n 13 (and_right _ _ e))))

told : (n : ℕ) → Told n (code_at n)
unfolding Told code_at
told zero = refl
told (suc zero) = (refl, refl)
told (suc (suc zero)) = (refl, refl)
told (suc (suc (suc zero))) = (refl, refl)
told (suc (suc (suc (suc zero)))) = (refl, refl)
told (suc (suc (suc (suc (suc zero))))) = (refl, refl)
told (suc (suc (suc (suc (suc (suc zero)))))) = (refl, refl)
told (suc (suc (suc (suc (suc (suc (suc zero))))))) = (refl, refl)
told (suc (suc (suc (suc (suc (suc (suc (suc zero)))))))) = (refl, refl)
told (suc (suc (suc (suc (suc (suc (suc (suc (suc zero))))))))) = (refl, refl)
told (suc (suc (suc (suc (suc (suc (suc (suc (suc (suc zero)))))))))) = (refl, refl)
told (suc (suc (suc (suc (suc (suc (suc (suc (suc (suc (suc zero))))))))))) = (refl, refl)
told (suc (suc (suc (suc (suc (suc (suc (suc (suc (suc (suc (suc zero)))))))))))) = (refl, refl)
told (suc (suc (suc (suc (suc (suc (suc (suc (suc (suc (suc (suc (suc zero))))))))))))) = (refl, refl)
told (suc (suc (suc (suc (suc (suc (suc (suc (suc (suc (suc (suc (suc (suc code)))))))))))))) = told_far (suc (suc (suc (suc (suc (suc (suc (suc (suc (suc (suc (suc (suc (suc code)))))))))))))) (omega arith)

pub code_told : (n : ℕ) (k : Code) → code_at n ≡ Some k → code_number k ≡ n
unfolding Told
code_told n k e = (subst (Told n) e (told n)).0

pub code_is : (n : ℕ) (k : Code) → code_at n ≡ Some k → is_code n ≡ true
unfolding Told
code_is n k e = (subst (Told n) e (told n)).1

pub code_none : (n : ℕ) → code_at n ≡ None → is_code n ≡ false
unfolding Told
code_none n e = subst (Told n) e (told n)

-- the same of the code's own look at a number
pub code_found : (n : ℕ) (o : Option Code) (d : Refusal) {k : Code} {r : Result Code Refusal} → o ≡ code_at n → r ≡ ok_or o d → r ≡ Ok k → code_number k ≡ n
code_found n (Some j) d {k} e p q = let s : j ≡ k = cc in code_told n k (sym e ∙ ap Some s)
code_found n None d e p q = cc

pub code_missed : (n : ℕ) (o : Option Code) (d f : Refusal) {r : Result Code Refusal} → o ≡ code_at n → r ≡ ok_or o d → r ≡ Err f → (is_code n ≡ false) × (f ≡ d)
code_missed n (Some j) d f e p q = cc
code_missed n None d f e p q = (code_none n (sym e), cc)
