-- What a caller found stands before the step: only a bad row comes before it. So where it found something, nothing is written.
use Rattle.std.proofs.Common.{ℕ, arith, ne_eqb, ◌≡◌, refl, sym, ◌∙◌, Bool, true, false, List}
use Rattle.below.specs.Refusals.{unless, granted, bad_block}
use Rattle.records.specs.declared.stamp.Stamp.{Stamp}
use Rattle.kinds.specs.Known.{known}
use Rattle.acts.specs.declared.step.Step.{Step}
use Rattle.acts.specs.Named.{named_refusal, own_act}
use Rattle.acts.specs.Answers.{Acts}
use Rattle.acts.proofs.Answered.{left}

late_number : (hall : Stamp) (late : ℕ) (x : Step) (row message : List ℕ) → (late ≡ granted → ⊥) → named_refusal hall late x row message ≡ unless (known row) bad_block late
unfolding named_refusal
late_number hall late x row message h = rw (ne_eqb late granted h)

late_some : (good : Bool) (late : ℕ) → (late ≡ granted → ⊥) → unless good bad_block late ≡ granted → ⊥
late_some true late h e = h e
late_some false late h e = omega (arith, e)

pub late_stands : (hall : Stamp) (late : ℕ) (x : Step) (row message a s : List ℕ) {n : ℕ} → (late ≡ granted → ⊥) → n ≡ unless (known row) bad_block late →
    Acts (named_refusal hall late x row message) (own_act x row message) n false a s a s
late_stands hall late x row message a s h e =
    let number = late_number hall late x row message h in left (λ z. late_some (known row) late h (sym number ∙ z)) (e ∙ sym number) refl refl refl
