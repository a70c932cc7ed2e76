-- A block that was read is good as the kind that it was read as.
use Rattle.std.proofs.Common.{ℕ, eqb, length, ◌≡◌, refl, sym, ap, ◌∙◌, Bool, true, false, cond, ◌&&◌, ◌||◌, List, eq-eqb, ne_eqb, Result, Ok, Err}
use Rattle.std.proofs.Math.Bool.{false≢true}
use Rattle.std.specs.Result.{is_ok}
use Rattle.below.specs.declared.refusals.Refusal.{Refusal}
use Rattle.below.specs.Refusals.{unless, granted, wrong_message, bad_block, other_hall, number, number_of}
use Rattle.below.proofs.Refused.{number_some}
use Rattle.records.specs.declared.stamp.Stamp.{Stamp}
use Rattle.blocks.specs.declared.body.Stamped.{Stamped}
use Rattle.blocks.specs.Frame.{block_size}
use Rattle.blocks.specs.Kinds.{Kind, good}
use Rattle.blocks.specs.Answers.{answer, Reads, stamp_in, body_in}
use Rattle.kinds.specs.Known.{known}
use Rattle.acts.specs.Named.{stamp_of, same_hall, own_row, row_tests, both_tests, both_found}

whole : (bytes : List ℕ) (test : Bool) → length bytes ≡ block_size → answer bytes test ≡ cond test 0 2
whole bytes test l = ap (λ (b : Bool). cond b (cond test 0 2) 1) (eq-eqb (length bytes) block_size l)

passed : (test : Bool) → granted ≡ cond test 0 2 → true ≡ test
passed true h = refl
passed false h = cc

failed : (e : Refusal) (test : Bool) → number e ≡ cond test 0 2 → false ≡ test
failed e true h = absurd (number_some e h)
failed e false h = refl

pub good_read : {A : Type 0} (k : Kind A) (bytes : List ℕ) (r : Result (Stamped A) Refusal) → length bytes ≡ block_size →
    Reads k bytes (number_of r) (stamp_in k r) (body_in k r) → is_ok r ≡ good k bytes
good_read k bytes (Ok s) l p = passed (good k bytes) (p.refused ∙ whole bytes _ l)
good_read k bytes (Err e) l p = failed e (good k bytes) (p.refused ∙ whole bytes _ l)

-- where nothing is refused, the blocks were what the step names
pub row_right : (r l h right : Bool) (late : ℕ) → eqb late granted ≡ l → row_tests r l h late (unless right wrong_message granted) ≡ granted → right ≡ true
row_right true true true true late e z = refl
row_right true true true false late e z = let c : ◌≡◌ {A = ℕ} wrong_message granted = z in absurd (false≢true (sym (ap (λ (n : ℕ). eqb n 5) c)))
row_right true true false right late e z = let c : ◌≡◌ {A = ℕ} other_hall granted = z in absurd (false≢true (sym (ap (λ (n : ℕ). eqb n 3) c)))
row_right true false h right late e z = absurd (false≢true (sym e ∙ ap (λ (n : ℕ). eqb n granted) z))
row_right false l h right late e z = let c : ◌≡◌ {A = ℕ} bad_block granted = z in absurd (false≢true (sym (ap (λ (n : ℕ). eqb n 2) c)))

pub both_right : (r l m h g right : Bool) (late : ℕ) → eqb late granted ≡ l → both_tests r l m h g late (unless right wrong_message granted) ≡ granted → right ≡ true
both_right true true true true g right late e z = row_right true true g right 0 refl z
both_right true true true false g right late e z = let c : ◌≡◌ {A = ℕ} other_hall granted = z in absurd (false≢true (sym (ap (λ (n : ℕ). eqb n 3) c)))
both_right true true false h g right late e z = let c : ◌≡◌ {A = ℕ} bad_block granted = z in absurd (false≢true (sym (ap (λ (n : ℕ). eqb n 2) c)))
both_right true false m h g right late e z = absurd (false≢true (sym e ∙ ap (λ (n : ℕ). eqb n granted) z))
both_right false l m h g right late e z = let c : ◌≡◌ {A = ℕ} bad_block granted = z in absurd (false≢true (sym (ap (λ (n : ℕ). eqb n 2) c)))

pub both_named : (hall : Stamp) (late : ℕ) (row message : List ℕ) (right meant : Bool) → both_found hall late row right message meant ≡ granted → right && meant ≡ true
both_named hall late row message right meant h =
    both_right (right || known row) (eqb late granted) (meant || known message) (own_row hall (stamp_of row)) (same_hall hall (stamp_of message)) (right && meant) late refl h

pub both_read : {A : Type 0} {own : Result A Refusal} {e : Refusal} {b : Bool} (m : Bool) → own ≡ Err e → b ≡ is_ok own → b && m ≡ true → ⊥
both_read {b = true} m p q t = false≢true (sym (q ∙ ap is_ok p))
both_read {b = false} m p q t = false≢true t

-- what comes of the row alone stands before the rest
pub row_stopped : (good place : Bool) (late own : ℕ) (e : Refusal) → number e ≡ unless good bad_block late → number e ≡ row_tests good (eqb late granted) place late own
row_stopped false place late own e h = h
row_stopped true place late own e h = h ∙ rw (ne_eqb late granted (λ z. number_some e (h ∙ z)))
