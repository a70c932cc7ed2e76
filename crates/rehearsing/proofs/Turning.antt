-- Turns, by the ways through the code.
use Rattle.std.proofs.Common.{ℕ, ◌+◌, ◌≤◌, arith, length, eq-eqb, ne_eqb, ◌≡◌, refl, sym, ap, subst, ◌∙◌, List, []}
use Rattle.below.specs.declared.refusals.Refusal.{Refusal}
use Rattle.below.specs.Refusals.{granted, number}
use Rattle.below.proofs.Refused.{number_some}
use Rattle.words.proofs.Splices.{splice_none}
use Rattle.hall.specs.Halls.{setup_refusal, Sets}
use Rattle.hall.specs.Steps.{hall_refusal, Steps as Stepped}
use Rattle.lines.specs.Texts.{answer_text, answer_room, Put, PutIn}
use Rattle.lines.proofs.Writing.{put_with_room}
use Rattle.rehearsing.specs.declared.rehearsal.Stage.{Stage}
use Rattle.rehearsing.specs.declared.rehearsal.Stage.TheVariants.{Steps, Over}
use Rattle.rehearsing.specs.declared.rehearsal.Rehearsal.{Rehearsal}
use Rattle.rehearsing.specs.Rehearsals.{instance_in, setup_in, step_in, messages_in}
use Rattle.rehearsing.specs.Turns.{beginning, setup_turn, step_turn, Turned}

-- the setup line
module _ (hall numbers : List ℕ) {hall' old after : List ℕ} {at next : ℕ} {r : Rehearsal} where
  pub setup_refused : (e : Refusal) {n : ℕ} → Sets hall hall' (instance_in numbers) (setup_in numbers) (number e) → n ≡ number e → at + answer_room ≤ length old →
      PutIn answer_room at (answer_text n 0) old after next → r ≡ beginning Over → Turned (setup_turn hall numbers) at hall' old after r next
  unfolding setup_turn
  setup_refused e s m l p b =
      rw (ne_eqb (setup_refusal hall (instance_in numbers) (setup_in numbers)) granted (λ z. number_some e (s.answered ∙ z)))
      (record { played = b; left = s.left; printed = subst (λ (x : ℕ). Put at (answer_text x 0) old after next) (m ∙ s.answered) (put_with_room l p) })

  pub setup_granted : {count : ℕ} → Sets hall hall' (instance_in numbers) (setup_in numbers) granted → at + answer_room ≤ length old →
      count ≡ messages_in hall' → PutIn answer_room at (answer_text 0 count) old after next →
      r ≡ beginning (Steps (setup_in numbers).readers (setup_in numbers).racks) → Turned (setup_turn hall numbers) at hall' old after r next
  unfolding setup_turn
  setup_granted s l m p b =
      rw (eq-eqb (setup_refusal hall (instance_in numbers) (setup_in numbers)) granted (sym s.answered))
      (record {
        played = b;
        left = s.left;
        printed = subst (λ (x : ℕ). Put at (answer_text 0 x) old after next) (m ∙ ap messages_in s.left) (put_with_room l p);
      })

  -- a step's line
  pub step_made : {refusal number count : ℕ} {stage : Stage} → Stepped hall hall' (step_in numbers) number → refusal ≡ number → at + answer_room ≤ length old → count ≡ messages_in hall' →
      PutIn answer_room at (answer_text refusal count) old after next → r ≡ beginning stage → Turned (step_turn stage hall numbers) at hall' old after r next
  unfolding step_turn
  step_made {count = count} s f l m p e =
      record {
        played = e;
        left = s.left;
        printed =
            subst (λ (x : ℕ). Put at (answer_text (hall_refusal hall (step_in numbers)) x) old after next) (m ∙ ap messages_in s.left)
            (subst (λ (x : ℕ). Put at (answer_text x count) old after next) (f ∙ s.answered) (put_with_room l p));
      }

-- nothing printed
pub put_nothing : (at : ℕ) (old : List ℕ) → Put at [] old old at
put_nothing at old = record { spliced = record { is = sym (splice_none at old); kept = refl }; ends = omega arith }
