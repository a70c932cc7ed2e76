-- Demand 3 holds of every hall that setup grants.
use Rattle.std.proofs.Common.{ℕ, ◌≤◌, ◌<◌, arith, leb, eqb, length, ◌≡◌, refl, sym, subst, Bool, true, false, cond, ◌&&◌, ◌⊎◌, inl, inr, ⊎_elim, List, eqb-true, leb-true}
use Rattle.below.specs.Refusals.{unless, granted, wrong_length, out_of_range}
use Rattle.below.proofs.Tests.{and_left, and_right}
use Rattle.below.proofs.Granted.{unless_held, unless_later, answer_granted}
use Rattle.rounds.specs.declared.setup.Setup.{Setup}
use Rattle.rounds.specs.Setups.{setup_in_range}
use Rattle.acts.specs.declared.step.Step.{Step}
use Rattle.hall.specs.Halls.{hall_size, fresh_hall, setup_refusal, setup_after}
use Rattle.hall.specs.Steps.{granting, hall_refusal, hall_after}
use Rattle.promise.specs.Runs.{page_of, LearntBy}
use Rattle.promise.specs.Demand3.{Demand3}
use Rattle.promise.proofs.GoodHalls.{GoodHall}
use Rattle.promise.proofs.EveryStep.{every_step}
use Rattle.promise.proofs.PagesOnBytes.{whole, pages_gain, pages_agree, pages_not_blank, readings_offered, messages_counted}
use Rattle.promise.proofs.NeverRefused.{never_refused}

-- a refused step leaves the hall, a granted one a page or its learning
page_step : {instance : ℕ} {s : Setup} {count : ℕ} {hall : List ℕ} → GoodHall instance s count hall → (x : Step) (i : ℕ) → i < s.readers →
    (page_of (hall_after hall x) i ≡ page_of hall i) ⊎ ((hall_refusal hall x ≡ granted) × LearntBy s hall (hall_after hall x) x i)
unfolding hall_after
page_step {s = s} {hall = hall} g x i l = go (eqb (hall_refusal hall x) granted) refl
  where
    go : (b : Bool) → eqb (hall_refusal hall x) granted ≡ b →
        (page_of (cond b (granting hall x) hall) i ≡ page_of hall i) ⊎ ((hall_refusal hall x ≡ granted) × LearntBy s hall (cond b (granting hall x) hall) x i)
    go true e = ⊎_elim inl (λ w. inr (eqb-true _ _ e, w)) ((every_step g x (eqb-true _ _ e)).pages i l)
    go false e = inl refl

pub fresh_demand_3 : (instance : ℕ) (s : Setup) → setup_in_range s ≡ true → instance ≤ 65535 → Demand3 s (fresh_hall instance s)
fresh_demand_3 instance s range small =
    record {
      pages_gain = pages_gain instance s range small;
      pages_agree = pages_agree instance s range small;
      readings_offered = readings_offered instance s range small;
      never_all_blank = pages_not_blank instance s range small;
      pages_learnt = λ steps x i l. page_step (whole instance s range small steps).reached.good x i l;
      never_refused = never_refused instance s range small;
      messages_counted = messages_counted instance s range small;
    }

-- whatever bytes were lent to setup, and whatever numbers it was given: where it grants, demand 3 holds from then on
pub demand_3 : (lent : List ℕ) (instance : ℕ) (s : Setup) → setup_refusal lent instance s ≡ granted → Demand3 s (setup_after lent instance s)
unfolding setup_refusal setup_after
demand_3 lent instance s h =
    subst (Demand3 s) (sym (answer_granted (setup_refusal lent instance s) (fresh_hall instance s) lent h))
    (fresh_demand_3 instance s (and_right (leb instance 65535) (setup_in_range s) tests)
    (leb-true instance 65535 (and_left (leb instance 65535) (setup_in_range s) tests)))
  where
    tests : leb instance 65535 && setup_in_range s ≡ true
    tests =
        unless_held (leb instance 65535 && setup_in_range s) out_of_range granted (omega arith)
        (unless_later (eqb (length lent) hall_size) wrong_length (unless (leb instance 65535 && setup_in_range s) out_of_range granted) (omega arith) h)
