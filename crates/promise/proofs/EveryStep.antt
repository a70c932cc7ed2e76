-- Every granted step from a good hall, whatever its seven numbers: the hall is good again, and the step is one of the thirteen.
use Rattle.std.proofs.Common.{ℕ, zero, suc, arith, ◌≡◌, List}
use Rattle.below.specs.Refusals.{granted}
use Rattle.rounds.specs.declared.setup.Setup.{Setup}
use Rattle.acts.specs.declared.step.Step.{Step}
use Rattle.hall.specs.Steps.{hall_refusal}
use Rattle.hall.proofs.StepFacts.{exists_range}
use Rattle.promise.proofs.GoodHalls.{GoodHall}
use Rattle.promise.proofs.HallNumbers.{HallGranted, hall_granted}
use Rattle.promise.proofs.Stepped.{step_of, Stepped}
use Rattle.promise.proofs.RacksOnBytes.{offer_stepped, prepare_stepped, fast_stepped, blank_stepped}
use Rattle.promise.proofs.BoxesOnBytes.{join_stepped, take_page_stepped, take_reading_stepped}
use Rattle.promise.proofs.CoordinatorsOnBytes.{start_stepped, hear_stepped, open_stepped}
use Rattle.promise.proofs.ReadersOnBytes.{note_vote_stepped, note_blank_stepped, learn_stepped}

module _ {instance : ℕ} {s : Setup} {count : ℕ} {hall : List ℕ} (g : GoodHall instance s count hall) where
  by_code : (code a j n c cf v : ℕ) → HallGranted g (step_of code a j n c cf v) → Stepped instance s count hall (step_of code a j n c cf v)
  by_code zero a j n c cf v f = absurd (omega (arith, (exists_range s count _ f.exists).0))
  by_code (suc zero) a j n c cf v f = offer_stepped g a j n c cf v f
  by_code (suc (suc zero)) a j n c cf v f = start_stepped g a j n c cf v f
  by_code (suc (suc (suc zero))) a j n c cf v f = join_stepped g a j n c cf v f
  by_code (suc (suc (suc (suc zero)))) a j n c cf v f = hear_stepped g a j n c cf v f
  by_code (suc (suc (suc (suc (suc zero))))) a j n c cf v f = open_stepped g a j n c cf v f
  by_code (suc (suc (suc (suc (suc (suc zero)))))) a j n c cf v f = prepare_stepped g a j n c cf v f
  by_code (suc (suc (suc (suc (suc (suc (suc zero))))))) a j n c cf v f = fast_stepped g a j n c cf v f
  by_code (suc (suc (suc (suc (suc (suc (suc (suc zero)))))))) a j n c cf v f = blank_stepped g a j n c cf v f
  by_code (suc (suc (suc (suc (suc (suc (suc (suc (suc zero))))))))) a j n c cf v f = take_page_stepped g a j n c cf v f
  by_code (suc (suc (suc (suc (suc (suc (suc (suc (suc (suc zero)))))))))) a j n c cf v f = take_reading_stepped g a j n c cf v f
  by_code (suc (suc (suc (suc (suc (suc (suc (suc (suc (suc (suc zero))))))))))) a j n c cf v f = note_vote_stepped g a j n c cf v f
  by_code (suc (suc (suc (suc (suc (suc (suc (suc (suc (suc (suc (suc zero)))))))))))) a j n c cf v f = note_blank_stepped g a j n c cf v f
  by_code (suc (suc (suc (suc (suc (suc (suc (suc (suc (suc (suc (suc (suc zero))))))))))))) a j n c cf v f = learn_stepped g a j n c cf v f
  by_code (suc (suc (suc (suc (suc (suc (suc (suc (suc (suc (suc (suc (suc (suc code)))))))))))))) a j n c cf v f = absurd (omega (arith, (exists_range s count _ f.exists).1))

  pub every_step : (x : Step) → hall_refusal hall x ≡ granted → Stepped instance s count hall x
  every_step x h = by_code x.code x.agent x.message x.n x.c x.cf x.reading (hall_granted g x h)
