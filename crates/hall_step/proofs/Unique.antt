-- The public contract of this crate determines its answer and every lent byte.
use Rattle.std.proofs.Common.{◌≡◌, refl, sym, ◌∙◌}
use contract.Lifetimes.{Lfts}
use borrow.Fn.World.{ArgsD, ResD}
use borrow.Fn.Kinds.{sig_of, ended_of}
use denote.Triple.Clauses.{AtExit}
use Rattle.below.proofs.Refused.{answer_one}
use Rattle.hall_step.proofs.step.Kinds as step_kinds
use Rattle.hall_step.proofs.step.Reads as step

pub step_unique : (κs : Lfts 1) (a : ArgsD (sig_of 1 step_kinds.ps step_kinds.r) κs) (x y : ResD (sig_of 1 step_kinds.ps step_kinds.r) κs)
    (s t : AtExit (ended_of 1 step_kinds.ps step_kinds.r) κs) → step.Post κs a x s → step.Post κs a y t → (x ≡ y) × (s.0.now ≡ t.0.now)
step_unique κs a x y s t p q = (answer_one tt x y (p.answered ∙ sym q.answered) refl, p.left ∙ sym q.left)
