-- The public contract of this crate determines its answer and every lent byte: the row is its first argument, the message sent its third.
use Rattle.std.proofs.Common.{◌≡◌, refl, sym, ◌∙◌}
use contract.Lifetimes.{Lfts}
use borrow.Fn.World.{ArgsD, ResD}
use borrow.Fn.Kinds.{sig_of, ended_of}
use denote.Triple.Clauses.{AtExit}
use Rattle.below.proofs.Refused.{answer_one}
use Rattle.box_step.proofs.step.Kinds as step_kinds
use Rattle.box_step.proofs.step.Reads as step

pub step_unique : (κs : Lfts 3) (a : ArgsD (sig_of 3 step_kinds.ps step_kinds.r) κs) (x y : ResD (sig_of 3 step_kinds.ps step_kinds.r) κs)
    (s t : AtExit (ended_of 3 step_kinds.ps step_kinds.r) κs) → step.Post κs a x s → step.Post κs a y t →
    (x ≡ y) × ((s.0.now ≡ t.0.now) × (s.1.1.0.now ≡ t.1.1.0.now))
step_unique κs a x y s t p q = (answer_one tt x y (p.answered ∙ sym q.answered) refl, (p.row_left ∙ sym q.row_left, p.sent_left ∙ sym q.sent_left))
