-- The public contract of this crate determines its answer and every lent byte.
use Rattle.std.proofs.Common.{◌≡◌, refl, sym, ◌∙◌}
use contract.Lifetimes.{Lfts}
use borrow.Fn.World.{ArgsD, ResD}
use borrow.Fn.Kinds.{sig_of, ended_of}
use denote.Triple.Clauses.{AtExit}
use Rattle.below.proofs.Refused.{answer_one}
use Rattle.hall.proofs.set_up.setup.Kinds as setup_kinds
use Rattle.hall.proofs.set_up.setup.Reads as setup

pub setup_unique : (κs : Lfts 1) (a : ArgsD (sig_of 1 setup_kinds.ps setup_kinds.r) κs) (x y : ResD (sig_of 1 setup_kinds.ps setup_kinds.r) κs)
    (s t : AtExit (ended_of 1 setup_kinds.ps setup_kinds.r) κs) → setup.Post κs a x s → setup.Post κs a y t → (x ≡ y) × (s.0.now ≡ t.0.now)
setup_unique κs a x y s t p q = (answer_one tt x y (p.answered ∙ sym q.answered) refl, p.left ∙ sym q.left)
