-- The contracts of the C interface determine their answers and every lent byte and number.
use Rattle.std.proofs.Common.{◌≡◌, sym, ◌∙◌}
use contract.Lifetimes.{Lfts}
use borrow.Fn.World.{ArgsD, ResD}
use borrow.Fn.Kinds.{sig_of, ended_of}
use denote.Triple.Clauses.{AtExit}
use Rattle.chinchor.proofs.chinchor_box_step.Kinds as box_kinds
use Rattle.chinchor.proofs.chinchor_box_step.Reads as box
use Rattle.chinchor.proofs.chinchor_hall_setup.Kinds as setup_kinds
use Rattle.chinchor.proofs.chinchor_hall_setup.Reads as setup
use Rattle.chinchor.proofs.chinchor_hall_step.Kinds as step_kinds
use Rattle.chinchor.proofs.chinchor_hall_step.Reads as step
use Rattle.chinchor.proofs.chinchor_book.Kinds as book_kinds
use Rattle.chinchor.proofs.chinchor_book.Reads as book

-- the row is the first buffer, the message sent the third
pub box_step_unique : (κs : Lfts 3) (a : ArgsD (sig_of 3 box_kinds.ps box_kinds.r) κs) (x y : ResD (sig_of 3 box_kinds.ps box_kinds.r) κs)
    (s t : AtExit (ended_of 3 box_kinds.ps box_kinds.r) κs) → box.Post κs a x s → box.Post κs a y t →
    (x ≡ y) × ((s.0.now ≡ t.0.now) × (s.1.1.0.now ≡ t.1.1.0.now))
box_step_unique κs a x y s t p q = (p.answered ∙ sym q.answered, (p.row_left ∙ sym q.row_left, p.sent_left ∙ sym q.sent_left))

pub hall_setup_unique : (κs : Lfts 1) (a : ArgsD (sig_of 1 setup_kinds.ps setup_kinds.r) κs) (x y : ResD (sig_of 1 setup_kinds.ps setup_kinds.r) κs)
    (s t : AtExit (ended_of 1 setup_kinds.ps setup_kinds.r) κs) → setup.Post κs a x s → setup.Post κs a y t → (x ≡ y) × (s.0.now ≡ t.0.now)
hall_setup_unique κs a x y s t p q = (p.answered ∙ sym q.answered, p.left ∙ sym q.left)

pub hall_step_unique : (κs : Lfts 1) (a : ArgsD (sig_of 1 step_kinds.ps step_kinds.r) κs) (x y : ResD (sig_of 1 step_kinds.ps step_kinds.r) κs)
    (s t : AtExit (ended_of 1 step_kinds.ps step_kinds.r) κs) → step.Post κs a x s → step.Post κs a y t → (x ≡ y) × (s.0.now ≡ t.0.now)
hall_step_unique κs a x y s t p q = (p.answered ∙ sym q.answered, p.left ∙ sym q.left)

-- the lent row of numbers is the second buffer
pub book_unique : (κs : Lfts 2) (a : ArgsD (sig_of 2 book_kinds.ps book_kinds.r) κs) (x y : ResD (sig_of 2 book_kinds.ps book_kinds.r) κs)
    (s t : AtExit (ended_of 2 book_kinds.ps book_kinds.r) κs) → book.Post κs a x s → book.Post κs a y t → (x ≡ y) × (s.1.0.now ≡ t.1.0.now)
book_unique κs a x y s t p q = (p.answered ∙ sym q.answered, p.left ∙ sym q.left)
