-- The contracts of `perform` and of `act` determine their answers and every lent byte (the two buffers are their seventh and eighth
-- argument), and that of `Code::of` its answer.
use Rattle.std.proofs.Common.{◌≡◌, false, sym, ◌∙◌}
use contract.Lifetimes.{Lfts}
use borrow.Fn.World.{ArgsD, ResD}
use borrow.Fn.Kinds.{sig_of, ended_of}
use denote.Triple.Clauses.{AtExit}
use Rattle.below.proofs.Unique.{Determines}
use Rattle.below.proofs.Refused.{answer_one}
use Rattle.acts.proofs.code.Code.of.Kinds as of_kinds
use Rattle.acts.proofs.code.Code.of.Reads as of_reads
use Rattle.acts.proofs.acts.perform.Kinds as perform_kinds
use Rattle.acts.proofs.acts.perform.Reads as perform
use Rattle.acts.proofs.by_number.act.Kinds as act_kinds
use Rattle.acts.proofs.by_number.act.Reads as act

pub perform_unique : (κs : Lfts 4) (a : ArgsD (sig_of 4 perform_kinds.ps perform_kinds.r) κs) (x y : ResD (sig_of 4 perform_kinds.ps perform_kinds.r) κs)
    (s t : AtExit (ended_of 4 perform_kinds.ps perform_kinds.r) κs) → perform.Post κs a x s → perform.Post κs a y t →
    (x ≡ y) × ((s.1.1.1.1.1.1.0.now ≡ t.1.1.1.1.1.1.0.now) × (s.1.1.1.1.1.1.1.0.now ≡ t.1.1.1.1.1.1.1.0.now))
perform_unique κs a x y s t p q = (answer_one false x y (p.numbered ∙ sym q.numbered) (p.sending ∙ sym q.sending), (p.kept ∙ sym q.kept, p.told ∙ sym q.told))

pub act_unique : (κs : Lfts 4) (a : ArgsD (sig_of 4 act_kinds.ps act_kinds.r) κs) (x y : ResD (sig_of 4 act_kinds.ps act_kinds.r) κs)
    (s t : AtExit (ended_of 4 act_kinds.ps act_kinds.r) κs) → act.Post κs a x s → act.Post κs a y t →
    (x ≡ y) × ((s.1.1.1.1.1.1.0.now ≡ t.1.1.1.1.1.1.0.now) × (s.1.1.1.1.1.1.1.0.now ≡ t.1.1.1.1.1.1.1.0.now))
act_unique κs a x y s t p q =
    ((λ i. record { refusal = (p.numbered ∙ sym q.numbered) i; sends = (p.sending ∙ sym q.sending) i }), (p.kept ∙ sym q.kept, p.told ∙ sym q.told))

pub of_unique : Determines 0 of_kinds.ps of_kinds.r of_reads.Post
of_unique κs a x y s t p q = p ∙ sym q
