-- Each public contract of this crate determines its answer and every lent byte.
use Rattle.std.proofs.Common.{◌≡◌, sym, ◌∙◌}
use contract.Lifetimes.{Lfts}
use borrow.Fn.World.{ArgsD, ResD}
use borrow.Fn.Kinds.{sig_of, ended_of}
use denote.Triple.Clauses.{AtExit}
use Rattle.below.proofs.Unique.{Determines}
use Rattle.rehearsing.proofs.rehearsal.Rehearsal.over.Kinds as over_kinds
use Rattle.rehearsing.proofs.rehearsal.Rehearsal.over.Reads as over
use Rattle.rehearsing.proofs.playing.play.Kinds as play_kinds
use Rattle.rehearsing.proofs.playing.play.Reads as play
use Rattle.rehearsing.proofs.playing.end.Kinds as end_kinds
use Rattle.rehearsing.proofs.playing.end.Reads as end

pub over_unique : Determines 0 over_kinds.ps over_kinds.r over.Post
over_unique κs a x y s t p q = p ∙ sym q

pub play_unique : (κs : Lfts 3) (a : ArgsD (sig_of 3 play_kinds.ps play_kinds.r) κs) (x y : ResD (sig_of 3 play_kinds.ps play_kinds.r) κs)
    (s t : AtExit (ended_of 3 play_kinds.ps play_kinds.r) κs) → play.Post κs a x s → play.Post κs a y t →
    (x ≡ y) × ((s.0.now ≡ t.0.now) × (s.1.1.1.0.now ≡ t.1.1.1.0.now))
play_unique κs a x y s t p q =
    (λ i. record { rehearsal = (p.played ∙ sym q.played) i; to = (p.ends ∙ sym q.ends) i }, (p.left ∙ sym q.left, p.printed ∙ sym q.printed))

pub end_unique : (κs : Lfts 2) (a : ArgsD (sig_of 2 end_kinds.ps end_kinds.r) κs) (x y : ResD (sig_of 2 end_kinds.ps end_kinds.r) κs)
    (s t : AtExit (ended_of 2 end_kinds.ps end_kinds.r) κs) → end.Post κs a x s → end.Post κs a y t →
    (x ≡ y) × ((s.0.now ≡ t.0.now) × (s.1.1.0.now ≡ t.1.1.0.now))
end_unique κs a x y s t p q =
    (λ i. record { rehearsal = (p.played ∙ sym q.played) i; to = (p.ends ∙ sym q.ends) i }, (p.left ∙ sym q.left, p.printed ∙ sym q.printed))
