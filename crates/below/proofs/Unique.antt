-- What it means that a contract determines its function's answer, said of the contract itself: of two results that it permits for the
-- same arguments, both are the same. A public function's contract is `Reads.Post`, which the prover reads from its `ensures`.
use Rattle.std.proofs.Common.{ℕ, ◌≡◌, List}
use contract.Lifetimes.{Lfts}
use borrow.Fn.Kinds.{ParamKind, ResultKind, Out, sig_of, ended_of}
use borrow.Fn.World.{ArgsD, ResD}
use denote.Triple.Clauses.{AtExit}

abbrev pub Determines : (n : ℕ) (ps : List (ParamKind n)) (r : ResultKind n) → Out n ps r → Type 0
Determines n ps r Post =
    (κs : Lfts n) (a : ArgsD (sig_of n ps r) κs) (x y : ResD (sig_of n ps r) κs) (s t : AtExit (ended_of n ps r) κs) → Post κs a x s → Post κs a y t → x ≡ y
