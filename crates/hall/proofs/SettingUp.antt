-- Numbers in range fit the bytes that they are kept in.
use Rattle.std.proofs.Common.{◌≡◌, refl, sym, ◌∙◌, Bool, true, false, cond, ◌&&◌, Result, Ok, Err}
use Rattle.below.specs.declared.refusals.Refusal.{Refusal}
use Rattle.below.specs.declared.refusals.Refusal.TheVariants.{OutOfRange}
use Rattle.below.proofs.Tests.{and_right}
use Rattle.rounds.specs.declared.setup.Setup.{Setup}
use Rattle.rounds.specs.Setups.{setup_in_range}
use Rattle.blocks.proofs.Ranges.{SetupFits, setup_fits}

-- once the last refusal has gone
abbrev ranging : Bool → Result (Unit {0}) Refusal
ranging b = cond b (Ok tt) (Err OutOfRange)

let_in : {u : Unit {0}} (b : Bool) → Ok u ≡ ranging b → b ≡ true
let_in true h = refl
let_in false h = cc

pub numbers_fit : (s : Setup) {u : Unit {0}} (a b : Bool) → b ≡ setup_in_range s → Ok u ≡ ranging (a && b) → SetupFits s
numbers_fit s a b e h = setup_fits s (sym e ∙ and_right a b (let_in (a && b) h))
