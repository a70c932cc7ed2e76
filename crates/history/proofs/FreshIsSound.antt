-- The history of a freshly set up hall is sound: nobody voted, and every box is past the rounds below Zero's number.
use Rattle.std.proofs.Common.{ℕ, ◌≤◌, ◌<◌, arith, ap, ⊎_elim, []}
use Rattle.std.proofs.Math.Bool.{false≢true}
use mathlib.Core.List.Memᴰ
use Rattle.pages.specs.declared.line.Mark.{Mark}
use Rattle.pages.specs.Lines.{is_reading}
use Rattle.pages.specs.Racks.{most_racks}
use Rattle.history.specs.History.{shut, free, Choosable}
use Rattle.history.specs.Sound.{Grounded, Agrees, Sound}
use Rattle.history.specs.Moves.{fresh}
use Rattle.history.proofs.Updates.{put_cases}
use Rattle.history.proofs.MajoritiesMeet.{most_some}

nothing_yet : (A z cf j k : ℕ) (m : Mark) → j < z → Choosable A (fresh z cf) j k m → ⊥
nothing_yet A z cf j k m l c = let (b, _, x) = most_some c in ⊎_elim (λ h. omega arith) (λ w. Memᴰ.not-nil w.cast) x

pub fresh_sound : (P A z cf : ℕ) → P ≤ most_racks → Sound P A (fresh z cf)
fresh_sound P A z cf l =
    record {
      racks = l;
      voted = λ b r p v. absurd (Memᴰ.not-nil v);
      chains = λ b r. tt;
      offered = λ k r v e. absurd (false≢true (ap is_reading e));
      grounded = λ r. put_cases (λ i o. Grounded P [] o) (λ i. shut) z (free cf) tt r tt;
      safe =
          λ r j k m l h a c.
          put_cases (λ i o. j < i → Agrees o k m) (λ i. shut) z (free cf) (λ low. nothing_yet A z cf j k m low c) r (λ low. tt) l;
    }
