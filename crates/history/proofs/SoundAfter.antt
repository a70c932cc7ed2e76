-- A move that opens no round keeps the history sound if its new votes fit and extend the older ones, and its new
-- readings were offered.
use Rattle.std.proofs.Common.{ℕ, ◌≡◌, ◌⊎◌, ⊎_elim}
use Rattle.pages.specs.declared.line.Reading.{Reading}
use Rattle.pages.specs.declared.line.Mark.TheVariants.{Reading as reads}
use Rattle.pages.specs.declared.page.Page.{Page}
use Rattle.history.specs.History.{◌∈◌, Offered, History, Grows}
use Rattle.history.specs.Sound.{Fits, Chain, Sound}
use Rattle.history.proofs.FactsStay.{offered_stays, fits_stays, grounded_stays}
use Rattle.history.proofs.ChoosableBefore.{choosable_before}

pub sound_after : {P A : ℕ} {H H' : History} → Sound P A H → Grows H H' → ((r : ℕ) → H'.opened r ≡ H.opened r) →
    ((b r : ℕ) (p : Page) → p ∈ H'.votes b r → (p ∈ H.votes b r) ⊎ Fits P (H'.opened r) (λ k. H'.said k r) p) →
    ((b r : ℕ) → Chain (H'.votes b r)) →
    ((k r : ℕ) (v : Reading) → H'.said k r ≡ reads v → (H.said k r ≡ reads v) ⊎ Offered H'.offers v) → Sound P A H'
sound_after {P} {A} {H} {H'} S g same voted chains offered =
    record {
      racks = S.racks;
      voted = λ b r p v. ⊎_elim (λ w. fits_stays g P r p (S.voted b r p w)) (λ f. f) (voted b r p v);
      chains = chains;
      offered = λ k r v e. ⊎_elim (λ d. offered_stays g v (S.offered k r v d)) (λ o. o) (offered k r v e);
      grounded = λ r. rw (same r) (grounded_stays g P (H.opened r) (S.grounded r));
      safe = λ r j k m l h a c. rw (same r) (S.safe r j k m l h a (choosable_before A j k m g c));
    }
