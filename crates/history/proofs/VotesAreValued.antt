-- A vote has a reading, and no line beyond the racks of the hall.
use Rattle.std.proofs.Common.{ℕ, ◌<◌, ◌≡◌, true, List}
use Rattle.pages.specs.declared.line.Mark.{Mark}
use Rattle.pages.specs.declared.page.Page.{Page}
use Rattle.pages.specs.Lines.{is_reading}
use Rattle.pages.specs.Pages.{at, valued_of}
use Rattle.history.specs.History.{◌∈◌, Opened, shut, free, fixed, Offer, History, Present}
use Rattle.history.specs.Sound.{Fits, Grounded, Sound}
use Rattle.pages.proofs.Lines.{reading_present}
use Rattle.pages.proofs.PageLaws.{valued_lines}

fits_valued : (P : ℕ) (said : ℕ → Mark) (offers : List Offer) (o : Opened) (p : Page) → Grounded P offers o → Fits P o said p →
    (valued_of p ≡ true) × ((k : ℕ) → Present (at p k) → k < P)
fits_valued P said offers shut p w f = absurd f
fits_valued P said offers (free cf) p w f = (f.valued, f.within)
fits_valued P said offers (fixed q) p w f = rw f (w.valued, w.within)

module _ {P A : ℕ} {H : History} (S : Sound P A H) (b r : ℕ) (p : Page) (v : p ∈ H.votes b r) where
  pub vote_valued : valued_of p ≡ true
  vote_valued = (fits_valued P (λ k. H.said k r) H.offers (H.opened r) p (S.grounded r) (S.voted b r p v)).0

  pub vote_within : (k : ℕ) → Present (at p k) → k < P
  vote_within = (fits_valued P (λ k. H.said k r) H.offers (H.opened r) p (S.grounded r) (S.voted b r p v)).1

  -- the reading stands on the line of a rack of the hall
  pub vote_reads : (k : ℕ) × (k < P) × (is_reading (at p k) ≡ true)
  vote_reads = let (k, _, e) = valued_lines p vote_valued in (k, vote_within k (reading_present (at p k) e), e)
