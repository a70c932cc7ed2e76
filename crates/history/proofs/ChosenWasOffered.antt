-- A reading that is chosen, or stands in a vote, was offered.
use Rattle.std.proofs.Common.{ℕ, ◌≡◌, refl, sym, ap, ◌∙◌, Bool, true, false, cond, ⊎_elim}
use Rattle.pages.specs.declared.line.Reading.{Reading}
use Rattle.pages.specs.declared.line.Mark.TheVariants.{Nil, Reading as reads}
use Rattle.pages.specs.declared.page.Page.{Page}
use Rattle.pages.specs.Lines.{is_absent}
use Rattle.pages.specs.Racks.{has}
use Rattle.pages.specs.Pages.{at}
use Rattle.history.specs.History.{◌∈◌, Opened, shut, free, fixed, Offered, History, Chosen}
use Rattle.history.specs.Sound.{Fits, Grounded, Sound}
use Rattle.history.proofs.Lines.{nil_or_reading, at_same}
use Rattle.history.proofs.MajoritiesMeet.{most_some}

module _ {P A : ℕ} {H : History} (S : Sound P A H) where
  pub vote_offered : (b r k : ℕ) (p : Page) (v : Reading) → p ∈ H.votes b r → at p k ≡ reads v → Offered H.offers v
  vote_offered b r k p v c e = go (H.opened r) (S.grounded r) (S.voted b r p c)
    where
      said : (b : Bool) → at p k ≡ cond b (H.said k r) Nil → Offered H.offers v
      said true d = S.offered k r v (sym d ∙ e)
      said false d = absurd (nil_or_reading d e)

      go : (o : Opened) → Grounded P H.offers o → Fits P o (λ j. H.said j r) p → Offered H.offers v
      go shut w f = absurd f
      go (free cf) w f = said (has cf k) (f.lines k (ap is_absent e))
      go (fixed q) w f = w.offered k v (at_same k (sym f) ∙ e)

  pub chosen_offered : (k : ℕ) (v : Reading) → Chosen A H k (reads v) → Offered H.offers v
  chosen_offered k v c =
      let (b, _, w) = most_some c.most in
      ⊎_elim (vote_offered b c.round k w.vote v w.cast) (λ n. absurd (nil_or_reading n.0 refl)) w.shows
