-- The votes of one round, of whichever boxes, agree line by line.
use Rattle.std.proofs.Common.{ℕ, ◌≡◌, refl, sym, ap, ◌∙◌, Bool, true, false, cond, inl, inr}
use Rattle.pages.specs.declared.line.Mark.{Mark}
use Rattle.pages.specs.declared.line.Mark.TheVariants.{Nil}
use Rattle.pages.specs.declared.page.Page.{Page}
use Rattle.pages.specs.Lines.{is_absent, is_reading}
use Rattle.pages.specs.Racks.{has}
use Rattle.pages.specs.Pages.{at, compatible_of}
use Rattle.history.specs.History.{◌∈◌, Opened, shut, free, fixed, History, Present, Blankable, Shows, Bears}
use Rattle.history.specs.Sound.{Fits, Sound}
use Rattle.history.proofs.Lines.{absent_or_present, nil_is, at_same, at_compatible}

-- a present line of one vote is what any other vote of its round shows there
fits_agree : (P : ℕ) (said : ℕ → Mark) (o : Opened) (p q : Page) (k : ℕ) (m : Mark) → Fits P o said p → Fits P o said q →
    Present m → Shows (Blankable (said k)) (at p k) m → Present (at q k) → at q k ≡ m
fits_agree P said shut p q k m f g h s l = absurd f
fits_agree P said (free cf) p q k m f g h (inl e) l = g.lines k l ∙ sym (f.lines k (ap is_absent e ∙ h)) ∙ e
fits_agree P said (free cf) p q k m f g h (inr (n, a, s)) l = go (has cf k) (g.lines k l)
  where
    go : (b : Bool) → at q k ≡ cond b (said k) Nil → at q k ≡ m
    go true e = nil_is (at q k) l (ap is_reading e ∙ s) ∙ sym n
    go false e = e ∙ sym n
fits_agree P said (fixed w) p q k m f g h (inl e) l = at_same k (g ∙ sym f) ∙ e
fits_agree P said (fixed w) p q k m f g h (inr (n, a, s)) l = absurd (absent_or_present (at_same k (g ∙ sym f) ∙ a) l)

module _ {P A : ℕ} {H : History} (S : Sound P A H) {r : ℕ} where
  pub bears_agree : {k b : ℕ} {m : Mark} → Bears H Blankable r k m b → (c : ℕ) (q : Page) → q ∈ H.votes c r → Present m →
      Present (at q k) → at q k ≡ m
  bears_agree {k} {b} {m} w c q v h l =
      let f = S.voted b r w.vote w.cast in
      fits_agree P (λ j. H.said j r) (H.opened r) w.vote q k m f (S.voted c r q v) h w.shows l

  module _ (b c : ℕ) (p q : Page) (in_b : p ∈ H.votes b r) (in_c : q ∈ H.votes c r) where
    pub votes_agree : (k : ℕ) → Present (at p k) → Present (at q k) → at p k ≡ at q k
    votes_agree k l h = sym (bears_agree (record { vote = p; cast = in_b; shows = inl refl }) c q in_c l h)

    -- so that open never finds a clash
    pub votes_compatible : compatible_of p q ≡ true
    votes_compatible = at_compatible p q votes_agree
