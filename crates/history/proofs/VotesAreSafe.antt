-- A vote has every line that is still choosable below its round (Definition 12 of 004).
use Rattle.std.proofs.Common.{ℕ, ◌<◌, ◌≡◌, ◌∙◌}
use Rattle.pages.specs.declared.line.Mark.{Mark}
use Rattle.pages.specs.declared.page.Page.{Page}
use Rattle.pages.specs.Pages.{at}
use Rattle.history.specs.History.{◌∈◌, Opened, shut, free, fixed, History, Choosable, Present}
use Rattle.history.specs.Sound.{Fits, Agrees, Sound}
use Rattle.history.proofs.Lines.{at_same}

fits_agrees : (P : ℕ) (said : ℕ → Mark) (o : Opened) (p : Page) (k : ℕ) (m : Mark) → Fits P o said p → Agrees o k m → at p k ≡ m
fits_agrees P said shut p k m f a = absurd f
fits_agrees P said (free cf) p k m f a = absurd a
fits_agrees P said (fixed q) p k m f a = at_same k f ∙ a

pub vote_safe : {P A : ℕ} {H : History} → Sound P A H → (b r j k : ℕ) (p : Page) (m : Mark) → p ∈ H.votes b r → j < r → k < P →
    Present m → Choosable A H j k m → at p k ≡ m
vote_safe {P} {A} {H} S b r j k p m v l h a c =
    fits_agrees P (λ i. H.said i r) (H.opened r) p k m (S.voted b r p v) (S.safe r j k m l h a c)
