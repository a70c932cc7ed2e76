-- Of two votes of one box in one round, one extends the other; the newest extends all.
use Rattle.std.proofs.Common.{ℕ, ◌≡◌, true, ◌⊎◌, inl, inr, ⊎_elim, List, [], ◌∷◌}
use mathlib.Core.List.Memᴰ
use Rattle.pages.specs.declared.page.Page.{Page}
use Rattle.pages.specs.Pages.{prefix_of}
use Rattle.history.specs.History.{◌∈◌, History}
use Rattle.history.specs.Sound.{Chain, Sound}
use Rattle.history.proofs.Lines.{prefix_same}

pub newest_extends : (p q : Page) (older : List Page) → Chain (p ∷ older) → q ∈ p ∷ older → prefix_of q p ≡ true
newest_extends p q older c v = ⊎_elim (prefix_same q p) (c.0 q) (Memᴰ.cases_cons v)

chain_comparable : (l : List Page) (p q : Page) → Chain l → p ∈ l → q ∈ l → (prefix_of p q ≡ true) ⊎ (prefix_of q p ≡ true)
chain_comparable [] p q c v w = absurd (Memᴰ.not-nil v)
chain_comparable (n ∷ older) p q c v w = go (chain_comparable older p q c.1) (Memᴰ.cases_cons v) (Memᴰ.cases_cons w)
  where
    go : (p ∈ older → q ∈ older → (prefix_of p q ≡ true) ⊎ (prefix_of q p ≡ true)) → (p ≡ n) ⊎ (p ∈ older) → (q ≡ n) ⊎ (q ∈ older) →
        (prefix_of p q ≡ true) ⊎ (prefix_of q p ≡ true)
    go ih (inl e) y = inr (rw e (newest_extends n q older c w))
    go ih (inr x) (inl e) = inl (rw e (newest_extends n p older c v))
    go ih (inr x) (inr y) = ih x y

pub votes_chain : {P A : ℕ} {H : History} → Sound P A H → (b r : ℕ) (p q : Page) → p ∈ H.votes b r → q ∈ H.votes b r →
    (prefix_of p q ≡ true) ⊎ (prefix_of q p ≡ true)
votes_chain {H = H} S b r p q = chain_comparable (H.votes b r) p q (S.chains b r)
