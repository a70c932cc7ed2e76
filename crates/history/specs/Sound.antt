-- The invariant of appendix A of 004, line by line.
use Rattle.std.specs.Prelude.{ℕ, ◌≤◌, ◌<◌, ◌≡◌, true, cond, List, [], ◌∷◌}
use Rattle.pages.specs.declared.line.Reading.{Reading}
use Rattle.pages.specs.declared.line.Mark.{Mark}
use Rattle.pages.specs.declared.line.Mark.TheVariants.{Nil, Reading as reads}
use Rattle.pages.specs.declared.page.Page.{Page}
use Rattle.pages.specs.Racks.{most_racks, has}
use Rattle.pages.specs.Pages.{at, prefix_of, valued_of}
use Rattle.history.specs.History.{◌∈◌, Opened, shut, free, fixed, Offer, Offered, History, Choosable, Present}

-- what a line of a free round can come to (004's MaxT): what its rack said, and Nil outside cf
abbrev pub tried : ℕ → (ℕ → Mark) → ℕ → Mark
tried cf said k = cond (has cf k) (said k) Nil

-- a vote of a free round
pub record FreeVote (P cf : ℕ) (said : ℕ → Mark) (p : Page) : Type 0 where
  pub lines : (k : ℕ) → Present (at p k) → at p k ≡ tried cf said k
  pub valued : valued_of p ≡ true
  pub within : (k : ℕ) → Present (at p k) → k < P

-- a page that a round is opened with
pub record Whole (P : ℕ) (offers : List Offer) (p : Page) : Type 0 where
  pub complete : (k : ℕ) → k < P → Present (at p k)
  pub valued : valued_of p ≡ true
  pub within : (k : ℕ) → Present (at p k) → k < P
  pub offered : (k : ℕ) (v : Reading) → at p k ≡ reads v → Offered offers v

-- a vote fits what its round was opened with
abbrev pub Fits : ℕ → Opened → (ℕ → Mark) → Page → Type 0
Fits P shut said p = ⊥
Fits P (free cf) said p = FreeVote P cf said p
Fits P (fixed q) said p = p ≡ q

-- what a round was opened with rests on votes and offers
abbrev pub Grounded : ℕ → List Offer → Opened → Type 0
Grounded P offers shut = Unit {0}
Grounded P offers (free cf) = Unit {0}
Grounded P offers (fixed p) = Whole P offers p

-- What a round was opened with agrees with line m of rack k, which is still choosable below: a page has that line,
-- and under the empty page there is no such line.
abbrev pub Agrees : Opened → ℕ → Mark → Type 0
Agrees shut k m = Unit {0}
Agrees (free cf) k m = ⊥
Agrees (fixed p) k m = at p k ≡ m

-- the votes of one box in one round, newest first: each extends those before it
abbrev pub Chain : List Page → Type 0
Chain [] = Unit {0}
Chain (p ∷ older) = ((q : Page) → q ∈ older → prefix_of q p ≡ true) × Chain older

-- what holds of every history that a hall of P racks and A boxes comes to
pub record Sound (P A : ℕ) (H : History) : Type 0 where
  -- every rack has a line
  pub racks : P ≤ most_racks
  pub voted : (b r : ℕ) (p : Page) → p ∈ H.votes b r → Fits P (H.opened r) (λ k. H.said k r) p
  pub chains : (b r : ℕ) → Chain (H.votes b r)
  -- a reading that was proposed was offered
  pub offered : (k r : ℕ) (v : Reading) → H.said k r ≡ reads v → Offered H.offers v
  pub grounded : (r : ℕ) → Grounded P H.offers (H.opened r)
  -- Definition 12 of 004: nothing choosable below a round contradicts what it was opened with
  pub safe : (r j k : ℕ) (m : Mark) → j < r → k < P → Present m → Choosable A H j k m → Agrees (H.opened r) k m
