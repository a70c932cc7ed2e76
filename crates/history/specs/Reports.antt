-- What boxes tell a coordinator, and what it makes of it (steps 3 to 5).
use Rattle.std.specs.Prelude.{ℕ, ◌+◌, ◌/◌, ◌≤◌, ◌<◌, ◌≡◌, Bool, true, false, ◌⊎◌, List, [], ◌∷◌}
use Rattle.below.specs.Below.{count}
use Rattle.pages.specs.declared.line.Mark.TheVariants.{Absent, Nil}
use Rattle.pages.specs.declared.page.Page.{Page}
use Rattle.pages.specs.declared.page.Vote.{Vote}
use Rattle.pages.specs.Pages.{at}
use Rattle.history.specs.History.{History, Present}

-- a box's last vote below round r is p, at round v
pub record LastVote (votes : ℕ → List Page) (r v : ℕ) (p : Page) : Type 0 where
  pub below : v < r
  pub older : List Page
  pub newest : votes v ≡ p ∷ older
  pub after : (j : ℕ) → v < j → j < r → votes j ≡ []

-- what box b's 1B of round r tells
pub record Told (H : History) (b r vrnd : ℕ) (vval : Vote) : Type 0 where
  pub joined : r ≤ H.ballot b
  pub none : vval.some ≡ false → (j : ℕ) → j < r → H.votes b j ≡ []
  pub last : vval.some ≡ true → LastVote (H.votes b) r vrnd vval.page

-- what a coordinator keeps: which boxes it heard, and of each the vrnd and the vval
pub record Hearing : Type 0 where
  pub heard : ℕ → Bool
  pub vrnd : ℕ → ℕ
  pub vval : ℕ → Vote

abbrev pub page_of : Hearing → ℕ → Page
page_of h b = (h.vval b).page

-- a majority, each with a 1B of round r
pub record Heard (A : ℕ) (H : History) (r : ℕ) (h : Hearing) : Type 0 where
  pub enough : A / 2 + 1 ≤ count A h.heard
  pub told : (b : ℕ) → b < A → h.heard b ≡ true → Told H b r (h.vrnd b) (h.vval b)

-- box b was heard with a vote of round i
pub record VotedAt (A : ℕ) (h : Hearing) (i b : ℕ) : Type 0 where
  pub box : b < A
  pub heard : h.heard b ≡ true
  pub some : (h.vval b).some ≡ true
  pub round : h.vrnd b ≡ i

-- line k of p: a line of some vote heard of round i, or Nil where none of them has one
abbrev pub GatheredLine : ℕ → Hearing → ℕ → Page → ℕ → Type 0
GatheredLine A h i p k =
    ((b : ℕ) × VotedAt A h i b × Present (at (page_of h b) k) × (at p k ≡ at (page_of h b) k)) ⊎
    ((at p k ≡ Nil) × ((b : ℕ) → VotedAt A h i b → at (page_of h b) k ≡ Absent))

-- p is what step 5 makes of the votes heard: those of round i, the highest, joined and Nil-extended over all racks
pub record Gathered (P A : ℕ) (h : Hearing) (i : ℕ) (p : Page) : Type 0 where
  pub highest : (b : ℕ) → b < A → h.heard b ≡ true → (h.vval b).some ≡ true → h.vrnd b ≤ i
  pub voter : ℕ
  pub voted : VotedAt A h i voter
  pub lines : (k : ℕ) → k < P → GatheredLine A h i p k
  pub within : (k : ℕ) → Present (at p k) → k < P
