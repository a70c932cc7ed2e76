-- The moves that the steps make in the history.
use Rattle.std.specs.Prelude.{ℕ, ◌≤◌, eqb, cond, ◌&&◌, List, [], ◌∷◌}
use Rattle.pages.specs.declared.line.Reading.{Reading}
use Rattle.pages.specs.declared.line.Mark.{Mark}
use Rattle.pages.specs.declared.line.Mark.TheVariants.{Absent, Reading as reads}
use Rattle.pages.specs.declared.page.Page.{Page}
use Rattle.pages.specs.Racks.{outside}
use Rattle.pages.specs.Pages.{empty, append_of, nil_extension}
use Rattle.history.specs.History.{Opened, shut, free, Offer, History}

-- a function changed at one place
unfoldable pub put : {X : Type 0} → (ℕ → X) → ℕ → X → ℕ → X
put f i x j = cond (eqb j i) x (f j)

unfoldable pub put₂ : {X : Type 0} → (ℕ → ℕ → X) → ℕ → ℕ → X → ℕ → ℕ → X
put₂ f i j x k l = cond (eqb k i && eqb l j) x (f k l)

-- a freshly set up hall: every box is at round Zero, of number z, which is open with the empty page
abbrev pub fresh : ℕ → ℕ → History
fresh z cf = record { ballot = λ b. z; votes = λ b r. []; said = λ k r. Absent; opened = put (λ r. shut) z (free cf); offers = [] }

-- step 1, offer
abbrev pub offer : History → Offer → History
offer H o = record { ballot = H.ballot; votes = H.votes; said = H.said; opened = H.opened; offers = o ∷ H.offers }

-- step 3, join
abbrev pub join : History → ℕ → ℕ → History
join H b r = record { ballot = put H.ballot b r; votes = H.votes; said = H.said; opened = H.opened; offers = H.offers }

-- step 5, open
abbrev pub open_with : History → ℕ → Opened → History
open_with H r o = record { ballot = H.ballot; votes = H.votes; said = H.said; opened = put H.opened r o; offers = H.offers }

-- steps 7 and 8, fast and blank
abbrev pub say : History → ℕ → ℕ → Mark → History
say H k r m = record { ballot = H.ballot; votes = H.votes; said = put₂ H.said k r m; opened = H.opened; offers = H.offers }

-- a box may vote in a round that its own is not above
abbrev pub may_vote : History → ℕ → ℕ → Type 0
may_vote H b r = H.ballot b ≤ r

-- steps 9 and 10, take page and take reading
abbrev pub vote : History → ℕ → ℕ → Page → History
vote H b r p =
    record {
      ballot = put H.ballot b r;
      votes = put₂ H.votes b r (p ∷ H.votes b r);
      said = H.said;
      opened = H.opened;
      offers = H.offers;
    }

-- the vote of step 10: the box's first one of the round, or its newest with the reading appended
abbrev pub reading_vote : ℕ → ℕ → ℕ → Reading → List Page → Page
reading_vote cf P k v [] = nil_extension (outside cf P) (append_of empty k (reads v))
reading_vote cf P k v (newest ∷ older) = append_of newest k (reads v)
