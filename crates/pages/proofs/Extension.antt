-- Nil-extension over the racks outside cf, which the code holds as bits, is that over the racks which pass the test.
use Rattle.std.proofs.Common.{ℕ, ◌%◌, ◌^◌, eqb, ltb, ◌≡◌, refl, ap, ◌∙◌, Bool, true, false, not, ◌&&◌}
use Rattle.std.proofs.Math.Nat.{zero-div}
use Rattle.pages.specs.declared.page.Page.{Page}
use Rattle.pages.specs.Racks.{most_racks, has, racks_below, outside, set_of}
use Rattle.pages.specs.Pages.{nil_extension}
use Rattle.pages.proofs.PageLaws.{nil_same}
use Rattle.pages.proofs.Sets.{has_set_of}

pub nil_outside : (cf racks : ℕ) (v : Page) → nil_extension (has (set_of most_racks (outside cf racks))) v ≡ nil_extension (outside cf racks) v
nil_outside cf racks v = nil_same (has (set_of most_racks (outside cf racks))) (outside cf racks) v (has_set_of most_racks (outside cf racks))

-- no rack is in the set 0, so all racks of the hall are outside it
pub nil_all : (racks : ℕ) (v : Page) → nil_extension (has (set_of most_racks (outside 0 racks))) v ≡ nil_extension (racks_below racks) v
nil_all racks v = nil_outside 0 racks v ∙ nil_same (outside 0 racks) (racks_below racks) v (λ k l. go k (ltb k racks))
  where
    go : (k : ℕ) (b : Bool) → b && not (has 0 k) ≡ b
    go k true = ap (λ (x : ℕ). not (eqb (x % 2) 1)) (zero-div (2 ^ k))
    go k false = refl
