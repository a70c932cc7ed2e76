-- The set of racks held blank: a turn of the loop that builds it, and Nil-extension over it.
use Rattle.std.proofs.Common.{ℕ, ◌+◌, ◌-◌, ◌*◌, ◌%◌, ◌≤◌, ◌<◌, arith, ◌≡◌, ◌∙◌, Bool, cond}
use Rattle.pages.specs.declared.page.Page.{Page}
use Rattle.pages.specs.Racks.{most_racks, has, set_of}
use Rattle.pages.specs.Pages.{nil_extension}
use Rattle.pages.proofs.Sets.{set_from, set_more, has_set_of}
use Rattle.pages.proofs.PageLaws.{nil_same}

-- one turn of the loop that builds a set of racks from the highest rack down
pub set_turn : (f : ℕ → Bool) (k s : ℕ) (b : Bool) {t : ℕ} → b ≡ f (k - 1) → t ≡ cond b 1 0 + 2 * (s % 128) → 0 < k → k ≤ most_racks →
    s ≡ set_from most_racks f k → t ≡ set_from most_racks f (k - 1)
set_turn f k s b e d p q h = d ∙ rw e (set_more most_racks k s f (omega arith) p q h)

-- Nil-extension over a set held as bits
pub nil_set : (f : ℕ → Bool) (v : Page) → nil_extension (has (set_of most_racks f)) v ≡ nil_extension f v
nil_set f v = nil_same _ f v (has_set_of most_racks f)
