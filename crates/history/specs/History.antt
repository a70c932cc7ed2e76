-- What happened in a hall so far, with nothing forgotten: rounds, votes and proposals as the rows set them.
-- Rounds are numbers, 4 × n + c; boxes are numbers below A, racks numbers below P.
use Rattle.std.specs.Prelude.{ℕ, ◌+◌, ◌/◌, ◌≤◌, ◌<◌, ◌≡◌, Bool, true, false, ◌⊎◌}
use mathlib.Core.List.{List, Memᴰ}
use Rattle.below.specs.Below.{count}
use Rattle.pages.specs.declared.line.Reading.{Reading}
use Rattle.pages.specs.declared.line.Mark.{Mark}
use Rattle.pages.specs.declared.line.Mark.TheVariants.{Absent, Nil}
use Rattle.pages.specs.declared.page.Page.{Page}
use Rattle.pages.specs.Lines.{is_absent, is_reading}
use Rattle.pages.specs.Pages.{at}

infix 4 ◌∈◌
abbrev pub ◌∈◌ : {X : Type 0} → X → List X → Type 0
x ∈ l = Memᴰ x l

-- With what a round was opened: not yet; with the empty page, and its cf as bits; or with a complete page.
pub data Opened : Type 0 where
  shut : Opened
  free : ℕ → Opened
  fixed : Page → Opened

abbrev pub is_shut : Opened → Bool
is_shut shut = true
is_shut (free cf) = false
is_shut (fixed p) = false

pub record Offer : Type 0 where
  pub rack : ℕ
  pub reading : Reading

pub record History : Type 0 where
  -- a box's round
  pub ballot : ℕ → ℕ
  -- a box's votes in a round, newest first: a vote grows, and messages carry older ones
  pub votes : ℕ → ℕ → List Page
  -- what a rack proposed in a round: nothing (Absent), Nil or a reading
  pub said : ℕ → ℕ → Mark
  pub opened : ℕ → Opened
  pub offers : List Offer

-- some rack offered this reading: step 7 takes a PROPOSE of any rack
abbrev pub Offered : List Offer → Reading → Type 0
Offered offers reading = (rack : ℕ) × (record { rack = rack; reading = reading } ∈ offers)

abbrev pub Present : Mark → Type 0
Present m = is_absent m ≡ false

-- a majority of the boxes below A, each with this property
pub record Most (A : ℕ) (Each : ℕ → Type 0) : Type 0 where
  pub among : ℕ → Bool
  pub enough : A / 2 + 1 ≤ count A among
  pub each : (b : ℕ) → b < A → among b ≡ true → Each b

-- When may a vote's absent line be read as Nil? When the rack has said Nil; and as long as it may still say it.
abbrev pub Blank : Mark → Type 0
Blank said = said ≡ Nil

abbrev pub Blankable : Mark → Type 0
Blankable said = is_reading said ≡ false

-- a vote's line shows m: it is m, or it is absent and read as Nil
abbrev pub Shows : Type 0 → Mark → Mark → Type 0
Shows blank line m = (line ≡ m) ⊎ ((m ≡ Nil) × (line ≡ Absent) × blank)

-- Box b has a vote of round r that shows line m for rack k. Any of its votes will do: a later one only adds lines.
pub record Bears (H : History) (Read : Mark → Type 0) (r k : ℕ) (m : Mark) (b : ℕ) : Type 0 where
  pub vote : Page
  pub cast : vote ∈ H.votes b r
  pub shows : Shows (Read (H.said k r)) (at vote k) m

-- Definition 11 of 004, for one line: a majority of boxes bear it, or can still vote in that round
abbrev pub Choosable : ℕ → History → ℕ → ℕ → Mark → Type 0
Choosable A H r k m = Most A (λ b. (H.ballot b ≤ r) ⊎ Bears H Blankable r k m b)

-- Definition 10 of 004, for one line
pub record Chosen (A : ℕ) (H : History) (k : ℕ) (m : Mark) : Type 0 where
  pub present : Present m
  pub round : ℕ
  pub most : Most A (Bears H Blank round k m)

-- Later histories: nothing is taken back, and a box votes no more below its round.
pub record Grows (H H' : History) : Type 0 where
  pub ballot : (b : ℕ) → H.ballot b ≤ H'.ballot b
  pub votes : (b r : ℕ) (p : Page) → p ∈ H.votes b r → p ∈ H'.votes b r
  pub settled : (b r : ℕ) → r < H.ballot b → H'.votes b r ≡ H.votes b r
  pub said : (k r : ℕ) (m : Mark) → Present m → H.said k r ≡ m → H'.said k r ≡ m
  pub opened : (r : ℕ) (o : Opened) → is_shut o ≡ false → H.opened r ≡ o → H'.opened r ≡ o
  pub offers : (o : Offer) → o ∈ H.offers → o ∈ H'.offers
