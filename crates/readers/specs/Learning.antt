-- 13 learn (round), by document 01's words: of the boxes held at exactly that round, a majority is needed, else 8. Nil-extend each
-- held page over the racks of cf held blank at exactly that round. A page is chosen if it is a prefix of all extended pages of some
-- majority. Join the reader's page with all chosen pages; 9 if not compatible or if the result is trivial.
use Rattle.std.specs.Prelude.{ℕ, ◌≤◌, ◌<◌, ltb, ◌≡◌, Bool, true, false, ◌&&◌}
use Rattle.below.specs.Below.{count}
use Rattle.below.specs.Refusals.{granted, no_majority, lines_clash}
use Rattle.pages.specs.declared.page.Page.{Page}
use Rattle.pages.specs.Racks.{has, racks_below}
use Rattle.pages.specs.Pages.{at, page, prefix_of, nil_extension, trivial_of}
use Rattle.rounds.specs.declared.setup.Setup.{Setup}
use Rattle.rounds.specs.declared.round.Round.{Round}
use Rattle.rounds.specs.Setups.{most_boxes, majority_of}
use Rattle.rounds.specs.Rounds.{same_round}
use Rattle.records.specs.Slots.{held_at, blank_at}
use Rattle.records.specs.declared.rows.ReaderRow.{ReaderRow}
use Rattle.records.specs.Answers.{Noted}
use Rattle.readers.specs.Notes.{refused}

-- a box held at exactly that round
abbrev pub held_in : Setup → ReaderRow → Round → ℕ → Bool
held_in s r round box = ltb box s.boxes && (held_at r box).filled && same_round (held_at r box).round round

-- a rack of cf held blank at exactly that round
abbrev pub blank_in : ReaderRow → Round → ℕ → Bool
blank_in r round rack = has round.cf rack && (blank_at r rack).filled && same_round (blank_at r rack).round round

-- a held page, Nil-extended over these racks
unfoldable pub extended : ReaderRow → Round → ℕ → Page
extended r round box = nil_extension (blank_in r round) (held_at r box).page

-- a majority of boxes, all held at exactly that round
pub record HeldMajority (s : Setup) (r : ReaderRow) (round : Round) (among : ℕ → Bool) : Type 0 where
  pub held : (box : ℕ) → box < most_boxes → among box ≡ true → held_in s r round box ≡ true
  pub enough : majority_of s.boxes ≤ count most_boxes among

-- a page is chosen if it is a prefix of all extended pages of some majority
pub record ChosenPage (s : Setup) (r : ReaderRow) (round : Round) (p : Page) : Type 0 where
  pub among : ℕ → Bool
  pub majority : HeldMajority s r round among
  pub prefix : (box : ℕ) → box < most_boxes → among box ≡ true → prefix_of p (extended r round box) ≡ true

-- a page above the reader's page and all chosen pages
pub record Above (s : Setup) (r : ReaderRow) (round : Round) (w : Page) : Type 0 where
  pub own : prefix_of r.page w ≡ true
  pub chosen : (p : Page) → ChosenPage s r round p → prefix_of p w ≡ true

-- the reader's page joined with all chosen pages: the least page above them
pub record JoinsChosen (s : Setup) (r : ReaderRow) (round : Round) (w : Page) : Type 0 where
  pub above : Above s r round w
  pub least : (x : Page) → Above s r round x → prefix_of w x ≡ true
  pub whole : page (at w) ≡ w

abbrev pub with_page : ReaderRow → Page → ReaderRow
with_page r w = record { page = w; held = r.held; blanks = r.blanks }

-- what learn answers
pub data Learns (s : Setup) (r : ReaderRow) (round : Round) : Noted ReaderRow → Type 0 where
  too_few : ((among : ℕ → Bool) → HeldMajority s r round among → ⊥) → Learns s r round (refused no_majority r)
  not_compatible : (among : ℕ → Bool) → HeldMajority s r round among → ((w : Page) → Above s r round w → ⊥) →
      Learns s r round (refused lines_clash r)
  all_nil : (among : ℕ → Bool) → HeldMajority s r round among → (w : Page) → JoinsChosen s r round w → trivial_of (racks_below s.racks) w ≡ true →
      Learns s r round (refused lines_clash r)
  learnt : (among : ℕ → Bool) → HeldMajority s r round among → (w : Page) → JoinsChosen s r round w → trivial_of (racks_below s.racks) w ≡ false →
      Learns s r round (record { refusal = granted; row = with_page r w })
