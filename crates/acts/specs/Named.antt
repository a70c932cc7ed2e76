-- The blocks that a step names: good or not, of which kind, of which hall; and the refusals that come of them, in order.
use Rattle.std.specs.Prelude.{ℕ, leb, eqb, Bool, not, ◌&&◌, ◌||◌, List}
use Rattle.below.specs.Refusals.{unless, granted, wrong_message, bad_block, other_hall}
use Rattle.rounds.specs.Setups.{same_setup}
use Rattle.records.specs.declared.stamp.Stamp.{Stamp}
use Rattle.blocks.specs.Frame.{stamp_as}
use Rattle.kinds.specs.Known.{known}
use Rattle.acts.specs.declared.step.Step.{Step}
use Rattle.acts.specs.Acts.{Act, act_of}

-- a block that passes check and rules, of whatever kind
abbrev pub is_good : List ℕ → Bool
is_good block = known block

-- what a block says of itself
abbrev pub stamp_of : List ℕ → Stamp
stamp_of block = (stamp_as 0).get block 0

-- blocks differ in setup or instance
abbrev pub same_hall : Stamp → Stamp → Bool
same_hall a b = same_setup a.setup b.setup && eqb a.instance.0 b.instance.0

-- offer, start, open and learn name no message
abbrev pub names : ℕ → Bool
names code = not (leb code 2 || (eqb code 5 || eqb code 13))

-- the act of a row's own agent
abbrev pub own_act : Step → List ℕ → List ℕ → Act
own_act x row message = act_of (stamp_of row) x row message

-- the row's block is of this hall and this agent
abbrev pub own_row : Stamp → Stamp → Bool
own_row hall stamp = same_hall hall stamp && eqb stamp.agent hall.agent

-- 2 for the row, then what the caller found out of range, 2 for the message, 3 (the hall is the caller's, the row's agent its
-- place), then 5 to 9
unfoldable pub named_refusal : Stamp → ℕ → Step → List ℕ → List ℕ → ℕ
named_refusal hall late x row message =
    unless (is_good row) bad_block
    (unless (eqb late granted) late
    (unless (not (names x.code) || is_good message) bad_block
    (unless (own_row hall (stamp_of row)) other_hall
    (unless (not (names x.code) || same_hall hall (stamp_of message)) other_hall (own_act x row message).refusal))))

-- the same for a step that is known to name a row alone, or a row and a message: by the values of the tests, and of the blocks;
-- `own` is what the act then says
abbrev pub row_tests : (good range place : Bool) → ℕ → ℕ → ℕ
row_tests good range place late own = unless good bad_block (unless range late (unless place other_hall own))

abbrev pub both_tests : (good range heard place sender : Bool) → ℕ → ℕ → ℕ
both_tests good range heard place sender late own =
    unless good bad_block (unless range late (unless heard bad_block (unless place other_hall (unless sender other_hall own))))

unfoldable pub row_refusal : Stamp → ℕ → List ℕ → ℕ → ℕ
row_refusal hall late row own = row_tests (is_good row) (eqb late granted) (own_row hall (stamp_of row)) late own

unfoldable pub both_refusal : Stamp → ℕ → List ℕ → List ℕ → ℕ → ℕ
both_refusal hall late row message own =
    both_tests (is_good row) (eqb late granted) (is_good message) (own_row hall (stamp_of row)) (same_hall hall (stamp_of message)) late own

-- what the code finds before it looks at the step: whether each block is good for the kind that the step names is known
abbrev pub row_found : Stamp → ℕ → List ℕ → Bool → ℕ
row_found hall late row right =
    row_tests (right || known row) (eqb late granted) (own_row hall (stamp_of row)) late (unless right wrong_message granted)

abbrev pub both_found : Stamp → ℕ → List ℕ → Bool → List ℕ → Bool → ℕ
both_found hall late row right message meant =
    both_tests (right || known row) (eqb late granted) (meant || known message) (own_row hall (stamp_of row)) (same_hall hall (stamp_of message)) late
    (unless (right && meant) wrong_message granted)
