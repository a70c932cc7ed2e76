-- Refusals: each is given exactly when its condition holds and none before it.
use Rattle.std.specs.Prelude.{ℕ, Bool, cond, Result, Ok, Err}
use Rattle.below.specs.declared.refusals.Refusal.{Refusal}
use Rattle.below.specs.declared.refusals.Refusal.TheVariants.{WrongLength, BadBlock, OtherHall, NoSuchStep, WrongMessage, WrongRound, AlreadyDone, NoMajority, LinesClash, PostFull, OutOfRange}

-- a condition that must hold, the number where it does not, and the refusals after it
abbrev pub unless : Bool → ℕ → ℕ → ℕ
unless holds number later = cond holds later number

-- document 01's numbers
abbrev pub granted : ℕ
granted = 0

abbrev pub wrong_length : ℕ
wrong_length = 1

abbrev pub bad_block : ℕ
bad_block = 2

abbrev pub other_hall : ℕ
other_hall = 3

abbrev pub no_such_step : ℕ
no_such_step = 4

abbrev pub wrong_message : ℕ
wrong_message = 5

abbrev pub wrong_round : ℕ
wrong_round = 6

abbrev pub already_done : ℕ
already_done = 7

abbrev pub no_majority : ℕ
no_majority = 8

abbrev pub lines_clash : ℕ
lines_clash = 9

abbrev pub post_full : ℕ
post_full = 10

abbrev pub out_of_range : ℕ
out_of_range = 11

abbrev pub number : Refusal → ℕ
number WrongLength = wrong_length
number BadBlock = bad_block
number OtherHall = other_hall
number NoSuchStep = no_such_step
number WrongMessage = wrong_message
number WrongRound = wrong_round
number AlreadyDone = already_done
number NoMajority = no_majority
number LinesClash = lines_clash
number PostFull = post_full
number OutOfRange = out_of_range

-- the number of an answer: 0 where it is granted
abbrev pub number_of : {A : Type 0} → Result A Refusal → ℕ
number_of (Ok x) = granted
number_of (Err e) = number e

-- what an answer holds; where it is refused, what document 01 says of a refused one
abbrev pub value_or : {A : Type 0} → A → Result A Refusal → A
value_or x (Ok y) = y
value_or x (Err e) = x
