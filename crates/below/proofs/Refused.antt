-- The refusals have numbers of their own, none of them 0; so an answer is known by its number and by what it holds.
use Rattle.std.proofs.Common.{ℕ, ◌≡◌, refl, sym, ap, ◌∙◌, cond, eqb, Result, Ok, Err}
use Rattle.below.specs.declared.refusals.Refusal.{Refusal}
use Rattle.below.specs.declared.refusals.Refusal.TheVariants.{WrongLength, BadBlock, OtherHall, NoSuchStep, WrongMessage, WrongRound, AlreadyDone, NoMajority, LinesClash, PostFull, OutOfRange}
use Rattle.below.specs.Refusals.{granted, number, number_of, value_or}

-- the refusal with a number
named : ℕ → Refusal
named n =
    cond (eqb n 1) WrongLength
    (cond (eqb n 2) BadBlock
    (cond (eqb n 3) OtherHall
    (cond (eqb n 4) NoSuchStep
    (cond (eqb n 5) WrongMessage
    (cond (eqb n 6) WrongRound
    (cond (eqb n 7) AlreadyDone
    (cond (eqb n 8) NoMajority
    (cond (eqb n 9) LinesClash
    (cond (eqb n 10) PostFull OutOfRange)))))))))

named_number : (e : Refusal) → named (number e) ≡ e
unfolding named
named_number WrongLength = refl
named_number BadBlock = refl
named_number OtherHall = refl
named_number NoSuchStep = refl
named_number WrongMessage = refl
named_number WrongRound = refl
named_number AlreadyDone = refl
named_number NoMajority = refl
named_number LinesClash = refl
named_number PostFull = refl
named_number OutOfRange = refl

pub number_one : (a b : Refusal) → number a ≡ number b → a ≡ b
number_one a b e = sym (named_number a) ∙ ap named e ∙ named_number b

pub number_some : (e : Refusal) → number e ≡ granted → ⊥
number_some WrongLength h = cc
number_some BadBlock h = cc
number_some OtherHall h = cc
number_some NoSuchStep h = cc
number_some WrongMessage h = cc
number_some WrongRound h = cc
number_some AlreadyDone h = cc
number_some NoMajority h = cc
number_some LinesClash h = cc
number_some PostFull h = cc
number_some OutOfRange h = cc

pub answer_one : {A : Type 0} (d : A) (x y : Result A Refusal) → number_of x ≡ number_of y → value_or d x ≡ value_or d y → x ≡ y
answer_one d (Ok x) (Ok y) n v = ap Ok v
answer_one d (Ok x) (Err f) n v = absurd (number_some f (sym n))
answer_one d (Err e) (Ok y) n v = absurd (number_some e n)
answer_one d (Err e) (Err f) n v = ap Err (number_one e f n)
