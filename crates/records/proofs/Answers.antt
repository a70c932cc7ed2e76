-- A step's answer is known by what document 01's numbers say of it.
use Rattle.std.proofs.Common.{◌≡◌, sym, ap, Result, Ok, Err}
use Rattle.below.specs.declared.refusals.Refusal.{Refusal}
use Rattle.below.proofs.Refused.{number_one, number_some}
use Rattle.records.specs.declared.granted.Granted.{Granted}
use Rattle.records.specs.Answers.{Answer, Noted, answer_of, noted_of}

pub answer_of_one : {Row Sent : Type 0} (row : Row) (nothing : Sent) (x y : Result (Granted Row Sent) Refusal) → answer_of row nothing x ≡ answer_of row nothing y → x ≡ y
answer_of_one {Row} {Sent} row nothing (Ok g) (Ok h) e = λ i. Ok (record { row = (e i).row; sent = (e i).sent })
answer_of_one {Row} {Sent} row nothing (Ok g) (Err f) e = absurd (number_some f (ap (λ (a : Answer Row Sent). a.refusal) (sym e)))
answer_of_one {Row} {Sent} row nothing (Err d) (Ok h) e = absurd (number_some d (ap (λ (a : Answer Row Sent). a.refusal) e))
answer_of_one {Row} {Sent} row nothing (Err d) (Err f) e = ap Err (number_one d f (ap (λ (a : Answer Row Sent). a.refusal) e))

pub noted_of_one : {Row : Type 0} (row : Row) (x y : Result Row Refusal) → noted_of row x ≡ noted_of row y → x ≡ y
noted_of_one {Row} row (Ok a) (Ok b) e = λ i. Ok (e i).row
noted_of_one {Row} row (Ok a) (Err f) e = absurd (number_some f (ap (λ (n : Noted Row). n.refusal) (sym e)))
noted_of_one {Row} row (Err d) (Ok b) e = absurd (number_some d (ap (λ (n : Noted Row). n.refusal) e))
noted_of_one {Row} row (Err d) (Err f) e = ap Err (number_one d f (ap (λ (n : Noted Row). n.refusal) e))
