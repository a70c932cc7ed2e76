-- What a step answers, by document 01's numbers.
use Rattle.std.specs.Prelude.{ℕ, Result, Ok, Err}
use Rattle.below.specs.declared.refusals.Refusal.{Refusal}
use Rattle.below.specs.Refusals.{granted, number}
use Rattle.records.specs.declared.granted.Granted.{Granted}

-- the refusal, the row after and the message sent; and the same of a step that sends nothing
pub record Answer (Row Sent : Type 0) : Type 0 where
  pub refusal : ℕ
  pub row : Row
  pub sent : Sent

pub record Noted (Row : Type 0) : Type 0 where
  pub refusal : ℕ
  pub row : Row

-- what the code's answer says so: where it is refused, the row as it was and no message
abbrev pub answer_of : {Row Sent : Type 0} → Row → Sent → Result (Granted Row Sent) Refusal → Answer Row Sent
answer_of row nothing (Ok g) = record { refusal = granted; row = g.row; sent = g.sent }
answer_of row nothing (Err e) = record { refusal = number e; row = row; sent = nothing }

abbrev pub noted_of : {Row : Type 0} → Row → Result Row Refusal → Noted Row
noted_of row (Ok after) = record { refusal = granted; row = after }
noted_of row (Err e) = record { refusal = number e; row = row }
