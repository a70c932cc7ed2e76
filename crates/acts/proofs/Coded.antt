-- The act that a code names is the act of that step.
use Rattle.std.proofs.Common.{ℕ, ◌≡◌, sym, subst, Bool, List}
use Rattle.records.specs.declared.stamp.Stamp.{Stamp}
use Rattle.acts.specs.declared.numbers.Numbers.{Numbers}
use Rattle.acts.specs.declared.code.Code.{Code}
use Rattle.acts.specs.declared.code.Code.TheVariants.{Offer, Start, Join, Hear, Open, Prepare, Fast, Blank, TakePage, TakeReading, NoteVote, NoteBlank, Learn}
use Rattle.acts.specs.Codes.{code_number}
use Rattle.acts.specs.Acts.{act_of, offer_act, start_act, join_act, hear_act, open_act, prepare_act, fast_act, blank_act, take_page_act, take_reading_act, note_vote_act, note_blank_act, learn_act}
use Rattle.acts.specs.Named.{own_act, named_refusal, both_refusal, row_refusal}
use Rattle.acts.specs.Answers.{Acts, ActsOnBoth, ActsOnRow, step_of}

module _ (hall : Stamp) (late : ℕ) (x : Numbers) (row message : List ℕ) where
  abbrev Coded : Code → ℕ → Bool → List ℕ → List ℕ → List ℕ → List ℕ → Type 0
  Coded code = Acts (named_refusal hall late (step_of (code_number code) x) row message) (own_act (step_of (code_number code) x) row message)

  at_code : {code : Code} {n : ℕ} {b : Bool} {a s a' s' : List ℕ} (k : Code) → code ≡ k → Coded k n b a s a' s' → Coded code n b a s a' s'
  at_code {code} {n} {b} {a} {s} {a'} {s'} k e h = subst (λ (m : Code). Coded m n b a s a' s') (sym e) h

  pub as_offer : {code : Code} {n : ℕ} {b : Bool} {a s a' s' : List ℕ} → code ≡ Offer → ActsOnRow hall late row (offer_act x.reading.0) n b a s a' s' → Coded code n b a s a' s'
  unfolding named_refusal act_of row_refusal
  as_offer e h = at_code Offer e h

  pub as_start : {code : Code} {n : ℕ} {b : Bool} {a s a' s' : List ℕ} → code ≡ Start → ActsOnRow hall late row (start_act x.round.n.0 x.round.cf) n b a s a' s' → Coded code n b a s a' s'
  unfolding named_refusal act_of row_refusal
  as_start e h = at_code Start e h

  pub as_join : {code : Code} {n : ℕ} {b : Bool} {a s a' s' : List ℕ} → code ≡ Join → ActsOnBoth hall late row message join_act n b a s a' s' → Coded code n b a s a' s'
  unfolding named_refusal act_of both_refusal
  as_join e h = at_code Join e h

  pub as_hear : {code : Code} {n : ℕ} {b : Bool} {a s a' s' : List ℕ} → code ≡ Hear → ActsOnBoth hall late row message hear_act n b a s a' s' → Coded code n b a s a' s'
  unfolding named_refusal act_of both_refusal
  as_hear e h = at_code Hear e h

  pub as_open : {code : Code} {n : ℕ} {b : Bool} {a s a' s' : List ℕ} → code ≡ Open → ActsOnRow hall late row open_act n b a s a' s' → Coded code n b a s a' s'
  unfolding named_refusal act_of row_refusal
  as_open e h = at_code Open e h

  pub as_prepare : {code : Code} {n : ℕ} {b : Bool} {a s a' s' : List ℕ} → code ≡ Prepare → ActsOnBoth hall late row message prepare_act n b a s a' s' → Coded code n b a s a' s'
  unfolding named_refusal act_of both_refusal
  as_prepare e h = at_code Prepare e h

  pub as_fast : {code : Code} {n : ℕ} {b : Bool} {a s a' s' : List ℕ} → code ≡ Fast → ActsOnBoth hall late row message fast_act n b a s a' s' → Coded code n b a s a' s'
  unfolding named_refusal act_of both_refusal
  as_fast e h = at_code Fast e h

  pub as_blank : {code : Code} {n : ℕ} {b : Bool} {a s a' s' : List ℕ} → code ≡ Blank → ActsOnBoth hall late row message blank_act n b a s a' s' → Coded code n b a s a' s'
  unfolding named_refusal act_of both_refusal
  as_blank e h = at_code Blank e h

  pub as_take_page : {code : Code} {n : ℕ} {b : Bool} {a s a' s' : List ℕ} → code ≡ TakePage → ActsOnBoth hall late row message take_page_act n b a s a' s' → Coded code n b a s a' s'
  unfolding named_refusal act_of both_refusal
  as_take_page e h = at_code TakePage e h

  pub as_take_reading : {code : Code} {n : ℕ} {b : Bool} {a s a' s' : List ℕ} → code ≡ TakeReading → ActsOnBoth hall late row message take_reading_act n b a s a' s' → Coded code n b a s a' s'
  unfolding named_refusal act_of both_refusal
  as_take_reading e h = at_code TakeReading e h

  pub as_note_vote : {code : Code} {n : ℕ} {b : Bool} {a s a' s' : List ℕ} → code ≡ NoteVote → ActsOnBoth hall late row message note_vote_act n b a s a' s' → Coded code n b a s a' s'
  unfolding named_refusal act_of both_refusal
  as_note_vote e h = at_code NoteVote e h

  pub as_note_blank : {code : Code} {n : ℕ} {b : Bool} {a s a' s' : List ℕ} → code ≡ NoteBlank → ActsOnBoth hall late row message note_blank_act n b a s a' s' → Coded code n b a s a' s'
  unfolding named_refusal act_of both_refusal
  as_note_blank e h = at_code NoteBlank e h

  pub as_learn : {code : Code} {n : ℕ} {b : Bool} {a s a' s' : List ℕ} → code ≡ Learn → ActsOnRow hall late row (learn_act x.round) n b a s a' s' → Coded code n b a s a' s'
  unfolding named_refusal act_of row_refusal
  as_learn e h = at_code Learn e h
