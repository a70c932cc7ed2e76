-- What is shown of each of the thirteen on a good hall: the hall is good again, and its rows and messages made a granted step.
use Rattle.std.proofs.Common.{ℕ, ◌+◌, ◌*◌, ◌<◌, get_or, ◌≡◌, sym, ap, subst, ◌∙◌, ◌⊎◌, ◌≢◌, eqb, true, cond, List, [], ◌∷◌}
use Rattle.std.proofs.Math.Decide.{ℕ_discrete}
use Rattle.below.specs.Refusals.{granted}
use Rattle.below.proofs.Rows.{row_at}
use Rattle.rounds.specs.declared.setup.Setup.{Setup}
use Rattle.records.specs.declared.rows.ReaderRow.{ReaderRow}
use Rattle.blocks.specs.Kinds.{Kind}
use Rattle.fields.specs.Codecs.{Codec, times}
use Rattle.acts.specs.declared.step.Step.{Step}
use Rattle.acts.specs.Acts.{Act, is_a, body_of, agent_of, on_row, on_both}
use Rattle.hall.specs.Halls.{messages_at, block_at}
use Rattle.hall.specs.Steps.{granting}
use Rattle.history.specs.History.{Offer}
use Rattle.safety.proofs.TrueMessages.{Message}
use Rattle.safety.proofs.Moved.{Agent, reader}
use Rattle.safety.proofs.Views.{View, Changes}
use Rattle.safety.proofs.StepsKeep.{Grants}
use Rattle.safety.proofs.PagesChange.{reader_apart}
use Rattle.promise.specs.Runs.{page_of, LearntBy, sends}
use Rattle.promise.proofs.GoodBlocks.{stamp_for, Good, of_kind}
use Rattle.promise.proofs.GoodHalls.{GoodHall, view_of}
use Rattle.promise.proofs.HallNumbers.{act_in, HallGranted}
use Rattle.promise.proofs.OneStep.{PostKind, on_row_lem, on_both_lem}

abbrev pub step_of : ℕ → ℕ → ℕ → ℕ → ℕ → ℕ → ℕ → Step
step_of code a j n c cf v = record { code = code; agent = a; message = j; n = n; c = c; cf = cf; reading = v }

-- the message count after a granted step, and what it offers: its reading, where it is an offer
abbrev pub count_after : Step → ℕ → ℕ
count_after x count = cond (sends x.code) (count + 1) count

abbrev pub offers_of : Step → List Offer
offers_of x = cond (eqb x.code 1) (record { rack = x.agent; reading = record { 0 = x.reading } } ∷ []) []

-- a reader's page after a step: as it was, or learnt
abbrev pub PageStep : Setup → List ℕ → List ℕ → Step → ℕ → Type 0
PageStep s hall hall' x i = (page_of hall' i ≡ page_of hall i) ⊎ LearntBy s hall hall' x i

pub record Stepped (instance : ℕ) (s : Setup) (count : ℕ) (hall : List ℕ) (x : Step) : Type 0 where
  pub good : GoodHall instance s (count_after x count) (granting hall x)
  pub grants : Grants s (view_of count hall) (view_of (count_after x count) (granting hall x)) (offers_of x)
  pub pages : (i : ℕ) → i < s.readers → PageStep s hall (granting hall x) x i

-- the steps of other agents leave a reader's page
module _ {s : Setup} {New : Message → Type 0} {hall hall' : View} where
  pub by_other : {who : Agent} → Changes s who New hall hall' → (i : ℕ) → i < s.readers → who ≢ reader i → (hall'.readers i).page ≡ (hall.readers i).page
  by_other d i l n = ap (λ (r : ReaderRow). r.page) (d.readers i l n)

  pub by_reader : (P : ℕ → Type 0) (a : ℕ) → Changes s (reader a) New hall hall' → P a → ((i : ℕ) → (hall'.readers i).page ≡ (hall.readers i).page → P i) →
      (i : ℕ) → i < s.readers → P i
  by_reader P a d own other i l = go (ℕ_discrete i a)
    where
      go : Dec (i ≡ a) → P i
      go (yes e) = subst P (sym e) own
      go (no n) = other i (by_other d i l (reader_apart a i n))

-- one of several values as they are read
pub times_at : {A : Type 0} (n : ℕ) (past : A) (c : Codec A) (bytes : List ℕ) (at k : ℕ) → k < n → get_or ((times n past c).get bytes at) k past ≡ c.get bytes (at + c.size * k)
times_at n past c bytes at k l = row_at n (λ i. c.get bytes (at + c.size * i)) k past l

-- a step that reads a row and a message: the message is good and one of those in the post, and the step's own definition grants it
pub record Handed {R M : Type 0} (k : Kind R) (m : Kind M) (message : ℕ → M → Message) (instance : ℕ) (s : Setup) (count : ℕ) (hall : List ℕ) (act : Act) (place j : ℕ) (step : R → M → Act) : Type 0 where
  pub good : Good m (stamp_for instance s (agent_of (block_at hall (messages_at + j)))) (block_at hall (messages_at + j))
  pub posted : (view_of count hall).posted (message (agent_of (block_at hall (messages_at + j))) (body_of m (block_at hall (messages_at + j))))
  pub number : (step (body_of k (block_at hall place)) (body_of m (block_at hall (messages_at + j)))).refusal ≡ granted
  pub act_is : act ≡ step (body_of k (block_at hall place)) (body_of m (block_at hall (messages_at + j)))

module _ {instance : ℕ} {s : Setup} {count : ℕ} {hall : List ℕ} (g : GoodHall instance s count hall) (x : Step) (f : HallGranted g x) {R : Type 0} (k : Kind R) (place : ℕ) where
  pub handed : {M : Type 0} (m : Kind M) (Shaped : M → Type 0) (message : ℕ → M → Message) → PostKind m Shaped message → (j : ℕ) → j < count → (step : R → M → Act) →
      act_in g x ≡ on_both k m (block_at hall place) (block_at hall (messages_at + j)) step → Handed k m message instance s count hall (act_in g x) place j step
  handed m Shaped message post j l step e =
      record {
        good = of_kind m Shaped post.laws (post.named _) (g.posted j l) both.0;
        posted = (j, l, post.reads _ both.0);
        number = ap (λ (y : Act). y.refusal) (sym both.1 ∙ sym e) ∙ f.act;
        act_is = e ∙ both.1;
      }
    where
      both : (is_a m (block_at hall (messages_at + j)) ≡ true) × (on_both k m (block_at hall place) (block_at hall (messages_at + j)) step ≡ step (body_of k (block_at hall place)) (body_of m (block_at hall (messages_at + j))))
      both = on_both_lem k m (block_at hall place) (block_at hall (messages_at + j)) step (ap (λ (y : Act). y.refusal) (sym e) ∙ f.act)

  -- a step that reads its row alone
  pub alone : (step : R → Act) → act_in g x ≡ on_row k (block_at hall place) step →
      ((step (body_of k (block_at hall place))).refusal ≡ granted) × (act_in g x ≡ step (body_of k (block_at hall place)))
  alone step e = (ap (λ (y : Act). y.refusal) (sym is ∙ sym e) ∙ f.act, e ∙ is)
    where
      is : on_row k (block_at hall place) step ≡ step (body_of k (block_at hall place))
      is = on_row_lem k (block_at hall place) step (ap (λ (y : Act). y.refusal) (sym e) ∙ f.act)
