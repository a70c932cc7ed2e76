-- The highest vrnd that has any vote: where there is a vote there is one that no other overtakes.
use Rattle.std.proofs.Common.{ℕ, zero, suc, ◌<◌, arith, ◌≡◌, refl, sym, ap, subst, ◌∙◌, Bool, true, false, not, true≢false, ⊎_elim}
use Rattle.std.proofs.Math.Bool.{false≢true}
use borrow.Author.Tests.{not-true}
use Rattle.below.specs.Below.{any}
use Rattle.below.proofs.Tests.{and_left, and_right, and_true, decided, below_suc, any_none, any_false, or_cases, not_true_false}
use Rattle.rounds.specs.declared.round.Round.{Round}
use Rattle.rounds.specs.Setups.{most_boxes}
use Rattle.rounds.specs.Rounds.{order_of, is_below, is_above}
use Rattle.rounds.proofs.Ordered.{Lower, lower_irrefl, lower_trans, lower_below, lower_above, below_is, above_is}
use Rattle.records.specs.declared.slots.Heard.{Heard}
use Rattle.records.specs.declared.rows.CoordinatorRow.{CoordinatorRow}
use Rattle.records.specs.Slots.{heard_at}
use Rattle.coordinators.specs.Steps.{is_vote, higher, any_vote, highest}

-- a vote of the numbers below n that none of them overtakes
pub record Top (votes : ℕ → Bool) (rounds : ℕ → Round) (n box : ℕ) : Type 0 where
  pub below : box < n
  pub vote : votes box ≡ true
  pub highest : (b : ℕ) → b < n → votes b ≡ true → Lower (rounds box) (rounds b) → ⊥

module _ (votes : ℕ → Bool) (rounds : ℕ → Round) where
  -- one vote more: the old top, or the new vote where it is higher
  next : (n : ℕ) → votes n ≡ true → (t : ℕ) × Top votes rounds n t → (t : ℕ) × Top votes rounds (suc n) t
  next n v (t, top) = go (is_below (order_of (rounds t) (rounds n))) refl
    where
      go : (b : Bool) → is_below (order_of (rounds t) (rounds n)) ≡ b → (t : ℕ) × Top votes rounds (suc n) t
      go true e = (
        n,
        record {
          below = omega arith;
          vote = v;
          highest =
              λ b l w h.
              ⊎_elim (λ q. lower_irrefl (rounds n) (subst (λ (x : ℕ). Lower (rounds n) (rounds x)) q h))
              (λ m. top.highest b m w (lower_trans (rounds t) (rounds n) (rounds b) (below_is (rounds t) (rounds n) e) h)) (below_suc l);
        },
      )
      go false e = (
        t,
        record {
          below = omega (arith, top.below);
          vote = top.vote;
          highest =
              λ b l w h.
              ⊎_elim
              (λ q.
              true≢false
              (sym (ap is_below (lower_below (rounds t) (rounds n) (subst (λ (x : ℕ). Lower (rounds t) (rounds x)) q h))) ∙ e))
              (λ m. top.highest b m w h) (below_suc l);
        },
      )

  -- no vote more
  same : (n : ℕ) → votes n ≡ false → (t : ℕ) × Top votes rounds n t → (t : ℕ) × Top votes rounds (suc n) t
  same n v (t, top) = (
    t,
    record {
      below = omega (arith, top.below);
      vote = top.vote;
      highest =
          λ b l w h. ⊎_elim (λ q. true≢false (sym w ∙ ap votes q ∙ v)) (λ m. top.highest b m w h) (below_suc l);
    },
  )

  -- the only vote
  alone : (n : ℕ) → votes n ≡ true → any n votes ≡ false → Top votes rounds (suc n) n
  alone n v e =
      record {
        below = omega arith;
        vote = v;
        highest =
            λ b l w h.
            ⊎_elim (λ q. lower_irrefl (rounds n) (subst (λ (x : ℕ). Lower (rounds n) (rounds x)) q h))
            (λ m. true≢false (sym w ∙ any_none n votes e b m)) (below_suc l);
      }

  pub top_exists : (n : ℕ) → any n votes ≡ true → (t : ℕ) × Top votes rounds n t
  unfolding any
  top_exists zero h = absurd (false≢true h)
  top_exists (suc n) h =
      ⊎_elim (λ v. ⊎_elim (λ a. next n v (top_exists n a)) (λ a. (n, alone n v a)) (decided (any n votes)))
      (λ v. same n v (top_exists n (⊎_elim (λ a. a) (λ a. absurd (true≢false (sym a ∙ v))) (or_cases (any n votes) (votes n) h)))) (decided (votes n))

-- what `highest` says of a vote
pub highest_vote : (r : CoordinatorRow) (h : Heard) → highest r h ≡ true → is_vote h ≡ true
unfolding highest
highest_vote r h e = and_left (is_vote h) _ e

pub highest_top : (r : CoordinatorRow) (h : Heard) → highest r h ≡ true →
    (b : ℕ) → b < most_boxes → is_vote (heard_at r b) ≡ true → Lower h.vrnd (heard_at r b).vrnd → ⊥
unfolding highest
highest_top r h e b l v low =
    true≢false
    (sym (and_true v (ap is_above (lower_above (heard_at r b).vrnd h.vrnd low))) ∙
    any_none most_boxes (λ box. higher (heard_at r box) h) (not-true _ (and_right (is_vote h) _ e)) b l)

pub top_highest : (r : CoordinatorRow) (t : ℕ) → Top (λ b. is_vote (heard_at r b)) (λ b. (heard_at r b).vrnd) most_boxes t → highest r (heard_at r t) ≡ true
unfolding highest
top_highest r t top =
    and_true top.vote
    (ap not
    (any_false most_boxes (λ box. higher (heard_at r box) (heard_at r t))
    (λ b l.
    not_true_false _
    (λ e.
    top.highest b l (and_left (is_vote (heard_at r b)) _ e)
    (above_is (heard_at r b).vrnd (heard_at r t).vrnd (and_right (is_vote (heard_at r b)) _ e))))))

-- where there is a vote there is one of the highest vrnd
pub highest_exists : (r : CoordinatorRow) → any_vote r ≡ true → (t : ℕ) × (t < most_boxes) × (highest r (heard_at r t) ≡ true)
unfolding any_vote
highest_exists r h = go (top_exists (λ b. is_vote (heard_at r b)) (λ b. (heard_at r b).vrnd) most_boxes h)
  where
    go : (t : ℕ) × Top (λ b. is_vote (heard_at r b)) (λ b. (heard_at r b).vrnd) most_boxes t → (t : ℕ) × (t < most_boxes) × (highest r (heard_at r t) ≡ true)
    go (t, top) = (t, top.below, top_highest r t top)
