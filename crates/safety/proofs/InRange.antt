-- What the rules say of rounds: they are in range, so that c is below 4 and their order is that of their numbers.
use Rattle.std.proofs.Common.{ℕ, ◌≤◌, ◌<◌, arith, ◌≡◌, subst, ltb, eqb, Bool, true, false, cond, not, ◌&&◌, ◌||◌, true≢false, ltb-true, leb-true}
use Rattle.std.proofs.Math.Decide.{dec_lt}
use Rattle.below.proofs.Tests.{and_left, and_right, all_at}
use Rattle.pages.specs.Lines.{mark_in_range}
use Rattle.pages.specs.Racks.{has}
use Rattle.rounds.specs.declared.setup.Setup.{Setup}
use Rattle.rounds.specs.declared.round.Round.{Round}
use Rattle.rounds.specs.Setups.{setup_in_range, one_to, most_racks, most_boxes, most_coordinators}
use Rattle.rounds.specs.declared.order.Order.{Order}
use Rattle.rounds.specs.declared.order.Order.TheVariants.{Below, Equal, Above, Clash}
use Rattle.rounds.specs.Rounds.{round_in_range, same_round, zero_of, order_of, is_clash}
use Rattle.rounds.proofs.Ordered.{key, Lower, Compared, compared, lower_key, key_lower, range_coordinator}
use Rattle.records.specs.declared.messages.OneA.{OneA}
use Rattle.records.specs.declared.messages.TwoS.{TwoS}
use Rattle.records.specs.declared.messages.TwoA.{TwoA}
use Rattle.records.specs.declared.rows.CoordinatorRow.{CoordinatorRow}
use Rattle.records.specs.declared.rows.BoxRow.{BoxRow}
use Rattle.records.specs.declared.rows.RackRow.{RackRow}
use Rattle.records.specs.Slots.{heard_at}
use Rattle.records.specs.Rules.{one_a_rules, two_s_rules, two_a_rules, opened_rules, nothing_heard, filled_heard, heard_rules, all_heard, coordinator_rules, box_rules, rack_rules}
use Rattle.records.proofs.RuleParts.{own_range, last_range}

-- a hall's boxes
pub setup_boxes : (s : Setup) → setup_in_range s ≡ true → s.boxes ≤ most_boxes
unfolding setup_in_range
setup_boxes s h =
    leb-true _ _ (and_right (ltb 0 s.boxes) _ (and_left (one_to most_boxes s.boxes) _ (and_right (one_to most_racks s.racks) _ h)))

-- what a setup's range says of racks and coordinators
pub setup_some_rack : (s : Setup) → setup_in_range s ≡ true → 0 < s.racks
unfolding setup_in_range
setup_some_rack s h = ltb-true _ _ (and_left (ltb 0 s.racks) _ (and_left (one_to most_racks s.racks) _ h))

setup_coordinators : (s : Setup) → setup_in_range s ≡ true → s.coordinators ≤ most_coordinators
unfolding setup_in_range
setup_coordinators s h =
    let later = and_right (one_to most_boxes s.boxes) _ (and_right (one_to most_racks s.racks) _ h) in
    leb-true _ _ (and_right (ltb 0 s.coordinators) _ (and_left (one_to most_coordinators s.coordinators) _ later))

module _ (s : Setup) (good : setup_in_range s ≡ true) where
  pub small_coordinator : (c : ℕ) → c < s.coordinators → c < 4
  small_coordinator c l = omega (arith, setup_coordinators s good)

  -- a round in range
  pub small : (r : Round) → round_in_range s r ≡ true → r.c < 4
  small r h = small_coordinator r.c (range_coordinator s r h)

  pub lower_number : (a b : Round) → round_in_range s a ≡ true → round_in_range s b ≡ true → Lower a b → key a < key b
  lower_number a b p q = lower_key a b (small a p) (small b q)

  pub not_lower_number : (a b : Round) → round_in_range s a ≡ true → round_in_range s b ≡ true → (Lower a b → ⊥) → key b ≤ key a
  not_lower_number a b p q n = go (dec_lt (key a) (key b))
    where
      go : Dec (key a < key b) → key b ≤ key a
      go (yes l) = absurd (n (key_lower a b (small a p) (small b q) l))
      go (no d) = omega (arith, d)

  -- two rounds of one number that don't clash are equal
  pub same_number : (a b : Round) → round_in_range s a ≡ true → round_in_range s b ≡ true → key a ≡ key b → is_clash (order_of a b) ≡ false → a ≡ b
  same_number a b p q e h = go (order_of a b) (compared a b) h
    where
      go : (o : Order) → Compared a b o → is_clash o ≡ false → a ≡ b
      go Below l h = absurd (omega (arith, lower_number a b p q l))
      go Equal d h = d
      go Above l h = absurd (omega (arith, lower_number b a q p l))
      go Clash d h = absurd (true≢false h)

-- the rounds of rows and messages
module _ (s : Setup) (agent : ℕ) where
  pub one_a_range : (m : OneA) → one_a_rules s agent m ≡ true → round_in_range s m.round ≡ true
  unfolding one_a_rules
  one_a_range m h = own_range s agent m.round h

  pub two_s_range : (m : TwoS) → two_s_rules s agent m ≡ true → round_in_range s m.round ≡ true
  unfolding two_s_rules
  two_s_range m h = own_range s agent m.round (and_left _ _ h)

  pub two_a_range : (m : TwoA) → two_a_rules s agent m ≡ true → round_in_range s m.round ≡ true
  unfolding two_a_rules
  two_a_range m h = and_left _ _ (and_left _ _ (and_left _ _ h))

  -- a 2A rack is in cf
  pub two_a_in_cf : (m : TwoA) → two_a_rules s agent m ≡ true → has m.round.cf agent ≡ true
  unfolding two_a_rules
  two_a_in_cf m h = and_right (round_in_range s m.round && mark_in_range m.line.mark) _ (and_left _ _ h)

  pub rack_range : (r : RackRow) → rack_rules s agent r ≡ true → round_in_range s r.prnd ≡ true
  unfolding rack_rules
  rack_range r h = and_left _ _ h

  pub rnd_range : (r : BoxRow) → box_rules s agent r ≡ true → round_in_range s r.rnd ≡ true
  unfolding box_rules
  rnd_range r h = and_left _ _ (and_left _ _ h)

  pub vrnd_range : (r : BoxRow) → box_rules s agent r ≡ true → round_in_range s r.vrnd ≡ true
  unfolding box_rules
  vrnd_range r h = last_range s r.vrnd r.vval (and_right (round_in_range s r.rnd) _ (and_left _ _ h))

  pub crnd_range : (r : CoordinatorRow) → coordinator_rules s agent r ≡ true → round_in_range s r.crnd ≡ true
  unfolding coordinator_rules
  crnd_range r h = and_left _ _ (and_left _ _ (and_left _ _ h))

  -- a heard box exists, and its vrnd is in range
  pub heard_facts : (r : CoordinatorRow) → coordinator_rules s agent r ≡ true → (b : ℕ) → b < most_boxes → (heard_at r b).filled ≡ true →
      (b < s.boxes) × (round_in_range s (heard_at r b).vrnd ≡ true)
  unfolding coordinator_rules all_heard heard_rules filled_heard
  heard_facts r h b l e =
      let slots = and_right (round_in_range s r.crnd && (same_round r.crnd (zero_of s) || eqb r.crnd.c agent) && opened_rules s r.cval) _ h in
      let slot = all_at most_boxes (λ box. heard_rules s r.crnd box (heard_at r box)) slots b l in
      let full : filled_heard s r.crnd b (heard_at r b) ≡ true =
      subst (λ (x : Bool). cond x (filled_heard s r.crnd b (heard_at r b)) (nothing_heard (heard_at r b)) ≡ true) e slot in
      let exists = and_left (ltb b s.boxes) _ (and_left _ _ (and_left _ _ full)) in
      let last = and_right (ltb b s.boxes && not (same_round r.crnd (zero_of s))) _ (and_left _ _ full) in
      (ltb-true b s.boxes exists, last_range s (heard_at r b).vrnd (heard_at r b).vote last)
