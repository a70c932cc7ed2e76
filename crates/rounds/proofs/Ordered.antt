-- What the comparison of two rounds means: order by n, then c; equal only if all three agree; a clash otherwise.
use Rattle.std.proofs.Common.{ℕ, ◌+◌, ◌*◌, ◌≤◌, ◌<◌, arith, leb, ltb, eqb, ltb-true, ltb-false, leb-true, eqb-true, ◌≡◌, refl, sym, subst, Bool, true, false, cond, not, ◌&&◌, ◌||◌, ◌⊎◌, inl, inr, ⊎_elim}
use Rattle.std.proofs.Math.Decide.{dec_lt}
use borrow.Author.Tests.{eqb-false}
use Rattle.std.proofs.Math.Bool.{false≢true}
use Rattle.below.proofs.Tests.{and_left, and_right}
use Rattle.rounds.specs.declared.setup.Setup.{Setup}
use Rattle.rounds.specs.declared.round.Round.{Round}
use Rattle.rounds.specs.declared.order.Order.{Order}
use Rattle.rounds.specs.declared.order.Order.TheVariants.{Below, Equal, Above, Clash}
use Rattle.rounds.specs.Rounds.{zero_of, same_round, round_in_range, order_of, is_below, is_equal, is_above, is_up_to, largest_number}
use Rattle.rounds.specs.Setups.{some_racks}

-- by n, then c
abbrev pub Lower : Round → Round → Type 0
Lower a b = (a.n.0 < b.n.0) ⊎ ((a.n.0 ≡ b.n.0) × (a.c < b.c))

-- what each outcome says of the two rounds
abbrev pub Compared : Round → Round → Order → Type 0
Compared a b Below = Lower a b
Compared a b Equal = a ≡ b
Compared a b Above = Lower b a
Compared a b Clash = (a.n.0 ≡ b.n.0) × (a.c ≡ b.c) × (a.cf ≡ b.cf → ⊥)

-- numbers of which neither is below the other
level : (x y : ℕ) → ltb x y ≡ false → ltb y x ≡ false → x ≡ y
level x y p q = omega (arith, ltb-false x y p, ltb-false y x q)

-- all three agree
pub round_same : (a b : Round) → a.n.0 ≡ b.n.0 → a.c ≡ b.c → a.cf ≡ b.cf → a ≡ b
round_same a b p q r = λ i. record { n = record { 0 = p i }; c = q i; cf = r i }

pub same_round_lem : (a b : Round) → same_round a b ≡ true → a ≡ b
same_round_lem a b h =
    round_same a b (eqb-true _ _ (and_left (eqb a.n.0 b.n.0) rest h)) (eqb-true _ _ (and_left (eqb a.c b.c) (eqb a.cf b.cf) later))
    (eqb-true _ _ (and_right (eqb a.c b.c) (eqb a.cf b.cf) later))
  where
    rest : Bool
    rest = eqb a.c b.c && eqb a.cf b.cf

    later : rest ≡ true
    later = and_right (eqb a.n.0 b.n.0) rest h

-- the order is total but for the clash: one of the four holds
pub compared : (a b : Round) → Compared a b (order_of a b)
unfolding order_of
compared a b =
    go (ltb a.n.0 b.n.0) (ltb b.n.0 a.n.0) (ltb a.c b.c) (ltb b.c a.c) (eqb a.cf b.cf) refl refl refl refl refl
  where
    same_n : ltb a.n.0 b.n.0 ≡ false → ltb b.n.0 a.n.0 ≡ false → a.n.0 ≡ b.n.0
    same_n p q = level a.n.0 b.n.0 p q

    same_c : ltb a.c b.c ≡ false → ltb b.c a.c ≡ false → a.c ≡ b.c
    same_c p q = level a.c b.c p q

    go : (x y z u w : Bool) → ltb a.n.0 b.n.0 ≡ x → ltb b.n.0 a.n.0 ≡ y → ltb a.c b.c ≡ z → ltb b.c a.c ≡ u → eqb a.cf b.cf ≡ w →
        Compared a b (cond x Below (cond y Above (cond z Below (cond u Above (cond w Equal Clash)))))
    go true y z u w p q r s t = inl (ltb-true _ _ p)
    go false true z u w p q r s t = inl (ltb-true _ _ q)
    go false false true u w p q r s t = inr (same_n p q, ltb-true _ _ r)
    go false false false true w p q r s t = inr (sym (same_n p q), ltb-true _ _ s)
    go false false false false true p q r s t = round_same a b (same_n p q) (same_c r s) (eqb-true _ _ t)
    go false false false false false p q r s t = (same_n p q, same_c r s, eqb-false _ _ t)

-- each outcome excludes the others, so a fact about the rounds gives the outcome
pub lower_irrefl : (a : Round) → Lower a a → ⊥
lower_irrefl a h = ⊎_elim (λ l. omega arith) (λ p. omega (arith, p.1)) h

pub lower_trans : (a b c : Round) → Lower a b → Lower b c → Lower a c
lower_trans a b c (inl p) (inl q) = inl (omega arith)
lower_trans a b c (inl p) (inr q) = inl (omega (arith, q.0))
lower_trans a b c (inr p) (inl q) = inl (omega (arith, p.0))
lower_trans a b c (inr p) (inr q) = inr (omega (arith, p.0, q.0), omega (arith, p.1, q.1))

-- what the tests on an outcome say
pub below_is : (a b : Round) → is_below (order_of a b) ≡ true → Lower a b
below_is a b h = go (order_of a b) h (compared a b)
  where
    go : (o : Order) → is_below o ≡ true → Compared a b o → Lower a b
    go Below h c = c
    go Equal h c = absurd (false≢true h)
    go Above h c = absurd (false≢true h)
    go Clash h c = absurd (false≢true h)

pub above_is : (a b : Round) → is_above (order_of a b) ≡ true → Lower b a
above_is a b h = go (order_of a b) h (compared a b)
  where
    go : (o : Order) → is_above o ≡ true → Compared a b o → Lower b a
    go Below h c = absurd (false≢true h)
    go Equal h c = absurd (false≢true h)
    go Above h c = c
    go Clash h c = absurd (false≢true h)

pub equal_is : (a b : Round) → is_equal (order_of a b) ≡ true → a ≡ b
equal_is a b h = go (order_of a b) h (compared a b)
  where
    go : (o : Order) → is_equal o ≡ true → Compared a b o → a ≡ b
    go Below h c = absurd (false≢true h)
    go Equal h c = c
    go Above h c = absurd (false≢true h)
    go Clash h c = absurd (false≢true h)

pub up_to_is : (a b : Round) → is_up_to (order_of a b) ≡ true → Lower a b ⊎ (a ≡ b)
up_to_is a b h = go (order_of a b) h (compared a b)
  where
    go : (o : Order) → is_up_to o ≡ true → Compared a b o → Lower a b ⊎ (a ≡ b)
    go Below h c = inl c
    go Equal h c = inr c
    go Above h c = absurd (false≢true h)
    go Clash h c = absurd (false≢true h)

pub lower_below : (a b : Round) → Lower a b → order_of a b ≡ Below
lower_below a b l = go (order_of a b) refl (compared a b)
  where
    go : (o : Order) → order_of a b ≡ o → Compared a b o → order_of a b ≡ Below
    go Below e c = e
    go Equal e c = absurd (lower_irrefl b (subst (λ (x : Round). Lower x b) c l))
    go Above e c = absurd (lower_irrefl a (lower_trans a b a l c))
    go Clash e c = absurd (⊎_elim (λ p. omega (arith, p, c.0)) (λ p. omega (arith, p.1, c.1)) l)

pub lower_above : (a b : Round) → Lower b a → order_of a b ≡ Above
lower_above a b l = go (order_of a b) refl (compared a b)
  where
    go : (o : Order) → order_of a b ≡ o → Compared a b o → order_of a b ≡ Above
    go Below e c = absurd (lower_irrefl a (lower_trans a b a c l))
    go Equal e c = absurd (lower_irrefl b (subst (λ (x : Round). Lower b x) c l))
    go Above e c = e
    go Clash e c = absurd (⊎_elim (λ p. omega (arith, p, c.0)) (λ p. omega (arith, p.1, c.1)) l)

pub equal_order : (a : Round) → order_of a a ≡ Equal
equal_order a = go (order_of a a) refl (compared a a)
  where
    go : (o : Order) → order_of a a ≡ o → Compared a a o → order_of a a ≡ Equal
    go Below e c = absurd (lower_irrefl a c)
    go Equal e c = e
    go Above e c = absurd (lower_irrefl a c)
    go Clash e c = absurd (c.2 refl)

-- the parts of a round's range
pub range_number : (s : Setup) (r : Round) → round_in_range s r ≡ true → r.n.0 ≤ largest_number
unfolding round_in_range
range_number s r h = leb-true _ _ (and_left (leb r.n.0 largest_number) _ h)

pub range_coordinator : (s : Setup) (r : Round) → round_in_range s r ≡ true → r.c < s.coordinators
unfolding round_in_range
range_coordinator s r h = ltb-true _ _ (and_left (ltb r.c s.coordinators) _ (and_right (leb r.n.0 largest_number) _ h))

pub range_racks : (s : Setup) (r : Round) → round_in_range s r ≡ true → some_racks s.racks r.cf ≡ true
unfolding round_in_range
range_racks s r h =
    and_left (some_racks s.racks r.cf) _ (and_right (ltb r.c s.coordinators) _ (and_right (leb r.n.0 largest_number) _ h))

-- no n = 0 round but Zero
pub range_zero : (s : Setup) (r : Round) → round_in_range s r ≡ true → r.n.0 ≡ 0 → r ≡ zero_of s
unfolding round_in_range
range_zero s r h e =
    same_round_lem r (zero_of s)
    (subst (λ (x : ℕ). not (eqb x 0) || same_round r (zero_of s) ≡ true) e
    (and_right (some_racks s.racks r.cf) _ (and_right (ltb r.c s.coordinators) _ (and_right (leb r.n.0 largest_number) _ h))))

-- round Zero is the lowest of a hall's rounds
pub zero_lowest : (s : Setup) (r : Round) → round_in_range s r ≡ true → (r ≡ zero_of s) ⊎ Lower (zero_of s) r
zero_lowest s r h = go (dec_lt 0 r.n.0)
  where
    go : Dec (0 < r.n.0) → (r ≡ zero_of s) ⊎ Lower (zero_of s) r
    go (yes l) = inr (inl l)
    go (no d) = inl (range_zero s r h (omega (arith, d)))

-- In a hall, where c is below 4, rounds are told apart but for cf by one number, 4 × n + c: the order is that of the numbers.
abbrev pub key : Round → ℕ
key r = 4 * r.n.0 + r.c

pub lower_key : (a b : Round) → a.c < 4 → b.c < 4 → Lower a b → key a < key b
lower_key a b p q (inl l) = omega arith
lower_key a b p q (inr l) = omega (arith, l.0, l.1)

pub key_lower : (a b : Round) → a.c < 4 → b.c < 4 → key a < key b → Lower a b
key_lower a b p q h = go (dec_lt a.n.0 b.n.0)
  where
    go : Dec (a.n.0 < b.n.0) → Lower a b
    go (yes l) = inl l
    go (no d) = inr (omega (arith, d), omega (arith, d))

pub key_same : (a b : Round) → a.c < 4 → b.c < 4 → key a ≡ key b → (a.n.0 ≡ b.n.0) × (a.c ≡ b.c)
key_same a b p q h = (omega arith, omega arith)
