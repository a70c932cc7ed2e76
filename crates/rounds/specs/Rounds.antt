-- Rounds (n, c, cf), their range and their order.
use Rattle.std.specs.Prelude.{ℕ, leb, ltb, eqb, Bool, true, false, cond, not, ◌&&◌, ◌||◌}
use Rattle.rounds.specs.declared.setup.Setup.{Setup}
use Rattle.rounds.specs.declared.round.Round.{Round}
use Rattle.rounds.specs.declared.order.Order.{Order}
use Rattle.rounds.specs.declared.order.Order.TheVariants.{Below, Equal, Above, Clash}
use Rattle.rounds.specs.Setups.{some_racks}

abbrev pub largest_number : ℕ
largest_number = 65535

abbrev pub round_of : ℕ → ℕ → ℕ → Round
round_of n c cf = record { n = record { 0 = n }; c = c; cf = cf }

-- round Zero has the setup's c0 and cf0
abbrev pub zero_of : Setup → Round
zero_of s = round_of 0 s.c0 s.cf0

-- rounds are equal only if all three agree
abbrev pub same_round : Round → Round → Bool
same_round a b = eqb a.n.0 b.n.0 && (eqb a.c b.c && eqb a.cf b.cf)

-- n 0 to 65,535, c a coordinator, cf a non-empty set of racks; no n = 0 round but Zero
unfoldable pub round_in_range : Setup → Round → Bool
round_in_range s r =
    leb r.n.0 largest_number &&
    (ltb r.c s.coordinators && (some_racks s.racks r.cf && (not (eqb r.n.0 0) || same_round r (zero_of s))))

-- order is by n, then c; two rounds whose n and c agree and cf does not clash
unfoldable pub order_of : Round → Round → Order
order_of a b =
    cond (ltb a.n.0 b.n.0) Below
    (cond (ltb b.n.0 a.n.0) Above
    (cond (ltb a.c b.c) Below (cond (ltb b.c a.c) Above (cond (eqb a.cf b.cf) Equal Clash))))

abbrev pub is_below : Order → Bool
is_below Below = true
is_below Equal = false
is_below Above = false
is_below Clash = false

abbrev pub is_equal : Order → Bool
is_equal Below = false
is_equal Equal = true
is_equal Above = false
is_equal Clash = false

abbrev pub is_above : Order → Bool
is_above Below = false
is_above Equal = false
is_above Above = true
is_above Clash = false

abbrev pub is_clash : Order → Bool
is_clash Below = false
is_clash Equal = false
is_clash Above = false
is_clash Clash = true

-- not above, and no clash
abbrev pub is_up_to : Order → Bool
is_up_to Below = true
is_up_to Equal = true
is_up_to Above = false
is_up_to Clash = false
