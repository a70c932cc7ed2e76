-- The rules that several kinds share, taken apart and put together: what the laws 'rules kept' of the steps go by.
use Rattle.std.proofs.Common.{ℕ, ◌≤◌, ◌<◌, ltb, eqb, leb-true, lt-ltb, eq-eqb, ◌≡◌, refl, sym, subst, ◌∙◌, Bool, true, false, cond, ◌||◌, true≢false, ⊎_elim}
use Rattle.below.proofs.Tests.{and_true, and_left, and_right, or_cases, or_true_left, or_true_right}
use Rattle.pages.specs.declared.page.Page.{Page}
use Rattle.pages.specs.declared.page.Vote.{Vote}
use Rattle.pages.specs.Racks.{racks_below}
use Rattle.pages.specs.Pages.{complete_of, valued_of, empty_of, some}
use Rattle.rounds.specs.declared.round.Round.{Round}
use Rattle.rounds.specs.declared.setup.Setup.{Setup}
use Rattle.rounds.specs.Setups.{setup_in_range, one_to, most_racks}
use Rattle.rounds.specs.Rounds.{round_in_range, same_round, zero_of}
use Rattle.records.specs.Rules.{page_rules, vote_rules, open_rules, last_rules, own_rules}

-- a hall's racks
pub setup_racks : (s : Setup) → setup_in_range s ≡ true → s.racks ≤ most_racks
unfolding setup_in_range
setup_racks s h = leb-true _ _ (and_right (ltb 0 s.racks) _ (and_left (one_to most_racks s.racks) _ h))

-- a coordinator's own round
pub own_range : (s : Setup) (agent : ℕ) (r : Round) → own_rules s agent r ≡ true → round_in_range s r ≡ true
unfolding own_rules
own_range s agent r h = and_left _ _ (and_left _ (eqb r.c agent) h)

pub own_rules_lem : (s : Setup) (agent : ℕ) (r : Round) → round_in_range s r ≡ true → 0 < r.n.0 → r.c ≡ agent → own_rules s agent r ≡ true
unfolding own_rules
own_rules_lem s agent r a b c = and_true (and_true a (lt-ltb 0 r.n.0 b)) (eq-eqb r.c agent c)

-- a page that opens a round
pub open_within : (s : Setup) (p : Page) → open_rules s p ≡ true → page_rules s p ≡ true
unfolding open_rules
open_within s p h = and_left _ _ h

pub open_valued : (s : Setup) (p : Page) → open_rules s p ≡ true → empty_of p ≡ false → valued_of p ≡ true
unfolding open_rules
open_valued s p h e =
    ⊎_elim (λ f. absurd (true≢false (sym f ∙ e))) (λ f. and_right (complete_of (racks_below s.racks) p) _ f)
    (or_cases (empty_of p) _ (and_right (page_rules s p) _ h))

pub empty_open_rules : (s : Setup) (p : Page) → page_rules s p ≡ true → empty_of p ≡ true → open_rules s p ≡ true
unfolding open_rules
empty_open_rules s p w e = and_true w (or_true_left _ e)

pub open_rules_lem : (s : Setup) (p : Page) → page_rules s p ≡ true → complete_of (racks_below s.racks) p ≡ true → valued_of p ≡ true → open_rules s p ≡ true
unfolding open_rules
open_rules_lem s p w c v = and_true w (or_true_right (empty_of p) (and_true c v))

-- a vote
pub vote_within : (s : Setup) (v : Vote) → vote_rules s v ≡ true → page_rules s v.page ≡ true
unfolding vote_rules
vote_within s v h = and_left _ _ h

pub vote_valued : (s : Setup) (v : Vote) → vote_rules s v ≡ true → v.some ≡ true → valued_of v.page ≡ true
unfolding vote_rules
vote_valued s v h e = subst (λ (b : Bool). cond b (valued_of v.page) (empty_of v.page) ≡ true) e (and_right (page_rules s v.page) _ h)

-- a last vote
pub last_range : (s : Setup) (vrnd : Round) (v : Vote) → last_rules s vrnd v ≡ true → round_in_range s vrnd ≡ true
unfolding last_rules
last_range s vrnd v h = and_left _ _ (and_left _ (v.some || same_round vrnd (zero_of s)) h)

pub last_vote : (s : Setup) (vrnd : Round) (v : Vote) → last_rules s vrnd v ≡ true → vote_rules s v ≡ true
unfolding last_rules
last_vote s vrnd v h = and_right (round_in_range s vrnd) _ (and_left _ (v.some || same_round vrnd (zero_of s)) h)

pub last_some_rules : (s : Setup) (vrnd : Round) (p : Page) → round_in_range s vrnd ≡ true → page_rules s p ≡ true → valued_of p ≡ true →
    last_rules s vrnd (some p) ≡ true
unfolding last_rules vote_rules
last_some_rules s vrnd p r w v = and_true (and_true r (and_true w v)) refl
