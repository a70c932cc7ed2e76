-- Values that keep the rules fit their bytes.
use Rattle.std.proofs.Common.{ℕ, ◌^◌, ◌≤◌, ◌<◌, arith, eqb, leb, ltb, length, get_or, pow_mono, ◌≡◌, Bool, true, false, cond, not, ◌&&◌, ◌||◌, eqb-true, leb-true, ltb-true}
use Rattle.std.proofs.Math.Bool.{false≢true}
use Rattle.below.proofs.Tests.{and_left, and_right, all_at}
use Rattle.pages.specs.declared.line.Mark.{Mark}
use Rattle.pages.specs.declared.line.Mark.TheVariants.{Absent, Nil, Reading as reads}
use Rattle.pages.specs.declared.line.Line.{Line}
use Rattle.pages.specs.declared.page.Page.{Page}
use Rattle.pages.specs.declared.page.Vote.{Vote}
use Rattle.pages.specs.Lines.{is_absent, mark_in_range}
use Rattle.pages.specs.Racks.{most_racks, racks_below}
use Rattle.pages.specs.Pages.{line, at, within_of, empty_of}
use Rattle.rounds.specs.declared.setup.Setup.{Setup}
use Rattle.rounds.specs.declared.round.Round.{Round}
use Rattle.rounds.specs.Setups.{one_to, some_racks, setup_in_range}
use Rattle.rounds.specs.Rounds.{round_in_range, same_round, zero_of}
use Rattle.records.specs.declared.stamp.Stamp.{Stamp}
use Rattle.records.specs.Slots.{no_round}
use Rattle.records.specs.Rules.{stamp_rules, page_rules, vote_rules, open_rules, opened_rules, last_rules, own_rules}
use Rattle.fields.specs.Layout.{payload_of}
use Rattle.fields.proofs.Fitted.{ReadingFits, RoundFits, LineFits, PageFits, VoteFits}
use Rattle.blocks.proofs.Framing.{StampFits}

-- the numbers of a setup that is in range
pub record SetupFits (s : Setup) : Type 0 where
  pub racks : s.racks ≤ 8
  pub boxes : s.boxes ≤ 5
  pub coordinators : s.coordinators ≤ 4
  pub readers : s.readers ≤ 4
  pub c0 : s.c0 < 4
  pub cf0 : s.cf0 < 256

up_to : (limit x : ℕ) → one_to limit x ≡ true → x ≤ limit
up_to limit x h = leb-true x limit (and_right (ltb 0 x) _ h)

-- a set of racks is a byte
pub some_small : (racks cf : ℕ) → racks ≤ 8 → some_racks racks cf ≡ true → cf < 256
some_small racks cf l h = let m : 2 ^ racks ≤ 256 = pow_mono l in let b : cf < 2 ^ racks = ltb-true cf (2 ^ racks) (and_right (ltb 0 cf) _ h) in omega arith

pub setup_fits : (s : Setup) → setup_in_range s ≡ true → SetupFits s
unfolding setup_in_range
setup_fits s h =
    record {
      racks = up_to 8 s.racks one;
      boxes = up_to 5 s.boxes (and_left (one_to 5 s.boxes) _ two);
      coordinators = up_to 4 s.coordinators (and_left (one_to 4 s.coordinators) _ three);
      readers = up_to 4 s.readers (and_left (one_to 4 s.readers) _ four);
      c0 = below (ltb-true _ _ (and_left (ltb s.c0 s.coordinators) _ five)) (up_to 4 s.coordinators (and_left (one_to 4 s.coordinators) _ three));
      cf0 = some_small s.racks s.cf0 (up_to 8 s.racks one) (and_right (ltb s.c0 s.coordinators) _ five);
    }
  where
    below : {a b : ℕ} → a < b → b ≤ 4 → a < 4
    below p q = omega arith

    one : one_to 8 s.racks ≡ true
    one = and_left (one_to 8 s.racks) _ h

    two : one_to 5 s.boxes && (one_to 4 s.coordinators && (one_to 4 s.readers && (ltb s.c0 s.coordinators && some_racks s.racks s.cf0))) ≡ true
    two = and_right (one_to 8 s.racks) _ h

    three : one_to 4 s.coordinators && (one_to 4 s.readers && (ltb s.c0 s.coordinators && some_racks s.racks s.cf0)) ≡ true
    three = and_right (one_to 5 s.boxes) _ two

    four : one_to 4 s.readers && (ltb s.c0 s.coordinators && some_racks s.racks s.cf0) ≡ true
    four = and_right (one_to 4 s.coordinators) _ three

    five : ltb s.c0 s.coordinators && some_racks s.racks s.cf0 ≡ true
    five = and_right (one_to 4 s.readers) _ four

pub stamp_setup : (s : Stamp) (agents : ℕ) → stamp_rules s agents ≡ true → setup_in_range s.setup ≡ true
unfolding stamp_rules
stamp_setup s agents h = and_left (setup_in_range s.setup) _ (and_left (setup_in_range s.setup && leb s.instance.0 65535) _ h)

pub stamp_fits : (s : Stamp) (agents : ℕ) → (SetupFits s.setup → agents ≤ 256) → stamp_rules s agents ≡ true → StampFits s
unfolding stamp_rules
stamp_fits s agents few h =
    (low (leb-true _ _ (and_right (setup_in_range s.setup) _ (and_left (setup_in_range s.setup && leb s.instance.0 65535) _ h))), (tt, (up f.racks, (up' f.boxes, (up'' f.coordinators, (up'' f.readers, (c f.c0, (f.cf0, agent))))))))
  where
    f : SetupFits s.setup
    f = setup_fits s.setup (stamp_setup s agents h)

    low : {x : ℕ} → x ≤ 65535 → x < 65536
    low p = omega arith

    up : {x : ℕ} → x ≤ 8 → x < 256
    up p = omega arith

    up' : {x : ℕ} → x ≤ 5 → x < 256
    up' p = omega arith

    up'' : {x : ℕ} → x ≤ 4 → x < 256
    up'' p = omega arith

    c : {x : ℕ} → x < 4 → x < 256
    c p = omega arith

    agent : s.agent < 256
    agent = let l : s.agent < agents = ltb-true _ _ (and_right (setup_in_range s.setup && leb s.instance.0 65535) _ h) in let m : agents ≤ 256 = few f in omega arith

pub round_fits : (s : Setup) (r : Round) → SetupFits s → round_in_range s r ≡ true → RoundFits r
unfolding round_in_range
round_fits s r f h = (
  low (leb-true _ _ (and_left (leb r.n.0 65535) _ h)),
  (
    below (ltb-true _ _ (and_left (ltb r.c s.coordinators) _ rest)) f.coordinators,
    some_small s.racks r.cf f.racks (and_left (some_racks s.racks r.cf) _ (and_right (ltb r.c s.coordinators) _ rest)),
  ),
)
  where
    low : {x : ℕ} → x ≤ 65535 → x < 65536
    low p = omega arith

    below : {a b : ℕ} → a < b → b ≤ 4 → a < 256
    below p q = omega arith

    rest : ltb r.c s.coordinators && (some_racks s.racks r.cf && (not (eqb r.n.0 0) || same_round r (zero_of s))) ≡ true
    rest = and_right (leb r.n.0 65535) _ h

-- the round of an empty slot
pub no_round_fits : (r : Round) → same_round r no_round ≡ true → RoundFits r
no_round_fits r h =
    (small (eqb-true _ _ (and_left (eqb r.n.0 0) _ h)), (byte_small (eqb-true _ _ (and_left (eqb r.c 0) _ rest)), byte_small (eqb-true _ _ (and_right (eqb r.c 0) _ rest))))
  where
    small : {x : ℕ} → x ≡ 0 → x < 65536
    small p = omega arith

    byte_small : {x : ℕ} → x ≡ 0 → x < 256
    byte_small p = omega arith

    rest : eqb r.c 0 && eqb r.cf 0 ≡ true
    rest = and_right (eqb r.n.0 0) _ h

pub line_fits : (l : Line) → mark_in_range l.mark ≡ true → LineFits l
line_fits l h = go l.mark h
  where
    go : (m : Mark) → mark_in_range m ≡ true → ReadingFits (payload_of m)
    go Absent e = omega arith
    go Nil e = omega arith
    go (reads r) e = let b : r.0 ≤ 4294967295 = leb-true _ _ (and_right (leb 65536 r.0) _ e) in omega arith

pub page_fits : (set : ℕ → Bool) (p : Page) → length p.lines ≡ most_racks → within_of set p ≡ true → PageFits p
unfolding within_of at
page_fits set p l h =
    record {
      many = l;
      each = λ k b. line_fits (get_or p.lines k (line Absent)) (and_right (set k || is_absent (at p k)) _ (all_at most_racks (λ j. (set j || is_absent (at p j)) && mark_in_range (at p j)) h k b));
    }

pub empty_fits : (p : Page) → length p.lines ≡ most_racks → empty_of p ≡ true → PageFits p
unfolding empty_of at
empty_fits p l h =
    record { many = l; each = λ k b. go (get_or p.lines k (line Absent)).mark (all_at most_racks (λ j. is_absent (at p j)) h k b) }
  where
    go : (m : Mark) → is_absent m ≡ true → ReadingFits (payload_of m)
    go Absent e = omega arith
    go Nil e = omega arith
    go (reads r) e = absurd (false≢true e)

-- the parts of the rules that several kinds share
module _ (s : Setup) (f : SetupFits s) where
  pub own_fits : (agent : ℕ) (r : Round) → own_rules s agent r ≡ true → RoundFits r
  unfolding own_rules
  own_fits agent r h = round_fits s r f (and_left (round_in_range s r) _ (and_left (round_in_range s r && ltb 0 r.n.0) _ h))

  pub vote_fits : (v : Vote) → length v.page.lines ≡ most_racks → vote_rules s v ≡ true → VoteFits v
  unfolding vote_rules
  vote_fits v l h = page_fits (racks_below s.racks) v.page l (and_left (page_rules s v.page) _ h)

  pub open_fits : (p : Page) → length p.lines ≡ most_racks → open_rules s p ≡ true → PageFits p
  unfolding open_rules
  open_fits p l h = page_fits (racks_below s.racks) p l (and_left (page_rules s p) _ h)

  pub opened_fits : (v : Vote) → length v.page.lines ≡ most_racks → opened_rules s v ≡ true → VoteFits v
  unfolding opened_rules
  opened_fits v l h = go v.some h
    where
      go : (b : Bool) → cond b (open_rules s v.page) (empty_of v.page) ≡ true → VoteFits v
      go true e = open_fits v.page l e
      go false e = empty_fits v.page l e

  pub last_fits : (r : Round) (v : Vote) → length v.page.lines ≡ most_racks → last_rules s r v ≡ true → RoundFits r × VoteFits v
  unfolding last_rules
  last_fits r v l h = (
    round_fits s r f (and_left (round_in_range s r) _ (and_left (round_in_range s r && vote_rules s v) _ h)),
    vote_fits v l (and_right (round_in_range s r) _ (and_left (round_in_range s r && vote_rules s v) _ h)),
  )
