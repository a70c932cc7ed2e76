-- Good blocks of a hall, of any kind: what a good block says, and that what is encoded is one.
use Rattle.std.proofs.Common.{ℕ, ◌≤◌, ◌<◌, leb, eqb, ◌≡◌, refl, sym, ap, subst, ◌∙◌, true, ◌&&◌, List, eqb-true, eq-eqb, ltb-true, le-leb, lt-ltb}
use Rattle.below.proofs.Tests.{and_true, and_left, and_right}
use Rattle.rounds.specs.declared.setup.Setup.{Setup}
use Rattle.rounds.specs.Setups.{setup_in_range, same_setup}
use Rattle.records.specs.declared.stamp.Stamp.{Stamp}
use Rattle.records.specs.Rules.{stamp_rules}
use Rattle.words.specs.Bytes.{byte}
use Rattle.blocks.specs.Kinds as Kinds
use Rattle.blocks.specs.Kinds.{Kind, encode, kept}
use Rattle.blocks.proofs.Kept.{Kept}
use Rattle.kinds.specs.Known.{good_as, known}
use Rattle.acts.specs.Acts.{is_a, body_of, agent_of}
use Rattle.acts.specs.Named.{stamp_of, same_hall}

abbrev pub stamp_for : ℕ → Setup → ℕ → Stamp
stamp_for instance s agent = record { instance = record { 0 = instance }; setup = s; agent = agent }

-- a good block of a kind, with this stamp
pub record Good {A : Type 0} (k : Kind A) (stamp : Stamp) (block : List ℕ) : Type 0 where
  pub good : Kinds.good k block ≡ true
  pub stamped : stamp_of block ≡ stamp

-- a good block of whatever kind, of this hall
pub record OfHall (instance : ℕ) (s : Setup) (block : List ℕ) : Type 0 where
  pub good : known block ≡ true
  pub stamped : stamp_of block ≡ stamp_for instance s (agent_of block)

same_self : (s : Setup) → same_setup s s ≡ true
same_self s =
    and_true (self s.racks)
    (and_true (self s.boxes) (and_true (self s.coordinators) (and_true (self s.readers) (and_true (self s.c0) (self s.cf0)))))
  where
    self : (n : ℕ) → eqb n n ≡ true
    self n = eq-eqb n n refl

pub same_hall_lem : (a b : Stamp) → a.instance.0 ≡ b.instance.0 → a.setup ≡ b.setup → same_hall a b ≡ true
same_hall_lem a b i e = and_true (subst (λ (x : Setup). same_setup a.setup x ≡ true) e (same_self a.setup)) (eq-eqb _ _ i)

module _ {A : Type 0} (k : Kind A) (Shaped : A → Type 0) (laws : Kept k Shaped) where
  pub kind_is : (block : List ℕ) → Kinds.good k block ≡ true → byte block 2 ≡ k.number
  unfolding encode
  kind_is block h = ap (λ (l : List ℕ). byte l 2) (laws.writes_back block h)

  pub good_is : {stamp : Stamp} {block : List ℕ} → Good k stamp block → is_a k block ≡ true
  good_is {block = block} g = eq-eqb _ _ (kind_is block g.good)

  -- the record keeps the rules, and its agent exists
  good_kept : {stamp : Stamp} {block : List ℕ} → Good k stamp block → kept k stamp (body_of k block) ≡ true
  good_kept {block = block} g = subst (λ (x : Stamp). kept k x (body_of k block) ≡ true) g.stamped (laws.to_record block g.good)

  pub good_rules : {stamp : Stamp} {block : List ℕ} → Good k stamp block → k.rules stamp.setup stamp.agent (body_of k block) ≡ true
  good_rules {stamp} g = and_right (stamp_rules stamp (k.agents stamp.setup)) _ (good_kept g)

  pub good_agent : {stamp : Stamp} {block : List ℕ} → Good k stamp block → stamp.agent < k.agents stamp.setup
  unfolding stamp_rules
  good_agent {stamp} {block} g =
      ltb-true _ _
      (and_right (setup_in_range stamp.setup && leb stamp.instance.0 65535) _
      (and_left _ (k.rules stamp.setup stamp.agent (body_of k block)) (good_kept g)))

  -- a record of this hall that keeps the rules is written as a good block, which reads back as that record
  module _ {instance : ℕ} {s : Setup} {agent : ℕ} (body : A) (range : setup_in_range s ≡ true) (small : instance ≤ 65535) (l : agent < k.agents s)
      (rules : k.rules s agent body ≡ true) (shaped : Shaped body) where
    keeps : kept k (stamp_for instance s agent) body ≡ true
    unfolding stamp_rules
    keeps = and_true (and_true (and_true range (le-leb _ _ small)) (lt-ltb _ _ l)) rules

    pub encoded_good : Good k (stamp_for instance s agent) (encode k (stamp_for instance s agent) body)
    encoded_good =
        record {
          good = (laws.reads_back (stamp_for instance s agent) body shaped keeps).0;
          stamped = ap (λ (v : Stamp × A). v.0) (laws.reads_back (stamp_for instance s agent) body shaped keeps).1;
        }

    pub encoded_body : body_of k (encode k (stamp_for instance s agent) body) ≡ body
    encoded_body = ap (λ (v : Stamp × A). v.1) (laws.reads_back (stamp_for instance s agent) body shaped keeps).1

  -- to and from a block of whatever kind
  module _ {instance : ℕ} {s : Setup} {block : List ℕ} (named : good_as k.number block ≡ Kinds.good k block) where
    pub of_hall : {agent : ℕ} → Good k (stamp_for instance s agent) block → OfHall instance s block
    of_hall {agent} g =
        record {
          good = ap (λ (n : ℕ). good_as n block) (kind_is block g.good) ∙ named ∙ g.good;
          stamped = g.stamped ∙ ap (λ (x : Stamp). stamp_for instance s x.agent) (sym g.stamped);
        }

    pub of_kind : OfHall instance s block → is_a k block ≡ true → Good k (stamp_for instance s (agent_of block)) block
    of_kind h e =
        record { good = sym named ∙ ap (λ (n : ℕ). good_as n block) (sym (eqb-true _ _ e)) ∙ h.good; stamped = h.stamped }
