-- A good block of whatever kind is good for a kind exactly if its third byte is that kind's number; so a block that was read as
-- the kind that a step names needs no second look.
use Rattle.std.proofs.Common.{ℕ, ◌≡◌, refl, sym, ap, ◌∙◌, Bool, true, false, List, eqb-true}
use borrow.Author.Tests.{eqb-false}
use Rattle.below.proofs.Tests.{not_true_false}
use Rattle.words.specs.Bytes.{byte}
use Rattle.blocks.specs.Kinds.{Kind, good}
use Rattle.blocks.specs.Proper.{Proper}
use Rattle.blocks.proofs.Theorems.{kind_byte}
use Rattle.blocks.specs.Messages.{propose, one_a, one_b, two_s, two_a, two_b}
use Rattle.blocks.specs.MessagePropers.{ProposeFits, propose_proper, OneAFits, one_a_proper, OneBFits, one_b_proper, TwoSFits, two_s_proper, TwoAFits, two_a_proper, TwoBFits, two_b_proper}
use Rattle.blocks.specs.Rows.{coordinator, box, rack, reader}
use Rattle.blocks.specs.RowPropers.{CoordinatorFits, coordinator_proper, BoxFits, box_proper, RackFits, rack_proper, ReaderFits, reader_proper}
use Rattle.kinds.specs.Known.{good_as, known}
use Rattle.kinds.proofs.Named.{propose_known, one_a_known, one_b_known, two_s_known, two_a_known, two_b_known, coordinator_known, box_known, rack_known, reader_known}
use Rattle.acts.specs.Acts.{is_a}

-- a kind that `known` looks at
pub record Familiar {A : Type 0} (k : Kind A) : Type 0 where
  pub seen : (bytes : List ℕ) → good k bytes ≡ true → known bytes ≡ true
  pub told : (bytes : List ℕ) → known bytes ≡ true → good k bytes ≡ is_a k bytes

module _ {A : Type 0} (k : Kind A) (P : A → Type 0) (proper : Proper k P) where
  familiar : ((bytes : List ℕ) → good k bytes ≡ true → known bytes ≡ true) → ((bytes : List ℕ) → good_as k.number bytes ≡ good k bytes) → Familiar k
  familiar seen named = record { seen = seen; told = λ bytes h. go bytes h (is_a k bytes) refl }
    where
      go : (bytes : List ℕ) → known bytes ≡ true → (b : Bool) → is_a k bytes ≡ b → good k bytes ≡ b
      go bytes h true e = sym (named bytes) ∙ ap (λ (n : ℕ). good_as n bytes) (sym (eqb-true (byte bytes 2) k.number e)) ∙ h
      go bytes h false e = not_true_false (good k bytes) (λ g. eqb-false (byte bytes 2) k.number e (kind_byte k P proper bytes g))

pub propose_familiar : Familiar propose
unfolding good_as
propose_familiar = familiar propose ProposeFits propose_proper propose_known (λ bytes. refl)

pub one_a_familiar : Familiar one_a
unfolding good_as
one_a_familiar = familiar one_a OneAFits one_a_proper one_a_known (λ bytes. refl)

pub one_b_familiar : Familiar one_b
unfolding good_as
one_b_familiar = familiar one_b OneBFits one_b_proper one_b_known (λ bytes. refl)

pub two_s_familiar : Familiar two_s
unfolding good_as
two_s_familiar = familiar two_s TwoSFits two_s_proper two_s_known (λ bytes. refl)

pub two_a_familiar : Familiar two_a
unfolding good_as
two_a_familiar = familiar two_a TwoAFits two_a_proper two_a_known (λ bytes. refl)

pub two_b_familiar : Familiar two_b
unfolding good_as
two_b_familiar = familiar two_b TwoBFits two_b_proper two_b_known (λ bytes. refl)

pub coordinator_familiar : Familiar coordinator
unfolding good_as
coordinator_familiar = familiar coordinator CoordinatorFits coordinator_proper coordinator_known (λ bytes. refl)

pub box_familiar : Familiar box
unfolding good_as
box_familiar = familiar box BoxFits box_proper box_known (λ bytes. refl)

pub rack_familiar : Familiar rack
unfolding good_as
rack_familiar = familiar rack RackFits rack_proper rack_known (λ bytes. refl)

pub reader_familiar : Familiar reader
unfolding good_as
reader_familiar = familiar reader ReaderFits reader_proper reader_known (λ bytes. refl)
