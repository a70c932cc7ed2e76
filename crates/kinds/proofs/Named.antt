-- A block that is good for a kind is known by that kind's number, and by no other (blocks, `one_kind`).
use Rattle.std.proofs.Common.{ℕ, ◌≡◌, ap, ◌∙◌, true, List}
use Rattle.blocks.specs.Kinds.{good}
use Rattle.blocks.proofs.Theorems.{kind_byte}
use Rattle.blocks.specs.Messages.{propose, one_a, one_b, two_s, two_a, two_b}
use Rattle.blocks.specs.MessagePropers.{ProposeFits, propose_proper, OneAFits, one_a_proper, OneBFits, one_b_proper, TwoSFits, two_s_proper, TwoAFits, two_a_proper, TwoBFits, two_b_proper}
use Rattle.blocks.specs.Rows.{head, coordinator, box, rack, reader}
use Rattle.blocks.specs.RowPropers.{HeadFits, head_proper, CoordinatorFits, coordinator_proper, BoxFits, box_proper, RackFits, rack_proper, ReaderFits, reader_proper}
use Rattle.kinds.specs.Known.{good_as, known}

pub propose_known : (bytes : List ℕ) → good propose bytes ≡ true → known bytes ≡ true
unfolding good_as
propose_known bytes g = ap (λ (n : ℕ). good_as n bytes) (kind_byte propose ProposeFits propose_proper bytes g) ∙ g

pub one_a_known : (bytes : List ℕ) → good one_a bytes ≡ true → known bytes ≡ true
unfolding good_as
one_a_known bytes g = ap (λ (n : ℕ). good_as n bytes) (kind_byte one_a OneAFits one_a_proper bytes g) ∙ g

pub one_b_known : (bytes : List ℕ) → good one_b bytes ≡ true → known bytes ≡ true
unfolding good_as
one_b_known bytes g = ap (λ (n : ℕ). good_as n bytes) (kind_byte one_b OneBFits one_b_proper bytes g) ∙ g

pub two_s_known : (bytes : List ℕ) → good two_s bytes ≡ true → known bytes ≡ true
unfolding good_as
two_s_known bytes g = ap (λ (n : ℕ). good_as n bytes) (kind_byte two_s TwoSFits two_s_proper bytes g) ∙ g

pub two_a_known : (bytes : List ℕ) → good two_a bytes ≡ true → known bytes ≡ true
unfolding good_as
two_a_known bytes g = ap (λ (n : ℕ). good_as n bytes) (kind_byte two_a TwoAFits two_a_proper bytes g) ∙ g

pub two_b_known : (bytes : List ℕ) → good two_b bytes ≡ true → known bytes ≡ true
unfolding good_as
two_b_known bytes g = ap (λ (n : ℕ). good_as n bytes) (kind_byte two_b TwoBFits two_b_proper bytes g) ∙ g

pub head_known : (bytes : List ℕ) → good head bytes ≡ true → known bytes ≡ true
unfolding good_as
head_known bytes g = ap (λ (n : ℕ). good_as n bytes) (kind_byte head HeadFits head_proper bytes g) ∙ g

pub coordinator_known : (bytes : List ℕ) → good coordinator bytes ≡ true → known bytes ≡ true
unfolding good_as
coordinator_known bytes g = ap (λ (n : ℕ). good_as n bytes) (kind_byte coordinator CoordinatorFits coordinator_proper bytes g) ∙ g

pub box_known : (bytes : List ℕ) → good box bytes ≡ true → known bytes ≡ true
unfolding good_as
box_known bytes g = ap (λ (n : ℕ). good_as n bytes) (kind_byte box BoxFits box_proper bytes g) ∙ g

pub rack_known : (bytes : List ℕ) → good rack bytes ≡ true → known bytes ≡ true
unfolding good_as
rack_known bytes g = ap (λ (n : ℕ). good_as n bytes) (kind_byte rack RackFits rack_proper bytes g) ∙ g

pub reader_known : (bytes : List ℕ) → good reader bytes ≡ true → known bytes ≡ true
unfolding good_as
reader_known bytes g = ap (λ (n : ℕ). good_as n bytes) (kind_byte reader ReaderFits reader_proper bytes g) ∙ g
