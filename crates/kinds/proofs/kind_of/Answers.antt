use Rattle.std.proofs.Common.{rules, ◌≡◌, length, refl, sym, ap, ◌∙◌, Bool, cond, Some, eq-eqb}
use Rattle.blocks.specs.Frame.{block_size}
use Rattle.kinds.specs.Known.{good_as}
use Rattle.kinds.proofs.Telling.{number_named, no_kind, told}
use Rattle.kinds.proofs.kind_of.Goals as goal

pub returns-in-None : goal.returns-in-None
returns-in-None c =
    let long : length c.args.block.now ≡ block_size = search rules in
    told c.args.block.now long refl (no_kind _ _ (sym c.of.ensures ∙ c.in-None.is))
    (ap (λ (b : Bool). cond b 2 1) (sym (eq-eqb (length c.args.block.now) block_size long))) refl

pub returns-in-Some-Propose : goal.returns-in-Some-Propose
unfolding good_as
returns-in-Some-Propose c =
    told c.args.block.now (search rules) (number_named _ _ (sym c.of.ensures ∙ c.in-Some-Propose.is ∙ ap Some c.in-Some-Propose.field-0-is)) refl
    c.kind_as.ensures.refused c.kind_as.ensures.named

pub returns-in-Some-OneA : goal.returns-in-Some-OneA
unfolding good_as
returns-in-Some-OneA c =
    told c.args.block.now (search rules) (number_named _ _ (sym c.of.ensures ∙ c.in-Some-OneA.is ∙ ap Some c.in-Some-OneA.field-0-is)) refl
    c.kind_as-in-Some-OneA.ensures.refused c.kind_as-in-Some-OneA.ensures.named

pub returns-in-Some-OneB : goal.returns-in-Some-OneB
unfolding good_as
returns-in-Some-OneB c =
    told c.args.block.now (search rules) (number_named _ _ (sym c.of.ensures ∙ c.in-Some-OneB.is ∙ ap Some c.in-Some-OneB.field-0-is)) refl
    c.kind_as-in-Some-OneB.ensures.refused c.kind_as-in-Some-OneB.ensures.named

pub returns-in-Some-TwoS : goal.returns-in-Some-TwoS
unfolding good_as
returns-in-Some-TwoS c =
    told c.args.block.now (search rules) (number_named _ _ (sym c.of.ensures ∙ c.in-Some-TwoS.is ∙ ap Some c.in-Some-TwoS.field-0-is)) refl
    c.kind_as-in-Some-TwoS.ensures.refused c.kind_as-in-Some-TwoS.ensures.named

pub returns-in-Some-TwoA : goal.returns-in-Some-TwoA
unfolding good_as
returns-in-Some-TwoA c =
    told c.args.block.now (search rules) (number_named _ _ (sym c.of.ensures ∙ c.in-Some-TwoA.is ∙ ap Some c.in-Some-TwoA.field-0-is)) refl
    c.kind_as-in-Some-TwoA.ensures.refused c.kind_as-in-Some-TwoA.ensures.named

pub returns-in-Some-TwoB : goal.returns-in-Some-TwoB
unfolding good_as
returns-in-Some-TwoB c =
    told c.args.block.now (search rules) (number_named _ _ (sym c.of.ensures ∙ c.in-Some-TwoB.is ∙ ap Some c.in-Some-TwoB.field-0-is)) refl
    c.kind_as-in-Some-TwoB.ensures.refused c.kind_as-in-Some-TwoB.ensures.named

pub returns-in-Some-Head : goal.returns-in-Some-Head
unfolding good_as
returns-in-Some-Head c =
    told c.args.block.now (search rules) (number_named _ _ (sym c.of.ensures ∙ c.in-Some-Head.is ∙ ap Some c.in-Some-Head.field-0-is)) refl
    c.kind_as-in-Some-Head.ensures.refused c.kind_as-in-Some-Head.ensures.named

pub returns-in-Some-Coordinator : goal.returns-in-Some-Coordinator
unfolding good_as
returns-in-Some-Coordinator c =
    told c.args.block.now (search rules) (number_named _ _ (sym c.of.ensures ∙ c.in-Some-Coordinator.is ∙ ap Some c.in-Some-Coordinator.field-0-is)) refl
    c.kind_as-in-Some-Coordinator.ensures.refused c.kind_as-in-Some-Coordinator.ensures.named

pub returns-in-Some-Box : goal.returns-in-Some-Box
unfolding good_as
returns-in-Some-Box c =
    told c.args.block.now (search rules) (number_named _ _ (sym c.of.ensures ∙ c.in-Some-Box.is ∙ ap Some c.in-Some-Box.field-0-is)) refl
    c.kind_as-in-Some-Box.ensures.refused c.kind_as-in-Some-Box.ensures.named

pub returns-in-Some-Rack : goal.returns-in-Some-Rack
unfolding good_as
returns-in-Some-Rack c =
    told c.args.block.now (search rules) (number_named _ _ (sym c.of.ensures ∙ c.in-Some-Rack.is ∙ ap Some c.in-Some-Rack.field-0-is)) refl
    c.kind_as-in-Some-Rack.ensures.refused c.kind_as-in-Some-Rack.ensures.named

pub returns-in-Some-Reader : goal.returns-in-Some-Reader
unfolding good_as
returns-in-Some-Reader c =
    told c.args.block.now (search rules) (number_named _ _ (sym c.of.ensures ∙ c.in-Some-Reader.is ∙ ap Some c.in-Some-Reader.field-0-is)) refl
    c.kind_as-in-Some-Reader.ensures.refused c.kind_as-in-Some-Reader.ensures.named
