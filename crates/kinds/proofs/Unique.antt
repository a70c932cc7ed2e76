-- The contract of `kind_of` determines its answer.
use Rattle.std.proofs.Common.{◌≡◌, sym, ap, ◌∙◌, Result, Ok, Err}
use Rattle.below.specs.declared.refusals.Refusal.{Refusal}
use Rattle.below.specs.Refusals.{number_of}
use Rattle.below.proofs.Unique.{Determines}
use Rattle.below.proofs.Refused.{number_some, number_one as refusal_one}
use Rattle.blocks.specs.declared.kind.Kind.{Kind}
use Rattle.kinds.specs.Known.{kind_number}
use Rattle.kinds.proofs.Telling.{number_one}
use Rattle.kinds.proofs.kind_of.Kinds as kind_of_kinds
use Rattle.kinds.proofs.kind_of.Reads as kind_of

told_one : (x y : Result Kind Refusal) → number_of x ≡ number_of y → kind_number x ≡ kind_number y → x ≡ y
told_one (Ok k) (Ok j) n m = ap Ok (number_one k j m)
told_one (Ok k) (Err f) n m = absurd (number_some f (sym n))
told_one (Err e) (Ok j) n m = absurd (number_some e n)
told_one (Err e) (Err f) n m = ap Err (refusal_one e f n)

pub kind_of_unique : Determines 1 kind_of_kinds.ps kind_of_kinds.r kind_of.Post
kind_of_unique κs a x y s t p q = told_one x y (p.refused ∙ sym q.refused) (p.named ∙ sym q.named)
