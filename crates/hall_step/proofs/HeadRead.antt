-- The hall's step as far as the head and the numbers say: 1, 2, 4 and 11, or on to the blocks that it names.
use Rattle.std.proofs.Common.{ℕ, arith, length, eq-eqb, ◌≡◌, refl, sym, ap, subst, ◌∙◌, Bool, true, false, cond, List}
use Rattle.records.specs.declared.stamp.Stamp.{Stamp}
use Rattle.records.specs.declared.rows.Head.{Head}
use Rattle.blocks.specs.Kinds.{good}
use Rattle.blocks.specs.Answers.{Reads}
use Rattle.blocks.specs.Rows.{head}
use Rattle.acts.specs.declared.step.Step.{Step}
use Rattle.hall.specs.Halls.{hall_size, block_at}
use Rattle.hall.specs.Steps.{is_code, step_exists, numbers_in_range, head_of, count_of, Steps}
use Rattle.hall.proofs.Cells.{length_block}
use Rattle.hall_step.specs.Reached.{Reached}
use Rattle.hall_step.proofs.Stepping.{bad_head, no_such_step_lem, out_of_range}

module _ (hall : List ℕ) (x : Step) (long : length hall ≡ hall_size) {refusal : ℕ} {stamp : Stamp} {body : Head} (read : Reads head (block_at hall 0) refusal stamp body) where
  number : refusal ≡ cond (good head (block_at hall 0)) 0 2
  number = read.refused ∙ ap (λ (b : Bool). cond b (cond (good head (block_at hall 0)) 0 2) 1) (eq-eqb _ _ (length_block hall 0 long (omega arith)))

  pub head_refused : (refusal ≡ 0 → ⊥) → Steps hall hall x refusal
  head_refused h = let g = go (good head (block_at hall 0)) number in subst (λ (n : ℕ). Steps hall hall x n) (sym g.1) (bad_head hall x long g.0)
    where
      go : (b : Bool) → refusal ≡ cond b 0 2 → (b ≡ false) × (refusal ≡ 2)
      go true e = absurd (h e)
      go false e = (refl, e)

  module _ (h : refusal ≡ 0) where
    headed : good head (block_at hall 0) ≡ true
    headed = go (good head (block_at hall 0)) (sym number ∙ h)
      where
        go : (b : Bool) → ◌≡◌ {A = ℕ} (cond b 0 2) 0 → b ≡ true
        go true e = refl
        go false e = absurd (omega (arith, e))

    stamped : stamp ≡ head_of hall
    stamped = read.stamped ∙ rw headed

    counted : body.count ≡ count_of hall
    counted = ap (λ (b : Head). b.count) (read.bodied ∙ rw headed)

    -- no step has the number
    pub no_code : is_code x.code ≡ false → Steps hall hall x 4
    unfolding step_exists
    no_code n = no_such_step_lem hall x long headed (rw n)

    module _ {exists : Bool} (exists-is : exists ≡ step_exists stamp.setup body.count x) where
      of_head : step_exists (head_of hall).setup (count_of hall) x ≡ exists
      of_head = ap (λ (s : Stamp). step_exists s.setup (count_of hall) x) (sym stamped) ∙ ap (λ (n : ℕ). step_exists stamp.setup n x) (sym counted) ∙ sym exists-is

      pub step_missing : exists ≡ false → Steps hall hall x 4
      step_missing n = no_such_step_lem hall x long headed (of_head ∙ n)

      module _ (there : exists ≡ true) {range : Bool} (range-is : range ≡ numbers_in_range stamp.setup x) where
        pub beyond_range : range ≡ false → Steps hall hall x 11
        beyond_range n =
            out_of_range hall x long headed (of_head ∙ there) (ap (λ (s : Stamp). numbers_in_range s.setup x) (sym stamped) ∙ sym range-is ∙ n)

        pub reached : range ≡ true → Reached hall stamp body.count x
        reached n =
            record {
              long = long;
              headed = headed;
              stamped = stamped;
              counted = counted;
              exists = sym exists-is ∙ there;
              ranged = sym range-is ∙ n;
            }
