use Rattle.std.proofs.Common.{rules, ap, ℕ, ◌+◌, arith, sym, ◌∙◌, ◌≡◌, Bool, false, cond}
use Rattle.below.specs.Refusals.{granted, number, number_of, value_or}
use Rattle.below.proofs.Refused.{number_some}
use Rattle.below.specs.declared.refusals.Refusal.TheVariants.{PostFull}
use Rattle.hall.specs.Steps.{fits, posted}
use Rattle.hall_step.proofs.Parts.{part_is}
use Rattle.hall_step.proofs.Stepping.{place_within, message_fits, own_row, own_message, own_hall, act_refused, post_is_full, stepped, unless_passed, unless_failed}
use Rattle.hall_step.proofs.step_on_blocks.Goals.{then-sends, else-sends}
use Rattle.hall_step.proofs.step_on_blocks.Goals as goal

pub overflow_add-place : goal.overflow_add-place
overflow_add-place c = omega (arith, place_within _ _ c.requires.reached c.rows_of-rows.ensures.0)

pub overflow_mul-at : goal.overflow_mul-at
overflow_mul-at c = omega (arith, place_within _ _ c.requires.reached c.rows_of-rows.ensures.0)

pub overflow_add-end : goal.overflow_add-end
overflow_add-end c = omega (arith, place_within _ _ c.requires.reached c.rows_of-rows.ensures.0)

pub overflow_cast-own : goal.overflow_cast-own
overflow_cast-own c = record { fits = omega (arith, place_within _ _ c.requires.reached c.rows_of-rows.ensures.0) }

pub slice_bounds-perform-end : goal.slice_bounds-perform-end
slice_bounds-perform-end c = omega (arith, place_within _ _ c.requires.reached c.rows_of-rows.ensures.0, c.requires.reached.long)

pub slice_bounds-perform-end-2 : goal.slice_bounds-perform-end-2
slice_bounds-perform-end-2 c = omega (arith, message_fits _ _ c.requires.reached c.message_place-from.ensures, c.requires.reached.long)

pub returns-in_err-sends : goal.returns-in_err-sends
returns-in_err-sends c =
    let e : number_of c.perform.result ≡ number_of c.from_residual.result = search rules in
    let n : number_of c.perform.result ≡ number c.in_err-sends.field-0.0 = search rules in
    rw (← e) (act_refused _ _ c.requires.reached (own_hall _ _ c.requires.reached) c.narrow.ensures (own_row _ _ c.requires.reached c.rows_of-rows.ensures.0 (part_is _ _)) (own_message _ _ c.requires.reached c.message_place-from.ensures (part_is _ _)) (rw c.requires.coded at c.perform.ensures)
    (λ z. number_some _ (sym n ∙ z)))

pub returns-in_err-unless : goal.returns-in_err-unless
returns-in_err-unless c =
    let f : (c.fits.result ≡ false) × (c.in_err-unless.field-0.0 ≡ PostFull) = unless_failed _ _ _ c.unless.ensures c.in_err-unless.was in
    let e : number PostFull ≡ number_of c.from_residual-in_err-unless.result = search (rules, f.1) in
    let z : number_of c.perform.result ≡ granted = search rules in
    let v : value_or false c.perform.result ≡ c.in_ok-sends.sends = search rules in
    rw (← e) (post_is_full _ _ c.requires.reached (own_hall _ _ c.requires.reached) c.narrow.ensures (own_row _ _ c.requires.reached c.rows_of-rows.ensures.0 (part_is _ _)) (own_message _ _ c.requires.reached c.message_place-from.ensures (part_is _ _))
    (rw c.requires.coded at c.perform.ensures) z (ap (λ (b : Bool). fits b c.args.count) v ∙ sym c.fits.ensures ∙ f.0))

pub returns : goal.returns
returns c =
    let z : number_of c.perform.result ≡ granted = search rules in
    let v : value_or false c.perform.result ≡ c.in_ok-sends.sends = search rules in
    let m : c.if-sends.hall ≡ cond (value_or false c.perform.result) (posted c.perform.new.sent c.args.hall.now) c.args.hall.now =
    elim c.if-sends.branch [ then-sends w ↦ w.hall-is ∙ w.post.ensures ∙ rw (v, w.if-sends.true) | else-sends w ↦ w.hall-is ∙ rw (v, w.if-sends.false) ] in
    stepped _ _ c.requires.reached (own_hall _ _ c.requires.reached) c.narrow.ensures (own_row _ _ c.requires.reached c.rows_of-rows.ensures.0 (part_is _ _)) (own_message _ _ c.requires.reached c.message_place-from.ensures (part_is _ _))
    (rw c.requires.coded at c.perform.ensures) z (ap (λ (n : ℕ). n + c.args.step.agent) c.rows_of-rows.ensures.0)
    (ap (λ (b : Bool). fits b c.args.count) v ∙ sym c.fits.ensures ∙ unless_passed _ _ c.unless.ensures c.in_ok-unless.was) m c.put_block.ensures
