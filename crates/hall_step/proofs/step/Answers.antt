use Rattle.std.proofs.Common.{rules, refl, sym, ap, ◌∙◌, ◌≡◌, eqb-true, length}
use borrow.Author.Tests.{eqb-false}
use Rattle.below.specs.declared.refusals.Refusal.TheVariants.{WrongLength, NoSuchStep, OutOfRange}
use Rattle.below.specs.Refusals.{number, number_of}
use Rattle.below.proofs.Refused.{number_some}
use Rattle.hall.specs.Halls as Halls
use Rattle.hall.specs.Halls.{hall_size}
use Rattle.step_numbers.proofs.Codes.{code_found, code_missed}
use Rattle.hall_step.proofs.HeadRead.{head_refused, no_code, step_missing, beyond_range, reached}
use Rattle.hall_step.proofs.Stepping.{wrong_length_lem, unless_passed, unless_failed}
use Rattle.hall_step.proofs.step.Goals as goal

pub returns-in_err-unless : goal.returns-in_err-unless
returns-in_err-unless c =
    let f = unless_failed _ _ _ c.unless.ensures c.in_err-unless.was in
    let e : number WrongLength ≡ number_of c.from_residual.result = search (rules, f.1) in
    rw (← e) (wrong_length_lem _ _ (eqb-false _ _ f.0))

pub returns-in_err-head : goal.returns-in_err-head
unfolding Halls.block_at
returns-in_err-head c =
    let long : length c.args.hall.now ≡ hall_size = eqb-true _ _ (unless_passed _ _ c.unless.ensures c.in_ok-unless.was) in
    let e : number_of c.read.result ≡ number_of c.from_residual-in_err-head.result = search rules in
    rw (← e) (head_refused _ _ long c.read.ensures (λ z. number_some _ (sym (ap number_of c.in_err-head.was) ∙ z)))

pub returns-in_err-code : goal.returns-in_err-code
unfolding Halls.block_at
returns-in_err-code c =
    let long : length c.args.hall.now ≡ hall_size = eqb-true _ _ (unless_passed _ _ c.unless.ensures c.in_ok-unless.was) in
    let f = code_missed _ _ _ _ c.of.ensures c.ok_or.ensures.value c.in_err-code.was in
    let e : number NoSuchStep ≡ number_of c.from_residual-in_err-code.result = search (rules, f.1) in
    rw (← e) (no_code _ _ long (rw c.in_ok-head.was at c.read.ensures) refl f.0)

pub returns-in_err-unless-2 : goal.returns-in_err-unless-2
unfolding Halls.block_at
returns-in_err-unless-2 c =
    let long : length c.args.hall.now ≡ hall_size = eqb-true _ _ (unless_passed _ _ c.unless.ensures c.in_ok-unless.was) in
    let f = unless_failed _ _ _ c.unless-2.ensures c.in_err-unless-2.was in
    let e : number NoSuchStep ≡ number_of c.from_residual-in_err-unless-2.result = search (rules, f.1) in
    rw (← e) (step_missing _ _ long (rw c.in_ok-head.was at c.read.ensures) refl c.step_exists.ensures f.0)

pub returns-in_err-unless-3 : goal.returns-in_err-unless-3
unfolding Halls.block_at
returns-in_err-unless-3 c =
    let long : length c.args.hall.now ≡ hall_size = eqb-true _ _ (unless_passed _ _ c.unless.ensures c.in_ok-unless.was) in
    let f = unless_failed _ _ _ c.unless-3.ensures c.in_err-unless-3.was in
    let e : number OutOfRange ≡ number_of c.from_residual-in_err-unless-3.result = search (rules, f.1) in
    rw (← e) (beyond_range _ _ long (rw c.in_ok-head.was at c.read.ensures) refl c.step_exists.ensures (unless_passed _ _ c.unless-2.ensures c.in_ok-unless-2.was) c.numbers_in_range.ensures f.0)

pub step_on_blocks-requires-clause-reached : goal.step_on_blocks-requires-clause-reached
unfolding Halls.block_at
step_on_blocks-requires-clause-reached c =
    let long : length c.args.hall.now ≡ hall_size = eqb-true _ _ (unless_passed _ _ c.unless.ensures c.in_ok-unless.was) in
    reached _ _ long (rw c.in_ok-head.was at c.read.ensures) refl c.step_exists.ensures (unless_passed _ _ c.unless-2.ensures c.in_ok-unless-2.was) c.numbers_in_range.ensures
    (unless_passed _ _ c.unless-3.ensures c.in_ok-unless-3.was)

pub step_on_blocks-requires-clause-coded : goal.step_on_blocks-requires-clause-coded
step_on_blocks-requires-clause-coded c = code_found _ _ _ c.of.ensures c.ok_or.ensures.value c.in_ok-code.was
