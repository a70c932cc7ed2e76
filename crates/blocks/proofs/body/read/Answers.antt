use Rattle.std.proofs.Common.{rules, ◌+◌, ◌≡◌, ◌∙◌, sym, arith, ap, Err, length, ◌&&◌, true, false}
use Rattle.std.proofs.lemmas.Grind.{common_steps}
use Rattle.below.specs.declared.refusals.Refusal.TheVariants.{WrongLength, BadBlock}
use Rattle.words.specs.Bytes.{byte}
use Rattle.blocks.specs.Frame.{body_at, block_size}
use Rattle.blocks.specs.Numbers.{number}
use Rattle.blocks.proofs.Answered.{read_short, read_other, read_good, read_bad, read_unframed}
use Rattle.blocks.proofs.body.read.Goals as goal

pub returns-in_err-unless : goal.returns-in_err-unless
returns-in_err-unless g c =
    let e : c.from_residual.result ≡ Err WrongLength = search rules in
    let short : length c.args.block.now ≡ block_size → ⊥ = grind (arith, common_steps) in
    rw e (read_short g.B.Body.kind g.B.Body.Fits g.met.B.Body.proper _ short)

pub returns-in_err-unless-2 : goal.returns-in_err-unless-2
returns-in_err-unless-2 g c =
    let e : c.from_residual-in_err-unless-2.result ≡ Err BadBlock = search rules in
    let long : length c.args.block.now ≡ block_size = search rules in
    let n : c.number.result ≡ g.B.Body.kind.number = c.number.ensures ∙ ap number c.KIND.ensures ∙ g.met.B.Body.kind_is in
    let other : byte c.args.block.now 2 ≡ c.number.result → ⊥ = grind (arith, common_steps) in
    rw e (read_other g.B.Body.kind g.B.Body.Fits g.met.B.Body.proper _ (λ k. omega (arith, c.type_inv.block k)) long (rw n at other))

pub returns-in_err-unless-3 : goal.returns-in_err-unless-3
returns-in_err-unless-3 g c =
    let e : c.from_residual-in_err-unless-3.result ≡ Err BadBlock = search rules in
    let long : length c.args.block.now ≡ block_size = search rules in
    let wrong : c.read-read.result.exact && (c.rules.result && c.keeps.result) ≡ false = search rules in
    rw e
    (read_bad g.B.Body.kind g.B.Body.Fits g.met.B.Body.proper _ (λ k. omega (arith, c.type_inv.block k)) long c.read_stamp-stamp.ensures c.read-read.ensures
    (rw c.agents.ensures at c.rules.ensures) c.keeps.ensures wrong)

pub returns-in_err-unless-4 : goal.returns-in_err-unless-4
returns-in_err-unless-4 g c =
    let e : c.from_residual-in_err-unless-4.result ≡ Err BadBlock = search rules in
    let long : length c.args.block.now ≡ block_size = search rules in
    let n : c.number-2.result ≡ g.B.Body.kind.number = c.number-2.ensures ∙ ap number c.KIND-2.ensures ∙ g.met.B.Body.kind_is in
    let end : c.END.result ≡ body_at + g.B.Body.kind.body.size = c.END.ensures ∙ g.met.B.Body.end_is in
    let wrong : c.framed.result ≡ false = search rules in
    rw e
    (read_unframed g.B.Body.kind g.B.Body.Fits g.met.B.Body.proper _ (λ k. omega (arith, c.type_inv.block k)) long c.read_stamp-stamp.ensures
    c.read-read.ensures (rw c.agents.ensures at c.rules.ensures) c.keeps.ensures (rw (n, end) at (sym c.framed.ensures ∙ wrong)))

pub returns : goal.returns
returns g c =
    let long : length c.args.block.now ≡ block_size = search rules in
    let n : c.number-2.result ≡ g.B.Body.kind.number = c.number-2.ensures ∙ ap number c.KIND-2.ensures ∙ g.met.B.Body.kind_is in
    let end : c.END.result ≡ body_at + g.B.Body.kind.body.size = c.END.ensures ∙ g.met.B.Body.end_is in
    let right : c.read-read.result.exact && (c.rules.result && c.keeps.result) ≡ true = search rules in
    let frame : c.framed.result ≡ true = search rules in
    read_good g.B.Body.kind g.B.Body.Fits g.met.B.Body.proper _ (λ k. omega (arith, c.type_inv.block k)) long c.read_stamp-stamp.ensures
    c.read-read.ensures (rw c.agents.ensures at c.rules.ensures) c.keeps.ensures right (rw (n, end) at (sym c.framed.ensures ∙ frame))
