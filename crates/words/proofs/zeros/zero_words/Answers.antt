use Rattle.std.proofs.Common.{rules, arith, ◌∙◌}
use Rattle.words.proofs.Zeroes.{words_start, words_turn, words_ends}
use Rattle.words.proofs.zeros.zero_words.Goals as goal

pub loop-k-init : goal.loop-k-init
loop-k-init c = (search rules, words_start _ _)

pub loop-k-preserved : goal.loop-k-preserved
loop-k-preserved c = (omega arith, words_turn _ _ _ c.loop-k.total _ c.loop-k.invariant.1 (c.from-total.ensures ∙ c.get_u32.ensures))

pub returns : goal.returns
returns c = words_ends _ _ _ _ c.loop-k.total c.loop-k.invariant.1 (search rules) (search rules)
