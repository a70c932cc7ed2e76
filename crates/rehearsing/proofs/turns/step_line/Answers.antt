use Rattle.rehearsing.proofs.Turning.{step_made}
use Rattle.rehearsing.proofs.turns.step_line.Goals as goal

pub returns : goal.returns
returns c = step_made _ _ c.step.ensures c.number_of-refusal.ensures c.requires c.messages.ensures c.put_answer-to.ensures c.beginning-rehearsal.ensures
