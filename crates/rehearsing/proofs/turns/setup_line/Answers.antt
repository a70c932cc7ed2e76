use Rattle.std.proofs.Common.{◌∙◌}
use Rattle.rehearsing.proofs.Turning.{setup_refused, setup_granted}
use Rattle.rehearsing.proofs.turns.setup_line.Goals as goal

pub returns-in-Ok : goal.returns-in-Ok
returns-in-Ok c = setup_granted _ _ c.in-Ok.ensures c.requires c.messages.ensures c.put_answer-to.ensures c.beginning-rehearsal.ensures

pub returns-in-Err : goal.returns-in-Err
returns-in-Err c = setup_refused _ _ c.in-Err.refusal c.in-Err.ensures (c.from.ensures ∙ c.number.ensures) c.requires c.put_answer-to-in-Err.ensures c.beginning-rehearsal-in-Err.ensures
