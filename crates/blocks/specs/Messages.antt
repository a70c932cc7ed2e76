-- The six messages as kinds of block (document 01's table): number, body, agents, rules.
use Rattle.records.specs.declared.messages.Propose.{Propose}
use Rattle.records.specs.declared.messages.OneA.{OneA}
use Rattle.records.specs.declared.messages.OneB.{OneB}
use Rattle.records.specs.declared.messages.TwoS.{TwoS}
use Rattle.records.specs.declared.messages.TwoA.{TwoA}
use Rattle.records.specs.declared.messages.TwoB.{TwoB}
use Rattle.records.specs.Rules.{propose_rules, one_a_rules, one_b_rules, two_s_rules, two_a_rules, two_b_rules}
use Rattle.fields.specs.Codecs.{both, like}
use Rattle.fields.specs.Layout.{reading, round, line_as, page, vote}
use Rattle.blocks.specs.Kinds.{Kind}

-- 1 PROPOSE: reading
abbrev pub propose : Kind Propose
propose = record { number = 1; body = like (λ m. m.reading) (λ r. record { reading = r }) reading; agents = λ s. s.racks; rules = propose_rules }

-- 2 1A: round
abbrev pub one_a : Kind OneA
one_a = record { number = 2; body = like (λ m. m.round) (λ r. record { round = r }) round; agents = λ s. s.coordinators; rules = one_a_rules }

-- 3 1B: round, vrnd, optional page
abbrev pub one_b : Kind OneB
one_b =
    record {
      number = 3;
      body = like (λ m. (m.round, (m.vrnd, m.vote))) (λ p. record { round = p.0; vrnd = p.1.0; vote = p.1.1 }) (both round (both round vote));
      agents = λ s. s.boxes;
      rules = one_b_rules;
    }

-- 4 2S: round, page
abbrev pub two_s : Kind TwoS
two_s =
    record {
      number = 4;
      body = like (λ m. (m.round, m.page)) (λ p. record { round = p.0; page = p.1 }) (both round page);
      agents = λ s. s.coordinators;
      rules = two_s_rules;
    }

-- 5 2A: round, line
abbrev pub two_a : Kind TwoA
two_a =
    record {
      number = 5;
      body = like (λ m. (m.round, m.line)) (λ p. record { round = p.0; line = p.1 }) (both round line_as);
      agents = λ s. s.racks;
      rules = two_a_rules;
    }

-- 6 2B: round, page
abbrev pub two_b : Kind TwoB
two_b =
    record {
      number = 6;
      body = like (λ m. (m.round, m.page)) (λ p. record { round = p.0; page = p.1 }) (both round page);
      agents = λ s. s.boxes;
      rules = two_b_rules;
    }
