-- The head and the rows as kinds of block (document 01's table): number, body, agents, rules.
use Rattle.records.specs.declared.rows.Head.{Head}
use Rattle.records.specs.declared.rows.CoordinatorRow.{CoordinatorRow}
use Rattle.records.specs.declared.rows.BoxRow.{BoxRow}
use Rattle.records.specs.declared.rows.RackRow.{RackRow}
use Rattle.records.specs.declared.rows.ReaderRow.{ReaderRow}
use Rattle.records.specs.Rules.{head_rules, coordinator_rules, box_rules, rack_rules, reader_rules}
use Rattle.fields.specs.Codecs.{two_bytes, both, like}
use Rattle.fields.specs.Layout.{round, line_as, page, vote, five_heard, five_held, eight_blanks}
use Rattle.blocks.specs.Kinds.{Kind}

-- 16 head: message count, two bytes; there is one head, so its agent is 0
abbrev pub head : Kind Head
head = record { number = 16; body = like (λ r. r.count) (λ x. record { count = x }) two_bytes; agents = λ s. 1; rules = head_rules }

-- 17 coordinator: crnd, optional cval, 5 heard
abbrev pub coordinator : Kind CoordinatorRow
coordinator =
    record {
      number = 17;
      body = like (λ r. (r.crnd, (r.cval, r.heard))) (λ p. record { crnd = p.0; cval = p.1.0; heard = p.1.1 }) (both round (both vote five_heard));
      agents = λ s. s.coordinators;
      rules = coordinator_rules;
    }

-- 18 box: rnd, vrnd, optional vval
abbrev pub box : Kind BoxRow
box =
    record {
      number = 18;
      body = like (λ r. (r.rnd, (r.vrnd, r.vval))) (λ p. record { rnd = p.0; vrnd = p.1.0; vval = p.1.1 }) (both round (both round vote));
      agents = λ s. s.boxes;
      rules = box_rules;
    }

-- 19 rack: prnd, line (state 0 is none)
abbrev pub rack : Kind RackRow
rack =
    record {
      number = 19;
      body = like (λ r. (r.prnd, r.pval)) (λ p. record { prnd = p.0; pval = p.1 }) (both round line_as);
      agents = λ s. s.racks;
      rules = rack_rules;
    }

-- 20 reader: page, 5 held, 8 blanks
abbrev pub reader : Kind ReaderRow
reader =
    record {
      number = 20;
      body = like (λ r. (r.page, (r.held, r.blanks))) (λ p. record { page = p.0; held = p.1.0; blanks = p.1.1 }) (both page (both five_held eight_blanks));
      agents = λ s. s.readers;
      rules = reader_rules;
    }
