use Rattle.std.proofs.Common.{◌≤◌}
use Rattle.fields.specs.Codecs.{run}
use Rattle.lines.specs.Texts.{Put}
use Rattle.rehearsing.proofs.PageLines.{page_lines}
use Rattle.rehearsing.proofs.pages_out.put_page.Given as goal

abbrev pub invariant-loop-rack : goal.invariant-loop-rack
invariant-loop-rack l = (l.rack ≤ l.racks) × Put l.at (run l.rack (page_lines l.page l.reader)) l.initial.out l.out l.to
