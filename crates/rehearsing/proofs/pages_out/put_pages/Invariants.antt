use Rattle.std.proofs.Common.{◌≤◌}
use Rattle.fields.specs.Codecs.{run}
use Rattle.lines.specs.Texts.{Put}
use Rattle.rehearsing.proofs.PageLines.{reader_lines}
use Rattle.rehearsing.proofs.pages_out.put_pages.Given as goal

abbrev pub invariant-loop-reader : goal.invariant-loop-reader
invariant-loop-reader l = (l.reader ≤ l.readers) × Put l.at (run l.reader (reader_lines l.hall l.racks)) l.initial.out l.out l.to
