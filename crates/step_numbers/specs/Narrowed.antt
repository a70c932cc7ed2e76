-- The numbers as an act takes them.
use Rattle.std.specs.Prelude.{◌%◌}
use Rattle.rounds.specs.Rounds.{round_of}
use Rattle.acts.specs.declared.step.Step.{Step}
use Rattle.acts.specs.declared.numbers.Numbers.{Numbers}

-- cut to the width that an act keeps them in: those that are in range stay as they are
abbrev pub narrowed : Step → Numbers
narrowed x = record { round = round_of (x.n % 65536) (x.c % 256) (x.cf % 256); reading = record { 0 = x.reading } }
