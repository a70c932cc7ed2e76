use Rattle.std.proofs.Common.{◌≤◌, ◌-◌, ◌≡◌, length, take}
use Rattle.rehearsing.specs.Turns.{play_of, Turned}
use Rattle.rehearsing.proofs.playing.play_all.Given as goal

abbrev pub invariant-loop-part : goal.invariant-loop-part
invariant-loop-part l =
    (l.part.from ≤ length l.input) × ((length l.hall ≡ length l.initial.hall) × Turned (play_of l.initial.part.rehearsal l.initial.hall (take l.part.from l.input)) 0 l.hall l.initial.out l.out l.part.rehearsal l.part.to)

abbrev pub decreases-loop-part : goal.decreases-loop-part
decreases-loop-part l = length l.input - l.part.from
