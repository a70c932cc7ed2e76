-- The setup of a hall: P racks, A boxes, C coordinators, L readers, and round Zero's c0 and cf0.
use Rattle.std.specs.Prelude.{ℕ, ◌+◌, ◌/◌, ◌^◌, leb, ltb, eqb, Bool, ◌&&◌}
use Rattle.rounds.specs.declared.setup.Setup.{Setup}

-- from 1 to a limit
abbrev pub one_to : ℕ → ℕ → Bool
one_to limit x = ltb 0 x && leb x limit

-- a non-empty set of the racks below P, as bits
abbrev pub some_racks : ℕ → ℕ → Bool
some_racks racks cf = ltb 0 cf && ltb cf (2 ^ racks)

abbrev pub most_racks : ℕ
most_racks = 8

abbrev pub most_boxes : ℕ
most_boxes = 5

abbrev pub most_coordinators : ℕ
most_coordinators = 4

abbrev pub most_readers : ℕ
most_readers = 4

-- a setup of these numbers
abbrev pub setup_of : ℕ → ℕ → ℕ → ℕ → ℕ → ℕ → Setup
setup_of racks boxes coordinators readers c0 cf0 =
    record { racks = racks; boxes = boxes; coordinators = coordinators; readers = readers; c0 = c0; cf0 = cf0 }

-- P 1 to 8, A 1 to 5, C 1 to 4, L 1 to 4, c0 a coordinator, cf0 a non-empty set of racks
unfoldable pub setup_in_range : Setup → Bool
setup_in_range s =
    one_to most_racks s.racks &&
    (one_to most_boxes s.boxes &&
    (one_to most_coordinators s.coordinators &&
    (one_to most_readers s.readers && (ltb s.c0 s.coordinators && some_racks s.racks s.cf0))))

abbrev pub same_setup : Setup → Setup → Bool
same_setup s t =
    eqb s.racks t.racks &&
    (eqb s.boxes t.boxes &&
    (eqb s.coordinators t.coordinators && (eqb s.readers t.readers && (eqb s.c0 t.c0 && eqb s.cf0 t.cf0))))

-- a majority is floor(A/2) + 1 boxes or more
abbrev pub majority_of : ℕ → ℕ
majority_of boxes = boxes / 2 + 1
