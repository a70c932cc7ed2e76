-- Readings and lines. A line is absent, Nil (blank) or a reading.
use Rattle.std.specs.Prelude.{leb, eqb, Bool, true, false, ◌&&◌, ◌||◌}
use Rattle.pages.specs.declared.line.Reading
use Rattle.pages.specs.declared.line.Mark.{Mark}
use Rattle.pages.specs.declared.line.Mark.TheVariants.{Absent, Nil, Reading as reads}

-- headset 0 does not exist, so readings are 65,536 or more, in 32 bits
abbrev pub reading_in_range : Reading.Reading → Bool
reading_in_range r = leb 65536 r.0 && leb r.0 4294967295

abbrev pub same_reading : Reading.Reading → Reading.Reading → Bool
same_reading r s = eqb r.0 s.0

abbrev pub is_absent : Mark → Bool
is_absent Absent = true
is_absent Nil = false
is_absent (reads r) = false

abbrev pub is_nil : Mark → Bool
is_nil Absent = false
is_nil Nil = true
is_nil (reads r) = false

abbrev pub is_reading : Mark → Bool
is_reading Absent = false
is_reading Nil = false
is_reading (reads r) = true

-- the line holds this very reading
abbrev pub holds : Mark → Reading.Reading → Bool
holds Absent r = false
holds Nil r = false
holds (reads s) r = same_reading s r

-- a reading on the line is in range
abbrev pub mark_in_range : Mark → Bool
mark_in_range Absent = true
mark_in_range Nil = true
mark_in_range (reads r) = reading_in_range r

-- append changes a line only where it is absent
abbrev pub append_mark : Mark → Mark → Mark
append_mark Absent b = b
append_mark Nil b = Nil
append_mark (reads r) b = reads r

-- a present line is equal in the other
abbrev pub prefix_mark : Mark → Mark → Bool
prefix_mark Absent b = true
prefix_mark Nil b = is_nil b
prefix_mark (reads r) b = holds b r

-- lines present in both are equal
abbrev pub compatible_mark : Mark → Mark → Bool
compatible_mark a b = is_absent a || prefix_mark b a
