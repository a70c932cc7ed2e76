pub mod Turning
pub mod InParts
pub mod LineParts
pub mod PageLines
pub mod InPieces
pub mod Unique
