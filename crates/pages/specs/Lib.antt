pub mod Lines
pub mod Racks
pub mod Pages
