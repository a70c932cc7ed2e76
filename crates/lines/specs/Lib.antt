pub mod Fields
pub mod Scans
pub mod Texts
