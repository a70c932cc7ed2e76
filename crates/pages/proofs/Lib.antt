pub mod Sets
pub mod Filled
pub mod Lines
pub mod Algebra
pub mod PageLaws
pub mod Unique
pub mod Extension
pub mod Kept
