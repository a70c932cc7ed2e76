pub mod Setting
pub mod Table
