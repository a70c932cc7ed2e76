pub mod Rehearsals
pub mod Turns
