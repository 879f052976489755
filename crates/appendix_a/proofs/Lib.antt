pub mod Arguments
pub mod Lengths
pub mod StructureTurns
pub mod Lookups
pub mod NameTurns
pub mod PartTurns
