pub mod Initials
