pub mod Shelf
pub mod Firsts
