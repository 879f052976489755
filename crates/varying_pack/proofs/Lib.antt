pub mod Sorting
pub mod Turns
pub mod Numbers
pub mod Runs
pub mod Grids
pub mod Steps
pub mod Placed
