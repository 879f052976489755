pub mod Answers
pub mod Below
pub mod Placing
pub mod Sheets
