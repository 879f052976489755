pub mod Readings
pub mod Symbols
pub mod Answers
pub mod ExpressionReadings
pub mod TypeReadings
pub mod DeclarationReadings
pub mod StatementReadings
