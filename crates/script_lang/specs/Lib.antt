-- The words of the contracts: parts of a line, commands, blocks, scripts, documents, and the script made to a size.
pub mod Parts
pub mod Calls
pub mod Commands
pub mod Blocks
pub mod Scripts
pub mod Documents
pub mod TypeNumbers
pub mod Lines
pub mod Generated
pub mod Forms
pub mod LineForms
