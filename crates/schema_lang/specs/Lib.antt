-- The words of the contracts: what a line says, what its words mean, the grammar, and how a schema is printed.
pub mod Words
pub mod Numbers
pub mod Rows
pub mod Grammar
pub mod Views
pub mod Spelling
pub mod Spelled
pub mod Forms
