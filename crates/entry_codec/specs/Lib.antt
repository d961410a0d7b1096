pub mod Field
pub mod EntryHead
pub mod ItemHead
pub mod Reading
