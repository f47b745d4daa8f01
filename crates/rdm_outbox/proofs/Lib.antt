pub mod Entries
pub mod Fronts
pub mod KeptNumbers
pub mod Marks
pub mod Newest
pub mod Outboxes
