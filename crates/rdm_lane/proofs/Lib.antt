pub mod Marks
pub mod Next
pub mod ThreeSentences
pub mod Entries
pub mod Moves
pub mod Steps
pub mod Settles
pub mod TheEnds
