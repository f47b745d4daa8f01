pub mod Belonging
pub mod Conversations
pub mod Endings
pub mod Exchanges
pub mod Mailboxes
pub mod Runs
pub mod Sorting
