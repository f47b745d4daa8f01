pub mod Own
pub mod Plain
pub mod ValueRef
