pub mod Escaping
pub mod Clashes
pub mod Pages
pub mod Outlines
