pub mod Courses
pub mod Notices
