pub mod LiveFixtures
pub mod Measuring
pub mod Rigs
pub mod Timing
