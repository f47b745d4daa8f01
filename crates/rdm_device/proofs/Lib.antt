pub mod BlockLaws
pub mod BlockSteps
pub mod ListSteps
pub mod SensorReads
pub mod Sensors
pub mod TwoLists
pub mod Words
