pub mod SensorNames
pub mod SensorTable
pub mod Sensors
pub mod StatusNames
pub mod StatusTable
pub mod Statuses
pub mod Verdicts
