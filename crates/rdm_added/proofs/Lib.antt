pub mod KeptValues
pub mod Maps
pub mod Numbers
pub mod SceneSteps
pub mod SensorStarts
