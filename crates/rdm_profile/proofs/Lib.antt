pub mod DemoLemmas
pub mod Equality
pub mod FieldSteps
pub mod LeftOut
pub mod ValueEquality
