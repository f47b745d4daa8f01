pub mod ChoiceSteps
pub mod FirstFaults
