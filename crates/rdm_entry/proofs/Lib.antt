pub mod Lengths
pub mod Numerals
pub mod Printed
pub mod WordsBack
