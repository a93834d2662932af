-- Names: `XLaws` has laws of the definitions of specs/X; every other file is named for the argument that it makes.
pub mod CommutationLaws
pub mod EarlyPaymentLaws
pub mod EffectiveLaws
pub mod Figures
pub mod Table
