-- Names: `XLaws` has laws of the definitions of specs/X.
pub mod NumbersLaws
