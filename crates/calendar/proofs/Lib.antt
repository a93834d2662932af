-- Names: `XLaws` has laws of the definitions of specs/X; every other file is named for the argument that it makes.
pub mod CalendarLaws
pub mod Claim
pub mod Figures
pub mod SumsLaws
pub mod TestsLaws
