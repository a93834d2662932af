-- Names: `XLaws` has laws of the definitions of specs/X; every other file is named for the argument that it makes.
pub mod Arranged
pub mod Claim
pub mod Gives
pub mod JoinLaws
pub mod Numbers
pub mod Ordered
pub mod Own
pub mod PartsLaws
pub mod Refusals
pub mod Swapped
pub mod Texts
