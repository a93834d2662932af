-- Names: `XLaws` has laws of the definitions of specs/X; `XLoop` has what a turn of a loop of src/ does, in the code's numbers;
-- every other file is named for the argument that it makes.
pub mod CheckClaim
pub mod CheckLaws
pub mod CheckLoop
pub mod Compared
pub mod Demands
pub mod Figures
pub mod FileLaws
pub mod FileLoop
pub mod FindLaws
pub mod FindLoop
pub mod LayoutLaws
pub mod LedgerLaws
pub mod LineLaws
pub mod LineLoop
pub mod Printed
pub mod Shown
pub mod StepsLaws
pub mod TextLaws
