-- `XLaws` has laws of the definitions of specs/X; `XLoop` has what one turn of a loop of src/ does, in the code's numbers;
-- every other file is named for the argument it makes. The exception is HexLaws: of specs/Frame, numbers written and read
-- back.
pub mod Accepted
pub mod AllowanceLaws
pub mod BenefitsLaws
pub mod Best
pub mod BytesLaws
pub mod CaseLaws
pub mod ClaimsLaws
pub mod ConditionsLaws
pub mod Cut
pub mod Figures
pub mod FixedByTotal
pub mod FrameLaws
pub mod GrantLoop
pub mod Granted
pub mod HexLaws
pub mod KindLaws
pub mod Level
pub mod LimitsLaws
pub mod ListLoop
pub mod MultipleLaws
pub mod Order
pub mod OverlongLaws
pub mod PensionsLoop
pub mod Prices
pub mod QuoteLaws
pub mod RangesLaws
pub mod ReadingLaws
pub mod Remaining
pub mod Rows
pub mod Served
pub mod Turns
pub mod WorkingLaws
