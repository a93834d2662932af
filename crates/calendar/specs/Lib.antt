pub mod Calendar
pub mod Figure
pub mod Figures
pub mod Sums
pub mod Tests
