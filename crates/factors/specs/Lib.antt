pub mod Commutation
pub mod EarlyPayment
pub mod Effective
pub mod Figures
