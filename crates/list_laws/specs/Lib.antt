pub mod Totals
pub mod Prefixes
pub mod Rows
