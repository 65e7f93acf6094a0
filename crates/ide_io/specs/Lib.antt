-- Words for what the outside world does: faults that are counted, and bytes that are known.
pub mod Asks
pub mod Ends
pub mod Failing
pub mod Fault
pub mod Files
pub mod Known
pub mod Memory
pub mod Plan
