mod Words
pub mod PutLemmas
pub mod ChangeLemmas
pub mod FoldLemmas
pub mod StampLemmas
pub mod SoundLemmas
pub mod UnreadyLemmas
pub mod SettleLemmas
pub mod SettledLemmas
pub mod CountLemmas
pub mod LimitLemmas
