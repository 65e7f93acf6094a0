pub mod TokenLemmas
pub mod WideLemmas
pub mod WordLemmas
pub mod MaskLemmas
pub mod FrontLemmas
pub mod PlaceLemmas
pub mod Common
