pub mod Subsets
pub mod Listing
pub mod Taking
pub mod PatternLaws
pub mod JointLaws
pub mod PatternAccepting
pub mod JointAccepting
