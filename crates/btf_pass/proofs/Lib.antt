pub mod PairLaws
pub mod ReachLaws
pub mod TypeLaws
pub mod Tests
pub mod StepLaws
