pub mod WorkedDisc
pub mod SecondDisc
pub mod FlatDisc
pub mod GapDisc
pub mod PairDisc
