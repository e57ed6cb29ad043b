mod WorkedDisc
mod SecondDisc
mod FlatDisc
mod GapDisc
mod PairDisc
