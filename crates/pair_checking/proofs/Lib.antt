mod Images
mod Pair
