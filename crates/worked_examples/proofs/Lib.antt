pub mod ZeroItem
