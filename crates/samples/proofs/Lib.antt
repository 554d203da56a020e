pub mod Wrongs
pub mod Left
pub mod Examples
pub mod ExamplesValues
pub mod ExamplesRun
pub mod ExamplesClusters
pub mod Theorems
