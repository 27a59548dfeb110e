pub mod Missing
