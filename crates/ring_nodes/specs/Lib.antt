pub mod AllNodes
