pub mod Inputs
pub mod Texts
pub mod Names
pub mod CsvBlocks
