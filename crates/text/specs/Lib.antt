pub mod Quoted
pub mod Hex
pub mod HexLaws
pub mod Line
pub mod Front
pub mod DecimalLaws
pub mod LineLaws
