pub mod ControllerPages
pub mod HeadLaws
pub mod Uncut
pub mod Examples
pub mod Statements
