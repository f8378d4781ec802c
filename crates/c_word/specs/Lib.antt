pub mod Word
pub mod Numbers
pub mod NumberLaws
