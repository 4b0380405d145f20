-- What the contracts cite: texts and their lengths.
pub mod Marks
pub mod Texts
