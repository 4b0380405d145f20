-- The rows of documents 01 and 02 that refuse edits of the definitions, by computation.
pub mod Everything
pub mod Rows
