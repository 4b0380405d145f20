-- What the contracts cite.
pub mod Forms
pub mod Refusals
pub mod Checked
pub mod Settings
pub mod Sides
