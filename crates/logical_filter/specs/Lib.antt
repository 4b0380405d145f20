-- What the contracts cite: names, query side and the answer of the call logical.
pub mod QuerySides
pub mod Logicals
pub mod Found
