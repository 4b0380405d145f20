-- What is claimed of the definitions; crate `theorems` proves each claim.

-- Of document 01, by its demands. Those of the price line need nothing of the requests' calls.
pub mod Plans
pub mod Names
pub mod Calls
pub mod Lists
pub mod Pick
pub mod PriceLine
pub mod Values
-- The same with any lawful matcher.
pub mod AnyMatcher
-- Of the requests of document 02, in their order: 1, 2, 3, 6, 7, 9 with 10, 12, 13, which speaks of 14's call too, and 14.
pub mod Print
pub mod Merge
pub mod Pruning
pub mod Table
pub mod Project
pub mod Walk
pub mod Queues
pub mod Settings
pub mod All
-- Of the verdicts, which are ours.
pub mod Verdicts
-- Of all calls together, of demand 3 whole, and short ones.
pub mod Refusals
pub mod DemandThree
pub mod Short
