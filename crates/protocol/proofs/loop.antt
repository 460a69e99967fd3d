-- The rules A to D: their run is 01's loop, which ends, and afterwards no rule applies.
pub mod Formed
pub mod Advance
pub mod Turns
pub mod RuleA
pub mod RuleB
pub mod Backed
pub mod Lock
pub mod RuleC
pub mod Releasable
pub mod RuleD
pub mod Loop
pub mod Settle
