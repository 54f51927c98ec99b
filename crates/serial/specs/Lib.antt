-- Lists of job steps, of any calls; whole jobs in an order; demand 3, the claim about both.
pub mod Steps
pub mod Order
pub mod Demand
-- The calls that run.
pub mod Running
-- The calls on a zone that is kept as octets.
pub mod OnOctets
-- Values that a program can hold; P12, and that these calls can make it; how much can be asked of the order.
pub mod Values
pub mod P12
pub mod Limits
-- How names are spelled after a list of steps.
pub mod Spelling
