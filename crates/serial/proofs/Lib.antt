-- The proof of demand 3, from the zone's laws and the rules of jobs up.
pub mod ListLaws
pub mod RequestLaws
pub mod StageLaws
pub mod OrderLaws
pub mod Placing
pub mod Demand
pub mod InTime
-- The calls that run, and those on a zone that is kept as octets.
pub mod Running
pub mod OnOctets
-- How the names are spelled after a request, and at the end of a list.
pub mod KeepsOctets
pub mod Spelled
-- Lists of steps: P12, why removes can't be asked to answer alike, and names to be spelled alike.
pub mod TwoJobs
pub mod Cases
pub mod RunningCases
pub mod RemovesDiffer
pub mod SpellsOtherwise
-- P12 with every struct written out.
pub mod OneName
pub mod P12Zones
pub mod P12Steps
pub mod P12Runs
pub mod P12OnOctets
-- What n) asks beyond demand 3: X leaves and comes back.
pub mod XAdds
pub mod TurnsRound
