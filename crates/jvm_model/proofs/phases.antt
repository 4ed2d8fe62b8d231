-- what holds or does not: the parts of a decision
pub mod Decisions
-- what has one answer for each thing has one for the first of many
pub mod FirstAnswers
-- the phases of members and of the entry have one answer for each set
pub mod OneLinking
-- a list of phases, each of which has one answer for each set, has one
pub mod PhaseLists
-- the phase of closed sets has one answer for each set
pub mod ClosedSets
-- a scan of a list for the first refusal, item by item: of tests, and of what each item has
pub mod Scans
