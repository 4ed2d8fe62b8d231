-- the first answer on the way up keeps its rule
pub mod Climbing
-- each lookup keeps its rule
pub mod LookupRules
-- members by the positions of their texts
pub mod MemberKeys
-- what lookups find are members of the set
pub mod FoundMembers
-- tests of subclasses and of access answer what the relations say
pub mod TestedAccess
-- ways of all classes, made by rank
pub mod WayTables
-- ways up over lists that answer alike
pub mod SameWays
-- ways by a route, and those of a whole set
pub mod RouteWays
