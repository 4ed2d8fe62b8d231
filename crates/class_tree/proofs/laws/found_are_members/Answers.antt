use Rattle.class_tree.proofs.lookups.FoundMembers.{found_members}
use Rattle.class_tree.proofs.laws.found_are_members.Goals as goal

pub returns : goal.returns
returns c = found_members
