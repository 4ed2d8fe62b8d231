use Rattle.std.proofs.Common.{sym}
use Rattle.class_tree.proofs.lookups.FoundMembers.{found_members}
use Rattle.body_make.proofs.uppers.lacks_body.Goals as goal

pub has_code-requires : goal.has_code-requires
has_code-requires c = ((found_members c.args.set.now c.text_at-name.result.now c.text_at.result.now c.args.class c.in-Some.selected).selected (sym c.in-Some.ensures.found)).class
