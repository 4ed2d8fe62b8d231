use Rattle.std.proofs.Common.{ℕ, MatchBool, subst}
use Rattle.class_tree.specs.Access.{MayUse}
use Rattle.class_find.proofs.access.allowed.Goals as goal

pub returns : goal.returns
returns c =
    let P : ℕ → Type 0 = λ flags. MatchBool c.may_use.result (MayUse c.args.set.now c.args.from c.args.member.class flags) (MayUse c.args.set.now c.args.from c.args.member.class flags → ⊥) in
    subst P c.member_flags.ensures c.may_use.ensures
