use Rattle.std.proofs.Common.{ℕ, ◌+◌, List, map, take, sym, ap, subst, ◌∙◌}
use Rattle.std.specs.List.{AllByRecursion}
use Rattle.class_tree.specs.Members.{in_file}
use Rattle.class_tree.specs.MemberIndex.{IsAmong}
use Rattle.class_tree.proofs.lookups.MemberKeys.{with_text, among_more}
use Rattle.class_tree.proofs.member_index.texts_of.Goals as goal

pub loop-member-preserved : goal.loop-member-preserved
loop-member-preserved c =
    let P : List (List ℕ) → Type 0 = λ texts. AllByRecursion (IsAmong texts) (map (in_file c.args.pool.now) (take (c.loop-member.member-index + 1) c.args.members.now)) in
    let first = c.in_ok-add.ensures ∙ ap (with_text c.loop-member.texts) c.text_at.ensures in
    let second = c.in_ok-add-2.ensures ∙ ap (with_text c.add.new.self) c.text_at-in-loop-member.ensures in
    subst P (sym (second ∙ ap (λ (texts : List (List ℕ)). with_text texts (in_file c.args.pool.now c.member-item.result).descriptor) first))
    (among_more c.loop-member.texts c.args.pool.now c.args.members.now c.loop-member.member-index c.member-item.result c.loop-member-test.true c.member-item.is c.loop-member.invariant)
