use Rattle.std.proofs.Common.{◌+◌, List, take, map, sym, ap, subst}
use Rattle.class_tree.specs.declared.member_index.MemberIndex.{MemberIndex}
use Rattle.class_tree.specs.Members.{Declaration, in_file}
use Rattle.class_tree.specs.MemberIndex.{own_methods, IsIndexOf, AreIndexes}
use Rattle.class_tree.proofs.tables.IndexLists.{indexes_more}
use Rattle.class_tree.proofs.member_index.method_indexes.Goals as goal

pub loop-file-preserved : goal.loop-file-preserved
loop-file-preserved c =
    let P : List MemberIndex → Type 0 = λ indexes. AreIndexes own_methods (take (c.loop-file.file-index + 1) c.args.files.now) indexes in
    let Q : List Declaration → Type 0 = λ members. IsIndexOf members c.in-Ok.index.texts c.in-Ok.index.keys.keys in
    subst P (sym c.in_ok-push-in-Ok.ensures.items)
    (indexes_more own_methods c.args.files.now c.loop-file.indexes.items c.loop-file.file-index c.file-item.result c.in-Ok.index c.loop-file-test.true c.file-item.is c.loop-file.invariant
    (subst Q (ap (map (in_file c.file-item.result.pool)) c.as_slice.ensures) c.in-Ok.ensures.indexed))
