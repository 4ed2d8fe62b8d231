use Rattle.std.proofs.Common.{◌+◌, ℕ, List, ◌++◌, nat_eq, take, drop, get_or, map, sym, ap, subst, ◌∙◌}
use Rattle.std.specs.List.{flat_map, IsDistinct}
use Rattle.std.proofs.lemmas.List.{get_or_default, take_all}
use Rattle.jvm_model.specs.ImageNumbering.{class_fields}
use Rattle.infuse_ids.specs.Places.{placed}
use Rattle.infuse_ids.proofs.ClassFields.{fields_more}
use Rattle.infuse_ids.proofs.Placing.{placed_same, stands}
use Rattle.infuse_ids.proofs.places.places.Goals as goal

pub loop-class-preserved : goal.loop-class-preserved
loop-class-preserved c =
    let files = c.args.set.now in
    let order = c.as_slice-class-items.result.now in
    let i = c.loop-class.class-index in
    let class = get_or order i 0 in
    let lt = c.loop-class-test.true in
    let here = get_or_default order i 0 class lt in
    let keys = c.as_slice-class-items.ensures.keys in
    let unique = subst (λ (classes : List ℕ). IsDistinct nat_eq classes) (sym keys) c.as_slice-class-items.ensures.unique in
    let among = stands files order i class c.requires.closed (keys ∙ c.requires.order) unique lt here in
    let before = flat_map (class_fields files) (take i order) in
    let after = flat_map (class_fields files) (drop (i + 1) order) in
    placed_same files (before ++ class_fields files class) (flat_map (class_fields files) (take (i + 1) order)) c.add_class.new.counts.statics c.add_class.new.places
    (sym (fields_more files order i class lt here)) (c.in-Ok.ensures.placed before after among c.loop-class.invariant)

pub returns-clause-placed : goal.returns-clause-placed
returns-clause-placed c =
    let files = c.args.set.now in
    c.loop-class.invariant.listed
    ∙ ap (λ (classes : List ℕ). map (placed files) (flat_map (class_fields files) classes))
    (take_all c.loop-class.class-index c.as_slice-class-items.result.now c.loop-class-test.false ∙ c.as_slice-class-items.ensures.keys ∙ c.requires.order)
