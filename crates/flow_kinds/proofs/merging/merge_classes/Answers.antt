-- Two bases merge to a common superclass where both are classes, else to java/lang/Object.
use Rattle.std.proofs.Common.{refl, sym, ap, ◌∙◌}
use Rattle.class_tree.specs.Subtypes.{class_type}
use Rattle.flow_kinds.proofs.KindCases.{merge_bases, merge_classes}
use Rattle.flow_kinds.proofs.merging.merge_classes.Goals as goal

pub returns-in-Class-Class-clause-merged : goal.returns-in-Class-Class-clause-merged
returns-in-Class-Class-clause-merged c =
    ap class_type c.common_super.ensures
    ∙ sym (merge_classes c.args.set.now c.args.a c.args.b c.in-Class-Class.first c.in-Class-Class.second c.in-Class-Class.is-0 c.in-Class-Class.is-1)

pub returns-in_default : goal.returns-in_default
returns-in_default c =
    record {
      merged = sym (merge_bases c.args.set.now c.args.a c.args.b (λ x y first second. c.in_default.not-Class-1 y second));
      class = refl;
    }

pub returns-in_default-2 : goal.returns-in_default-2
returns-in_default-2 c =
    record {
      merged = sym (merge_bases c.args.set.now c.args.a c.args.b (λ x y first second. c.in_default.not-Class-0 x first));
      class = refl;
    }
