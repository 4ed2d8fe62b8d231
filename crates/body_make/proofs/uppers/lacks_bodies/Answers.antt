use Rattle.std.proofs.Common.{◌≡◌, ℕ, Bool, false, not, ◌&&◌, arith, ◌+◌, ap, sym, ◌∙◌}
use Rattle.std.specs.List.{list_any}
use Rattle.class_file.specs.Rules.{is_abstract}
use Rattle.class_tree.specs.Set.{flags_of}
use Rattle.class_tree.specs.Members.{methods_of}
use Rattle.class_tree.specs.AccessTests.{is_subclass}
use Rattle.class_tree.specs.DirectSupers.{class_count}
use Rattle.jvm_model.specs.Overrides.{lacks_body, at_or_above}
use Rattle.body_make.proofs.FilesAbove.{one_of, none_of}
use Rattle.body_make.proofs.uppers.lacks_bodies.Goals as goal

pub returns-then-lacks_from : goal.returns-then-lacks_from
returns-then-lacks_from c =
    let files = c.args.set.now in
    let lacks : ℕ → Bool = λ upper. list_any (lacks_body files c.args.class) (methods_of files upper) in
    let plain : is_abstract (flags_of files c.args.class) ≡ false = cc in
    sym (ap (λ b. not b && list_any lacks (at_or_above files c.args.class)) plain
    ∙ one_of lacks (is_subclass files c.args.class) (class_count files) (32 + c.loop-position.position) (omega arith) (sym c.lacks_from.ensures ∙ c.if-lacks_from.true))

pub returns : goal.returns
returns c =
    let files = c.args.set.now in
    let lacks : ℕ → Bool = λ upper. list_any (lacks_body files c.args.class) (methods_of files upper) in
    let plain : is_abstract (flags_of files c.args.class) ≡ false = cc in
    sym (ap (λ b. not b && list_any lacks (at_or_above files c.args.class)) plain
    ∙ none_of lacks (is_subclass files c.args.class) (class_count files) (λ k lt. c.loop-position.invariant k (omega arith)))
