-- What a method overrides.
use Rattle.std.proofs.Common.{◌≡◌, ℕ, Bool, false, not, ◌&&◌, List, Option, Some, sym, ap, ◌∙◌}
use Rattle.std.specs.Option.{option_map_or}
use Rattle.class_pool.specs.declared.types.MemberId.{MemberId}
use Rattle.class_file.specs.declared.record.ClassFile.{ClassFile}
use Rattle.class_tree.specs.Set.{IsClass}
use Rattle.class_tree.specs.Members.{Declaration, member_at}
use Rattle.class_tree.specs.Overriding.{overridden, is_bad_override}
use Rattle.class_tree.proofs.lookups.FoundMembers.{found_members}
use Rattle.jvm_model.specs.Overrides.{is_special_name, overrides_badly}

pub overridden_class : (files : List ClassFile) (name descriptor : List ℕ) (class : ℕ) (upper : MemberId) → Some upper ≡ overridden files name descriptor class → IsClass files upper.class
overridden_class files name descriptor class upper e = ((found_members files name descriptor class upper).overridden_one (sym e)).class

pub overrides_so : (files : List ClassFile) (class position : ℕ) (method : Declaration) (upper : MemberId) → is_special_name method.name ≡ false → overridden files method.name method.descriptor class ≡ Some upper
    → overrides_badly files class position method ≡ is_bad_override files (member_at class position) upper
overrides_so files class position method upper plain is =
    let badly : Option MemberId → Bool = λ o. option_map_or (is_bad_override files (member_at class position)) o false in
    ap (λ b. not b && badly (overridden files method.name method.descriptor class)) plain ∙ ap badly is
