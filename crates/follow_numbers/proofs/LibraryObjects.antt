-- Objects of the library's classes, which have no fields, are the same for both machines where the machine throws them.
use Rattle.std.proofs.Common.{◌≡◌, ℕ, zero, suc, ◌+◌, not, inl, List, [], ◌++◌, map, filter, Option, Some, None, refl, sym, ap, ◌∙◌, arith}
use Rattle.std.specs.Prelude.{sum}
use Rattle.std.specs.Option.{option_map_or}
use Rattle.class_file.specs.declared.record.ClassFile.{ClassFile}
use Rattle.class_tree.specs.DirectSupers.{class_count, superclass_of}
use Rattle.class_tree.specs.Members.{fields_of, in_file}
use Rattle.class_tree.specs.Set.{file_of}
use Rattle.class_tree.specs.Tree.{Gathers}
use Rattle.jvm_model.specs.ImageLimits.{first_excess}
use Rattle.jvm_model.specs.ImageNumbering.{Field, class_fields, fields_from, object_fields}
use Rattle.mote_model.specs.SplitTypes as split_types
use Rattle.typed_machine.specs.TypedWorld.{cells_of_field, field_cells, new_object}
use Rattle.typed_machine.specs.TypedMoves.{arithmetic_exception}
use Rattle.match_states.specs.MatchedObjects.{ObjectMatches, references_in, cells_in}
use Rattle.match_states.specs.Setting.{Setting, IsCompiled}
use Rattle.follow_numbers.proofs.ClassesStand.{catch_alike}
use Rattle.follow_numbers.proofs.MachineThrows.{ThrowsAlike}

-- a class and those above it have no fields, so many levels up
pub record IsBare (files : List ClassFile) (class : ℕ) : Type 0 where
  pub fields : (levels : ℕ) → object_fields files levels class ≡ []
  pub cells : (levels : ℕ) → field_cells files levels class ≡ 0

module _ (files : List ClassFile) where
  root_fields : (levels : ℕ) → object_fields files levels 0 ≡ []
  unfolding object_fields
  root_fields zero = refl
  root_fields (suc levels) = refl

  root_cells : (levels : ℕ) → field_cells files levels 0 ≡ 0
  unfolding field_cells
  root_cells zero = refl
  root_cells (suc levels) = refl

  root_bare : IsBare files 0
  root_bare = record { fields = root_fields; cells = root_cells }

  -- a class of the library below one
  module _ (class super : ℕ) (above : superclass_of files class ≡ Some super) (none : file_of files class ≡ None) (bare : IsBare files super) where
    below_fields : (levels : ℕ) → object_fields files levels class ≡ []
    unfolding object_fields
    below_fields zero = refl
    below_fields (suc levels) =
        ap (λ (found : Option ℕ). option_map_or (object_fields files levels) found [] ++ filter (λ field. not field.static) (class_fields files class)) above
        ∙ ap (λ (l : List Field). l ++ filter (λ field. not field.static) (class_fields files class)) (bare.fields levels)
        ∙ ap (λ (file : Option ClassFile). filter (λ (field : Field). not field.static) (option_map_or (λ (file : ClassFile). fields_from class file 0 file.fields) file [])) none

    below_cells : (levels : ℕ) → field_cells files levels class ≡ 0
    unfolding field_cells
    below_cells zero = refl
    below_cells (suc levels) =
        let own : sum (map cells_of_field (fields_of files class)) ≡ 0 = ap (λ (file : Option ClassFile). sum (map cells_of_field (option_map_or (λ (file : ClassFile). map (in_file file.pool) file.fields) file []))) none in
        let rest : option_map_or (field_cells files levels) (superclass_of files class) 0 ≡ 0 = ap (λ (found : Option ℕ). option_map_or (field_cells files levels) found 0) above ∙ bare.cells levels in
        omega (arith, own, rest)

    below_bare : IsBare files class
    below_bare = record { fields = below_fields; cells = below_cells }

  pub arithmetic_bare : IsBare files arithmetic_exception
  arithmetic_bare = below_bare 4 3 refl refl (below_bare 3 2 refl refl (below_bare 2 1 refl refl (below_bare 1 0 refl refl root_bare)))

-- the machines throw ArithmeticException alike
pub arithmetic_alike : (setting : Setting) → IsCompiled setting → Gathers setting.world.files None → first_excess setting.world.files setting.numbering ≡ None → ThrowsAlike setting arithmetic_exception
arithmetic_alike setting compiled closed within =
    let files = setting.world.files in
    let bare = arithmetic_bare files in
    let none = bare.fields (class_count files) in
    let no_cells = bare.cells (class_count files) in
    let object : ObjectMatches setting (new_object files arithmetic_exception) (split_types.new_object setting.image arithmetic_exception) =
    record {
      type_is = refl;
      length_is = refl;
      refs_are = sym (ap (references_in _) none);
      cells_are = sym (ap (cells_in _) none);
    } in
    record { id = refl; object = object; cells = ap (λ (cells : ℕ). 2 + cells) no_cells; catch = catch_alike setting compiled closed within arithmetic_exception (inl (omega arith)) }
