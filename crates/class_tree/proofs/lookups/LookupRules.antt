-- In a set that the phases accept each lookup keeps its rule, and only it does.
use Rattle.std.proofs.Common.{◌≡◌, ℕ, ◌+◌, ◌<◌, List, length, map, Option, None, sym, ap, subst, ◌∙◌}
use Rattle.std.specs.Option.{option_or}
use Rattle.std.proofs.lemmas.List.{length-map}
use Rattle.class_pool.specs.declared.types.MemberId.{MemberId}
use Rattle.class_file.specs.declared.record.ClassFile.{ClassFile}
use Rattle.class_tree.specs.Set.{own_name, is_directly_below}
use Rattle.class_tree.specs.Closure.{leads_over}
use Rattle.class_tree.specs.Tree.{Gathers}
use Rattle.class_tree.specs.DirectSupers.{class_count, superclasses_of, superinterfaces_of, all_supers_of}
use Rattle.class_tree.specs.Upwards.{first_answer, first_upwards}
use Rattle.class_tree.specs.Members.{field_in}
use Rattle.class_tree.specs.FieldLookup.{find_field, KeepsFieldRule}
use Rattle.class_tree.specs.InterfaceLookup.{interface_method_in, find_interface_method, KeepsInterfaceRule}
use Rattle.class_tree.specs.MethodLookup.{first_in_superclasses, KeepsSuperclassRule}
use Rattle.class_tree.specs.LookupLaws.{IsOnly, FieldsAreRuled, InterfaceMethodsAreRuled, SuperclassesAreRuled}
use Rattle.class_tree.specs.Ranks.{how_many, AreRanks}
use Rattle.class_tree.proofs.ancestors.Acyclic.{ranks_by_ways}
use Rattle.class_tree.proofs.ancestors.SupersAbove.{superclasses_fall, superinterfaces_fall, all_fall}
use Rattle.class_tree.proofs.lookups.Climbing.{Falls, ruled, alike, answer_append}

module _ (files : List ClassFile) (gathers : Gathers files None) where
  names : List (List ℕ)
  names = map own_name files

  abbrev rank : ℕ → ℕ
  rank class = how_many (leads_over (is_directly_below (map own_name files) files) (32 + length (map own_name files)) class) (32 + length (map own_name files))

  ranks : AreRanks (map own_name files) files rank
  ranks = ranks_by_ways (map own_name files) files gathers.1.1.1.0 (length-map files own_name)

  bound : (class : ℕ) → rank class < class_count files
  bound class = subst (λ n. rank class < 32 + n) (length-map files own_name) (ranks.bound class)

  -- a lookup that goes up by some of the classes above
  only : (above : ℕ → List ℕ) (own : ℕ → Option MemberId) → Falls above rank
      → IsOnly (λ lookup. (class : ℕ) → lookup class ≡ option_or (own class) (first_answer lookup (above class))) (λ class. first_upwards above own (class_count files) class)
  only above own falls =
      record {
        keeps = λ class. ruled above rank falls own (class_count files) bound class;
        only = λ other rule class. alike above rank falls own other rule (class_count files) class (bound class);
      }

  superclasses_only : (own : ℕ → Option MemberId) → IsOnly (KeepsSuperclassRule files own) (first_in_superclasses files own)
  superclasses_only own = only (superclasses_of files) own (superclasses_fall (map own_name files) files rank ranks)

  interfaces_only : (name descriptor : List ℕ) → IsOnly (KeepsInterfaceRule files name descriptor) (find_interface_method files name descriptor)
  interfaces_only name descriptor = only (superinterfaces_of files) (interface_method_in files name descriptor) (superinterfaces_fall (map own_name files) files rank ranks)

  apart : (lookup : ℕ → Option MemberId) (class : ℕ)
      → first_answer lookup (all_supers_of files class) ≡ option_or (first_answer lookup (superinterfaces_of files class)) (first_answer lookup (superclasses_of files class))
  apart lookup class = answer_append lookup (superinterfaces_of files class) (superclasses_of files class)

  fields_only : (name descriptor : List ℕ) → IsOnly (KeepsFieldRule files name descriptor) (find_field files name descriptor)
  fields_only name descriptor =
      let own : ℕ → Option MemberId = field_in files name descriptor in
      let one = only (all_supers_of files) own (all_fall (map own_name files) files rank ranks) in
      record {
        keeps = λ class. one.keeps class ∙ ap (option_or (own class)) (apart (find_field files name descriptor) class);
        only = λ other rule class. one.only other (λ c. rule c ∙ ap (option_or (own c)) (sym (apart other c))) class;
      }

pub fields_ruled : FieldsAreRuled
fields_ruled files gathers name descriptor = fields_only files gathers name descriptor

pub interfaces_ruled : InterfaceMethodsAreRuled
interfaces_ruled files gathers name descriptor = interfaces_only files gathers name descriptor

pub superclasses_ruled : SuperclassesAreRuled
superclasses_ruled files gathers own = superclasses_only files gathers own
