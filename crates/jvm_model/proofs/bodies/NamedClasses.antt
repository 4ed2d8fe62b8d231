-- The classes that names name are classes of the set.
use Rattle.std.proofs.Common.{◌≡◌, ℕ, ◌+◌, ◌<◌, List, [], length, map, Option, Some, None, option_map, position, inl, inr, refl, sym, arith}
use Rattle.std.specs.Option.{option_or}
use Rattle.std.specs.Str.{bytes_eq}
use Rattle.std.proofs.lemmas.List.{length-map}
use Rattle.std.proofs.lemmas.List.Quantifiers.{position-Some}
use Rattle.library.specs.Classes.{first_own, class_names}
use Rattle.class_file.specs.declared.record.ClassFile.{ClassFile}
use Rattle.class_tree.specs.Set.{own_name, number_of, IsClass}

among : (files : List ClassFile) (name : List ℕ) (library own : Option ℕ) (class : ℕ) → position (bytes_eq name) class_names ≡ library → position (bytes_eq name) (map own_name files) ≡ own
    → option_or library (option_map (λ file. first_own + file) own) ≡ Some class → IsClass files class
among files name (Some n) own class is _ e =
    let below : n < 15 = (position-Some (bytes_eq name) class_names n [] is).0 in
    let same : n ≡ class = cc in
    inl (omega (arith, below, same))
among files name None (Some n) class _ is e =
    let below : n < length (map own_name files) = (position-Some (bytes_eq name) (map own_name files) n [] is).0 in
    let many : length (map own_name files) ≡ length files = length-map files own_name in
    let same : 32 + n ≡ class = cc in
    inr (omega (arith, same), omega (arith, same, below, many))
among files name None None class _ _ e = absurd (let bad : None ≡ Some class = e in cc)

pub named_class : (files : List ClassFile) (name : List ℕ) (class : ℕ) → Some class ≡ number_of files name → IsClass files class
named_class files name class is = among files name (position (bytes_eq name) class_names) (position (bytes_eq name) (map own_name files)) class refl refl (sym is)
