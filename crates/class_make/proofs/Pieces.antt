-- The pieces of a class file are appended one after the other.
use Rattle.std.proofs.Common.{◌≡◌, ℕ, ◌+◌, ◌*◌, List, [], ◌∷◌, ◌++◌, map, length, Option, Some, refl, sym, ap, ◌∙◌, append_assoc, arith, length-append}
use Rattle.std.specs.List.{flat_map}
use Rattle.std.proofs.lemmas.List.{append-nil, length-map}
use Rattle.class_file.specs.declared.record.CodeAttr.{CodeAttr}
use Rattle.class_file.specs.declared.record.HandlerRow.{HandlerRow}
use Rattle.class_file.specs.declared.record.Member.{Member}
use Rattle.class_file.specs.Layout.{u2, u4, counted, handler_bytes, code_info, attribute_bytes, plain, member_bytes, MemberAttribute}
use Rattle.class_make.specs.Written.{code_attribute, member_layout}
use Rattle.class_make.proofs.Appended.{flat_map-map}

rows_length : (rows : List HandlerRow) → length (flat_map handler_bytes rows) ≡ 8 * length rows
rows_length [] = refl
rows_length (row ∷ rows) = omega (arith, rows_length rows)

-- how many bytes a Code attribute holds
pub code_info_length : (c : CodeAttr) → length (code_info c []) ≡ 12 + length c.code + 8 * length c.handlers
code_info_length c = simp length-append (omega (arith, rows_length c.handlers))

attribute_parts : (start name size info : List ℕ) → (((start ++ name) ++ size) ++ info) ≡ start ++ ((name ++ (size ++ info)) ++ [])
attribute_parts start name size info = simp (append_assoc, append-nil)

-- a Code attribute: its name, its length, and what it holds
pub code_appended : (start named sized whole : List ℕ) (name size : ℕ) (option : Option CodeAttr) (code : CodeAttr) → option ≡ Some code → named ≡ start ++ u2 name → size ≡ length (code_info code [])
    → sized ≡ named ++ u4 size → whole ≡ sized ++ code_info code [] → whole ≡ start ++ flat_map (λ (a : MemberAttribute). attribute_bytes (plain a)) (code_attribute name option)
code_appended start named sized whole name size option code some named_is size_is sized_is whole_is =
    let info : List ℕ = code_info code [] in
    let parts : whole ≡ ((start ++ u2 name) ++ u4 (length info)) ++ info =
    whole_is ∙ ap (λ (bytes : List ℕ). bytes ++ info) (sized_is ∙ ap (λ (bytes : List ℕ). bytes ++ u4 size) named_is ∙ ap (λ (n : ℕ). (start ++ u2 name) ++ u4 n) size_is) in
    parts ∙ attribute_parts start (u2 name) (u4 (length info)) info
    ∙ ap (λ (o : Option CodeAttr). start ++ flat_map (λ (a : MemberAttribute). attribute_bytes (plain a)) (code_attribute name o)) (sym some)

-- members after their count
pub members_appended : (start counted_so whole : List ℕ) (v c : ℕ) (members : List Member) → counted_so ≡ start ++ u2 (length members)
    → whole ≡ counted_so ++ flat_map (λ (m : Member). member_bytes (member_layout v c m)) members → whole ≡ start ++ counted member_bytes (map (member_layout v c) members)
members_appended start counted_so whole v c members count_is whole_is =
    let each : List ℕ = flat_map (λ (m : Member). member_bytes (member_layout v c m)) members in
    whole_is ∙ ap (λ (bytes : List ℕ). bytes ++ each) count_is ∙ append_assoc start (u2 (length members)) each
    ∙ ap (λ (n : ℕ). start ++ (u2 n ++ each)) (sym (length-map members (member_layout v c)))
    ∙ ap (λ (bytes : List ℕ). start ++ (u2 (length (map (member_layout v c) members)) ++ bytes)) (sym (flat_map-map member_bytes (member_layout v c) members))
