-- Machine instructions that read, write and return values of declared types find their operands, and lead to the depth of the
-- frame after them.
use Rattle.std.proofs.Common.{◌≡◌, ◌⊎◌, inl, inr, ℕ, zero, suc, ◌≤◌, Bool, true, ◌&&◌, List, [], ◌∷◌, ◌++◌, length, drop, Option, Some, None, Ok, Err, refl, sym, ap, subst, ◌∙◌, arith}
use Rattle.std.specs.Option.{ok_or}
use Rattle.std.proofs.lemmas.Bool.{and_parts}
use Rattle.std.proofs.lemmas.Option.{none-some, same_Some}
use Rattle.class_pool.specs.declared.descriptor.Kind.{Kind as DeclaredKind}
use Rattle.class_pool.specs.declared.descriptor.Kind.TheVariants as declared
use Rattle.class_pool.specs.Descriptors.{HasDims}
use Rattle.class_file.specs.declared.record.ClassFile.{ClassFile}
use Rattle.class_tree.specs.Set.{number_of}
use Rattle.insn_form.specs.declared.ValueKind.{ValueKind}
use Rattle.insn_form.specs.declared.ValueKind.TheVariants as value_kind
use Rattle.image_instr.specs.declared.insn.Kind.{Kind}
use Rattle.image_instr.specs.declared.insn.Kind.TheVariants as kind
use Rattle.image_instr.specs.declared.insn.Width.TheVariants as width
use Rattle.image_instr.specs.declared.insn.MInsn.{MInsn}
use Rattle.image_instr.specs.declared.insn.MInsn.TheVariants as insns
use Rattle.image_instr.specs.Effect.{moves, cells_of}
use Rattle.image_form.specs.declared.record.Image.{Image}
use Rattle.image_form.specs.declared.record.Method.{Method}
use Rattle.body_form.specs.declared.types.VType.{VType}
use Rattle.body_form.specs.declared.types.VType.TheVariants as known
use Rattle.class_pool.specs.declared.types.TypeBase.{TypeBase}
use Rattle.class_pool.specs.declared.types.TypeBase.TheVariants as base
use Rattle.jvm_model.specs.declared.refusal.Cause.TheVariants.{Unresolved}
use Rattle.jvm_model.specs.Initialisers.{is_whole_kind, is_reference_kind}
use Rattle.jvm_model.specs.ImageExpansion.{alone, kind_in, read_as, return_of, top_of, write_as}
use Rattle.jvm_model.specs.Resolution.{Resolved, and_then, base_named, type_with}
use Rattle.jvm_model.specs.TypesFrames.{fits_kind, value_in, value_of_kind}
use Rattle.jvm_model.specs.TypesRules.{has_kind, returned, takes}
use Rattle.jvm_model.specs.WidthsFrame.{code_of_kind, result_code}
use Rattle.jvm_model.specs.WidthsShapes.{shape_of}
use Rattle.follow_calls.proofs.WholeKinds.{reference_kind, reference_taken, whole_taken}
use Rattle.image_rules.specs.Depths.{depth_of, wide}
use Rattle.image_rules.specs.Parts.{ResultHasDims}
use Rattle.image_rules.proofs.DepthSums.{Goes, goes_by, goes_none, goes_on_with, goes_pop, goes_push}
use Rattle.image_rules.proofs.RightNumbers.{int_is, reference_shape}

-- ---- declared types

-- a value of the type is known as an int where whole numbers are declared, and as a reference where references are
abbrev pub IsDeclaredAs : DeclaredKind → VType → Type 0
IsDeclaredAs k type = ((is_whole_kind k ≡ true) × (type ≡ known.Int)) ⊎ ((is_reference_kind k ≡ true) × (shape_of width.Two type ≡ kind.Ref))

module _ (files : List ClassFile) where
  class_value : (found : Resolved ℕ) (type : VType) → value_in (and_then (λ of. Ok (type_with 0 of)) (and_then (λ (class : ℕ). Ok (base.Class class)) found)) ≡ Some type → shape_of width.Two type ≡ kind.Ref
  class_value (Ok class) type is = ap (shape_of width.Two) (sym (same_Some (known.Ref (type_with 0 (base.Class class))) type is))
  class_value (Err why) type is = absurd (none-some type is)

  array_value : (dims : ℕ) (found : Resolved TypeBase) (type : VType) → 1 ≤ dims → value_in (and_then (λ of. Ok (type_with dims of)) found) ≡ Some type → shape_of width.Two type ≡ kind.Ref
  array_value zero found type some is = absurd (omega (arith, some))
  array_value (suc dims) (Ok of) type some is = ap (shape_of width.Two) (sym (same_Some (known.Ref (type_with (suc dims) of)) type is))
  array_value (suc dims) (Err why) type some is = absurd (none-some type is)

  int_value : (type : VType) → Some known.Int ≡ Some type → type ≡ known.Int
  int_value type is = sym (same_Some known.Int type is)

  -- what is read of a declared type
  pub value_declared : (k : DeclaredKind) (type : VType) → HasDims k → value_of_kind files k ≡ Some type → IsDeclaredAs k type
  value_declared declared.Byte type dims is = inl (refl, int_value type is)
  value_declared declared.Char type dims is = inl (refl, int_value type is)
  value_declared declared.Short type dims is = inl (refl, int_value type is)
  value_declared declared.Int type dims is = inl (refl, int_value type is)
  value_declared declared.Boolean type dims is = inl (refl, int_value type is)
  value_declared declared.Long type dims is = absurd (none-some type is)
  value_declared declared.Float type dims is = absurd (none-some type is)
  value_declared declared.Double type dims is = absurd (none-some type is)
  value_declared (declared.Class name) type dims is = inr (refl, class_value (ok_or (number_of files name) Unresolved) type is)
  value_declared (declared.Array count of) type dims is = inr (refl, array_value count (base_named files of) type dims.0 is)

  whole_fits : (k : DeclaredKind) (type : VType) → is_whole_kind k ≡ true → fits_kind files k type ≡ true → IsDeclaredAs k type
  whole_fits k type whole fits = inl (whole, int_is type (whole_taken files k type whole fits))

  reference_fits : (k : DeclaredKind) (type : VType) → is_reference_kind k ≡ true → HasDims k → fits_kind files k type ≡ true → IsDeclaredAs k type
  reference_fits k type refers dims fits = inr (refers, reference_shape type (reference_taken files k type refers dims fits))

  -- what fits a declared type
  pub fits_declared : (k : DeclaredKind) (type : VType) → HasDims k → fits_kind files k type ≡ true → IsDeclaredAs k type
  fits_declared declared.Byte type dims fits = whole_fits declared.Byte type refl fits
  fits_declared declared.Char type dims fits = whole_fits declared.Char type refl fits
  fits_declared declared.Short type dims fits = whole_fits declared.Short type refl fits
  fits_declared declared.Int type dims fits = whole_fits declared.Int type refl fits
  fits_declared declared.Boolean type dims fits = whole_fits declared.Boolean type refl fits
  fits_declared declared.Long type dims fits = absurd cc
  fits_declared declared.Float type dims fits = absurd cc
  fits_declared declared.Double type dims fits = absurd cc
  fits_declared (declared.Class name) type dims fits = reference_fits (declared.Class name) type refl dims fits
  fits_declared (declared.Array count of) type dims fits = reference_fits (declared.Array count of) type refl dims fits

module _ (image : Image) (method : Method) where
  -- ---- what is read

  abbrev Reads : DeclaredKind → Kind → List Kind → Type 0
  Reads k shape shapes = Goes image method (depth_of (kind_in k ∷ shapes)) (read_as k shape) (depth_of (shape ∷ shapes))

  whole_reads : (k : DeclaredKind) (shapes : List Kind) → is_whole_kind k ≡ true → Reads k kind.Two shapes
  whole_reads declared.Int shapes whole = goes_none image method (depth_of (kind.Two ∷ shapes))
  whole_reads declared.Char shapes whole = goes_by image method insns.Zx [] (kind.One ∷ []) (kind.Two ∷ []) shapes tt refl
  whole_reads declared.Boolean shapes whole = goes_by image method insns.Zx [] (kind.One ∷ []) (kind.Two ∷ []) shapes tt refl
  whole_reads declared.Byte shapes whole = goes_by image method insns.Sx [] (kind.One ∷ []) (kind.Two ∷ []) shapes tt refl
  whole_reads declared.Short shapes whole = goes_by image method insns.Sx [] (kind.One ∷ []) (kind.Two ∷ []) shapes tt refl
  whole_reads k shapes whole = absurd cc

  refers_reads : (k : DeclaredKind) (shapes : List Kind) → is_reference_kind k ≡ true → Reads k kind.Ref shapes
  refers_reads (declared.Class name) shapes refers = goes_none image method (depth_of (kind.Ref ∷ shapes))
  refers_reads (declared.Array count of) shapes refers = goes_none image method (depth_of (kind.Ref ∷ shapes))
  refers_reads k shapes refers = absurd cc

  pub reads : (k : DeclaredKind) (type : VType) (shapes : List Kind) → IsDeclaredAs k type → Reads k (shape_of width.Two type) shapes
  reads k type shapes (inl whole) = subst (λ (t : VType). Reads k (shape_of width.Two t) shapes) (sym whole.1) (whole_reads k shapes whole.0)
  reads k type shapes (inr refers) = subst (λ (shape : Kind). Reads k shape shapes) (sym refers.1) (refers_reads k shapes refers.0)

  -- ---- what is written

  abbrev Writes : DeclaredKind → Kind → List Kind → Type 0
  Writes k shape shapes = Goes image method (depth_of (shape ∷ shapes)) (write_as k shape) (depth_of (kind_in k ∷ shapes))

  cuts : (shapes : List Kind) (insn : MInsn) → Goes image method (depth_of (kind.One ∷ shapes)) (alone insn) (depth_of (kind.One ∷ shapes)) → Goes image method (depth_of (kind.Two ∷ shapes)) (alone (insns.Pop 1) ++ alone insn) (depth_of (kind.One ∷ shapes))
  cuts shapes insn goes =
      goes_on_with image method (depth_of (kind.Two ∷ shapes)) (depth_of (kind.One ∷ shapes)) (depth_of (kind.One ∷ shapes)) (alone (insns.Pop 1)) (alone insn)
      (goes_by image method (insns.Pop 1) [] (kind.One ∷ []) [] (kind.One ∷ shapes) tt refl) goes

  whole_writes : (k : DeclaredKind) (shapes : List Kind) → is_whole_kind k ≡ true → Writes k kind.Two shapes
  whole_writes declared.Int shapes whole = goes_none image method (depth_of (kind.Two ∷ shapes))
  whole_writes declared.Char shapes whole = goes_by image method (insns.Pop 1) [] (kind.One ∷ []) [] (kind.One ∷ shapes) tt refl
  whole_writes declared.Short shapes whole = goes_by image method (insns.Pop 1) [] (kind.One ∷ []) [] (kind.One ∷ shapes) tt refl
  whole_writes declared.Byte shapes whole = cuts shapes insns.Sb (goes_by image method insns.Sb [] (kind.One ∷ []) (kind.One ∷ []) shapes tt refl)
  whole_writes declared.Boolean shapes whole = cuts shapes insns.Bit (goes_by image method insns.Bit [] (kind.One ∷ []) (kind.One ∷ []) shapes tt refl)
  whole_writes k shapes whole = absurd cc

  refers_writes : (k : DeclaredKind) (shapes : List Kind) → is_reference_kind k ≡ true → Writes k kind.Ref shapes
  refers_writes (declared.Class name) shapes refers = goes_none image method (depth_of (kind.Ref ∷ shapes))
  refers_writes (declared.Array count of) shapes refers = goes_none image method (depth_of (kind.Ref ∷ shapes))
  refers_writes k shapes refers = absurd cc

  pub writes : (k : DeclaredKind) (type : VType) (shapes : List Kind) → IsDeclaredAs k type → Writes k (shape_of width.Two type) shapes
  writes k type shapes (inl whole) = subst (λ (t : VType). Writes k (shape_of width.Two t) shapes) (sym whole.1) (whole_writes k shapes whole.0)
  writes k type shapes (inr refers) = subst (λ (shape : Kind). Writes k shape shapes) (sym refers.1) (refers_writes k shapes refers.0)

  -- ---- statics

  module _ (files : List ClassFile) (k : DeclaredKind) (place : ℕ) (dims : HasDims k) where
    pub get_right : (type : VType) (stack : List VType) → value_of_kind files k ≡ Some type
        → Goes image method (depth_of (wide stack)) (alone (insns.GetS (kind_in k) place) ++ read_as k (top_of (wide (type ∷ stack)))) (depth_of (wide (type ∷ stack)))
    get_right type stack is =
        goes_on_with image method (depth_of (wide stack)) (depth_of (kind_in k ∷ wide stack)) (depth_of (wide (type ∷ stack))) (alone (insns.GetS (kind_in k) place)) (read_as k (shape_of width.Two type))
        (goes_push image method (insns.GetS (kind_in k) place) (kind_in k) (wide stack) tt refl) (reads k type (wide stack) (value_declared files k type dims is))

    pub put_right : (stack : List VType) → takes (fits_kind files k ∷ []) stack ≡ true
        → Goes image method (depth_of (wide stack)) (write_as k (top_of (wide stack)) ++ alone (insns.PutS (kind_in k) place)) (depth_of (wide (drop 1 stack)))
    unfolding takes
    put_right [] has = absurd cc
    put_right (type ∷ stack) has =
        let fits = (and_parts (fits_kind files k type) true has).0 in
        goes_on_with image method (depth_of (wide (type ∷ stack))) (depth_of (kind_in k ∷ wide stack)) (depth_of (wide stack)) (write_as k (shape_of width.Two type)) (alone (insns.PutS (kind_in k) place))
        (writes k type (wide stack) (fits_declared files k type dims fits))
        (goes_pop image method (insns.PutS (kind_in k) place) (kind_in k) (wide stack) tt (ap (λ refs. moves refs 0 (cells_of (kind_in k)) 0) (omega arith)))

  -- ---- returns

  gives_back : (of : Kind) (shapes : List Kind) → method.sig.result ≡ code_of_kind of → Goes image method (depth_of (of ∷ shapes)) (alone (insns.Ret (Some of))) (depth_of shapes)
  gives_back kind.Ref shapes gives = goes_pop image method (insns.Ret (Some kind.Ref)) kind.Ref shapes (sym gives) refl
  gives_back kind.One shapes gives = goes_pop image method (insns.Ret (Some kind.One)) kind.One shapes (sym gives) refl
  gives_back kind.Two shapes gives = goes_pop image method (insns.Ret (Some kind.Two)) kind.Two shapes (sym gives) refl

  no_both : (type : VType) → has_kind value_kind.Ref type ≡ true → type ≡ known.Int → ⊥
  no_both type refers int = let both : has_kind value_kind.Ref known.Int ≡ true = ap (has_kind value_kind.Ref) (sym int) ∙ refers in cc

  -- a reference is declared where one is returned
  refers_declared : (k : DeclaredKind) (type : VType) → has_kind value_kind.Ref type ≡ true → IsDeclaredAs k type → kind_in k ≡ kind.Ref
  refers_declared k type has (inl whole) = absurd (no_both type has whole.1)
  refers_declared k type has (inr refers) = reference_kind k refers.0

  module _ (files : List ClassFile) where
    returns_value : (k : DeclaredKind) (of : ValueKind) (type : VType) (stack : List VType) → HasDims k → method.sig.result ≡ code_of_kind (kind_in k) → has_kind of type ≡ true → fits_kind files k type ≡ true
        → Goes image method (depth_of (wide (type ∷ stack))) (return_of (Some k) (shape_of width.Two type) (Some of)) (depth_of (wide stack))
    returns_value k value_kind.Ref type stack dims gives has fits =
        let refers = refers_declared k type has (fits_declared files k type dims fits) in
        subst (λ (shape : Kind). Goes image method (depth_of (shape ∷ wide stack)) (alone (insns.Ret (Some kind.Ref))) (depth_of (wide stack))) (sym (reference_shape type has))
        (gives_back kind.Ref (wide stack) (gives ∙ ap code_of_kind refers))
    returns_value k value_kind.Int type stack dims gives has fits =
        goes_on_with image method (depth_of (wide (type ∷ stack))) (depth_of (kind_in k ∷ wide stack)) (depth_of (wide stack)) (write_as k (shape_of width.Two type)) (alone (insns.Ret (Some (kind_in k))))
        (writes k type (wide stack) (fits_declared files k type dims fits)) (gives_back (kind_in k) (wide stack) gives)

    returns_top : (k : DeclaredKind) (of : ValueKind) (stack : List VType) → HasDims k → method.sig.result ≡ code_of_kind (kind_in k) → takes ((λ type. has_kind of type && fits_kind files k type) ∷ []) stack ≡ true
        → Goes image method (depth_of (wide stack)) (return_of (Some k) (top_of (wide stack)) (Some of)) (depth_of (wide (drop 1 stack)))
    unfolding takes
    returns_top k of [] dims gives has = absurd cc
    returns_top k of (type ∷ stack) dims gives has =
        let parts = and_parts (has_kind of type) (fits_kind files k type) (and_parts (has_kind of type && fits_kind files k type) true has).0 in
        returns_value k of type stack dims gives parts.0 parts.1

    -- what is returned is taken
    pub return_right : (result : Option DeclaredKind) (of : Option ValueKind) (stack : List VType) (tests : List (VType → Bool)) → ResultHasDims result → method.sig.result ≡ result_code result
        → returned files result of ≡ Some tests → takes tests stack ≡ true → Goes image method (depth_of (wide stack)) (return_of result (top_of (wide stack)) of) (depth_of (wide (drop (length tests) stack)))
    return_right None None stack tests dims gives is has =
        let none : [] ≡ tests = same_Some [] tests is in
        subst (λ (tests : List (VType → Bool)). Goes image method (depth_of (wide stack)) (alone (insns.Ret None)) (depth_of (wide (drop (length tests) stack)))) none
        (goes_by image method (insns.Ret None) [] [] [] (wide stack) (sym gives) refl)
    return_right (Some k) (Some of) stack tests dims gives is has =
        let test : VType → Bool = λ type. has_kind of type && fits_kind files k type in
        let one : test ∷ [] ≡ tests = same_Some (test ∷ []) tests is in
        subst (λ (tests : List (VType → Bool)). Goes image method (depth_of (wide stack)) (return_of (Some k) (top_of (wide stack)) (Some of)) (depth_of (wide (drop (length tests) stack)))) one
        (returns_top k of stack (dims k refl) gives (ap (λ (tests : List (VType → Bool)). takes tests stack) one ∙ has))
    return_right None (Some of) stack tests dims gives is has = absurd (none-some tests is)
    return_right (Some k) None stack tests dims gives is has = absurd (none-some tests is)
