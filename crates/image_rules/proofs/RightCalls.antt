-- Machine instructions of a call of a static method find their operands, and lead to the depth of the frame after it.
use Rattle.std.proofs.Common.{◌≡◌, inl, inr, ℕ, ◌+◌, Bool, true, false, cond, ◌&&◌, List, [], ◌∷◌, ◌++◌, map, reverse, length, drop, Option, Some, None, option_map, refl, sym, ap, ap₂, subst, ◌∙◌, arith}
use Rattle.std.specs.Prelude.{filter}
use Rattle.std.specs.Option.{option_map_or}
use Rattle.std.specs.List.{AllByRecursion, sum_by}
use Rattle.std.proofs.lemmas.Bool.{and_parts}
use Rattle.std.proofs.lemmas.List.{length-reverse, reverse-append}
use Rattle.std.proofs.lemmas.List.Sums.{length-filter, sum_by-append, sum_by-cons}
use Rattle.std.proofs.lemmas.Option.{none-some, same_Some}
use Rattle.class_pool.specs.declared.descriptor.Kind.{Kind as DeclaredKind}
use Rattle.class_pool.specs.declared.descriptor.Kind.TheVariants as declared
use Rattle.class_pool.specs.Descriptors.{HasDims}
use Rattle.class_file.specs.declared.record.ClassFile.{ClassFile}
use Rattle.image_instr.specs.declared.insn.Kind.{Kind}
use Rattle.image_instr.specs.declared.insn.Kind.TheVariants as kind
use Rattle.image_instr.specs.declared.insn.Width.TheVariants as width
use Rattle.image_instr.specs.declared.insn.MInsn.TheVariants as insns
use Rattle.image_instr.specs.Effect.{called, moves, refs_of, cells_of}
use Rattle.image_form.specs.declared.record.Image.{Image}
use Rattle.image_form.specs.declared.record.Method.{Method}
use Rattle.image_form.specs.Library.{signature}
use Rattle.image_check.specs.Ids.{called_by}
use Rattle.image_check.specs.Visits.{Depth, depth, moved_by}
use Rattle.body_form.specs.declared.types.VType.{VType}
use Rattle.jvm_model.specs.Initialisers.{is_whole_kind, is_reference_kind}
use Rattle.jvm_model.specs.ImageExpansion.{Emitted, alone, alone_where, cells_in, cut_arguments, is_two, kind_in, read_as, refs_in, top_of}
use Rattle.jvm_model.specs.TypesFrames.{fits_kind, value_of_kind}
use Rattle.jvm_model.specs.TypesRules.{one, result_of, takes}
use Rattle.jvm_model.specs.WidthsFrame.{code_of_kind, signature_for}
use Rattle.jvm_model.specs.WidthsShapes.{shape_of}
use Rattle.jvm_model.specs.WidthsSlots.{is_small, passed_cells}
use Rattle.follow_calls.proofs.TurnedArguments.{all_turned, mapped_reverse}
use Rattle.image_rules.specs.Depths.{depth_of, wide}
use Rattle.image_rules.specs.Parts.{ResultHasDims}
use Rattle.image_rules.proofs.DepthSums.{Goes, cells_cons, depth_cons, goes_none, goes_on_with, goes_over, refs_cons}
use Rattle.image_rules.proofs.RightResults.{IsDeclaredAs, fits_declared, reads, value_declared}

-- ---- what is passed

-- a parameter that is a reference counts one
abbrev one_reference : DeclaredKind → ℕ
one_reference k = cond (is_reference_kind k) 1 0

abbrev references : List DeclaredKind → ℕ
references kinds = sum_by one_reference kinds

abbrev passed : List DeclaredKind → ℕ
passed kinds = sum_by passed_cells kinds

-- what is passed of a parameter
cells_passed : (k : DeclaredKind) → passed_cells k ≡ cells_of (kind_in k)
cells_passed declared.Byte = refl
cells_passed declared.Char = refl
cells_passed declared.Short = refl
cells_passed declared.Int = refl
cells_passed declared.Boolean = refl
cells_passed declared.Long = refl
cells_passed declared.Float = refl
cells_passed declared.Double = refl
cells_passed (declared.Class name) = refl
cells_passed (declared.Array dims of) = refl

refs_passed : (files : List ClassFile) (k : DeclaredKind) (type : VType) → fits_kind files k type ≡ true → one_reference k ≡ refs_of (kind_in k)
refs_passed files declared.Byte type fits = refl
refs_passed files declared.Char type fits = refl
refs_passed files declared.Short type fits = refl
refs_passed files declared.Int type fits = refl
refs_passed files declared.Boolean type fits = refl
refs_passed files declared.Long type fits = absurd cc
refs_passed files declared.Float type fits = absurd cc
refs_passed files declared.Double type fits = absurd cc
refs_passed files (declared.Class name) type fits = refl
refs_passed files (declared.Array dims of) type fits = refl

-- a sum over a list turned around
turned_sum : {X : Type 0} (f : X → ℕ) (xs : List X) → sum_by f (reverse xs) ≡ sum_by f xs
turned_sum f [] = refl
turned_sum f (x ∷ xs) =
    let turned = ap (sum_by f) (reverse-append (x ∷ []) xs) ∙ sum_by-append f (reverse xs) (x ∷ []) in
    omega (arith, turned, sum_by-cons f x [], turned_sum f xs, sum_by-cons f x xs)

module _ (image : Image) (method : Method) where
  -- ---- arguments

  -- from these operands, below others, to those
  abbrev GoesUnder : ℕ → ℕ → List Kind → List Emitted → List Kind → Type 0
  GoesUnder refs above before emitted after = Goes image method (depth (refs + refs_in before) (above + cells_in before)) emitted (depth (refs + refs_in after) (above + cells_in after))

  -- the high cell goes
  drops : (refs above : ℕ) (shapes : List Kind) → GoesUnder refs above (kind.Two ∷ shapes) (alone (insns.Drop above)) (kind.One ∷ shapes)
  drops refs above shapes =
      let two = cells_cons kind.Two shapes in
      let one = cells_cons kind.One shapes in
      let no_ref = refs_cons kind.Two shapes in
      let no_ref_after = refs_cons kind.One shapes in
      let from : depth (0 + (refs + refs_in shapes)) ((above + 1) + (1 + cells_in shapes)) ≡ depth (refs + refs_in (kind.Two ∷ shapes)) (above + cells_in (kind.Two ∷ shapes)) =
      ap₂ depth (omega (arith, no_ref)) (omega (arith, two)) in
      let to : depth (0 + (refs + refs_in shapes)) (above + (1 + cells_in shapes)) ≡ depth (refs + refs_in (kind.One ∷ shapes)) (above + cells_in (kind.One ∷ shapes)) =
      ap₂ depth (omega (arith, no_ref_after)) (omega (arith, one)) in
      subst (λ (d : Depth). Goes image method d (alone (insns.Drop above)) (depth (refs + refs_in (kind.One ∷ shapes)) (above + cells_in (kind.One ∷ shapes)))) from
      (subst (λ (d : Depth). Goes image method (depth (0 + (refs + refs_in shapes)) ((above + 1) + (1 + cells_in shapes))) (alone (insns.Drop above)) d) to
      (goes_over image method (insns.Drop above) [] 0 0 (above + 1) above (refs + refs_in shapes) (1 + cells_in shapes) tt refl))

  -- nothing is cut
  stays : (refs above : ℕ) (shapes : List Kind) → GoesUnder refs above shapes [] shapes
  stays refs above shapes = goes_none image method (depth (refs + refs_in shapes) (above + cells_in shapes))

  abbrev CutsOne : ℕ → ℕ → DeclaredKind → Kind → List Kind → Type 0
  CutsOne refs above k shape shapes = GoesUnder refs above (shape ∷ shapes) (alone_where (is_small k && is_two shape) (insns.Drop above)) (kind_in k ∷ shapes)

  whole_cut : (refs above : ℕ) (k : DeclaredKind) (shapes : List Kind) → is_whole_kind k ≡ true → CutsOne refs above k kind.Two shapes
  whole_cut refs above declared.Byte shapes whole = drops refs above shapes
  whole_cut refs above declared.Char shapes whole = drops refs above shapes
  whole_cut refs above declared.Short shapes whole = drops refs above shapes
  whole_cut refs above declared.Boolean shapes whole = drops refs above shapes
  whole_cut refs above declared.Int shapes whole = stays refs above (kind.Two ∷ shapes)
  whole_cut refs above k shapes whole = absurd cc

  refers_cut : (refs above : ℕ) (k : DeclaredKind) (shapes : List Kind) → is_reference_kind k ≡ true → CutsOne refs above k kind.Ref shapes
  refers_cut refs above (declared.Class name) shapes refers = stays refs above (kind.Ref ∷ shapes)
  refers_cut refs above (declared.Array dims of) shapes refers = stays refs above (kind.Ref ∷ shapes)
  refers_cut refs above k shapes refers = absurd cc

  -- an argument is cut to what is passed of it
  one_cut : (refs above : ℕ) (k : DeclaredKind) (type : VType) (shapes : List Kind) → IsDeclaredAs k type → CutsOne refs above k (shape_of width.Two type) shapes
  one_cut refs above k type shapes (inl whole) = subst (λ (t : VType). CutsOne refs above k (shape_of width.Two t) shapes) (sym whole.1) (whole_cut refs above k shapes whole.0)
  one_cut refs above k type shapes (inr refers) = subst (λ (shape : Kind). CutsOne refs above k shape shapes) (sym refers.1) (refers_cut refs above k shapes refers.0)

  module _ (files : List ClassFile) where
    -- from operands, below others, to what is passed of the first ones, and the rest
    abbrev CutsAll : ℕ → ℕ → List DeclaredKind → List VType → Type 0
    CutsAll refs above kinds stack =
        Goes image method (depth (refs + refs_in (wide stack)) (above + cells_in (wide stack))) (cut_arguments above kinds (wide stack))
        (depth (refs + (references kinds + refs_in (wide (drop (length kinds) stack)))) (above + (passed kinds + cells_in (wide (drop (length kinds) stack)))))

    none_cut : (refs above : ℕ) (stack : List VType) → CutsAll refs above [] stack
    unfolding cut_arguments
    none_cut refs above stack =
        let here = depth (refs + refs_in (wide stack)) (above + cells_in (wide stack)) in
        let same : here ≡ depth (refs + (0 + refs_in (wide stack))) (above + (0 + cells_in (wide stack))) = ap₂ depth (omega arith) (omega arith) in
        subst (λ (d : Depth). Goes image method here [] d) same (goes_none image method here)

    all_cut : (refs above : ℕ) (kinds : List DeclaredKind) (stack : List VType) → AllByRecursion HasDims kinds → takes (map (fits_kind files) kinds) stack ≡ true → CutsAll refs above kinds stack
    unfolding takes cut_arguments
    all_cut refs above [] stack dims has = none_cut refs above stack
    all_cut refs above (k ∷ kinds) [] dims has = absurd cc
    all_cut refs above (k ∷ kinds) (type ∷ stack) dims has =
        let parts = and_parts (fits_kind files k type) (takes (map (fits_kind files) kinds) stack) has in
        let of = kind_in k in
        let rest = drop (length kinds) stack in
        let more = all_cut (refs + refs_of of) (above + passed_cells k) kinds stack dims.1 parts.1 in
        let first = alone_where (is_small k && is_two (shape_of width.Two type)) (insns.Drop above) in
        let second = cut_arguments (above + passed_cells k) kinds (wide stack) in
        let from = depth (refs + refs_in (shape_of width.Two type ∷ wide stack)) (above + cells_in (shape_of width.Two type ∷ wide stack)) in
        let middle = depth (refs + refs_in (of ∷ wide stack)) (above + cells_in (of ∷ wide stack)) in
        let cells = cells_passed k in
        let ref = refs_passed files k type parts.0 in
        let ref_cons = refs_cons of (wide stack) in
        let cell_cons = cells_cons of (wide stack) in
        let ref_sum = sum_by-cons one_reference k kinds in
        let cell_sum = sum_by-cons passed_cells k kinds in
        let middle_is : depth ((refs + refs_of of) + refs_in (wide stack)) ((above + passed_cells k) + cells_in (wide stack)) ≡ middle = ap₂ depth (omega (arith, ref_cons)) (omega (arith, cell_cons, cells)) in
        let to : depth ((refs + refs_of of) + (references kinds + refs_in (wide rest))) ((above + passed_cells k) + (passed kinds + cells_in (wide rest)))
        ≡ depth (refs + (references (k ∷ kinds) + refs_in (wide rest))) (above + (passed (k ∷ kinds) + cells_in (wide rest))) =
        ap₂ depth (omega (arith, ref, ref_sum)) (omega (arith, cell_sum)) in
        subst (λ (d : Depth). Goes image method from (first ++ second) d) to
        (goes_on_with image method from middle (depth ((refs + refs_of of) + (references kinds + refs_in (wide rest))) ((above + passed_cells k) + (passed kinds + cells_in (wide rest)))) first second
        (one_cut refs above k type (wide stack) (fits_declared files k type dims.0 parts.0))
        (subst (λ (d : Depth). Goes image method d second (depth ((refs + refs_of of) + (references kinds + refs_in (wide rest))) ((above + passed_cells k) + (passed kinds + cells_in (wide rest))))) middle_is more))

    -- ---- the call

    called_as : (of : Kind) (refs cells : ℕ) → called (signature refs cells (code_of_kind of)) ≡ moves refs (refs_of of) cells (cells_of of)
    called_as kind.Ref refs cells = refl
    called_as kind.One refs cells = refl
    called_as kind.Two refs cells = refl

    module _ (params : List DeclaredKind) (id : ℕ) (stack : List VType) (dims : AllByRecursion HasDims params) (has : takes (reverse (map (fits_kind files) params)) stack ≡ true) where
      abbrev rest : List VType
      rest = drop (length params) stack

      abbrev before_call : Depth
      before_call = depth (length (filter is_reference_kind params) + refs_in (wide rest)) (passed params + cells_in (wide rest))

      -- the arguments are cut before the call
      cut_before : Goes image method (depth_of (wide stack)) (cut_arguments 0 (reverse params) (wide stack)) before_call
      cut_before =
          let all = all_cut 0 0 (reverse params) stack (all_turned HasDims params dims) (ap (λ (tests : List (VType → Bool)). takes tests stack) (mapped_reverse (fits_kind files) params) ∙ has) in
          let count = length-reverse params in
          let ref_sum = turned_sum one_reference params ∙ sym (length-filter is_reference_kind params) in
          let cell_sum = turned_sum passed_cells params in
          let from : depth (0 + refs_in (wide stack)) (0 + cells_in (wide stack)) ≡ depth_of (wide stack) = ap₂ depth (omega arith) (omega arith) in
          let to : depth (0 + (references (reverse params) + refs_in (wide (drop (length (reverse params)) stack)))) (0 + (passed (reverse params) + cells_in (wide (drop (length (reverse params)) stack)))) ≡ before_call =
          ap (λ (n : ℕ). depth (0 + (references (reverse params) + refs_in (wide (drop n stack)))) (0 + (passed (reverse params) + cells_in (wide (drop n stack))))) count
          ∙ ap₂ depth (omega (arith, ref_sum)) (omega (arith, cell_sum)) in
          subst (λ (d : Depth). Goes image method (depth_of (wide stack)) (cut_arguments 0 (reverse params) (wide stack)) d) to
          (subst (λ (d : Depth). Goes image method d (cut_arguments 0 (reverse params) (wide stack))
          (depth (0 + (references (reverse params) + refs_in (wide (drop (length (reverse params)) stack)))) (0 + (passed (reverse params) + cells_in (wide (drop (length (reverse params)) stack)))))) from all)

      -- what the method gives is pushed
      calls_with : (of : Kind) → called_by image (insns.CallS id) ≡ signature (0 + length (filter is_reference_kind params)) (passed params) (code_of_kind of)
          → Goes image method before_call (alone (insns.CallS id)) (depth_of (of ∷ wide rest))
      calls_with of calls =
          let refs = length (filter is_reference_kind params) in
          let moved : moved_by image (insns.CallS id) ≡ moves refs (refs_of of) (passed params) (cells_of of) =
          ap called calls ∙ called_as of (0 + refs) (passed params) ∙ ap (λ refs. moves refs (refs_of of) (passed params) (cells_of of)) (omega arith) in
          subst (λ (d : Depth). Goes image method before_call (alone (insns.CallS id)) d) (sym (depth_cons of (wide rest)))
          (goes_over image method (insns.CallS id) [] refs (refs_of of) (passed params) (cells_of of) (refs_in (wide rest)) (cells_in (wide rest)) tt moved)

      calls_without : called_by image (insns.CallS id) ≡ signature (0 + length (filter is_reference_kind params)) (passed params) 0 → Goes image method before_call (alone (insns.CallS id)) (depth_of (wide rest))
      calls_without calls =
          let refs = length (filter is_reference_kind params) in
          let moved : moved_by image (insns.CallS id) ≡ moves refs 0 (passed params) 0 = ap called calls ∙ ap (λ refs. moves refs 0 (passed params) 0) (omega arith) in
          let to : depth (0 + refs_in (wide rest)) (0 + cells_in (wide rest)) ≡ depth_of (wide rest) = ap₂ depth (omega arith) (omega arith) in
          subst (λ (d : Depth). Goes image method before_call (alone (insns.CallS id)) d) to
          (goes_over image method (insns.CallS id) [] refs 0 (passed params) 0 (refs_in (wide rest)) (cells_in (wide rest)) tt moved)

      abbrev after_call : Option DeclaredKind → List VType → List Emitted
      after_call result pushes = alone (insns.CallS id) ++ option_map_or (λ k. read_as k (top_of (wide (pushes ++ rest)))) result []

      pushed_one : (k : DeclaredKind) (found : Option VType) (pushes : List VType) → value_of_kind files k ≡ found → option_map one found ≡ Some pushes → (type : VType) × (value_of_kind files k ≡ Some type) × (type ∷ [] ≡ pushes)
      pushed_one k None pushes is gives = absurd (none-some pushes gives)
      pushed_one k (Some type) pushes is gives = (type, is, same_Some (type ∷ []) pushes gives)

      -- the call, and the reading of its result
      after_right : (result : Option DeclaredKind) (pushes : List VType) → ResultHasDims result → called_by image (insns.CallS id) ≡ signature_for false params result → result_of files result ≡ Some pushes
          → Goes image method before_call (after_call result pushes) (depth_of (wide (pushes ++ rest)))
      after_right None pushes dims calls gives =
          let none : [] ≡ pushes = same_Some [] pushes gives in
          subst (λ (pushes : List VType). Goes image method before_call (alone (insns.CallS id)) (depth_of (wide (pushes ++ rest)))) none (calls_without calls)
      after_right (Some k) pushes dims calls gives =
          let pushed = pushed_one k (value_of_kind files k) pushes refl gives in
          let type = pushed.0 in
          subst (λ (pushes : List VType). Goes image method before_call (after_call (Some k) pushes) (depth_of (wide (pushes ++ rest)))) pushed.2
          (goes_on_with image method before_call (depth_of (kind_in k ∷ wide rest)) (depth_of (wide (type ∷ rest))) (alone (insns.CallS id)) (read_as k (shape_of width.Two type))
          (calls_with (kind_in k) calls) (reads image method k type (wide rest) (value_declared files k type (dims k refl) pushed.1)))

      -- all of the call
      pub call_right : (result : Option DeclaredKind) (pushes : List VType) → ResultHasDims result → called_by image (insns.CallS id) ≡ signature_for false params result → result_of files result ≡ Some pushes
          → Goes image method (depth_of (wide stack)) (cut_arguments 0 (reverse params) (wide stack) ++ after_call result pushes) (depth_of (wide (pushes ++ rest)))
      call_right result pushes result_dims calls gives =
          goes_on_with image method (depth_of (wide stack)) before_call (depth_of (wide (pushes ++ rest))) (cut_arguments 0 (reverse params) (wide stack)) (after_call result pushes)
          cut_before (after_right result pushes result_dims calls gives)
