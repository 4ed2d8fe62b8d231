-- Machine instructions that move operands as they are find them, and lead to the depth of the frame after them.
use Rattle.std.proofs.Common.{◌≡◌, ℕ, zero, suc, ◌+◌, Bool, true, false, nat_eq, if◌then◌else◌, List, [], ◌∷◌, ◌++◌, drop, Some, None, refl, sym, ap, ap₂, subst, ◌∙◌, arith}
use Rattle.std.proofs.lemmas.Bool.Decides.{nat_tests}
use Rattle.insn_form.specs.declared.StackForm.{StackForm}
use Rattle.insn_form.specs.declared.StackForm.TheVariants as form
use Rattle.image_instr.specs.declared.insn.Kind.{Kind}
use Rattle.image_instr.specs.declared.insn.Kind.TheVariants as kind
use Rattle.image_instr.specs.declared.insn.Width.TheVariants as width
use Rattle.image_instr.specs.declared.insn.MInsn.{MInsn}
use Rattle.image_instr.specs.declared.insn.MInsn.TheVariants as insns
use Rattle.image_form.specs.declared.record.Image.{Image}
use Rattle.image_form.specs.declared.record.Method.{Method}
use Rattle.image_check.specs.Visits.{Depth, depth}
use Rattle.body_form.specs.declared.types.VFrame.{VFrame}
use Rattle.body_form.specs.declared.types.VType.{VType}
use Rattle.jvm_model.specs.ImageExpansion.{Emitted, alone, alone_where, cells_in, copy, exchange, refs_in, remove, restack, some_refs}
use Rattle.jvm_model.specs.TypesRules.{Change, changed}
use Rattle.jvm_model.specs.TypesRules as rules
use Rattle.jvm_model.specs.WidthsShapes.{shape_of}
use Rattle.image_rules.specs.Depths.{depth_of, wide}
use Rattle.image_rules.proofs.DepthSums.{Goes, depth_append, goes_by, goes_none, goes_on_with, goes_over}

more_than_none : (count : ℕ) → nat_eq (suc count) 0 ≡ false
more_than_none count = grind (arith, nat_tests)

module _ (image : Image) (method : Method) where
  -- one that is left out where it moves nothing
  goes_some : (count : ℕ) (insn : ℕ → MInsn) (from to : Depth) → (count ≡ 0 → from ≡ to) → Goes image method from (alone (insn count)) to → Goes image method from (some_refs count insn) to
  goes_some zero insn from to same goes = subst (λ (d : Depth). Goes image method from [] d) (same refl) (goes_none image method from)
  goes_some (suc count) insn from to same goes =
      subst (λ (none : Bool). Goes image method from (alone_where (if none then false else true) (insn (suc count))) to) (sym (more_than_none count)) goes

  -- ---- removed operands

  removes : (shapes rest : List Kind) → Goes image method (depth_of (shapes ++ rest)) (remove shapes) (depth_of rest)
  removes shapes rest =
      let refs = refs_in shapes in
      let cells = cells_in shapes in
      let from = depth (refs + refs_in rest) (cells + cells_in rest) in
      let middle = depth (refs_in rest) (cells + cells_in rest) in
      let to = depth_of rest in
      let zero_refs : depth (0 + refs_in rest) (0 + (cells + cells_in rest)) ≡ middle = ap₂ depth (omega arith) (omega arith) in
      let zero_cells : depth (0 + refs_in rest) (0 + cells_in rest) ≡ to = ap₂ depth (omega arith) (omega arith) in
      let first : Goes image method from (some_refs refs (λ count. insns.RPop count)) middle =
      goes_some refs (λ count. insns.RPop count) from middle (λ none. ap₂ depth (omega (arith, none)) refl)
      (subst (λ (d : Depth). Goes image method d (alone (insns.RPop refs)) middle) (ap₂ depth refl (omega arith))
      (subst (λ (d : Depth). Goes image method (depth (refs + refs_in rest) (0 + (cells + cells_in rest))) (alone (insns.RPop refs)) d) zero_refs
      (goes_over image method (insns.RPop refs) [] refs 0 0 0 (refs_in rest) (cells + cells_in rest) tt refl)))
      in
      let second : Goes image method middle (some_refs cells (λ count. insns.Pop count)) to =
      goes_some cells (λ count. insns.Pop count) middle to (λ none. ap₂ depth refl (omega (arith, none)))
      (subst (λ (d : Depth). Goes image method d (alone (insns.Pop cells)) to) (ap₂ depth (omega arith) refl)
      (subst (λ (d : Depth). Goes image method (depth (0 + refs_in rest) (cells + cells_in rest)) (alone (insns.Pop cells)) d) zero_cells
      (goes_over image method (insns.Pop cells) [] 0 0 cells 0 (refs_in rest) (cells_in rest) tt refl)))
      in
      subst (λ (d : Depth). Goes image method d (remove shapes) to) (sym (depth_append shapes rest))
      (goes_on_with image method from middle to (some_refs refs (λ count. insns.RPop count)) (some_refs cells (λ count. insns.Pop count)) first second)

  -- ---- copied operands

  -- those at the top are copied below others
  module _ (top below rest : List Kind) where
    -- how many references and cells stand at the top and below it
    abbrev top_refs : ℕ
    top_refs = refs_in top

    abbrev below_refs : ℕ
    below_refs = refs_in below

    abbrev top_cells : ℕ
    top_cells = cells_in top

    abbrev below_cells : ℕ
    below_cells = cells_in below

    -- the depths before, between and after both machine instructions
    abbrev from : Depth
    from = depth (top_refs + (below_refs + refs_in rest)) (top_cells + (below_cells + cells_in rest))

    abbrev middle : Depth
    middle = depth (top_refs + (below_refs + (top_refs + refs_in rest))) (top_cells + (below_cells + cells_in rest))

    abbrev to : Depth
    to = depth (top_refs + (below_refs + (top_refs + refs_in rest))) (top_cells + (below_cells + (top_cells + cells_in rest)))

    copies_refs : Goes image method from (some_refs top_refs (λ count. insns.RDupX count below_refs)) middle
    copies_refs =
        goes_some top_refs (λ count. insns.RDupX count below_refs) from middle (λ none. ap₂ depth (omega (arith, none)) refl)
        (subst (λ (d : Depth). Goes image method d (alone (insns.RDupX top_refs below_refs)) middle) (ap₂ depth (omega arith) (omega arith))
        (subst (λ (d : Depth). Goes image method (depth ((top_refs + below_refs) + refs_in rest) (0 + (top_cells + (below_cells + cells_in rest)))) (alone (insns.RDupX top_refs below_refs)) d) (ap₂ depth (omega arith) (omega arith))
        (goes_over image method (insns.RDupX top_refs below_refs) [] (top_refs + below_refs) (top_refs + below_refs + top_refs) 0 0 (refs_in rest) (top_cells + (below_cells + cells_in rest)) tt refl)))

    copies_cells : Goes image method middle (some_refs top_cells (λ count. insns.DupX count below_cells)) to
    copies_cells =
        goes_some top_cells (λ count. insns.DupX count below_cells) middle to (λ none. ap₂ depth refl (omega (arith, none)))
        (subst (λ (d : Depth). Goes image method d (alone (insns.DupX top_cells below_cells)) to) (ap₂ depth (omega arith) (omega arith))
        (subst (λ (d : Depth). Goes image method (depth (0 + (top_refs + (below_refs + (top_refs + refs_in rest)))) ((top_cells + below_cells) + cells_in rest)) (alone (insns.DupX top_cells below_cells)) d) (ap₂ depth (omega arith) (omega arith))
        (goes_over image method (insns.DupX top_cells below_cells) [] 0 0 (top_cells + below_cells) (top_cells + below_cells + top_cells) (top_refs + (below_refs + (top_refs + refs_in rest))) (cells_in rest) tt refl)))

    before_is : depth_of (top ++ (below ++ rest)) ≡ from
    before_is =
        let lower = depth_append below rest in
        depth_append top (below ++ rest) ∙ ap (λ (d : Depth). depth (top_refs + d.refs) (top_cells + d.cells)) lower

    after_is : depth_of (top ++ (below ++ (top ++ rest))) ≡ to
    after_is =
        depth_append top (below ++ (top ++ rest))
        ∙ ap (λ (d : Depth). depth (top_refs + d.refs) (top_cells + d.cells)) (depth_append below (top ++ rest))
        ∙ ap (λ (d : Depth). depth (top_refs + (below_refs + d.refs)) (top_cells + (below_cells + d.cells))) (depth_append top rest)

    copies : Goes image method (depth_of (top ++ (below ++ rest))) (copy top below) (depth_of (top ++ (below ++ (top ++ rest))))
    copies =
        subst (λ (d : Depth). Goes image method d (copy top below) (depth_of (top ++ (below ++ (top ++ rest))))) (sym before_is)
        (subst (λ (d : Depth). Goes image method from (copy top below) d) (sym after_is)
        (goes_on_with image method from middle to (some_refs top_refs (λ count. insns.RDupX count below_refs)) (some_refs top_cells (λ count. insns.DupX count below_cells)) copies_refs copies_cells))

  -- ---- exchanged operands

  -- one of them may be a reference, which needs no instruction
  exchanges : (top below : Kind) (rest : List Kind) → Goes image method (depth_of (top ∷ below ∷ rest)) (exchange top below) (depth_of (below ∷ top ∷ rest))
  exchanges kind.Ref kind.Ref rest = goes_by image method insns.RSwap [] (kind.Ref ∷ kind.Ref ∷ []) (kind.Ref ∷ kind.Ref ∷ []) rest tt refl
  exchanges kind.Ref kind.One rest = goes_none image method (depth_of (kind.Ref ∷ kind.One ∷ rest))
  exchanges kind.Ref kind.Two rest = goes_none image method (depth_of (kind.Ref ∷ kind.Two ∷ rest))
  exchanges kind.One kind.Ref rest = goes_none image method (depth_of (kind.Ref ∷ kind.One ∷ rest))
  exchanges kind.Two kind.Ref rest = goes_none image method (depth_of (kind.Ref ∷ kind.Two ∷ rest))
  exchanges kind.One kind.One rest = goes_by image method (insns.Swap 1 1) [] (kind.One ∷ kind.One ∷ []) (kind.One ∷ kind.One ∷ []) rest tt refl
  exchanges kind.One kind.Two rest = goes_by image method (insns.Swap 1 2) [] (kind.One ∷ kind.Two ∷ []) (kind.One ∷ kind.Two ∷ []) rest tt refl
  exchanges kind.Two kind.One rest = goes_by image method (insns.Swap 2 1) [] (kind.One ∷ kind.Two ∷ []) (kind.One ∷ kind.Two ∷ []) rest tt refl
  exchanges kind.Two kind.Two rest = goes_by image method (insns.Swap 2 2) [] (kind.Two ∷ kind.Two ∷ []) (kind.Two ∷ kind.Two ∷ []) rest tt refl

  -- ---- all forms

  -- a change that takes so many operands and pushes others
  module _ (frame : VFrame) (change : Change) where
    abbrev Moves : List VType → StackForm → Type 0
    Moves stack f = rules.restack frame f stack ≡ Some change → Goes image method (depth_of (wide stack)) (restack f (wide stack)) (depth_of (wide (change.pushes ++ rules.renamed change.renames (drop change.pops stack))))

    moved : (stack pushes : List VType) (pops : ℕ) (emitted : List Emitted) → rules.moves frame pops pushes ≡ Some change
        → Goes image method (depth_of (wide stack)) emitted (depth_of (wide (pushes ++ drop pops stack)))
        → Goes image method (depth_of (wide stack)) emitted (depth_of (wide (change.pushes ++ rules.renamed change.renames (drop change.pops stack))))
    moved stack pushes pops emitted is goes =
        let same : record { pops = pops; renames = None; stores = None; pushes = pushes; pending = frame.pending } ≡ change = cc in
        subst (λ (c : Change). Goes image method (depth_of (wide stack)) emitted (depth_of (wide (c.pushes ++ rules.renamed c.renames (drop c.pops stack))))) same goes

    abbrev shape : VType → Kind
    shape type = shape_of width.Two type

    pub stack_right : (f : StackForm) (stack : List VType) → Moves stack f
    stack_right form.Pop (a ∷ rest) is = moved (a ∷ rest) [] 1 (restack form.Pop (wide (a ∷ rest))) is (removes (shape a ∷ []) (wide rest))
    stack_right form.Pop2 (a ∷ b ∷ rest) is = moved (a ∷ b ∷ rest) [] 2 (restack form.Pop2 (wide (a ∷ b ∷ rest))) is (removes (shape a ∷ shape b ∷ []) (wide rest))
    stack_right form.Dup (a ∷ rest) is = moved (a ∷ rest) (a ∷ a ∷ []) 1 (restack form.Dup (wide (a ∷ rest))) is (copies (shape a ∷ []) [] (wide rest))
    stack_right form.DupX1 (a ∷ b ∷ rest) is =
        moved (a ∷ b ∷ rest) (a ∷ b ∷ a ∷ []) 2 (restack form.DupX1 (wide (a ∷ b ∷ rest))) is (copies (shape a ∷ []) (shape b ∷ []) (wide rest))
    stack_right form.DupX2 (a ∷ b ∷ c ∷ rest) is =
        moved (a ∷ b ∷ c ∷ rest) (a ∷ b ∷ c ∷ a ∷ []) 3 (restack form.DupX2 (wide (a ∷ b ∷ c ∷ rest))) is (copies (shape a ∷ []) (shape b ∷ shape c ∷ []) (wide rest))
    stack_right form.Dup2 (a ∷ b ∷ rest) is = moved (a ∷ b ∷ rest) (a ∷ b ∷ a ∷ b ∷ []) 2 (restack form.Dup2 (wide (a ∷ b ∷ rest))) is (copies (shape a ∷ shape b ∷ []) [] (wide rest))
    stack_right form.Dup2X1 (a ∷ b ∷ c ∷ rest) is =
        moved (a ∷ b ∷ c ∷ rest) (a ∷ b ∷ c ∷ a ∷ b ∷ []) 3 (restack form.Dup2X1 (wide (a ∷ b ∷ c ∷ rest))) is (copies (shape a ∷ shape b ∷ []) (shape c ∷ []) (wide rest))
    stack_right form.Dup2X2 (a ∷ b ∷ c ∷ d ∷ rest) is =
        moved (a ∷ b ∷ c ∷ d ∷ rest) (a ∷ b ∷ c ∷ d ∷ a ∷ b ∷ []) 4 (restack form.Dup2X2 (wide (a ∷ b ∷ c ∷ d ∷ rest))) is (copies (shape a ∷ shape b ∷ []) (shape c ∷ shape d ∷ []) (wide rest))
    stack_right form.Swap (a ∷ b ∷ rest) is = moved (a ∷ b ∷ rest) (b ∷ a ∷ []) 2 (restack form.Swap (wide (a ∷ b ∷ rest))) is (exchanges (shape a) (shape b) (wide rest))
    stack_right f stack is = absurd cc
