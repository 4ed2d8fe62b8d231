-- The copies of the operands and of the locals are those of the frame.
use Rattle.std.proofs.Common.{◌≡◌, List, take, sym, ap, subst, ◌∙◌, arith}
use Rattle.std.proofs.lemmas.List.{take_all}
use Rattle.body_form.specs.declared.types.VFrame.{VFrame}
use Rattle.body_form.specs.declared.types.VType.{VType}
use Rattle.type_table.specs.declared.store.Cell.{Cell}
use Rattle.type_table.specs.declared.operands.Chain.{Chain}
use Rattle.type_table.specs.Frames.{Stored, IsFrame, frame_of, operands_of}
use Rattle.type_table.specs.Chains.{chain_of}
use Rattle.type_table.specs.Trees.{tree_of}
use Rattle.type_table.proofs.Chaining.{length_operands}
use Rattle.type_table.proofs.MergedFrames.{stored_of}
use Rattle.type_table.proofs.store.Store.frame.Goals as goal

pub returns : goal.returns
returns c =
    let inside = c.self.inside in
    let id = c.args.frame in
    let cells = inside.cells.items in
    let old : Stored = stored_of cells inside.trees inside.depth inside.locals in
    let frame : IsFrame old id = subst (λ (s : Stored). IsFrame s id) (sym c.self.view_is) c.requires in
    let long = length_operands cells id.height id.operands frame.operands in
    let locals : c.from_vec.result ≡ take inside.locals (tree_of inside.trees inside.depth id.locals) =
    c.from_vec.ensures ∙ c.in_ok-locals.ensures ∙ ap (λ n. take n (tree_of inside.trees inside.depth id.locals)) c.from.ensures
    in
    let stack : c.from_vec-2.result ≡ operands_of cells id.height id.operands =
    c.from_vec-2.ensures ∙ c.in_ok-stack.ensures
    ∙ ap (λ (list : List Cell). take id.height (chain_of list c.chain.result)) c.as_slice.ensures.value
    ∙ ap (λ (chain : Chain). take id.height (chain_of cells chain)) c.chain.ensures
    ∙ take_all id.height (operands_of cells id.height id.operands) (omega (arith, long))
    in
    ap (λ (list : List VType). let f : VFrame = record { locals = list; stack = c.from_vec-2.result; pending = id.pending } in f) locals
    ∙ ap (λ (list : List VType). let f : VFrame = record { locals = take inside.locals (tree_of inside.trees inside.depth id.locals); stack = list; pending = id.pending } in f) stack
    ∙ ap (λ (s : Stored). frame_of s id) c.self.view_is
