-- Where fewer are there all are taken.
use Rattle.std.proofs.Common.{◌≡◌, List, Vec, Global, take, ap, ◌∙◌}
use Rattle.std.proofs.lemmas.Result.{IfOk-weaker}
use Rattle.body_form.specs.declared.types.VType.{VType}
use Rattle.type_table.specs.declared.store.Cell.{Cell}
use Rattle.type_table.specs.declared.operands.Chain.{Chain}
use Rattle.type_table.specs.Frames.{Stored, operands_of}
use Rattle.type_table.specs.Chains.{chain_of}
use Rattle.type_table.proofs.Chaining.{length_operands}
use Rattle.type_table.proofs.Counting.{take_least}
use Rattle.type_table.proofs.store.Store.top_operands.Goals as goal

pub returns : goal.returns
returns c =
    let inside = c.self.inside in
    let id = c.args.frame in
    let cells = c.args.self.now.cells in
    let found : ◌≡◌ {A = List Cell} c.as_slice.result.now cells = c.as_slice.ensures.value ∙ ap (λ (s : Stored). s.cells) c.self.view_is in
    let same : take c.min-count.result (chain_of c.as_slice.result.now c.chain.result) ≡ take c.args.count (operands_of cells id.height id.operands) =
    ap (λ (list : List Cell). take c.min-count.result (chain_of list c.chain.result)) found
    ∙ ap (λ (chain : Chain). take c.min-count.result (chain_of cells chain)) c.chain.ensures
    ∙ take_least c.args.count id.height c.min-count.result (operands_of cells id.height id.operands) c.min-count.ensures (length_operands cells id.height id.operands c.requires.operands)
    in
    IfOk-weaker c.top_values.result (λ (values : Vec VType Global). values.items ≡ take c.min-count.result (chain_of c.as_slice.result.now c.chain.result))
    (λ (values : Vec VType Global). values.items ≡ take c.args.count (operands_of cells id.height id.operands)) (λ values is. is ∙ same) c.top_values.ensures
