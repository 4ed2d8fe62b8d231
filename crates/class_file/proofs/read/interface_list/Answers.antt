use Rattle.std.proofs.Common.{◌≡◌, ℕ, List, ◌++◌, ◌∷◌, []}
use Rattle.std.proofs.lemmas.Result.{err_from_is_err_and}
use Rattle.byte_read.specs.Reading.{steps_at, one_more}
use Rattle.class_file.specs.ReadingClass.{class_index_at}
use Rattle.byte_read.proofs.Loop.{item_goes_on, is_done}
use Rattle.class_file.proofs.readers.Loop.{item_ends}
use Rattle.class_file.proofs.read.interface_list.Goals as goal

pub returns-in_err-interface : goal.returns-in_err-interface
returns-in_err-interface c =
    let row = λ (earlier : List ℕ) (rest : List ℕ). class_index_at c.args.pool.now rest in
    let p = err_from_is_err_and c.from_residual.result c.from_residual.ensures.1 in
    rw (p.1, p.2) (item_ends c.in_err-interface.field-0.0 row c.loop.interfaces.items c.args.count c.loop.counter c.loop.rest.now (steps_at (one_more row) [] c.args.count c.args.bytes.now) c.loop-test.true c.in_err-interface.ensures c.loop.invariant)

pub loop-preserved : goal.loop-preserved
loop-preserved c =
    let row = λ (earlier : List ℕ) (rest : List ℕ). class_index_at c.args.pool.now rest in
    let pushed : c.push.new.self.items ≡ c.loop.interfaces.items ++ c.in_ok-interface.interface ∷ [] = c.in_ok-push.ensures.items in
    rw pushed (item_goes_on row c.loop.interfaces.items c.args.count c.loop.counter c.loop.rest.now c.in_ok-interface.interface c.in_ok-interface.after.now (steps_at (one_more row) [] c.args.count c.args.bytes.now) c.loop-test.true c.in_ok-interface.ensures c.loop.invariant)

pub returns : goal.returns
returns c =
    let row = λ (earlier : List ℕ) (rest : List ℕ). class_index_at c.args.pool.now rest in
    is_done (one_more row) c.loop.interfaces.items c.args.count c.loop.counter c.loop.rest.now (steps_at (one_more row) [] c.args.count c.args.bytes.now) c.loop-test.false c.loop.invariant
