use Rattle.std.proofs.Common.{◌+◌, List, option_map, drop, sym, ap, ◌∙◌}
use Rattle.std.specs.Map.{lookup}
use Rattle.std.specs.Option.{option_or}
use Rattle.std.proofs.lemmas.List.{drop_all}
use Rattle.class_file.specs.declared.record.Member.{Member}
use Rattle.jvm_model.specs.InitialStatics.{writes_of, last_write}
use Rattle.infuse_ids.specs.declared.pushed.Pushed.{Pushed}
use Rattle.infuse_ids.specs.declared.writes.Called.{Called}
use Rattle.infuse_ids.specs.Writes.{is_key, pushed_of}
use Rattle.infuse_ids.proofs.LastWrites.{comes, or_none, at_hand, method_step, methods_end}
use Rattle.infuse_ids.proofs.writes.last_writes.Goals as goal

pub loop-method-init : goal.loop-method-init
loop-method-init c field =
    let all = last_write field (writes_of c.args.pool.now c.args.methods.now) in
    ap (λ (entries : List (Called × Pushed)). option_or all (option_map pushed_of (lookup (is_key field.name field.descriptor) entries))) c.new-writes.ensures ∙ or_none all

pub loop-method-preserved : goal.loop-method-preserved
loop-method-preserved c field =
    let pool = c.args.pool.now in
    let list = c.args.methods.now in
    let i = c.loop-method.method-index in
    let method = c.method-item.result in
    let old = c.loop-method.writes in
    method_step pool field method (drop (i + 1) list) old c.add_method.new.writes c.in-Ok.ensures.set
    ∙ ap (λ (ys : List Member). comes pool field (writes_of pool ys) old) (sym (at_hand list i method c.loop-method-test.true c.method-item.is))
    ∙ c.loop-method.invariant field

pub returns-clause-set : goal.returns-clause-set
returns-clause-set c field =
    let pool = c.args.pool.now in
    let old = c.loop-method.writes in
    methods_end pool field old
    ∙ ap (λ (ys : List Member). comes pool field (writes_of pool ys) old) (sym (drop_all c.loop-method.method-index c.args.methods.now c.loop-method-test.false))
    ∙ c.loop-method.invariant field
