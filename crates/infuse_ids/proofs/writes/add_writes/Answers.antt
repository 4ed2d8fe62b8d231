use Rattle.std.proofs.Common.{◌+◌, ◌∷◌, Option, None, option_map, drop, sym, ap, ◌∙◌}
use Rattle.std.proofs.lemmas.List.{drop_all}
use Rattle.class_code.specs.Code.{Insns}
use Rattle.jvm_model.specs.Initialisers.{Pushed as Held}
use Rattle.jvm_model.specs.InitialStatics.{writes_from}
use Rattle.infuse_ids.specs.declared.pushed.Pushed.{Pushed}
use Rattle.infuse_ids.specs.Writes.{pushed_of}
use Rattle.infuse_ids.proofs.LastWrites.{comes, second_step, first_step, return_step, end_step, at_hand}
use Rattle.infuse_ids.proofs.writes.add_writes.Goals.{in-Some+in-Ok, in-None+else-is_plain_return}
use Rattle.infuse_ids.proofs.writes.add_writes.Goals as goal

pub returns-then-is_plain_return : goal.returns-then-is_plain_return
returns-then-is_plain_return c field =
    let pool = c.args.pool.now in
    let list = c.args.insns.now in
    let i = c.loop-x.x-index in
    let x = c.x-item.result in
    let old = c.loop-x.writes in
    return_step pool field x (drop (i + 1) list) old (sym c.is_plain_return.ensures ∙ c.if-is_plain_return.true)
    ∙ ap (λ (held : Option Pushed). comes pool field (writes_from pool (option_map pushed_of held) (x ∷ drop (i + 1) list)) old) (sym c.in-None.is)
    ∙ ap (λ (ys : Insns). comes pool field (writes_from pool (option_map pushed_of c.loop-x.held) ys) old) (sym (at_hand list i x c.loop-x-test.true c.x-item.is))
    ∙ c.loop-x.invariant field

pub loop-x-preserved : goal.loop-x-preserved
loop-x-preserved c field =
    let pool = c.args.pool.now in
    let list = c.args.insns.now in
    let i = c.loop-x.x-index in
    let x = c.x-item.result in
    let rest = drop (i + 1) list in
    let old = c.loop-x.writes in
    let here = ap (λ (ys : Insns). comes pool field (writes_from pool (option_map pushed_of c.loop-x.held) ys) old) (sym (at_hand list i x c.loop-x-test.true c.x-item.is)) ∙ c.loop-x.invariant field in
    elim c.match-held.branch [
      | in-Some+in-Ok w ↦
          ap (λ (held : Option Pushed). comes pool field (writes_from pool (option_map pushed_of held) rest) c.match-held.writes) w.held-is
          ∙ ap (comes pool field (writes_from pool None rest)) w.writes-is
          ∙ second_step pool field (pushed_of w.in-Some.pushed) x rest old w.write.new.writes w.in-Ok.ensures
          ∙ ap (λ (held : Option Pushed). comes pool field (writes_from pool (option_map pushed_of held) (x ∷ rest)) old) (sym w.in-Some.is)
          ∙ here
      | in-None+else-is_plain_return w ↦
          ap (λ (held : Option Pushed). comes pool field (writes_from pool (option_map pushed_of held) rest) c.match-held.writes) w.held-is
          ∙ ap (comes pool field (writes_from pool (option_map pushed_of w.pushed_by-held.result) rest)) w.writes-is
          ∙ ap (λ (held : Option Held). comes pool field (writes_from pool held rest) old) w.pushed_by-held.ensures
          ∙ ap (λ writes. comes pool field writes old) (first_step pool field x rest (sym w.is_plain_return.ensures ∙ w.if-is_plain_return.false))
          ∙ ap (λ (held : Option Pushed). comes pool field (writes_from pool (option_map pushed_of held) (x ∷ rest)) old) (sym w.in-None.is)
          ∙ here
    ]

pub returns : goal.returns
returns c field =
    let pool = c.args.pool.now in
    let old = c.loop-x.writes in
    let held = option_map pushed_of c.loop-x.held in
    end_step pool field held old
    ∙ ap (λ (ys : Insns). comes pool field (writes_from pool held ys) old) (sym (drop_all c.loop-x.x-index c.args.insns.now c.loop-x-test.false))
    ∙ c.loop-x.invariant field
