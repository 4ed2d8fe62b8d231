-- The operands at the positions are there.
use Rattle.std.proofs.Common.{◌≡◌, ◌<◌, ◌≤◌, ◌++◌, ◌∷◌, [], length, take, length-set, List, Some, None, sym, ap, ◌∙◌, arith}
use Rattle.std.proofs.lemmas.List.{take_more_set, take_all}
use Rattle.body_form.specs.declared.types.VType.{VType}
use Rattle.type_table.specs.Frames.{frame_of}
use Rattle.type_table.proofs.Lengths.{frame_is_high}
use Rattle.flow_verify.specs.Moves.{picked}
use Rattle.flow_verify.proofs.families.Moving.{not_moved, moved, is_there, picked_more}
use Rattle.flow_verify.proofs.operands.moves.Goals as goal

pub returns-then-frame-pops-clause-change : goal.returns-then-frame-pops-clause-change
returns-then-frame-pops-clause-change c =
    let frame = frame_of c.args.store.now c.args.frame in
    let fewer : length frame.stack < c.args.pops = omega (arith, frame_is_high c.args.store.now c.args.frame c.requires.there) in
    sym (not_moved frame c.args.pops c.args.positions.now fewer)

pub returns-in-None-clause-change : goal.returns-in-None-clause-change
returns-in-None-clause-change c =
    let frame = frame_of c.args.store.now c.args.frame in
    let enough : c.args.pops ≤ length frame.stack = omega (arith, frame_is_high c.args.store.now c.args.frame c.requires.there) in
    absurd (is_there frame c.args.pops c.args.positions.now c.requires.taken enough c.loop-index.index c.loop-index-test.true (sym c.in-None.ensures))

pub loop-index-preserved : goal.loop-index-preserved
loop-index-preserved c =
    let stack = (frame_of c.args.store.now c.args.frame).stack in
    let types = c.loop-index.types in
    let index = c.loop-index.index in
    let long = length-set types index c.in-Some.value in
    let within : index < length types = omega (arith, c.requires.few, c.loop-index.invariant.long, c.loop-index-test.true) in
    record {
      long = long ∙ c.loop-index.invariant.long;
      picked =
          take_more_set types index c.in-Some.value within ∙ ap (λ (l : List VType). l ++ c.in-Some.value ∷ []) c.loop-index.invariant.picked
          ∙ sym (picked_more stack c.args.positions.now index c.in-Some.value c.loop-index-test.true (sym c.in-Some.ensures));
    }

pub returns-clause-change : goal.returns-clause-change
returns-clause-change c =
    let frame = frame_of c.args.store.now c.args.frame in
    let enough : c.args.pops ≤ length frame.stack = omega (arith, frame_is_high c.args.store.now c.args.frame c.requires.there) in
    let positions = c.args.positions.now in
    let whole : c.loop-index.index ≡ length positions = omega (arith, c.loop-index-test.false, c.loop-index.auto.index-end) in
    let pushed =
    c.of.ensures ∙ ap (λ n. take n c.loop-index.types) (sym whole) ∙ c.loop-index.invariant.picked ∙ ap (λ n. picked frame.stack (take n positions)) whole ∙ ap (picked frame.stack) (take_all (length positions) positions (omega arith)) in
    ap (λ pushes. Some (record { pops = c.args.pops; renames = None; stores = None; pushes = pushes; pending = c.args.frame.pending })) pushed
    ∙ sym (moved frame c.args.pops c.args.positions.now enough)
