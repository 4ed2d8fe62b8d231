use Rattle.std.proofs.Common.{arith, ◌++◌, length, length-drop, take, sym, ap, ◌∙◌, subst}
use Rattle.std.proofs.KnownBytes.{Appends-trans}
use Rattle.std.proofs.Math.Seq.{take-add}
use Rattle.std.proofs.lemmas.List.{take_rest}
use Rattle.std.specs.Io.KnownBytes.{Appends}
use Rattle.host_face.proofs.streams.write_whole.Goals as goal

-- the piece that was written follows what was written before
pub loop-written-preserved : goal.loop-written-preserved
loop-written-preserved g c =
    let bytes = c.args.bytes.now in
    let written = c.loop-written.written in
    let count = c.in_ok-count.count in
    let said = c.in_ok-count.ensures in
    record {
      within = omega (arith, said.bound, length-drop written bytes, ap length (take_rest bytes written));
      moved = subst (Appends _ _)
          (ap (λ rest. take written bytes ++ take count rest) (take_rest bytes written) ∙ sym (take-add written count bytes))
          (Appends-trans _ _ _ _ _ c.loop-written.invariant.moved said.bytes);
    }
