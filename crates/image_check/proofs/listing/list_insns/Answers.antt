use Rattle.std.proofs.Common.{◌≡◌, ◌∙◌, ◌+◌, Some, sym, arith, drop}
use Rattle.std.proofs.lemmas.List.{drop-drop}
use Rattle.image_instr.specs.Reading.{insn_at}
use Rattle.image_check.proofs.Holding.{hold-push}
use Rattle.image_check.proofs.Starts.{rises-push}
use Rattle.image_check.proofs.Targets.{size_fits}
use Rattle.image_check.proofs.listing.list_insns.Goals as goal

pub loop-pc-preserved : goal.loop-pc-preserved
loop-pc-preserved c =
    let code = c.as_slice-code.result.now in
    let pc = c.loop-pc.pc in
    let insn = c.in-Some.insn in
    let size = c.in-Some.size in
    let found : insn_at (drop pc code) ≡ Some (insn, size) = sym c.decode_at.ensures.exact ∙ c.in-Some.is in
    let fits = size_fits code pc insn size (λ i. omega (arith, c.type_inv.code i)) found in
    let stand = hold-push 0 code c.loop-pc.insns.items pc (drop pc code) insn size c.loop-pc.invariant.stand found in
    let items = c.in_ok-push-in-Some.ensures.items in
    record {
      stand = rw (items, ← drop-drop size pc code) stand;
      rise = rw items (rises-push 0 c.loop-pc.insns.items pc insn (pc + size) c.loop-pc.invariant.rise (omega (arith, fits.0)));
      within = fits.1;
    }
