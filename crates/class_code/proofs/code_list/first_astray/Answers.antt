use Rattle.std.proofs.Common.{◌≡◌, ℕ, Some, option_map, false, true, sym, ap, ◌∙◌, get_or}
use Rattle.class_code.specs.declared.insn.Insn.{Insn}
use Rattle.class_code.specs.Code.{jumps_to_starts}
use Rattle.class_code.proofs.Firsts.{loop-more, loop-here, loop-end}
use Rattle.class_code.proofs.code_list.first_astray.Goals as goal

pub returns-then-not-jumps_to_starts : goal.returns-then-not-jumps_to_starts
returns-then-not-jumps_to_starts c =
    let test = λ (x : ℕ × Insn). jumps_to_starts c.args.list.now x.1 in
    let items = c.as_slice-x-items.result.now in
    let fails : test (get_or items c.loop-x.x-index c.x-item.result) ≡ false = ap test (sym c.x-item.is) ∙ sym c.jumps_to_starts.ensures ∙ c.if-not-jumps_to_starts.true in
    let here = loop-here test items c.loop-x.x-index c.x-item.result c.loop-x-test.true fails in
    ap (λ (x : ℕ × Insn). Some x.0) c.x-item.is ∙ ap (option_map (λ (x : ℕ × Insn). x.0)) (sym here ∙ c.loop-x.invariant)

pub loop-x-preserved : goal.loop-x-preserved
loop-x-preserved c =
    let test = λ (x : ℕ × Insn). jumps_to_starts c.args.list.now x.1 in
    let items = c.as_slice-x-items.result.now in
    let passes : test (get_or items c.loop-x.x-index c.x-item.result) ≡ true = ap test (sym c.x-item.is) ∙ sym c.jumps_to_starts.ensures ∙ c.if-not-jumps_to_starts.false in
    loop-more test items c.loop-x.x-index c.x-item.result c.loop-x-test.true passes ∙ c.loop-x.invariant

pub returns : goal.returns
returns c =
    let test = λ (x : ℕ × Insn). jumps_to_starts c.args.list.now x.1 in
    ap (option_map (λ (x : ℕ × Insn). x.0)) (sym (loop-end test c.as_slice-x-items.result.now c.loop-x.x-index c.loop-x-test.false) ∙ c.loop-x.invariant)
