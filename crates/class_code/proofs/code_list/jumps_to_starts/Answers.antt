use Rattle.std.proofs.Common.{◌&&◌, map, sym, ap, ◌∙◌}
use Rattle.std.specs.List.{list_all}
use Rattle.std.proofs.lemmas.List.Folds.{list_all-map}
use Rattle.insn_form.specs.declared.SwitchRow.{SwitchRow}
use Rattle.class_code.specs.Code.{is_start, jumps_to_starts}
use Rattle.class_code.proofs.code_list.jumps_to_starts.Goals as goal

-- the default is a start, so the rows decide
pub returns-then-is_start : goal.returns-then-is_start
returns-then-is_start c =
    let insns = c.args.list.now in
    let rows = λ (row : SwitchRow). row.target in
    c.rows_fit.ensures ∙ ap (list_all (λ (row : SwitchRow). is_start insns row.target)) c.as_slice.ensures
    ∙ sym (list_all-map (is_start insns) rows c.in-Switch.rows)
    ∙ ap (λ b. b && list_all (is_start insns) (map rows c.in-Switch.rows)) (sym c.if-is_start.true ∙ c.is_start.ensures.test)
    ∙ ap (jumps_to_starts insns) (sym c.in-Switch.is)
