use Rattle.std.proofs.Common.{sym, ap, ◌∙◌, arith}
use Rattle.std.specs.Option.{option_copied}
use Rattle.class_file.specs.Texts.{number_in}
use Rattle.class_file.proofs.text_table.SameTexts.{none_numbered, one_passed, one_numbered, all_numbered}
use Rattle.class_file.proofs.texts.numbers_of.Goals as goal
use Rattle.class_file.proofs.texts.numbers_of.Goals.{in-Some+in_ok-insert, in_default}

pub loop-index-init : goal.loop-index-init
loop-index-init c = none_numbered c.args.pool.now c.new-numbers.result c.new-numbers.ensures.empty

pub loop-index-preserved : goal.loop-index-preserved
loop-index-preserved c =
    elim c.match-utf8.branch [
      | in-Some+in_ok-insert w ↦
          rw w.numbers-is (one_numbered c.args.pool.now c.loop-index.numbers w.insert.new.self c.loop-index.index w.in-Some.text.now (sym c.utf8-2.ensures ∙ ap option_copied w.in-Some.is) w.in_ok-insert.ensures.updates c.loop-index.invariant)
      | in_default w ↦
          rw w.numbers-is (one_passed c.args.pool.now (number_in c.loop-index.numbers) c.loop-index.index (sym c.utf8-2.ensures ∙ ap option_copied w.in_default.is) c.loop-index.invariant)
    ]

pub returns-clause-found : goal.returns-clause-found
returns-clause-found c = all_numbered c.args.pool.now _ c.loop-index.index (omega (arith, c.count-index-end.ensures)) c.loop-index.invariant
