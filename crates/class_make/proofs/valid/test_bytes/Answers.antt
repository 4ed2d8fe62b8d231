use Rattle.std.proofs.Common.{sym, ◌∙◌}
use Rattle.std.proofs.lemmas.Bool.{false≢true}
use Rattle.class_make.proofs.Tested.{read_other, read_refused}
use Rattle.class_make.proofs.valid.test_bytes.Goals as goal

pub returns-then-not-is_same_class-clause-refused : goal.returns-then-not-is_same_class-clause-refused
returns-then-not-is_same_class-clause-refused c =
    read_other c.args.bytes.now c.args.file.now c.in-Ok.read c.requires c.in-Ok.ensures.only (λ same. false≢true (sym c.if-not-is_same_class.true ∙ c.is_same_class.ensures.1 same))

pub returns-in-Err-clause-refused : goal.returns-in-Err-clause-refused
returns-in-Err-clause-refused c = rw c.refusal_of.ensures (read_refused c.args.bytes.now c.args.file.now c.in-Err.why c.requires c.in-Err.ensures.only)
