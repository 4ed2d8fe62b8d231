use Rattle.std.proofs.Common.{◌∙◌, arith}
use Rattle.class_tree.proofs.tables.NamesOf.{name_there}
use Rattle.class_tree.proofs.set.ClassSet.name_of.Goals as goal

pub returns : goal.returns
returns c = c.own_name.ensures ∙ name_there c.args.self.now c.args.class c.file.result.now (omega (arith, c.if-class-lt-FIRST_OWN.false)) c.file.ensures.file
