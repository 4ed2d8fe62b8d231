use Rattle.std.proofs.Common.{arith}
use Rattle.class_file.proofs.layout.Whole.{one_record}
use Rattle.class_file.proofs.calls.AtOnce.{at_once}
use Rattle.class_file.proofs.calls.Answers.{is_found, is_read, is_refused, is_answered}
use Rattle.class_file.proofs.read.read_class.Goals as goal

pub returns-clause-found : goal.returns-clause-found
returns-clause-found c = is_found c.args.bytes.now c.class_of.result (λ i. omega (arith, c.type_inv.bytes i)) c.class_of.ensures.value

pub returns-clause-only : goal.returns-clause-only
returns-clause-only c = is_read c.args.bytes.now c.class_of.result c.class_of.ensures.value

pub returns-clause-one_record : goal.returns-clause-one_record
returns-clause-one_record c = one_record c.args.bytes.now

pub returns-clause-refused : goal.returns-clause-refused
returns-clause-refused c = is_refused c.args.bytes.now c.class_of.result (λ i. omega (arith, c.type_inv.bytes i)) c.class_of.ensures.value

pub returns-clause-refused_only : goal.returns-clause-refused_only
returns-clause-refused_only c = is_answered c.args.bytes.now c.class_of.result c.class_of.ensures.value

pub returns-clause-at_once : goal.returns-clause-at_once
returns-clause-at_once c = λ why r. c.class_of.ensures.start why (at_once c.args.bytes.now why r)
