use Rattle.std.proofs.Common.{arith}
use Rattle.image_form.proofs.faults.AtOnce.{at_once}
use Rattle.image_form.proofs.faults.Refusals.{is_found, is_read, is_refused, is_answered}
use Rattle.image_form.proofs.read.read_image.Goals as goal

pub returns-clause-found : goal.returns-clause-found
returns-clause-found c = is_found c.args.bytes.now c.image_of.result (λ i. omega (arith, c.type_inv.bytes i)) c.image_of.ensures.value

pub returns-clause-only : goal.returns-clause-only
returns-clause-only c = is_read c.args.bytes.now c.image_of.result c.image_of.ensures.value

pub returns-clause-refused : goal.returns-clause-refused
returns-clause-refused c = is_refused c.args.bytes.now c.image_of.result (λ i. omega (arith, c.type_inv.bytes i)) c.image_of.ensures.value

pub returns-clause-refused_only : goal.returns-clause-refused_only
returns-clause-refused_only c = is_answered c.args.bytes.now c.image_of.result c.image_of.ensures.value

pub returns-clause-at_once : goal.returns-clause-at_once
returns-clause-at_once c = λ why r. c.image_of.ensures.start why (at_once c.args.bytes.now why r)
