use Rattle.std.proofs.Common.{subst}
use Rattle.class_code.specs.Code.{Insns, Answers}
use Rattle.class_code.proofs.Laws.{answered-ok, answered-err, found-code, refused-code}
use Rattle.class_code.proofs.code_list.decode.Goals as goal

pub returns-clause-found : goal.returns-clause-found
returns-clause-found c = answered-ok (λ (list : Insns). list) c.decoded.result c.args.code.now c.decoded.ensures

pub returns-clause-only : goal.returns-clause-only
returns-clause-only c = λ insns is. subst (Answers (λ (list : Insns). list) c.decoded.result) (found-code c.args.code.now insns is) c.decoded.ensures

pub returns-clause-refused : goal.returns-clause-refused
returns-clause-refused c = answered-err (λ (list : Insns). list) c.decoded.result c.args.code.now c.decoded.ensures

pub returns-clause-refused_only : goal.returns-clause-refused_only
returns-clause-refused_only c = λ why is. subst (Answers (λ (list : Insns). list) c.decoded.result) (refused-code c.args.code.now why is) c.decoded.ensures
