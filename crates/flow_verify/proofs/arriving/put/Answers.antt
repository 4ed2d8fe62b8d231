-- The entry that is read is the one at the position.
use Rattle.std.proofs.Common.{◌≡◌, Option, None, IfSome, get_or, sym, subst, ◌∙◌}
use Rattle.std.proofs.lemmas.List.{get_or_default}
use Rattle.std.specs.List.{Contains}
use Rattle.flow_verify.specs.declared.frames.Known.{Known}
use Rattle.flow_verify.proofs.arriving.put.Goals as goal

pub list-requires : goal.list-requires
list-requires c =
    let is : c.index.result.now ≡ get_or c.args.frames.now.known.items c.args.position None = c.index.ensures ∙ get_or_default c.args.frames.now.known.items c.args.position c.index.result.now None c.requires.within in
    subst (λ (o : Option Known). IfSome o (λ known. known.round ≡ c.args.round → Contains c.args.wave.now.items c.args.position)) (sym is) (c.requires.listed c.args.position)
