use Rattle.std.proofs.Common.{Vec, Global, ℕ, map, Option, refl, sym, subst}
use Rattle.std.specs.String.{string_bytes}
use Rattle.host_face.specs.Shelf.{Files}
use Rattle.mote_top.specs.Words.{infuse_of}
use Rattle.mote_top.specs.Call.{shelved}
use Rattle.mote_top.specs.Reply.{HaveAll, IsInfusionOf, OfInfuse}
use Rattle.mote_top.specs.Storing.{IsStored}
use Rattle.mote_top.proofs.replies.Choices.{load_may, infuse_refused_may, infuse_stored_may, infuse_changes}
use Rattle.mote_top.proofs.top.infuse_to.Goals as goal

pub returns-in-Ok-infusion_of-clause-replied : goal.returns-in-Ok-infusion_of-clause-replied
returns-in-Ok-infusion_of-clause-replied g c = λ limits.
    let S = g.S.Shelf in
    let out = c.args.out.now in
    let names = map string_bytes c.args.names.now in
    let files = map (λ (v : Vec ℕ Global). v.items) c.as_slice.result.now in
    let infusion = c.as_slice-in-Ok-infusion_of.result.now in
    let before = shelved S.kept S.load_faults S.store_faults c.args.shelf.now in
    let after = shelved S.kept S.load_faults S.store_faults c.store.new.shelf in
    let found : HaveAll before.kept names files = rw c.as_slice.ensures.value c.in-Ok.ensures.loaded in
    let infused : IsInfusionOf files infusion = subst (IsInfusionOf files) (sym c.as_slice-in-Ok-infusion_of.ensures.value) c.in-Ok-infusion_of.ensures.ok in
    let stored = subst (λ (kept : Option Files). IsStored out infusion kept after.kept (S.store_faults c.load_all.new.shelf) after.store_faults c.store.result) c.in-Ok.ensures.kept c.store.ensures.stored in
    infuse_stored_may out names files infusion limits c.requires.out c.requires.names infused before after (S.store_faults c.load_all.new.shelf) found c.in-Ok.ensures.stores c.store.result stored

pub returns-in-Ok-infusion_of-clause-kept : goal.returns-in-Ok-infusion_of-clause-kept
returns-in-Ok-infusion_of-clause-kept g c =
    let S = g.S.Shelf in
    let out = c.args.out.now in
    let names = map string_bytes c.args.names.now in
    let files = map (λ (v : Vec ℕ Global). v.items) c.as_slice.result.now in
    let infusion = c.as_slice-in-Ok-infusion_of.result.now in
    let kept = S.kept c.args.shelf.now in
    let now = S.kept c.store.new.shelf in
    let found : HaveAll kept names files = rw c.as_slice.ensures.value c.in-Ok.ensures.loaded in
    let infused : IsInfusionOf files infusion = subst (IsInfusionOf files) (sym c.as_slice-in-Ok-infusion_of.ensures.value) c.in-Ok-infusion_of.ensures.ok in
    let stored = subst (λ (k : Option Files). IsStored out infusion k now (S.store_faults c.load_all.new.shelf) (S.store_faults c.store.new.shelf) c.store.result) c.in-Ok.ensures.kept c.store.ensures.stored in
    infuse_changes out names files infusion infused kept now (S.store_faults c.load_all.new.shelf) (S.store_faults c.store.new.shelf) found c.store.result stored

pub returns-clause-replied : goal.returns-clause-replied
returns-clause-replied g c = λ limits.
    let S = g.S.Shelf in
    let names = map string_bytes c.args.names.now in
    let files = map (λ (v : Vec ℕ Global). v.items) c.as_slice.result.now in
    let before = shelved S.kept S.load_faults S.store_faults c.args.shelf.now in
    let after = shelved S.kept S.load_faults S.store_faults c.load_all.new.shelf in
    let found : HaveAll before.kept names files = rw c.as_slice.ensures.value c.in-Ok.ensures.loaded in
    infuse_refused_may c.args.out.now names files limits c.requires.out c.requires.names before after found c.in-Ok.ensures.kept c.in-Err-infusion_of.why c.in-Err-infusion_of.ensures.err

pub returns-in-Err-clause-replied : goal.returns-in-Err-clause-replied
returns-in-Err-clause-replied g c = λ limits.
    let S = g.S.Shelf in
    let out = c.args.out.now in
    let names = map string_bytes c.args.names.now in
    let before = shelved S.kept S.load_faults S.store_faults c.args.shelf.now in
    let after = shelved S.kept S.load_faults S.store_faults c.load_all.new.shelf in
    load_may (infuse_of out names) names 2 (OfInfuse out names refl c.requires.out c.requires.names) limits before after c.in-Err.ensures.kept c.in-Err.status c.in-Err.ensures.failed
