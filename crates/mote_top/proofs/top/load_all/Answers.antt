use Rattle.std.proofs.Common.{Vec, Global, ◌≡◌, ℕ, ◌+◌, List, ◌∷◌, [], ◌++◌, map, take, Option, sym, ap, subst, ◌∙◌}
use Rattle.std.specs.String.{string_bytes}
use Rattle.std.proofs.lemmas.List.{map-append}
use Rattle.host_face.specs.Shelf.{Files}
use Rattle.mote_top.specs.Reply.{HasAt, HaveAll}
use Rattle.mote_top.proofs.replies.Loads.{have_more, never_then, name_there, fails_there}
use Rattle.mote_top.proofs.commands.WordSteps.{word_more}
use Rattle.mote_top.proofs.top.load_all.Goals as goal

pub returns-in-Err-clause-failed : goal.returns-in-Err-clause-failed
returns-in-Err-clause-failed g c =
    let S = g.S.Shelf in
    let names = map string_bytes c.args.names.now in
    let place = c.loop-place.place in
    let name = c.as_str.result.now in
    let there = name_there string_bytes c.args.names.now place c.index-names-place.result name c.loop-place-test.true c.index-names-place.is c.as_str.ensures.value in
    fails_there names c.args.first place name (S.load_faults c.args.shelf.now) (S.load_faults c.loop-place.shelf) (S.load_faults c.load.new.shelf) there c.loop-place.invariant.loads c.in-Err.status c.in-Err.ensures.failed

pub loop-place-preserved : goal.loop-place-preserved
loop-place-preserved g c =
    let S = g.S.Shelf in
    let names = map string_bytes c.args.names.now in
    let place = c.loop-place.place in
    let name = c.as_str.result.now in
    let bytes = c.in-Ok.bytes.items in
    let kept = S.kept c.args.shelf.now in
    let items : Vec ℕ Global → List ℕ = λ v. v.items in
    let files = map items c.loop-place.files.items in
    let so_far = c.loop-place.invariant in
    let more = word_more string_bytes c.args.names.now place c.index-names-place.result name c.loop-place-test.true c.index-names-place.is c.as_str.ensures.value in
    let has : HasAt kept name bytes = subst (λ (k : Option Files). HasAt k name bytes) so_far.kept c.in-Ok.ensures.loaded in
    let all : HaveAll kept (take place names ++ name ∷ []) (files ++ bytes ∷ []) = have_more kept (take place names) files name bytes so_far.loaded has in
    let pushed : map items c.push.new.self.items ≡ files ++ bytes ∷ [] = ap (map items) c.in-Ok-push.ensures.items ∙ map-append items c.loop-place.files.items (c.in-Ok.bytes ∷ []) in
    record {
      loaded = subst (λ (fs : List (List ℕ)). HaveAll kept (take (place + 1) names) fs) (sym pushed) (subst (λ (ns : List (List ℕ)). HaveAll kept ns (files ++ bytes ∷ [])) (sym more) all);
      kept = c.in-Ok.ensures.kept ∙ so_far.kept;
      loads = never_then (S.load_faults c.args.shelf.now) (S.load_faults c.loop-place.shelf) (S.load_faults c.load.new.shelf) so_far.loads c.in-Ok.ensures.loads;
      stores = never_then (S.store_faults c.args.shelf.now) (S.store_faults c.loop-place.shelf) (S.store_faults c.load.new.shelf) so_far.stores c.in-Ok.ensures.stores;
    }
