-- Each frame arrives where those before it have.
use Rattle.std.proofs.Common.{ℕ, ◌<◌, List, [], ◌∷◌, ◌++◌, None, false, length, get_or, map, take, sym, subst}
use Rattle.std.proofs.lemmas.List.{map_more}
use Rattle.std.proofs.lemmas.List.Elements.{All-from_recursion}
use Rattle.jvm_model.specs.TypesRight.{Sent}
use Rattle.flow_verify.specs.declared.frames.Arriving.{Arriving}
use Rattle.flow_verify.specs.KnownFrames.{IsSound}
use Rattle.flow_verify.specs.Waves.{meaning_of}
use Rattle.flow_verify.specs.Merging.{HaveArrived}
use Rattle.flow_verify.proofs.waves.StillKnown.{sound_stays}
use Rattle.flow_verify.proofs.waves.ArrivedAll.{none_arrived, one_more}
use Rattle.flow_verify.proofs.arriving.arrive_all.Goals as goal

-- what stands for a frame past the end
abbrev nothing : Arriving
nothing = record { position = 0; frame = record { height = 0; operands = 0; locals = 0; pending = false } }

pub loop-one-init : goal.loop-one-init
loop-one-init c =
    let files = c.args.set.now in
    let ops = c.args.body.now.ops in
    let first = c.args.frames.now in
    subst (λ (wave : List ℕ). HaveArrived files ops c.args.round [] first first wave None) (sym c.new-wave.ensures.items) (none_arrived files ops c.args.round first c.requires.kept c.requires.unchanged)

pub arrive-requires-clause-sound : goal.arrive-requires-clause-sound
arrive-requires-clause-sound c =
    let files = c.args.set.now in
    let first = c.args.frames.now in
    let xs = c.args.arriving.now in
    let i = c.loop-one.one-index in
    sound_stays files first.store c.loop-one.frames.store (get_or xs i nothing).frame c.loop-one.invariant.grows
    (All-from_recursion (λ (one : Arriving). IsSound files first.store one.frame) xs c.requires.sound i nothing c.loop-one-test.true)

pub loop-one-preserved : goal.loop-one-preserved
loop-one-preserved c =
    let files = c.args.set.now in
    let ops = c.args.body.now.ops in
    let first = c.args.frames.now in
    let xs = c.args.arriving.now in
    let i = c.loop-one.one-index in
    let one = get_or xs i nothing in
    let meaning = meaning_of ops first.store in
    let sound = All-from_recursion (λ (x : Arriving). IsSound files first.store x.frame) xs c.requires.sound i nothing c.loop-one-test.true in
    let within = All-from_recursion (λ (x : Arriving). x.position < length ops) xs c.requires.within i nothing c.loop-one-test.true in
    let all = one_more files ops c.requires.names.rise c.args.round (map meaning (take i xs)) first c.loop-one.frames c.arrive.new.frames c.loop-one.wave.items c.arrive.new.wave.items c.loop-one.failing c.in-Ok.clash one
    c.loop-one.invariant within sound.there c.in-Ok.ensures.arrived c.in-Ok.ensures.grows c.in-Ok.ensures.kept c.in-Ok.ensures.listed
    in
    subst (λ (sent : List Sent). HaveArrived files ops c.args.round sent first c.arrive.new.frames c.arrive.new.wave.items c.lower-failing.result) (sym (map_more meaning xs i nothing c.loop-one-test.true))
    (subst (HaveArrived files ops c.args.round (map meaning (take i xs) ++ meaning one ∷ []) first c.arrive.new.frames c.arrive.new.wave.items) (sym c.lower-failing.ensures) all)
