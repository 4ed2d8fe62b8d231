-- The instructions of the wave are taken one by one, from a store that grows meanwhile.
use Rattle.std.proofs.Common.{◌+◌, ◌⊎◌, List, [], take, get_or, sym, subst}
use Rattle.std.specs.List.{flat_map}
use Rattle.jvm_model.specs.TypesRight.{Sent}
use Rattle.type_table.proofs.Growing.{grows_along}
use Rattle.flow_verify.specs.Lowest.{IsLowest, lower_of}
use Rattle.flow_verify.specs.Waves.{sent_at, Adds, IsUnruled, UnruledIn}
use Rattle.flow_verify.proofs.waves.LowestPcs.{lowest_same, lowest_both}
use Rattle.flow_verify.proofs.waves.StillKnown.{sound_still, sent_still, unruled_then, unruled_before, flat_more, unruled_more, unruled_cases}
use Rattle.flow_verify.proofs.waves.Adding.{Sends, sends_more}
use Rattle.flow_verify.proofs.sending.send_wave.Goals as goal

pub send_at-requires-clause-sound : goal.send_at-requires-clause-sound
send_at-requires-clause-sound c = sound_still c.args.set.now c.args.store.now c.loop-position.store c.loop-position.invariant.sent.grows c.args.known.now c.requires.sound

pub returns-in-Err-clause-grows : goal.returns-in-Err-clause-grows
returns-in-Err-clause-grows c = grows_along c.args.store.now c.loop-position.store c.send_at.new.store c.loop-position.invariant.sent.grows c.send_at.ensures.grows

pub loop-position-preserved : goal.loop-position-preserved
loop-position-preserved c =
    let files = c.args.set.now in
    let body = c.args.body.now in
    let first = c.args.store.now in
    let s = c.loop-position.store in
    let t = c.send_at.new.store in
    let known = c.args.known.now in
    let wave = c.args.wave.now in
    let i = c.loop-position.position-index in
    let k = get_or wave i 0 in
    let grows = c.loop-position.invariant.sent.grows in
    let of = sent_at files body first known in
    let old = c.loop-position.arriving.items in
    let new = c.send_at.new.arriving.items in
    let sent : Sends body.ops s t (of k) old new =
    record { grows = c.send_at.ensures.grows; adds = subst (λ (list : List Sent). Adds body.ops t list old new) (sent_still files first s grows known c.requires.sound body k) c.in-Ok.ensures.sent }
    in
    let here : IsLowest (IsUnruled files body first known k) c.in-Ok.unruled =
    lowest_same (IsUnruled files body s known k) (IsUnruled files body first known k) (unruled_before files first s grows known c.requires.sound body k) (unruled_then files first s grows known c.requires.sound body k) c.in-Ok.unruled c.in-Ok.ensures.ruled
    in
    let both = lowest_both (UnruledIn files body first known (take i wave)) (IsUnruled files body first known k) c.loop-position.failing c.in-Ok.unruled c.loop-position.invariant.ruled here in
    record {
      sent =
          subst (λ (list : List Sent). Sends body.ops first t list [] new) (sym (flat_more of wave i c.loop-position-test.true))
          (sends_more body.ops first s t (flat_map of (take i wave)) (of k) [] old new c.loop-position.invariant.sent sent);
      ruled =
          subst (IsLowest (UnruledIn files body first known (take (i + 1) wave))) (sym c.lower-failing.ensures)
          (lowest_same (λ pc. UnruledIn files body first known (take i wave) pc ⊎ IsUnruled files body first known k pc) (UnruledIn files body first known (take (i + 1) wave))
          (unruled_more files body first known wave i c.loop-position-test.true) (unruled_cases files body first known wave i c.loop-position-test.true) (lower_of c.loop-position.failing c.in-Ok.unruled) both);
    }
