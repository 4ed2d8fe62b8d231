-- What the wave sends arrives, in the store as it is then.
use Rattle.std.proofs.Common.{List, [], sym, subst}
use Rattle.std.specs.List.{flat_map}
use Rattle.flow_verify.specs.declared.frames.Arriving.{Arriving}
use Rattle.flow_verify.specs.KnownFrames.{Entries}
use Rattle.flow_verify.specs.Lowest.{IsLowest}
use Rattle.flow_verify.specs.Outcomes.{IsRound}
use Rattle.flow_verify.specs.Waves.{sent_at, Adds, UnruledIn}
use Rattle.flow_verify.proofs.waves.WholeRounds.{kept_then, all_within, all_sound, round_is}
use Rattle.flow_verify.proofs.rounds.one_round.Goals as goal

abbrev IsSent : goal.After-arrive_all-arg-1 → Type 0
IsSent c =
    Adds c.args.body.now.ops c.send_wave.new.store (flat_map (sent_at c.args.set.now c.args.body.now c.args.frames.now.store c.args.frames.now.known.items) c.args.wave.now) [] c.as_slice-2.result.now

is_sent : (c : goal.After-arrive_all-arg-1) → IsSent c
is_sent c =
    let files = c.args.set.now in
    let body = c.args.body.now in
    let s = c.args.frames.now.store in
    let t = c.send_wave.new.store in
    let wave = c.args.wave.now in
    subst (λ (entries : Entries). Adds body.ops t (flat_map (sent_at files body s entries) wave) [] c.as_slice-2.result.now) c.as_slice.ensures.value
    (subst (λ (list : List Arriving). Adds body.ops t (flat_map (sent_at files body s c.as_slice.result.now) wave) [] list) (sym c.as_slice-2.ensures.value) c.in_ok-sending.ensures.sent)

pub arrive_all-requires-clause-kept : goal.arrive_all-requires-clause-kept
arrive_all-requires-clause-kept c =
    kept_then c.args.set.now c.requires.closed c.args.body.now c.requires.names c.args.round c.args.frames.now c.requires.kept c.args.wave.now c.requires.wave c.send_wave.new.store c.send_wave.ensures.grows c.as_slice-2.result.now
    (is_sent c)

pub arrive_all-requires-clause-within : goal.arrive_all-requires-clause-within
arrive_all-requires-clause-within c =
    all_within c.args.set.now c.requires.closed c.args.body.now c.requires.names c.args.round c.args.frames.now c.requires.kept c.args.wave.now c.requires.wave c.send_wave.new.store c.send_wave.ensures.grows c.as_slice-2.result.now
    (is_sent c)

pub arrive_all-requires-clause-sound : goal.arrive_all-requires-clause-sound
arrive_all-requires-clause-sound c =
    all_sound c.args.set.now c.requires.closed c.args.body.now c.requires.names c.args.round c.args.frames.now c.requires.kept c.args.wave.now c.requires.wave c.send_wave.new.store c.send_wave.ensures.grows c.as_slice-2.result.now
    (is_sent c)

pub returns : goal.returns
returns c =
    let files = c.args.set.now in
    let body = c.args.body.now in
    let before = c.args.frames.now in
    let s = before.store in
    let t = c.send_wave.new.store in
    let wave = c.args.wave.now in
    let arriving = c.as_slice-2.result.now in
    let after = c.arrive_all.new.frames in
    let next = c.in_ok-step.step.wave.items in
    let sent : Adds body.ops t (flat_map (sent_at files body s before.known.items) wave) [] arriving =
    subst (λ (entries : Entries). Adds body.ops t (flat_map (sent_at files body s entries) wave) [] arriving) c.as_slice.ensures.value
    (subst (λ (list : List Arriving). Adds body.ops t (flat_map (sent_at files body s c.as_slice.result.now) wave) [] list) (sym c.as_slice-2.ensures.value) c.in_ok-sending.ensures.sent)
    in
    let unruled : IsLowest (UnruledIn files body s before.known.items wave) c.in_ok-sending.sending.failing =
    subst (λ (entries : Entries). IsLowest (UnruledIn files body s entries wave) c.in_ok-sending.sending.failing) c.as_slice.ensures.value c.in_ok-sending.ensures.ruled
    in
    subst (IsRound files body c.args.round before after wave next) (sym c.lower.ensures)
    (round_is files c.requires.closed body c.requires.names c.args.round before c.requires.kept wave c.requires.wave t c.send_wave.ensures.grows arriving sent after next c.in_ok-sending.sending.failing c.in_ok-step.step.failing
    unruled c.in_ok-step.ensures)
