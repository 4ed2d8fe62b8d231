-- What is found for the merge decides what is known at the position.
use Rattle.std.proofs.Common.{◌≡◌, None, Some, get_or, length, sym, ◌∙◌}
use Rattle.type_table.specs.Frames.{frame_of}
use Rattle.type_table.proofs.Growing.{grows_itself}
use Rattle.flow_verify.specs.KnownFrames.{IsSound}
use Rattle.flow_verify.proofs.waves.Positions.{pc_of_position}
use Rattle.flow_verify.proofs.waves.SentAt.{at_index, at_known, entry_read}
use Rattle.flow_verify.proofs.waves.ArrivedOnes.{merge_clashes, merge_same, merge_grown, grown_sound, same_kept, same_arrived, clash_arrived, put_kept, put_listed, grown_arrived}
use Rattle.flow_verify.proofs.arriving.arrive.Goals as goal

pub returns-in_default-clause-listed : goal.returns-in_default-clause-listed
returns-in_default-clause-listed c =
    let files = c.args.set.now in
    let before = c.args.frames.now in
    let ops = c.args.body.now.ops in
    put_listed files ops (length ops) c.args.round before c.requires.kept c.args.arriving c.requires.within c.args.wave.now.items before.store (grows_itself before.store) c.args.arriving.frame c.put.new.frames
    c.put.ensures.store c.in_ok-put.ensures.put c.put.new.wave.items c.requires.listed c.in_ok-put.ensures.listed

pub returns-in-Clash-clause-kept : goal.returns-in-Clash-clause-kept
returns-in-Clash-clause-kept c =
    let ops = c.args.body.now.ops in
    same_kept c.args.set.now ops (length ops) c.args.round c.args.frames.now c.requires.kept c.args.arriving c.requires.within c.args.wave.now.items c.merged.new.self c.merged.ensures.grows

pub returns-in-Same-clause-kept : goal.returns-in-Same-clause-kept
returns-in-Same-clause-kept c =
    let ops = c.args.body.now.ops in
    same_kept c.args.set.now ops (length ops) c.args.round c.args.frames.now c.requires.kept c.args.arriving c.requires.within c.args.wave.now.items c.merged.new.self c.merged.ensures.grows

pub returns-in-Clash-clause-arrived : goal.returns-in-Clash-clause-arrived
returns-in-Clash-clause-arrived c =
    let files = c.args.set.now in
    let before = c.args.frames.now in
    let ops = c.args.body.now.ops in
    let k = c.args.arriving.position in
    let x = c.index-as_slice-position.result in
    let at = pc_of_position ops k x (at_index ops c.as_slice.result.now k x c.requires.within c.as_slice.ensures.all c.index-as_slice-position.is) in
    let has : get_or before.known.items k None ≡ Some c.in-Some.known = entry_read before.known.items k (length ops) c.index.result.now c.requires.kept.count c.requires.within c.index.ensures ∙ c.in-Some.is in
    let upper = frame_of before.store c.in-Some.known.frame in
    let merge = merge_clashes files c.merged.new.self upper (frame_of before.store c.args.arriving.frame) c.in_ok-merged.field-0 c.in-Clash.is c.in_ok-merged.ensures.merged in
    clash_arrived files ops (length ops) c.args.round before c.requires.kept c.args.arriving c.requires.within c.args.wave.now.items c.merged.new.self c.merged.ensures.grows c.in-Some.known has x.0 (sym at) merge

pub returns-in-Same-clause-arrived : goal.returns-in-Same-clause-arrived
returns-in-Same-clause-arrived c =
    let files = c.args.set.now in
    let before = c.args.frames.now in
    let ops = c.args.body.now.ops in
    let k = c.args.arriving.position in
    let has : get_or before.known.items k None ≡ Some c.in-Some.known = entry_read before.known.items k (length ops) c.index.result.now c.requires.kept.count c.requires.within c.index.ensures ∙ c.in-Some.is in
    let upper = frame_of before.store c.in-Some.known.frame in
    let merge = merge_same files c.merged.new.self upper (frame_of before.store c.args.arriving.frame) c.in_ok-merged.field-0 c.in-Same.is c.in_ok-merged.ensures.merged in
    same_arrived files ops (length ops) c.args.round before c.requires.kept c.args.arriving c.requires.within c.args.wave.now.items c.merged.new.self c.merged.ensures.grows c.in-Some.known has merge

pub returns-in_ok-put-in-Grown-clause-kept : goal.returns-in_ok-put-in-Grown-clause-kept
returns-in_ok-put-in-Grown-clause-kept c =
    let files = c.args.set.now in
    let before = c.args.frames.now in
    let ops = c.args.body.now.ops in
    let k = c.args.arriving.position in
    let has : get_or before.known.items k None ≡ Some c.in-Some.known = entry_read before.known.items k (length ops) c.index.result.now c.requires.kept.count c.requires.within c.index.ensures ∙ c.in-Some.is in
    let upper = frame_of before.store c.in-Some.known.frame in
    let lower = frame_of before.store c.args.arriving.frame in
    let sound = at_known (λ known. IsSound files before.store known.frame) (get_or before.known.items k None) c.in-Some.known has (c.requires.kept.sound k) in
    let merge = merge_grown files c.merged.new.self upper lower c.in_ok-merged.field-0 c.in-Grown.merged c.in-Grown.is c.in_ok-merged.ensures.merged in
    put_kept files ops (length ops) c.args.round before c.requires.kept c.args.arriving c.requires.within c.args.wave.now.items c.merged.new.self c.merged.ensures.grows c.in-Grown.merged c.put-in-Grown.new.frames
    c.put-in-Grown.ensures.store c.in_ok-put-in-Grown.ensures.put (grown_sound files c.requires.closed c.merged.new.self upper lower c.in-Grown.merged sound.proper c.requires.sound.proper merge)

pub returns-in_ok-put-in-Grown-clause-listed : goal.returns-in_ok-put-in-Grown-clause-listed
returns-in_ok-put-in-Grown-clause-listed c =
    let ops = c.args.body.now.ops in
    put_listed c.args.set.now ops (length ops) c.args.round c.args.frames.now c.requires.kept c.args.arriving c.requires.within c.args.wave.now.items c.merged.new.self c.merged.ensures.grows c.in-Grown.merged
    c.put-in-Grown.new.frames c.put-in-Grown.ensures.store c.in_ok-put-in-Grown.ensures.put c.put-in-Grown.new.wave.items c.requires.listed c.in_ok-put-in-Grown.ensures.listed

pub returns-in_ok-put-in-Grown-clause-arrived : goal.returns-in_ok-put-in-Grown-clause-arrived
returns-in_ok-put-in-Grown-clause-arrived c =
    let files = c.args.set.now in
    let before = c.args.frames.now in
    let ops = c.args.body.now.ops in
    let k = c.args.arriving.position in
    let has : get_or before.known.items k None ≡ Some c.in-Some.known = entry_read before.known.items k (length ops) c.index.result.now c.requires.kept.count c.requires.within c.index.ensures ∙ c.in-Some.is in
    let upper = frame_of before.store c.in-Some.known.frame in
    let lower = frame_of before.store c.args.arriving.frame in
    let merge = merge_grown files c.merged.new.self upper lower c.in_ok-merged.field-0 c.in-Grown.merged c.in-Grown.is c.in_ok-merged.ensures.merged in
    grown_arrived files ops (length ops) c.args.round before c.requires.kept c.args.arriving c.requires.within c.args.wave.now.items c.merged.new.self c.merged.ensures.grows c.in-Grown.merged c.put-in-Grown.new.frames
    c.put-in-Grown.ensures.store c.in_ok-put-in-Grown.ensures.put c.in-Some.known has merge.1 c.put-in-Grown.new.wave.items c.in_ok-put-in-Grown.ensures.listed
