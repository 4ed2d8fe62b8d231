use Rattle.std.proofs.Common.{◌+◌, ◌<◌, ◌≤◌, [], ◌∷◌, length, take, map, ap, sym, subst, ◌∙◌}
use Rattle.std.specs.String.{string_bytes}
use Rattle.std.proofs.lemmas.List.{length-map}
use Rattle.jvm_model.specs.Phases.{saturated}
use Rattle.mote_top.proofs.commands.WordSteps.{word_more, part_more, none_more, all_words, none_at_end, fault_there}
use Rattle.mote_top.proofs.words.read_words.Goals as goal

pub returns-in-None : goal.returns-in-None
returns-in-None c =
    let words = map string_bytes c.args.words.now in
    let place = c.loop-place.place in
    let text = c.as_str.result.now in
    let more = word_more string_bytes c.args.words.now place c.index-words-place.result text c.loop-place-test.true c.index-words-place.is c.as_str.ensures.value in
    let less = subst (λ n. place < n) (sym (length-map c.args.words.now string_bytes)) c.loop-place-test.true in
    fault_there words place c.fault_at.result.place (none_more words place (text ∷ []) c.loop-place.part less c.in-None.ensures c.loop-place.invariant more) c.fault_at.ensures

pub loop-place-preserved : goal.loop-place-preserved
loop-place-preserved c =
    let words = map string_bytes c.args.words.now in
    let place = c.loop-place.place in
    let text = c.as_str.result.now in
    let more = word_more string_bytes c.args.words.now place c.index-words-place.result text c.loop-place-test.true c.index-words-place.is c.as_str.ensures.value in
    part_more (take (place + 1) words) (take place words) (text ∷ []) c.loop-place.part c.in-Some.next c.in-Some.ensures c.loop-place.invariant more

pub returns-in-Some-command : goal.returns-in-Some-command
returns-in-Some-command c =
    let words = map string_bytes c.args.words.now in
    let all = all_words words c.loop-place.place c.loop-place.part (subst (λ n. n ≤ c.loop-place.place) (sym (length-map c.args.words.now string_bytes)) c.loop-place-test.false) c.loop-place.invariant in
    c.in-Some-command.ensures words all

pub returns-in-None-command : goal.returns-in-None-command
returns-in-None-command c =
    let words = map string_bytes c.args.words.now in
    let all = all_words words c.loop-place.place c.loop-place.part (subst (λ n. n ≤ c.loop-place.place) (sym (length-map c.args.words.now string_bytes)) c.loop-place-test.false) c.loop-place.invariant in
    fault_there words (length words) c.fault_at-in-None-command.result.place (none_at_end words c.loop-place.part all (c.in-None-command.ensures words all))
    (c.fault_at-in-None-command.ensures ∙ ap (λ n. saturated n) (sym (length-map c.args.words.now string_bytes)))
