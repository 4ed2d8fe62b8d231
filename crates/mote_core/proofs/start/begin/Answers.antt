use Rattle.std.proofs.Common.{[], Some, refl, sym, ap, ap₂, ◌∙◌, arith}
use Rattle.std.proofs.lemmas.Option.{same_Some}
use Rattle.image_form.specs.declared.record.Method.{Method}
use Rattle.image_form.specs.Grammar.{IsMethod}
use Rattle.mote_stack.specs.Frames.{Stack, with_frame}
use Rattle.mote_model.specs.declared.ending.Ending.TheVariants as ending
use Rattle.split_safety.proofs.facts.Lists.{all_of_each}
use Rattle.split_safety.proofs.moves.Throwing.{own_method}
use Rattle.mote_core.proofs.Beginning.{begun, body_before, unused, wanted}
use Rattle.mote_core.proofs.start.begin.Goals as goal

pub push_frame-pushed-requires-clause-locals : goal.push_frame-pushed-requires-clause-locals
push_frame-pushed-requires-clause-locals c =
    let image = c.args.image.now in
    let old = c.args.state.now in
    let main = c.main_of-main.result.now in
    let found = c.main_of-main.ensures in
    let grammar = own_method (IsMethod image.types) image image.main main (all_of_each (IsMethod image.types) [] image.methods c.requires.image.methods_are) found in
    omega (arith, grammar.locals_fit, body_before image old.region.size old c.requires.empty main found)

pub returns-in-Ok : goal.returns-in-Ok
returns-in-Ok c =
    let image = c.args.image.now in
    let old = c.args.state.now in
    let size = old.region.size in
    let empty = c.requires.empty in
    let pushed : Method → Stack = λ method. with_frame old.region image.main method.ref_locals method.cell_locals 0 0 in
    record {
      fits = λ method found within. (refl, begun image size old empty method found c.push_frame-pushed.new.self (c.in-Ok.ensures.1 ∙ ap pushed (same_Some c.main_of-main.result.now method (sym c.main_of-main.ensures ∙ found))));
      wants = λ method found over. absurd (omega (arith, over, c.in-Ok.ensures.0, wanted image size old empty method found));
      collections = empty.collections;
    }

pub returns-in-Err : goal.returns-in-Err
returns-in-Err c =
    let image = c.args.image.now in
    let old = c.args.state.now in
    let size = old.region.size in
    let empty = c.requires.empty in
    record {
      fits = λ method found within. absurd (omega (arith, within, c.in-Err.ensures.0, wanted image size old empty method found, unused image size old empty method found));
      wants = λ method found over.
          let need = ap (λ why. why.need) c.in-Err.ensures.1 ∙ wanted image size old empty method found in
          let used = ap (λ why. why.used) c.in-Err.ensures.1 ∙ unused image size old empty method found in
          ap₂ (λ need used. Some (ending.StackWanted need used)) need used;
      collections = empty.collections;
    }
