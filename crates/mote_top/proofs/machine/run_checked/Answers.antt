use Rattle.std.proofs.Common.{◌≡◌, sym, subst, ◌∙◌}
use Rattle.image_form.specs.Grammar.{IsImage}
use Rattle.mote_core.specs.Kept.{Kept}
use Rattle.mote_top.proofs.replies.NewMotes.{main_found, new_mote_answers, stands_new}
use Rattle.mote_top.proofs.machine.run_checked.Goals as goal

pub run-ending-requires : goal.run-ending-requires
run-ending-requires g c lifetimes within =
    let form = c.in-Ok-new.ensures.ok.image_form in
    let main = form.main_is in
    (within, stands_new c.args.checked c.args.opts.heap c.args.opts.stack main.method (main_found c.args.checked main) c.in-Ok-new.mote c.in-Ok-new.ensures.ok)

pub status_of-requires-clause-image : goal.status_of-requires-clause-image
status_of-requires-clause-image g c =
    let is_new = c.in-Ok-new.ensures.ok in
    let ran = c.run-ending.ensures in
    subst IsImage (sym (ran.leaves.image ∙ is_new.image_is)) is_new.image_form

pub returns : goal.returns
returns g c =
    let C = g.C.Console in
    let form = c.in-Ok-new.ensures.ok.image_form in
    let main = form.main_is in
    let mote = c.in-Ok-new.mote in
    let is_new = c.in-Ok-new.ensures.ok in
    let ran = c.run-ending.ensures in
    let image : c.run-ending.new.self.image ≡ c.args.checked = ran.leaves.image ∙ is_new.image_is in
    rw (c.status_of.ensures, image)
    (new_mote_answers c.args.checked c.args.opts.heap c.args.opts.stack main.method (main_found c.args.checked main) mote is_new C.left C.shown C.noted C.faults C.room c.args.opts.ticks c.args.console.now c.run-ending.new.console
    c.run-ending.new.self c.run-ending.result ran.kept ran.ran)
