use Rattle.std.proofs.Common.{◌≡◌, subst}
use Rattle.image_form.specs.declared.record.Image.{Image}
use Rattle.mote_top.specs.Words.{limits_in}
use Rattle.mote_top.specs.Call.{spoken}
use Rattle.mote_top.specs.Reply.{Reply, RunsImage, InfusionReplies, dialogue_of}
use Rattle.mote_top.proofs.replies.Answering.{Answers-weaker, Answers-quiet}
use Rattle.mote_top.proofs.replies.Sets.{infusion_runs, form_may, check_may}
use Rattle.mote_top.proofs.machine.run_infusion.Goals as goal

pub returns-in-Err : goal.returns-in-Err
returns-in-Err g c =
    let C = g.C.Console in
    let bytes = c.args.bytes.now in
    let limits = limits_in c.args.opts in
    Answers-quiet (λ console reply. InfusionReplies bytes limits console.left reply) (spoken C.left C.shown C.noted C.faults C.room c.args.console.now) c.form_refused.result
    (form_may bytes limits c.in-Err.refusal c.form_refused.result c.form_refused.ensures.memory c.form_refused.ensures.other c.in-Err.ensures.refused)

pub returns-in-Err-check : goal.returns-in-Err-check
returns-in-Err-check g c =
    let C = g.C.Console in
    let bytes = c.args.bytes.now in
    let limits = limits_in c.args.opts in
    Answers-quiet (λ console reply. InfusionReplies bytes limits console.left reply) (spoken C.left C.shown C.noted C.faults C.room c.args.console.now) c.check_refused.result
    (check_may bytes limits c.in-Ok.image c.in-Ok.ensures.found c.in-Err-check.refusal c.check_refused.result c.check_refused.ensures.memory c.check_refused.ensures.other c.in-Err-check.ensures.refused.1)

pub returns-in-Ok-check : goal.returns-in-Ok-check
returns-in-Ok-check g c =
    let C = g.C.Console in
    let bytes = c.args.bytes.now in
    let left = C.left c.args.console.now in
    let limits = limits_in c.args.opts in
    let found = c.in-Ok-check.ensures.found in
    let image : c.in-Ok-check.checked ≡ c.in-Ok.image = found.0 in
    let run = λ (reply : Reply) (on : RunsImage c.in-Ok-check.checked limits left reply).
    infusion_runs bytes c.in-Ok.image (record { encoded = c.in-Ok.ensures.found; checked = found.1; built = found.2 }) limits left reply (subst (λ (i : Image). RunsImage i limits left reply) image on) in
    Answers-weaker dialogue_of (RunsImage c.in-Ok-check.checked limits left) (InfusionReplies bytes limits left) run
    (spoken C.left C.shown C.noted C.faults C.room c.args.console.now) (spoken C.left C.shown C.noted C.faults C.room c.run_checked.new.console) c.run_checked.result c.run_checked.ensures
