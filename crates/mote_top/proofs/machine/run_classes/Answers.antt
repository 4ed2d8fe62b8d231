use Rattle.std.proofs.Common.{Vec, Global, ◌≡◌, ℕ, map, sym, subst}
use Rattle.image_form.specs.declared.record.Image.{Image}
use Rattle.image_check.specs.declared.refusal.CheckCause.TheVariants.{Memory as NoCheckMemory}
use Rattle.mote_top.specs.declared.status.Status.{Status}
use Rattle.mote_top.specs.declared.status.Status.TheVariants.{Memory}
use Rattle.mote_top.specs.Words.{limits_in}
use Rattle.mote_top.specs.Call.{spoken}
use Rattle.mote_top.specs.Reply.{Reply, RunsImage, SetReplies, dialogue_of}
use Rattle.mote_top.specs.Answer.{Answers}
use Rattle.mote_top.proofs.replies.Answering.{Answers-weaker, Answers-quiet, untouched}
use Rattle.mote_top.proofs.replies.Sets.{set_runs, refused_status, refused_may}
use Rattle.mote_top.proofs.machine.run_classes.Goals as goal

pub check-requires : goal.check-requires
check-requires g c = c.accepted_sets_run.ensures.image (map (λ (v : Vec ℕ Global). v.items) c.args.files.now) c.in-Ok.image c.in-Ok.ensures.found

-- the image of an accepted set is checked, so there was no memory for the check
pub returns-in-Err-check : goal.returns-in-Err-check
returns-in-Err-check g c =
    let C = g.C.Console in
    let files = map (λ (v : Vec ℕ Global). v.items) c.args.files.now in
    let found = c.in-Ok.ensures.found in
    let console = spoken C.left C.shown C.noted C.faults C.room c.args.console.now in
    let memory : c.in-Err-check.refusal.cause ≡ NoCheckMemory = c.in-Err-check.ensures.only (c.accepted_sets_run.ensures.checked files c.in-Ok.image found) (c.accepted_sets_run.ensures.built files c.in-Ok.image found) in
    let is : c.check_refused.result ≡ Memory = c.check_refused.ensures.memory memory in
    subst (λ (s : Status). Answers dialogue_of (SetReplies files (limits_in c.args.opts) console.left) console console s) (sym is) (untouched console)

pub returns-in-Err : goal.returns-in-Err
returns-in-Err g c =
    let C = g.C.Console in
    let files = map (λ (v : Vec ℕ Global). v.items) c.args.files.now in
    let limits = limits_in c.args.opts in
    let status = refused_status files c.in-Err.refusal c.refused.result c.refused.ensures.memory c.refused.ensures.other c.in-Err.ensures.refused in
    Answers-quiet (λ console reply. SetReplies files limits console.left reply) (spoken C.left C.shown C.noted C.faults C.room c.args.console.now) c.refused.result (refused_may files limits c.refused.result status)

pub returns-in-Ok-check : goal.returns-in-Ok-check
returns-in-Ok-check g c =
    let C = g.C.Console in
    let files = map (λ (v : Vec ℕ Global). v.items) c.args.files.now in
    let left = C.left c.args.console.now in
    let limits = limits_in c.args.opts in
    let image : c.in-Ok-check.checked ≡ c.in-Ok.image = c.in-Ok-check.ensures.found.0 in
    let run = λ (reply : Reply) (on : RunsImage c.in-Ok-check.checked limits left reply).
    set_runs c.accepted_sets_run.ensures.runs_alike files c.in-Ok.image c.in-Ok.ensures.found limits left reply (subst (λ (i : Image). RunsImage i limits left reply) image on) in
    Answers-weaker dialogue_of (RunsImage c.in-Ok-check.checked limits left) (SetReplies files limits left) run
    (spoken C.left C.shown C.noted C.faults C.room c.args.console.now) (spoken C.left C.shown C.noted C.faults C.room c.run_checked.new.console) c.run_checked.result c.run_checked.ensures
