-- The code goes on behind a call of a native.
use Rattle.std.proofs.Common.{◌≡◌, ℕ, ◌+◌, refl, sym, ap, subst, ◌∙◌, arith}
use Rattle.image_instr.specs.declared.insn.MInsn.{MInsn}
use Rattle.image_instr.specs.declared.insn.MInsn.TheVariants as insns
use Rattle.mote_stack.specs.Frames.{youngest_frame}
use Rattle.mote_model.specs.declared.memory.State.{State as Memory}
use Rattle.mote_model.specs.Picture.{shown_frame}
use Rattle.split_safety.specs.Ready.{Shown, IsReady}
use Rattle.mote_exec.proofs.GoingOn.{at, was}
use Rattle.mote_call.specs.Leaving.{IsInCode, behind}
use Rattle.mote_call.proofs.Answering.{step_of}
use Rattle.mote_call.proofs.OwnCode.{behind_is, of_grammar}

module _ (shown : Shown) (old : Memory) (id : ℕ) (ready : IsReady shown old (insns.CallS id)) where
  abbrev insn : MInsn
  insn = insns.CallS id

  abbrev own_code : IsInCode shown.image (shown_frame shown.image shown.naming ready.next.frame)
  own_code =
      let here = at shown old old insn (ready.next.frame.pc + ready.next.size) (step_of shown old insn ready) in
      let grammar = of_grammar shown.image ready.sound ready.next.frame.method ready.next.method ready.next.found in
      record {
        method = ready.next.method;
        found = ready.next.found;
        insn = insn;
        size = ready.next.size;
        there = ready.next.there;
        inside = omega (arith, here.inside refl, grammar.code_fits);
      }

  youngest_is : youngest_frame old.region ≡ shown_frame shown.image shown.naming ready.next.frame
  youngest_is = ap youngest_frame (was shown old old insn (ready.next.frame.pc + ready.next.size) (step_of shown old insn ready))

  pub in_code : IsInCode shown.image (youngest_frame old.region)
  in_code = subst (IsInCode shown.image) (sym youngest_is) own_code

  pub behind_call : behind shown.image (youngest_frame old.region) ≡ ready.next.frame.pc + ready.next.size
  behind_call = ap (behind shown.image) youngest_is ∙ behind_is shown.image (shown_frame shown.image shown.naming ready.next.frame) own_code
