use Rattle.std.proofs.Common.{◌≡◌, false, Some, IsSome, List, ℕ, length, slice_index, refl, sym, ap, ap₂, subst, ◌∙◌, arith}
use Rattle.image_form.specs.declared.record.Method.{Method}
use Rattle.account.specs.Account.{call_need, has_room}
use Rattle.mote_stack.specs.Frames.{Stack, with_frame}
use Rattle.mote_model.specs.SplitState.{frame_cells, method_at, view_of, with_frames}
use Rattle.mote_exec.specs.Steps.{with_stack}
use Rattle.mote_call.specs.CallTurns.{stack_of}
use Rattle.mote_call.specs.Quiet.{MustDo}
use Rattle.mote_call.proofs.Calling.{callee, called_frames, cell_arguments, found, goes, is_callee, callee_grammar, ref_arguments}
use Rattle.mote_call.proofs.CalledStack.{bodies_are, body_there, has_none, has_place, in_bodies, needs, pictured_call, used}
use Rattle.mote_call.proofs.calls.call_own.Goals as goal

pub returns-then-left-eq0 : goal.returns-then-left-eq0
returns-then-left-eq0 g c =
    let old = c.args.mote.now in
    let id = c.args.method in
    let ready = c.requires.1.0 in
    let own = c.requires.1.1 in
    record {
      need = call_need (frame_cells (callee g.shown old id ready own));
      next = with_frames g.shown.state (called_frames g.shown old id ready own);
      goes = goes g.shown old id ready own;
      tick = refl;
      none = c.if-left-eq0.true;
      same = record { memory = refl; ticks = refl };
    }

pub own_method-callee-requires : goal.own_method-callee-requires
own_method-callee-requires g c =
    let id = c.args.method in
    let own = found g.shown c.args.mote.now id c.requires.1.0 c.requires.1.1 in
    subst (λ found. IsSome found) (sym (ap (λ image. method_at image id) (c.image.ensures.all ∙ sym c.requires.0) ∙ own)) refl

pub push_frame-pushed-requires-clause-method : goal.push_frame-pushed-requires-clause-method
push_frame-pushed-requires-clause-method g c =
    let old = c.args.mote.now in
    let id = c.args.method in
    let ready = c.requires.1.0 in
    let own = c.requires.1.1 in
    omega (arith, ap (λ (bodies : List ℕ). length bodies) (bodies_are g.shown old id ready own), in_bodies g.shown.image id (callee g.shown old id ready own) (found g.shown old id ready own))

pub push_frame-pushed-requires-clause-locals : goal.push_frame-pushed-requires-clause-locals
push_frame-pushed-requires-clause-locals g c =
    let old = c.args.mote.now in
    let id = c.args.method in
    let ready = c.requires.1.0 in
    let own = c.requires.1.1 in
    let method = callee g.shown old id ready own in
    let same = is_callee g.shown old id ready own c.image.result.now c.own_method-callee.result.now (c.requires.0 ∙ sym c.image.ensures.all) c.own_method-callee.ensures in
    let body : slice_index old.region.bodies id ≡ method.body = ap (λ bodies. slice_index bodies id) (bodies_are g.shown old id ready own) ∙ body_there g.shown.image id method (found g.shown old id ready own) in
    let grammar = callee_grammar g.shown old id ready own in
    omega (arith, grammar.locals_fit, body, ap (λ (method : Method). method.ref_locals) same, ap (λ (method : Method). method.cell_locals) same)

pub push_frame-pushed-requires-clause-ref_locals : goal.push_frame-pushed-requires-clause-ref_locals
push_frame-pushed-requires-clause-ref_locals g c =
    let old = c.args.mote.now in
    let id = c.args.method in
    let ready = c.requires.1.0 in
    let own = c.requires.1.1 in
    let same = is_callee g.shown old id ready own c.image.result.now c.own_method-callee.result.now (c.requires.0 ∙ sym c.image.ensures.all) c.own_method-callee.ensures in
    let grammar = callee_grammar g.shown old id ready own in
    omega (arith, c.from.ensures, grammar.refs_cover, ap (λ (method : Method). method.ref_locals) same, ap (λ (method : Method). method.sig.refs) same)

pub push_frame-pushed-requires-clause-cell_locals : goal.push_frame-pushed-requires-clause-cell_locals
push_frame-pushed-requires-clause-cell_locals g c =
    let old = c.args.mote.now in
    let id = c.args.method in
    let ready = c.requires.1.0 in
    let own = c.requires.1.1 in
    let same = is_callee g.shown old id ready own c.image.result.now c.own_method-callee.result.now (c.requires.0 ∙ sym c.image.ensures.all) c.own_method-callee.ensures in
    let grammar = callee_grammar g.shown old id ready own in
    omega (arith, grammar.cells_cover, ap (λ (method : Method). method.cell_locals) same, ap (λ (method : Method). method.sig.cells) same)

pub push_frame-pushed-requires-clause-ref_args : goal.push_frame-pushed-requires-clause-ref_args
push_frame-pushed-requires-clause-ref_args g c =
    let old = c.args.mote.now in
    let id = c.args.method in
    let ready = c.requires.1.0 in
    let own = c.requires.1.1 in
    let same = is_callee g.shown old id ready own c.image.result.now c.own_method-callee.result.now (c.requires.0 ∙ sym c.image.ensures.all) c.own_method-callee.ensures in
    omega (arith, c.from.ensures, ref_arguments g.shown old id ready own, ap (λ (method : Method). method.sig.refs) same)

pub push_frame-pushed-requires-clause-cell_args : goal.push_frame-pushed-requires-clause-cell_args
push_frame-pushed-requires-clause-cell_args g c =
    let old = c.args.mote.now in
    let id = c.args.method in
    let ready = c.requires.1.0 in
    let own = c.requires.1.1 in
    let same = is_callee g.shown old id ready own c.image.result.now c.own_method-callee.result.now (c.requires.0 ∙ sym c.image.ensures.all) c.own_method-callee.ensures in
    omega (arith, cell_arguments g.shown old id ready own, ap (λ (method : Method). method.sig.cells) same)

pub returns-in-Ok : goal.returns-in-Ok
returns-in-Ok g c =
    let old = c.args.mote.now in
    let id = c.args.method in
    let ready = c.requires.1.0 in
    let own = c.requires.1.1 in
    let method = callee g.shown old id ready own in
    let same = is_callee g.shown old id ready own c.image.result.now c.own_method-callee.result.now (c.requires.0 ∙ sym c.image.ensures.all) c.own_method-callee.ensures in
    let pushed : Method → ℕ → Stack = λ method refs. with_frame old.region id method.ref_locals method.cell_locals refs method.sig.cells in
    let refs = c.from.ensures ∙ ap (λ (method : Method). method.sig.refs) same in
    record {
      need = call_need (frame_cells method);
      next = with_frames g.shown.state (called_frames g.shown old id ready own);
      goes = goes g.shown old id ready own;
      places_nothing = refl;
      fits = has_place g.shown old id ready own c.in-Ok.ensures.0;
      tick = omega (arith, c.if-left-eq0.false);
      pictures = pictured_call g.shown old id ready own c.push_frame-pushed.new.self (c.in-Ok.ensures.1 ∙ ap₂ pushed same refs);
      collections = refl;
    }

pub returns-in-Err : goal.returns-in-Err
returns-in-Err g c =
    let old = c.args.mote.now in
    let id = c.args.method in
    let ready = c.requires.1.0 in
    let own = c.requires.1.1 in
    let cells : c.in-Err.why.need ≡ frame_cells (callee g.shown old id ready own) = ap (λ why. why.need) c.in-Err.ensures.1 ∙ needs g.shown old id ready own in
    let next = with_frames g.shown.state (called_frames g.shown old id ready own) in
    record {
      next = next;
      goes = subst (λ cells. MustDo g.shown (call_need cells) next) (sym cells) (goes g.shown old id ready own);
      there = omega (arith, c.if-left-eq0.false);
      lacks = subst (λ cells. has_room (stack_of g.shown.size) (view_of g.shown.image g.shown.state) (Some cells) ≡ false) (sym cells) (has_none g.shown old id ready own c.in-Err.ensures.0);
      used_is = ap (λ why. why.used) c.in-Err.ensures.1 ∙ used g.shown old id ready own;
      same = record { memory = ap (with_stack old) c.in-Err.ensures.2; ticks = refl };
    }
