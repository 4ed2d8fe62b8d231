use Rattle.std.proofs.Common.{◌≡◌, ◌≢◌, ◌<◌, ℕ, List, ◌∷◌, ◌∙◌, sym, ap, subst, refl, arith, inr, Option, Some, None, drop, get_or, length}
use Rattle.std.specs.List.{Contains}
use Rattle.std.proofs.lemmas.List.{get_or_default}
use Rattle.std.proofs.lemmas.Option.{none-some}
use Rattle.image_instr.specs.declared.insn.MInsn.{MInsn}
use Rattle.image_instr.specs.Reading.{Found, insn_at}
use Rattle.image_check.specs.declared.depth.Depth.{Depth as Stored}
use Rattle.image_check.specs.Visits.{successors, suffix, moved_by}
use Rattle.image_check.specs.Table.{Table, as_depth, Has, stored}
use Rattle.image_check.specs.Flow.{IsSpreadAll, HasOtherAmong}
use Rattle.image_check.proofs.Passing.{yes, no}
use Rattle.image_check.proofs.Flowing.{visit-flow}
use Rattle.image_check.proofs.Reaching.{start_found, successors_within}
use Rattle.image_check.proofs.Spreading.{has_within}
use Rattle.image_check.proofs.flow.step.Goals as goal

-- the offset is the first of the work list
first : (pc : ℕ) (work : List ℕ) → Contains (pc ∷ work) pc
first pc work = (0, omega arith, refl)

-- what is read in the table is the depth at the offset
read_has : (table : Table) (pc at : ℕ) (d : Stored) (read : Option Stored) → pc < length table → at ≡ pc → read ≡ get_or table at read → read ≡ Some d → Has table pc (as_depth d)
read_has table pc at d read within same is e = sym (get_or_default table pc read None within) ∙ ap (λ i. get_or table i read) (sym same) ∙ sym is ∙ e

-- what is decoded is the instruction at the offset
read_found : (code shown : List ℕ) (pc at : ℕ) (insn : MInsn) (size : ℕ) (read : Found) → shown ≡ code → at ≡ pc → read ≡ insn_at (drop at shown) → read ≡ Some (insn, size) → insn_at (drop pc code) ≡ Some (insn, size)
read_found code shown pc at insn size read same place is e =
    ap (λ (l : List ℕ). insn_at (drop pc l)) (sym same) ∙ ap (λ (n : ℕ). insn_at (drop n shown)) (sym place) ∙ sym is ∙ e

pub index-requires : goal.index-requires
index-requires c =
    let table = c.args.flow.now.depths.items in
    let there = c.requires.flow.reached c.args.pc (first c.args.pc c.args.flow.now.work.items) in
    omega (arith, has_within table c.args.pc there.0 there.1, c.from.ensures, c.args.flow.now.depths.ok.0)

pub unreachable-requires : goal.unreachable-requires
unreachable-requires c =
    let table = c.args.flow.now.depths.items in
    let there = c.requires.flow.reached c.args.pc (first c.args.pc c.args.flow.now.work.items) in
    let within = has_within table c.args.pc there.0 there.1 in
    none-some (stored there.0)
    (sym c.in_default.is ∙ c.index.ensures ∙ ap (λ i. get_or table i c.index.result.now) c.from.ensures ∙ get_or_default table c.args.pc c.index.result.now None within ∙ there.1)

pub unreachable-requires-in_default-decode_at : goal.unreachable-requires-in_default-decode_at
unreachable-requires-in_default-decode_at c =
    let code = c.args.method.now.code in
    let there = c.requires.flow.reached c.args.pc (first c.args.pc c.args.flow.now.work.items) in
    let found = start_found code c.args.pc (c.requires.flow.starts c.args.pc there.0 there.1) in
    none-some (found.0, found.1)
    (sym c.in_default-decode_at.is ∙ c.decode_at.ensures.exact ∙ ap (λ (n : ℕ). insn_at (drop n c.as_slice-code.result.now)) c.from-2.ensures ∙ ap (λ (l : List ℕ). insn_at (drop c.args.pc l)) c.as_slice-code.ensures ∙ found.2)

pub visit-requires-clause-sent : goal.visit-requires-clause-sent
visit-requires-clause-sent c =
    let table = c.args.flow.now.depths.items in
    let there = c.requires.flow.reached c.args.pc (first c.args.pc c.args.flow.now.work.items) in
    let within = has_within table c.args.pc there.0 there.1 in
    let has = read_has table c.args.pc c.from.result c.in-Some.d c.index.result.now within c.from.ensures c.index.ensures c.in-Some.is in
    c.requires.flow.sent c.args.pc (as_depth c.in-Some.d) has

pub send_all-requires-clause-within : goal.send_all-requires-clause-within
send_all-requires-clause-within c =
    let code = c.args.method.now.code in
    let shown = c.as_slice-code.result.now in
    let pc = c.args.pc in
    let table = c.args.flow.now.depths.items in
    let work = c.args.flow.now.work.items in
    let d = as_depth c.in-Some.d in
    let insn = c.in-Some-decode_at.insn in
    let size = c.in-Some-decode_at.size in
    let there = c.requires.flow.reached pc (first pc work) in
    let within = has_within table pc there.0 there.1 in
    let has = read_has table c.args.pc c.from.result c.in-Some.d c.index.result.now within c.from.ensures c.index.ensures c.in-Some.is in
    let found = read_found code shown pc c.from-2.result insn size c.decode_at.result c.as_slice-code.ensures c.from-2.ensures c.decode_at.ensures.exact c.in-Some-decode_at.is in
    let visited = c.in-Ok.ensures.visited in
    rw c.as_slice-code.ensures (successors_within code pc insn size (length table) c.requires.well (c.requires.flow.starts pc d has) found visited.inside c.requires.flow.size)

pub returns-then-not-branch-clause-refused : goal.returns-then-not-branch-clause-refused
returns-then-not-branch-clause-refused c =
    let code = c.args.method.now.code in
    let shown = c.as_slice-code.result.now in
    let pc = c.args.pc in
    let table = c.args.flow.now.depths.items in
    let work = c.args.flow.now.work.items in
    let d = as_depth c.in-Some.d in
    let insn = c.in-Some-decode_at.insn in
    let size = c.in-Some-decode_at.size in
    let there = c.requires.flow.reached pc (first pc work) in
    let within = has_within table pc there.0 there.1 in
    let has = read_has table c.args.pc c.from.result c.in-Some.d c.index.result.now within c.from.ensures c.index.ensures c.in-Some.is in
    let found = read_found code shown pc c.from-2.result insn size c.decode_at.result c.as_slice-code.ensures c.from-2.ensures c.decode_at.ensures.exact c.in-Some-decode_at.is in
    let visited = c.in-Ok.ensures.visited in
    let after = as_depth c.in-Ok.depth in
    let later = c.send_all.new.flow.depths.items in
    let pending = c.send_all.new.flow.work.items in
    let targets = successors shown pc insn size in
    let answer = c.in_ok-send_all.ensures.sent in
    let other = no c.in_ok-send_all.field-0 (IsSpreadAll targets after table work later pending) (HasOtherAmong targets after table) c.if-not-branch.true answer in
    let differ : other.other.0 ≢ suffix (moved_by c.args.image.now insn) d = λ same. other.other.2 (same ∙ sym visited.after_is) in
    inr (record {
      d = d;
      sent = c.requires.flow.sent pc d has;
      insn = insn;
      size = size;
      found = found;
      fails = inr (inr (record {
        to = other.to;
        other = other.other.0;
        successor = subst (λ (l : List ℕ). Contains (successors l pc insn size) other.to) c.as_slice-code.ensures other.place;
        operands = visited.operands;
        sent = c.requires.flow.sent other.to other.other.0 other.other.1;
        differ = differ;
      }));
    })

pub returns-clause-kept : goal.returns-clause-kept
returns-clause-kept c =
    let code = c.args.method.now.code in
    let shown = c.as_slice-code.result.now in
    let pc = c.args.pc in
    let table = c.args.flow.now.depths.items in
    let work = c.args.flow.now.work.items in
    let d = as_depth c.in-Some.d in
    let insn = c.in-Some-decode_at.insn in
    let size = c.in-Some-decode_at.size in
    let there = c.requires.flow.reached pc (first pc work) in
    let within = has_within table pc there.0 there.1 in
    let has = read_has table c.args.pc c.from.result c.in-Some.d c.index.result.now within c.from.ensures c.index.ensures c.in-Some.is in
    let found = read_found code shown pc c.from-2.result insn size c.decode_at.result c.as_slice-code.ensures c.from-2.ensures c.decode_at.ensures.exact c.in-Some-decode_at.is in
    let visited = c.in-Ok.ensures.visited in
    let after = as_depth c.in-Ok.depth in
    let later = c.send_all.new.flow.depths.items in
    let pending = c.send_all.new.flow.work.items in
    let targets = successors shown pc insn size in
    let answer = c.in_ok-send_all.ensures.sent in
    let all = yes c.in_ok-send_all.field-0 (IsSpreadAll targets after table work later pending) (HasOtherAmong targets after table) c.if-not-branch.false answer in
    visit-flow c.args.image.now c.args.method.now table work pc c.requires.flow d has insn size found after visited later pending
    (subst (λ (l : List ℕ). IsSpreadAll (successors l pc insn size) after table work later pending) c.as_slice-code.ensures all) c.requires.well
