-- What the code of a method has at the machine instructions that follow one another in it, and where control goes from each.
use Rattle.std.proofs.Common.{◌≡◌, ℕ, ◌+◌, ◌<◌, true, List, [], ◌∷◌, ◌++◌, length, drop, Some, sym, ap, subst, ◌∙◌, arith, length-append, length-drop}
use Rattle.std.specs.List.{AllByRecursion}
use Rattle.image_instr.specs.declared.insn.MInsn.{MInsn}
use Rattle.image_instr.specs.declared.insn.SwitchRow.{SwitchRow}
use Rattle.image_instr.specs.Insn.{insn_bytes}
use Rattle.image_instr.specs.Reading.{insn_at, rows_at}
use Rattle.image_instr.proofs.encoding.Again.{insn_at-again}
use Rattle.image_instr.proofs.encoding.EncodingIsInjective.{rows_are}
use Rattle.image_form.specs.declared.record.Image.{Image}
use Rattle.image_form.specs.declared.record.Method.{Method}
use Rattle.image_check.specs.Code.{targets}
use Rattle.image_check.specs.Visits.{Depth, HasOperands, ReturnsResult, goes_on, moved_by, suffix}
use Rattle.jvm_model.specs.ImageExpansion.{Emitted, bytes_of}
use Rattle.match_code.specs.Standing.{IsEmittedInsn}
use Rattle.match_code.proofs.CodeOrder.{some_bytes}
use Rattle.match_code.proofs.CodePoints.{holds_here, list_over, size_over}
use Rattle.image_rules.specs.Depths.{GoWell, depth_behind}
use Rattle.image_rules.proofs.BetweenInsns.{behind_one, fits_first, well_between, within_between}
use Rattle.image_rules.proofs.DepthSpots.{IsSpot}
use Rattle.image_rules.proofs.MostOperands.{Fits, StayWithin}

module _ (image : Image) (method : Method) (most : ℕ) (IsPoint : ℕ → Depth → Type 0) where
  -- machine instructions that follow one another in the code from an offset on, with a depth before the first; from each
  -- control goes to points
  pub record IsRun (at : ℕ) (d : Depth) (list : List Emitted) : Type 0 where
    pub insns : AllByRecursion IsEmittedInsn list
    pub well : GoWell image method d list
    pub within : StayWithin most image d list
    pub code : (first : List Emitted) (emitted : Emitted) (rest : List Emitted) → list ≡ first ++ emitted ∷ rest
        → (after : List ℕ) × (drop (at + length (bytes_of first)) method.code ≡ insn_bytes emitted.0 emitted.1 ++ after)
    pub points : (to : ℕ) (e : Depth) → IsSpot image at d list to e → IsPoint to e
    pub between : (first : List Emitted) (emitted next : Emitted) (rest : List Emitted) → list ≡ first ++ emitted ∷ next ∷ rest → targets emitted.0 emitted.1 ≡ []
    pub goes : (first : List Emitted) (emitted : Emitted) → list ≡ first ++ emitted ∷ [] → goes_on emitted.0 ≡ true
        → IsPoint (at + length (bytes_of list)) (depth_behind image d list)
    pub jumps : (first : List Emitted) (emitted : Emitted) → list ≡ first ++ emitted ∷ []
        → AllByRecursion (λ to. IsPoint to (depth_behind image d list)) (targets emitted.0 emitted.1)

  -- the instruction that is read at an offset, which keeps its rule at the depth, and from which control goes to points
  pub record IsRead (to : ℕ) (e : Depth) : Type 0 where
    pub insn : MInsn
    pub size : ℕ
    pub found : insn_at (drop to method.code) ≡ Some (insn, size)
    pub inside : to < length method.code
    pub operands : HasOperands (moved_by image insn) e
    pub result : ReturnsResult method insn
    pub fits : Fits most e
    pub fits_after : Fits most (suffix (moved_by image insn) e)
    pub next : goes_on insn ≡ true → IsPoint (to + size) (suffix (moved_by image insn) e)
    pub jumps : AllByRecursion (λ n. IsPoint n (suffix (moved_by image insn) e)) (targets insn (rows_at insn (drop to method.code)))

  module _ (at : ℕ) (d : Depth) (list : List Emitted) (run : IsRun at d list) (first : List Emitted) (emitted : Emitted) where
    abbrev here : ℕ
    here = at + length (bytes_of first)

    abbrev size : ℕ
    size = length (insn_bytes emitted.0 emitted.1)

    abbrev before : Depth
    before = depth_behind image d first

    abbrev after : Depth
    after = suffix (moved_by image emitted.0) before

    next_offset : list ≡ first ++ emitted ∷ [] → at + length (bytes_of list) ≡ here + size
    next_offset is = let bytes = ap (λ (l : List Emitted). length (bytes_of l)) is in omega (arith, bytes, size_over first emitted.0 emitted.1)

    last_depth : list ≡ first ++ emitted ∷ [] → depth_behind image d list ≡ after
    last_depth is = ap (depth_behind image d) is ∙ behind_one image d first emitted

    next_point : (rest : List Emitted) → list ≡ first ++ emitted ∷ rest → goes_on emitted.0 ≡ true → IsPoint (here + size) after
    next_point [] is on = subst (IsPoint (here + size)) (last_depth is) (subst (λ (n : ℕ). IsPoint n (depth_behind image d list)) (next_offset is) (run.goes first emitted is on))
    next_point (next ∷ rest) is on =
        run.points (here + size) after (record {
          first = first ++ emitted ∷ [];
          emitted = next;
          rest = rest;
          is = is ∙ list_over first emitted (next ∷ rest);
          offset = omega (arith, size_over first emitted.0 emitted.1);
          depth = sym (behind_one image d first emitted);
        })

    jump_points : (rest : List Emitted) → list ≡ first ++ emitted ∷ rest → AllByRecursion (λ n. IsPoint n after) (targets emitted.0 emitted.1)
    jump_points [] is = subst (λ (e : Depth). AllByRecursion (λ n. IsPoint n e) (targets emitted.0 emitted.1)) (last_depth is) (run.jumps first emitted is)
    jump_points (next ∷ rest) is = subst (AllByRecursion (λ n. IsPoint n after)) (sym (run.between first emitted next rest is)) tt

    read_here : (rest : List Emitted) → list ≡ first ++ emitted ∷ rest → IsRead here before
    unfolding GoWell
    read_here rest is =
        let code = run.code first emitted rest is in
        let insn = holds_here IsEmittedInsn first emitted rest (subst (AllByRecursion IsEmittedInsn) is run.insns) in
        let well = well_between image method d first (emitted ∷ rest) (subst (GoWell image method d) is run.well) in
        let within = within_between most image d first (emitted ∷ rest) (subst (StayWithin most image d) is run.within) in
        let rows : emitted.1 ≡ rows_at emitted.0 (drop here method.code) = rows_are emitted.0 emitted.1 code.0 insn ∙ ap (rows_at emitted.0) (sym code.1) in
        let bytes : length (drop here method.code) ≡ length (insn_bytes emitted.0 emitted.1 ++ code.0) = ap (λ (l : List ℕ). length l) code.1 in
        record {
          insn = emitted.0;
          size = size;
          found = ap insn_at code.1 ∙ insn_at-again emitted.0 emitted.1 code.0 insn;
          inside = omega (arith, bytes, length-append (insn_bytes emitted.0 emitted.1) code.0, length-drop here method.code, some_bytes emitted.0 emitted.1 insn);
          operands = well.0;
          result = well.1;
          fits = within.0;
          fits_after = fits_first most image after rest within.1;
          next = next_point rest is;
          jumps = subst (λ (r : List SwitchRow). AllByRecursion (λ n. IsPoint n after) (targets emitted.0 r)) rows (jump_points rest is);
        }

  -- the instruction at each of them
  pub read_spot : (at : ℕ) (d : Depth) (list : List Emitted) → IsRun at d list → (to : ℕ) (e : Depth) → IsSpot image at d list to e → IsRead to e
  read_spot at d list run to e spot =
      let read = read_here at d list run spot.first spot.emitted spot.rest spot.is in
      subst (IsRead to) (sym spot.depth) (subst (λ (n : ℕ). IsRead n (depth_behind image d spot.first)) (sym spot.offset) read)
