-- Rules by which operands move on the stack as they are.
use Rattle.std.proofs.Common.{◌≡◌, ℕ, List, [], ◌∷◌, Some, subst}
use Rattle.std.specs.List.{AllByRecursion, AllZip}
use Rattle.std.proofs.lemmas.Option.{same_Some}
use Rattle.class_file.specs.declared.record.ClassFile.{ClassFile}
use Rattle.insn_form.specs.declared.StackForm.{StackForm}
use Rattle.insn_form.specs.declared.StackForm.TheVariants.{Pop, Pop2, Dup, DupX1, DupX2, Dup2, Dup2X1, Dup2X2, Swap}
use Rattle.body_form.specs.declared.types.VFrame.{VFrame}
use Rattle.body_form.specs.declared.types.VType.{VType}
use Rattle.class_tree.specs.MergeLaws.{IsKnown}
use Rattle.jvm_model.specs.TypesFrames.{IsKnownFrame}
use Rattle.jvm_model.specs.TypesRules.{Change, changed, moves, restack}
use Rattle.type_order.proofs.families.Pairs.{IsOperandPair, ArePaired}
use Rattle.type_order.proofs.families.Moves.{StepsTo, IsRule, moved, moved_known, moved_step}

-- lists of one length, to be taken apart together
data Zipped (R : VType → VType → Type 0) : List VType → List VType → Type 0 where
  Empty : Zipped R [] []
  More : {u l : VType} {us ls : List VType} → R u l → Zipped R us ls → Zipped R (u ∷ us) (l ∷ ls)

zipped : (R : VType → VType → Type 0) (us ls : List VType) → AllZip R us ls → Zipped R us ls
zipped R [] [] zip = Empty
zipped R [] (l ∷ ls) zip = absurd zip
zipped R (u ∷ us) [] zip = absurd zip
zipped R (u ∷ us) (l ∷ ls) zip = More zip.0 (zipped R us ls zip.1)

module _ (files : List ClassFile) where
  -- ---- types of the set

  module _ (frame : VFrame) (known : IsKnownFrame files frame) where
    abbrev AreKnown : List VType → Type 0
    AreKnown types = AllByRecursion (IsKnown files) types

    moves_known : (pops : ℕ) (pushes : List VType) (change : Change) → AreKnown pushes → moves frame pops pushes ≡ Some change → IsKnownFrame files (changed change frame)
    moves_known pops pushes change pushed e = subst (λ c. IsKnownFrame files (changed c frame)) (same_Some (moved files pops pushes frame) change e) (moved_known files pops pushes frame pushed known)

    restack_known : (form : StackForm) (stack : List VType) → AreKnown stack → (change : Change) → restack frame form stack ≡ Some change → IsKnownFrame files (changed change frame)
    restack_known Pop (a ∷ rest) all change e = moves_known 1 [] change tt e
    restack_known Pop2 (a ∷ b ∷ rest) all change e = moves_known 2 [] change tt e
    restack_known Dup (a ∷ rest) all change e = moves_known 1 (a ∷ a ∷ []) change (all.0, (all.0, tt)) e
    restack_known DupX1 (a ∷ b ∷ rest) all change e = moves_known 2 (a ∷ b ∷ a ∷ []) change (all.0, (all.1.0, (all.0, tt))) e
    restack_known DupX2 (a ∷ b ∷ c ∷ rest) all change e = moves_known 3 (a ∷ b ∷ c ∷ a ∷ []) change (all.0, (all.1.0, (all.1.1.0, (all.0, tt)))) e
    restack_known Dup2 (a ∷ b ∷ rest) all change e = moves_known 2 (a ∷ b ∷ a ∷ b ∷ []) change (all.0, (all.1.0, (all.0, (all.1.0, tt)))) e
    restack_known Dup2X1 (a ∷ b ∷ c ∷ rest) all change e =
        moves_known 3 (a ∷ b ∷ c ∷ a ∷ b ∷ []) change (all.0, (all.1.0, (all.1.1.0, (all.0, (all.1.0, tt))))) e
    restack_known Dup2X2 (a ∷ b ∷ c ∷ d ∷ rest) all change e =
        moves_known 4 (a ∷ b ∷ c ∷ d ∷ a ∷ b ∷ []) change (all.0, (all.1.0, (all.1.1.0, (all.1.1.1.0, (all.0, (all.1.0, tt)))))) e
    restack_known Swap (a ∷ b ∷ rest) all change e = moves_known 2 (b ∷ a ∷ []) change (all.1.0, (all.0, tt)) e
    restack_known form stack all change e = cc

  -- ---- below

  module _ (upper lower : VFrame) (pairs : ArePaired files upper lower) where
    abbrev R : VType → VType → Type 0
    R = IsOperandPair files lower.pending

    moves_step : (pops : ℕ) (ps qs : List VType) (change : Change) → AllZip R ps qs → moves upper pops ps ≡ Some change → StepsTo files (moves lower pops qs) (changed change upper) lower
    moves_step pops ps qs change pushed e =
        subst (λ c. StepsTo files (moves lower pops qs) (changed c upper) lower) (same_Some (moved files pops ps upper) change e) (moved_step files upper lower pairs pops ps qs pushed)

    restack_step : (form : StackForm) (us ls : List VType) → Zipped R us ls → (change : Change) → restack upper form us ≡ Some change → StepsTo files (restack lower form ls) (changed change upper) lower
    restack_step Pop us ls (More a rest) change e = moves_step 1 [] [] change tt e
    restack_step Pop2 us ls (More a (More b rest)) change e = moves_step 2 [] [] change tt e
    restack_step Dup us ls (More a rest) change e = moves_step 1 _ _ change (a, (a, tt)) e
    restack_step DupX1 us ls (More a (More b rest)) change e = moves_step 2 _ _ change (a, (b, (a, tt))) e
    restack_step DupX2 us ls (More a (More b (More c rest))) change e = moves_step 3 _ _ change (a, (b, (c, (a, tt)))) e
    restack_step Dup2 us ls (More a (More b rest)) change e = moves_step 2 _ _ change (a, (b, (a, (b, tt)))) e
    restack_step Dup2X1 us ls (More a (More b (More c rest))) change e = moves_step 3 _ _ change (a, (b, (c, (a, (b, tt))))) e
    restack_step Dup2X2 us ls (More a (More b (More c (More d rest)))) change e = moves_step 4 _ _ change (a, (b, (c, (d, (a, (b, tt)))))) e
    restack_step Swap us ls (More a (More b rest)) change e = moves_step 2 _ _ change (b, (a, tt)) e
    restack_step form us ls zip change e = cc

  pub restack_rule : (form : StackForm) → IsRule files (λ frame. restack frame form frame.stack)
  restack_rule form =
      record {
        known = λ frame change known e. restack_known frame known form frame.stack known.stack change e;
        step = λ upper lower change pairs e.
            restack_step upper lower pairs form upper.stack lower.stack (zipped (IsOperandPair files lower.pending) upper.stack lower.stack pairs.stack) change e;
      }
