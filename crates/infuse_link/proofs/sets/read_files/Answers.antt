use Rattle.std.proofs.Common.{Vec, Global, ◌≡◌, inl, inr, ℕ, ◌+◌, ◌<◌, length, List, [], ◌∷◌, ◌++◌, take, map, get_or, sym, ap, ◌∙◌, subst, add-one}
use Rattle.std.proofs.Math.Seq.{take-suc}
use Rattle.std.specs.List.{AllByRecursion}
use Rattle.byte_read.specs.Bytes.{AreBytes}
use Rattle.type_rounds.proofs.tables.Lists.{all_append}
use Rattle.class_file.specs.Relation.{IsClassFile}
use Rattle.jvm_model.specs.Phases.{reading_refusal}
use Rattle.infuse_link.specs.Sets.{AreRead}
use Rattle.infuse_link.proofs.Scans.{scan_more, scan_here, seen_at, seen_within}
use Rattle.infuse_link.proofs.ReadSets.{one_more, read_passes}
use Rattle.infuse_link.proofs.sets.read_files.Goals as goal

abbrev bytes_of : Vec ℕ Global → List ℕ
bytes_of v = v.items

-- the items up to a place, and the one there
taken_more : (xs : List (List ℕ)) (i : ℕ) (x : List ℕ) → i < length xs → x ≡ get_or xs i x → take (i + 1) xs ≡ take i xs ++ x ∷ []
taken_more xs i x lt is = ap (λ n. take n xs) (add-one i) ∙ take-suc xs i x lt ∙ ap (λ (y : List ℕ). take i xs ++ y ∷ []) (sym is)

pub returns-in-Err-clause-refused : goal.returns-in-Err-clause-refused
returns-in-Err-clause-refused c =
    let files = c.args.files.now in
    let file = c.index-files-place.result in
    let i = c.loop-place.place in
    elim c.in-Err.ensures.refused [
      | inl memory ↦ inl memory
      | inr e ↦
          inr (sym c.loop-place.invariant.left
          ∙ scan_here reading_refusal (map bytes_of files) i file.items c.in-Err.why (seen_within bytes_of files i c.loop-place-test.true) (seen_at bytes_of files i file c.loop-place-test.true c.index-files-place.is) (ap (reading_refusal i) (sym c.as_slice.ensures.value) ∙ e))
    ]

pub loop-place-preserved : goal.loop-place-preserved
loop-place-preserved c =
    let files = c.args.files.now in
    let all = map bytes_of files in
    let file = c.index-files-place.result in
    let i = c.loop-place.place in
    let within = seen_within bytes_of files i c.loop-place-test.true in
    let is = seen_at bytes_of files i file c.loop-place-test.true c.index-files-place.is in
    let read : IsClassFile file.items c.in-Ok.class = subst (λ (bytes : List ℕ). IsClassFile bytes c.in-Ok.class) c.as_slice.ensures.value c.in-Ok.ensures.read in
    let classes = c.in-Ok-push.ensures.items in
    let more = one_more (take i all) c.loop-place.classes.items file.items c.in-Ok.class c.loop-place.invariant.so_far read in
    let bytes : AreBytes file.items = subst AreBytes c.as_slice.ensures.value c.in-Ok.ensures.bytes in
    record {
      bytes = subst (AllByRecursion AreBytes) (sym (taken_more all i file.items within is)) (all_append AreBytes (take i all) (file.items ∷ []) c.loop-place.invariant.bytes (bytes, tt));
      so_far = subst (AreRead (take (i + 1) all)) (sym classes) (subst (λ (fs : List (List ℕ)). AreRead fs (c.loop-place.classes.items ++ c.in-Ok.class ∷ [])) (sym (taken_more all i file.items within is)) more);
      left = scan_more reading_refusal all i file.items within is (read_passes i file.items c.in-Ok.class read) ∙ c.loop-place.invariant.left;
    }
