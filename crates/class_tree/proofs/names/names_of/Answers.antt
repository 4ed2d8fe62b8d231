use Rattle.std.proofs.Common.{ℕ, List, [], ◌∷◌, ◌++◌, map, take, sym, ◌∙◌, ap, inl, inr}
use Rattle.std.proofs.lemmas.List.{map-append}
use Rattle.class_tree.specs.Set.{own_name}
use Rattle.class_tree.specs.Names.{fault_after, name_fault}
use Rattle.class_tree.proofs.tables.Scans.{scan_more, scan_here, scan_end, taken}
use Rattle.class_tree.proofs.names.names_of.Goals as goal

pub returns-in-Err-clause-refused : goal.returns-in-Err-clause-refused
returns-in-Err-clause-refused c =
    let files = c.args.files.now in
    let class = c.index-files-file.result in
    let named = ap (λ (names : List (List ℕ)). fault_after names c.loop-file.file (own_name class)) (sym c.loop-file.invariant.named) in
    elim (c.in-Err.ensures.refused) [
      | inl memory ↦ inl memory
      | inr fault ↦ inr (sym c.loop-file.invariant.scanned ∙ scan_here (name_fault files) files c.loop-file.file class c.in-Err.why c.loop-file-test.true c.index-files-file.is (named ∙ fault))
    ]

pub loop-file-preserved : goal.loop-file-preserved
loop-file-preserved c =
    let files = c.args.files.now in
    let class = c.index-files-file.result in
    let named = ap (λ (names : List (List ℕ)). fault_after names c.loop-file.file (own_name class)) (sym c.loop-file.invariant.named) in
    record {
      named = c.in-Ok.ensures.added ∙ ap (λ (names : List (List ℕ)). names ++ own_name class ∷ []) c.loop-file.invariant.named
          ∙ sym (ap (map own_name) (taken files c.loop-file.file class c.loop-file-test.true c.index-files-file.is) ∙ map-append own_name (take c.loop-file.file files) (class ∷ []));
      scanned = scan_more (name_fault files) files c.loop-file.file class c.loop-file-test.true c.index-files-file.is (named ∙ c.in-Ok.ensures.passed) ∙ c.loop-file.invariant.scanned;
    }

pub returns-clause-passed : goal.returns-clause-passed
returns-clause-passed c =
    sym c.loop-file.invariant.scanned ∙ scan_end (name_fault c.args.files.now) c.args.files.now c.loop-file.file c.loop-file-test.false
