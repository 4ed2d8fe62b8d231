-- The files that pass the phases up to that of types are linked, and others are not.
use Rattle.std.proofs.Common.{◌≡◌, inl, inr, ℕ, suc, List, [], ◌∷◌, length, Option, Some, None, is_some, option_map, option_and_then, Result, Ok, Err, refl, sym, ap, subst, ◌∙◌}
use Rattle.std.specs.Prelude.{if◌then◌else◌}
use Rattle.std.proofs.lemmas.Option.{none-some}
use Rattle.class_pool.specs.declared.types.MemberId.{MemberId}
use Rattle.class_file.specs.declared.record.ClassFile.{ClassFile}
use Rattle.class_file.specs.declared.refusal.ReadRefusal.{ReadRefusal}
use Rattle.class_file.specs.ReadingClass.{class_of}
use Rattle.class_tree.specs.Tree.{Gathers}
use Rattle.jvm_model.specs.declared.refusal.Cause.TheVariants as cause
use Rattle.jvm_model.specs.declared.refusal.Refusal.{Refusal}
use Rattle.jvm_model.specs.Phases.{first_refusal, code_refusal, reading_refusal, record_in, unless_read, MethodCode, Reading}
use Rattle.jvm_model.specs.FirstOf.{IfThere}
use Rattle.jvm_model.specs.ClosedSet.{ClosedClasses, ClosedSet, records_of}
use Rattle.jvm_model.specs.Linking.{Linking, Members}
use Rattle.jvm_model.specs.Entry.{entry_of, refusal_by, Entering, EntryPoint}
use Rattle.jvm_model.specs.Bodies.{coded_methods}
use Rattle.jvm_model.specs.Verification.{Typing, IsClosed, Verification}
use Rattle.jvm_model.proofs.phases.ClosedSets.{closed_total, closed_unique}
use Rattle.jvm_model.proofs.phases.Decisions.{Decided, decide_both, decide_same}
use Rattle.jvm_model.proofs.phases.FirstAnswers.{IsOne, IsSome}
use Rattle.jvm_model.proofs.phases.OneLinking.{members_total, members_unique, entry_total, entry_unique}
use Rattle.type_rounds.proofs.Rounds.{quiet_is_least, failing_has_no_right, rounds_end, one_failing}
use Rattle.set_laws.proofs.CodedMethods.{methods_stand}
use Rattle.set_laws.proofs.TypedSets.{verification_total, verification_unique}
use Rattle.set_image.specs.Linked.{Linked, IsOfFiles}
use Rattle.set_verdict.proofs.ReadMethods.{records_typed}
use Rattle.set_verdict.proofs.MethodBodies.{both_none, bodies_there}
use Rattle.set_verdict.proofs.TypedCode.{code_there, code_typed, typing_of}

-- ---- the main of a set

main_there : (classes : List ClassFile) → Entering classes None → (main : MemberId) × (entry_of classes ≡ Some main)
main_there classes enters = by_entry (entry_of classes) enters
  where
    by_entry : (found : Option MemberId) → None ≡ (if is_some found then None else Some (refusal_by cause.NoMain)) → (main : MemberId) × (found ≡ Some main)
    by_entry (Some main) e = (main, refl)
    by_entry None e = absurd (none-some (refusal_by cause.NoMain) e)

-- ---- the records of files

records_there : (position : ℕ) (files : List (List ℕ)) → first_refusal reading_refusal position files ≡ None → (classes : List ClassFile) × (records_of files ≡ Some classes)
unfolding first_refusal
records_there position [] e = ([], refl)
records_there position (bytes ∷ files) e = let parts = both_none _ _ e in by_read (class_of bytes) parts.0 (records_there (suc position) files parts.1)
  where
    by_read : (read : Result ClassFile ReadRefusal) → unless_read position (length bytes) read ≡ None → (more : List ClassFile) × (records_of files ≡ Some more)
        → (classes : List ClassFile) × (option_and_then (λ file. option_map (λ more. file ∷ more) (records_of files)) (record_in read) ≡ Some classes)
    by_read (Ok file) passes more = (file ∷ more.0, ap (option_map (λ (rest : List ClassFile). file ∷ rest)) more.1)
    by_read (Err why) passes more = absurd (none-some _ (sym passes))

-- ---- linked sets

abbrev pub AreLinked : List (List ℕ) → Type 0
AreLinked files = (linked : Linked) × IsOfFiles files linked

-- the phases behind that of reading, up to that of types
abbrev pub Passes : List (List ℕ) → Type 0
Passes files = MethodCode files None × (ClosedSet files None × (Members files None × (EntryPoint files None × Verification files None)))

module _ (files : List (List ℕ)) where
  module _ (classes : List ClassFile) (records : records_of files ≡ Some classes) where
    of_classes : (Has : List ClassFile → Option Refusal → Type 0) → IfThere Has (records_of files) None → Has classes None
    of_classes Has has = subst (λ (o : Option (List ClassFile)). IfThere Has o None) records has

    of_records : (Has : List ClassFile → Option Refusal → Type 0) → Has classes None → IfThere Has (records_of files) None
    of_records Has has = subst (λ (o : Option (List ClassFile)). IfThere Has o None) (sym records) has

    linked_there : Passes files → AreLinked files
    linked_there passes =
        let closed : Gathers classes None = of_classes ClosedClasses passes.1.0 in
        let links : Linking classes None = of_classes Linking passes.1.1.0 in
        let main = main_there classes (of_classes Entering passes.1.1.1.0) in
        let types = typing_of classes closed (of_classes Typing passes.1.1.1.1) in
        let code = code_there classes closed 0 (coded_methods classes) (methods_stand classes) (bodies_there classes (records_typed files classes records) links) types in (
          record { classes = classes; code = code.0; main = main.0 },
          record {
            records = records;
            codes = passes.0;
            links = links;
            is_linked = record { closed = closed; are_bodies = code.1.0; are_typed = code.1.1; is_main = main.1 };
          },
        )

  linked_passes : AreLinked files → Passes files
  linked_passes (linked, is) =
      let set = is.is_linked in
      let enters : Entering linked.classes None = ap (λ (o : Option MemberId). if is_some o then None else Some (refusal_by cause.NoMain)) (sym set.is_main) in (
        is.codes,
        (
          of_records linked.classes is.records ClosedClasses set.closed,
          (
            of_records linked.classes is.records Linking is.links,
            (
              of_records linked.classes is.records Entering enters,
              of_records linked.classes is.records Typing (IsClosed set.closed (code_typed linked.classes 0 (coded_methods linked.classes) linked.code set.are_bodies set.are_typed)),
            ),
          ),
        ),
      )

  pub linked_of : Reading files None → Passes files → AreLinked files
  linked_of reads passes = let records = records_there 0 files reads in linked_there records.0 records.1 passes

  -- ---- whether files are linked

  decide_none : (Has : Option Refusal → Type 0) → IsSome Has → IsOne Has → Decided (Has None)
  decide_none Has (None, none) one = inl none
  decide_none Has (Some why, has) one = inr (λ none. none-some why (one None (Some why) none has))

  decide_passes : Decided (Passes files)
  decide_passes =
      decide_both (decide_none (MethodCode files) (first_refusal code_refusal 0 files, refl) (λ a b p q. sym p ∙ q))
      (decide_both (decide_none (ClosedSet files) (closed_total files) (closed_unique files))
      (decide_both (decide_none (Members files) (members_total files) (members_unique files))
      (decide_both (decide_none (EntryPoint files) (entry_total files) (entry_unique files))
      (decide_none (Verification files) (verification_total quiet_is_least failing_has_no_right rounds_end one_failing files)
      (verification_unique quiet_is_least failing_has_no_right rounds_end one_failing files)))))

  pub decide_linked : Decided (AreLinked files)
  decide_linked = by_records (records_of files) refl
    where
      by_records : (found : Option (List ClassFile)) → records_of files ≡ found → Decided (AreLinked files)
      by_records None is = inr (λ linked. none-some linked.0.classes (sym is ∙ linked.1.records))
      by_records (Some classes) is = decide_same (linked_there classes is) linked_passes decide_passes
