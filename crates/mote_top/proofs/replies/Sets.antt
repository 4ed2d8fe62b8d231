-- What runs of images and refusals are as replies of sets and of infusions.
use Rattle.std.proofs.Common.{◌≡◌, ℕ, List, Option, ◌⊎◌, inl, inr, refl, sym, ap, subst, ◌∙◌}
use Rattle.std.specs.Prelude.{Result, Ok, Err}
use Rattle.dialogue.specs.Answers.{Answers}
use Rattle.dialogue.specs.Dialogue.{Item}
use Rattle.dialogue.specs.Limits.{Limits}
use Rattle.dialogue.specs.Outcome.{Outcome}
use Rattle.image_form.specs.declared.record.Image.{Image}
use Rattle.image_form.specs.declared.refusal.FormRefusal.{FormRefusal}
use Rattle.image_form.specs.declared.refusal.FormRefusal.TheVariants.{Memory as NoFormMemory}
use Rattle.image_form.specs.Grammar.{IsEncoded}
use Rattle.image_form.specs.Reading.{image_of as read_of}
use Rattle.image_form.specs.Refused as form
use Rattle.image_form.proofs.format.Whole.{one_image, encoding_reads, refused_reads}
use Rattle.image_check.specs.declared.refusal.CheckCause.{CheckCause}
use Rattle.image_check.specs.declared.refusal.CheckCause.TheVariants.{Memory as NoCheckMemory, Unbuilt as CheckUnbuilt}
use Rattle.image_check.specs.declared.refusal.CheckRefusal.{CheckRefusal}
use Rattle.image_check.specs.Refused as check
use Rattle.image_check.proofs.Apart.{refused_not_checked}
use Rattle.jvm_model.specs.declared.refusal.Cause.{Cause}
use Rattle.jvm_model.specs.declared.refusal.Cause.TheVariants.{Memory as NoMemory}
use Rattle.jvm_model.specs.declared.refusal.Cause.TheVariants as causes
use Rattle.jvm_model.specs.declared.refusal.Refusal.{Refusal}
use Rattle.mote_model.specs.declared.ending.Ending.{Ending}
use Rattle.mote_model.specs.declared.ending.Ending.TheVariants as split
use Rattle.set_verdict.specs.Verdict.{IsImageOf, IsRefused}
use Rattle.set_outcome.specs.SetOutcome as typed
use Rattle.set_outcome.specs.RunsAlike.{SameEnding, RunsAlike}
use Rattle.set_outcome.proofs.OneOutcome.{image_run_is_one}
use Rattle.mote_top.specs.declared.status.ImageRefusal.{ImageRefusal}
use Rattle.mote_top.specs.declared.status.Status.{Status}
use Rattle.mote_top.specs.declared.status.Status.TheVariants.{Uncaught, Refused, Infusion, HeapWanted, StackWanted, Memory}
use Rattle.mote_top.specs.Endings.{typed_status, split_status, form_refusal, check_refusal}
use Rattle.mote_top.specs.Reply.{Reply, EndsAs, SetReplies, IsNoInfusion, IsInfusion, ImageEndsAs, RunsImage, InfusionReplies, left_of}
use Rattle.mote_top.specs.Answer.{IsQuiet}
use Rattle.mote_top.specs.Storing.{IsRefusedStatus}

-- ---- runs

-- the same ending has the same status
same_status : (image : Image) (a : typed.SetEnding) (b : Ending) → SameEnding image a b → split_status image b ≡ typed_status a
same_status image typed.Done split.Done same = refl
same_status image (typed.Uncaught name) (split.Uncaught class) same = ap (λ (text : List ℕ). Uncaught text) (sym same)
same_status image typed.Spent split.Spent same = refl
same_status image (typed.HeapWanted need live) (split.HeapWanted other_need other_live) same = cc_heap need live other_need other_live same.0 same.1
  where
    cc_heap : (a b c d : ℕ) → a ≡ c → b ≡ d → HeapWanted c d ≡ HeapWanted a b
    cc_heap a b c d p q = cc
same_status image (typed.StackWanted need used) (split.StackWanted other_need other_used) same = cc_stack need used other_need other_used same.0 same.1
  where
    cc_stack : (a b c d : ℕ) → a ≡ c → b ≡ d → StackWanted c d ≡ StackWanted a b
    cc_stack a b c d p q = cc
same_status image _ _ same = absurd same

-- replies that show the same are equal
abbrev made : Status → List Item → Option (List ℕ) → Reply
made status dialogue left = record { status = status; dialogue = dialogue; left = left }

same_reply : (s t : Status) (d e : List Item) (l m : Option (List ℕ)) → s ≡ t → d ≡ e → l ≡ m → made s d l ≡ made t e m
same_reply s t d e l m p q r = cc

-- the limited run of each accepted set and that of its image show the same
abbrev pub SetsRunAlike : Type 0
SetsRunAlike = (files : List (List ℕ)) (image : Image) → IsImageOf files image → (limits : Limits) (answers : Answers) → RunsAlike files image limits answers

-- a run of the image of a set ends as the run of the set
pub image_ends : SetsRunAlike → (files : List (List ℕ)) (image : Image) → IsImageOf files image → (limits : Limits) (left : Option (List ℕ)) (answers : Answers) (reply : Reply) → ImageEndsAs image limits left answers reply → EndsAs files limits left answers reply
image_ends runs_alike files image is limits left answers reply run =
    let both : RunsAlike files image limits answers = runs_alike files image is limits answers in
    let one : run.outcome ≡ both.other = image_run_is_one image limits answers run.outcome both.other run.ends both.ends_other in
    let status : split_status image run.outcome.ending ≡ typed_status both.outcome.ending = ap (λ (o : Outcome Ending). split_status image o.ending) one ∙ same_status image both.outcome.ending both.other.ending both.same.ending in
    record {
      outcome = both.outcome;
      ends = both.ends;
      is = run.is ∙ same_reply (split_status image run.outcome.ending) (typed_status both.outcome.ending) run.outcome.dialogue both.outcome.dialogue (left_of left run.outcome.left) (left_of left both.outcome.left) status (ap (λ (o : Outcome Ending). o.dialogue) one ∙ sym both.same.dialogue) (ap (left_of left) (ap (λ (o : Outcome Ending). o.left) one ∙ sym both.same.left));
    }

-- a run of the image answers for the set
pub set_runs : SetsRunAlike → (files : List (List ℕ)) (image : Image) → IsImageOf files image → (limits : Limits) (left : Option (List ℕ)) (reply : Reply) → RunsImage image limits left reply → SetReplies files limits left reply
set_runs runs_alike files image is limits left reply run =
    inl (record {
      accepted = is.accepted;
      status = run.status;
      answers = run.answers;
      may = run.may;
      ends = image_ends runs_alike files image is limits left run.answers reply run.ends;
    })

-- a run of the image answers for its infusion
pub infusion_runs : (bytes : List ℕ) (image : Image) → IsInfusion bytes image → (limits : Limits) (left : Option (List ℕ)) (reply : Reply) → RunsImage image limits left reply → InfusionReplies bytes limits left reply
infusion_runs bytes image is limits left reply run = inl (record { image = image; infusion = is; runs = run })

-- ---- refusals of sets

-- a cause is want of memory, or is not
memory_or_not : (cause : Cause) → (cause ≡ NoMemory) ⊎ (cause ≡ NoMemory → ⊥)
memory_or_not NoMemory = inl refl
memory_or_not causes.TooMany = inr (λ e. cc)
memory_or_not causes.TooLarge = inr (λ e. cc)
memory_or_not causes.NotClass = inr (λ e. cc)
memory_or_not causes.Truncated = inr (λ e. cc)
memory_or_not causes.Version = inr (λ e. cc)
memory_or_not causes.BadPool = inr (λ e. cc)
memory_or_not causes.BadDescriptor = inr (λ e. cc)
memory_or_not causes.BadShape = inr (λ e. cc)
memory_or_not causes.Trailing = inr (λ e. cc)
memory_or_not causes.Unsupported = inr (λ e. cc)
memory_or_not causes.BadCode = inr (λ e. cc)
memory_or_not causes.Duplicate = inr (λ e. cc)
memory_or_not causes.Reserved = inr (λ e. cc)
memory_or_not causes.MissingClass = inr (λ e. cc)
memory_or_not causes.BadSuper = inr (λ e. cc)
memory_or_not causes.Circular = inr (λ e. cc)
memory_or_not causes.WideType = inr (λ e. cc)
memory_or_not causes.BadOverride = inr (λ e. cc)
memory_or_not causes.MissingBody = inr (λ e. cc)
memory_or_not causes.BadInitialiser = inr (λ e. cc)
memory_or_not causes.Unresolved = inr (λ e. cc)
memory_or_not causes.WrongKind = inr (λ e. cc)
memory_or_not causes.Denied = inr (λ e. cc)
memory_or_not causes.NoMain = inr (λ e. cc)
memory_or_not causes.Unverified = inr (λ e. cc)
memory_or_not causes.Unbuilt = inr (λ e. cc)
memory_or_not causes.FrameTooLarge = inr (λ e. cc)
memory_or_not causes.CodeTooLong = inr (λ e. cc)

-- the status of a refusal
pub refused_status : (files : List (List ℕ)) (why : Refusal) (status : Status) → (why.cause ≡ NoMemory → status ≡ Memory) → ((why.cause ≡ NoMemory → ⊥) → status ≡ Refused why)
    → (why.cause ≡ NoMemory) ⊎ IsRefused files why → IsRefusedStatus files status
refused_status files why status memory other (inl is) = subst (IsRefusedStatus files) (sym (memory is)) tt
refused_status files why status memory other (inr refused) =
    elim (memory_or_not why.cause) [
      | inl is ↦ subst (IsRefusedStatus files) (sym (memory is)) tt
      | inr not ↦ subst (IsRefusedStatus files) (sym (other not)) refused
    ]

-- a refused set answers quietly
pub refused_may : (files : List (List ℕ)) (limits : Limits) (status : Status) → IsRefusedStatus files status → IsQuiet (λ console reply. SetReplies files limits console.left reply) status
refused_may files limits Memory is = tt
refused_may files limits (Refused refusal) is = λ console. inr (record { refusal = refusal; refused = is; is = refl })
refused_may files limits _ is = absurd is

-- ---- refusals of infusions

abbrev pub InfusionQuiet : List ℕ → Limits → Status → Type 0
InfusionQuiet bytes limits status = IsQuiet (λ console reply. InfusionReplies bytes limits console.left reply) status

no_infusion : (bytes : List ℕ) (limits : Limits) (refusal : ImageRefusal) → IsNoInfusion bytes refusal → InfusionQuiet bytes limits (Infusion refusal)
no_infusion bytes limits refusal none = λ console. inr (record { refusal = refusal; none = none; is = refl })

no_form_memory : (bytes : List ℕ) (why : FormRefusal) → form.IsRefused bytes why → why ≡ NoFormMemory → ⊥
no_form_memory bytes why refused is = let here : form.IsRefused bytes NoFormMemory = subst (form.IsRefused bytes) is refused in here

-- bytes whose form is refused answer quietly
pub form_may : (bytes : List ℕ) (limits : Limits) (why : FormRefusal) (status : Status) → (why ≡ NoFormMemory → status ≡ Memory) → ((why ≡ NoFormMemory → ⊥) → status ≡ Infusion (form_refusal why))
    → (why ≡ NoFormMemory) ⊎ form.IsRefused bytes why → InfusionQuiet bytes limits status
form_may bytes limits why status memory other (inl is) = subst (InfusionQuiet bytes limits) (sym (memory is)) tt
form_may bytes limits why status memory other (inr refused) =
    subst (InfusionQuiet bytes limits) (sym (other (no_form_memory bytes why refused))) (no_infusion bytes limits (form_refusal why) (inl (record { why = why; refused = refused; is = refl })))

unbuilt_is : CheckUnbuilt ≡ NoCheckMemory → ⊥
unbuilt_is e = cc

no_check_memory : (image : Image) (why : CheckRefusal) → check.IsRefused image why → why.cause ≡ NoCheckMemory → ⊥
no_check_memory image why (inl none) is = unbuilt_is (sym (ap (λ (r : CheckRefusal). r.cause) none.is) ∙ is)
no_check_memory image why (inr (inl refused)) is = let here : check.FailsIn image refused.method NoCheckMemory why.pc = subst (λ (c : CheckCause). check.FailsIn image refused.method c why.pc) is refused.fails in here
no_check_memory image why (inr (inr unbuilt)) is = unbuilt_is (sym unbuilt.cause ∙ is)

-- an infusion whose check fails answers quietly
pub check_may : (bytes : List ℕ) (limits : Limits) (image : Image) → IsEncoded bytes image → (why : CheckRefusal) (status : Status) → (why.cause ≡ NoCheckMemory → status ≡ Memory) → ((why.cause ≡ NoCheckMemory → ⊥) → status ≡ Infusion (check_refusal why))
    → (why.cause ≡ NoCheckMemory) ⊎ check.IsRefused image why → InfusionQuiet bytes limits status
check_may bytes limits image encoded why status memory other (inl is) = subst (InfusionQuiet bytes limits) (sym (memory is)) tt
check_may bytes limits image encoded why status memory other (inr refused) =
    subst (InfusionQuiet bytes limits) (sym (other (no_check_memory image why refused))) (no_infusion bytes limits (check_refusal why) (inr (record { image = image; why = why; encoded = encoded; refused = refused; is = refl })))

-- ---- infusions are one or none

ok_or_err : (read : Result Image FormRefusal) (image : Image) (why : FormRefusal) → read ≡ Ok image → read ≡ Err why → ⊥
ok_or_err read image why found refused = cc

-- what is encoded is not refused
encoded_or_refused : (bytes : List ℕ) (image : Image) (why : FormRefusal) → IsEncoded bytes image → form.IsRefused bytes why → ⊥
encoded_or_refused bytes image why encoded refused = ok_or_err (read_of bytes) image why (encoding_reads bytes image encoded) (refused_reads bytes why refused)

-- a checked infusion is one
pub infusion_is_one : (bytes : List ℕ) (image : Image) → IsInfusion bytes image → (refusal : ImageRefusal) → IsNoInfusion bytes refusal → ⊥
infusion_is_one bytes image is refusal (inl form) = encoded_or_refused bytes image form.why is.encoded form.refused
infusion_is_one bytes image is refusal (inr fails) =
    let same : fails.image ≡ image = one_image bytes fails.image image fails.encoded is.encoded in
    refused_not_checked image fails.why (subst (λ (i : Image). check.IsRefused i fails.why) same fails.refused) is.checked is.built
