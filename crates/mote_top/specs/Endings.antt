-- The statuses of endings and of refusals.
use Rattle.std.specs.Prelude.{ℕ}
use Rattle.image_form.specs.declared.record.Image.{Image}
use Rattle.image_form.specs.declared.refusal.FormRefusal.{FormRefusal}
use Rattle.image_form.specs.declared.refusal.FormRefusal.TheVariants as form
use Rattle.image_form.specs.Library.{name_of}
use Rattle.image_check.specs.declared.refusal.CheckCause.{CheckCause}
use Rattle.image_check.specs.declared.refusal.CheckCause.TheVariants as check
use Rattle.image_check.specs.declared.refusal.CheckRefusal.{CheckRefusal}
use Rattle.mote_model.specs.declared.ending.Ending.{Ending}
use Rattle.mote_model.specs.declared.ending.Ending.TheVariants as split
use Rattle.set_outcome.specs.SetOutcome as typed
use Rattle.mote_top.specs.declared.status.ImageCause.{ImageCause}
use Rattle.mote_top.specs.declared.status.ImageCause.TheVariants as image
use Rattle.mote_top.specs.declared.status.ImageRefusal.{ImageRefusal}
use Rattle.mote_top.specs.declared.status.Status.{Status}
use Rattle.mote_top.specs.declared.status.Status.TheVariants.{Done, Uncaught, Spent, HeapWanted, StackWanted, ConsoleFault, Misfit}

-- the status of an ending on the typed machine
abbrev pub typed_status : typed.SetEnding → Status
typed_status typed.Done = Done
typed_status (typed.Uncaught class) = Uncaught class
typed_status typed.Spent = Spent
typed_status (typed.HeapWanted need live) = HeapWanted need live
typed_status (typed.StackWanted need used) = StackWanted need used

-- the status of an ending on the split machine; the image names the class that was thrown
abbrev pub split_status : Image → Ending → Status
split_status image split.Done = Done
split_status image (split.Uncaught class) = Uncaught (name_of image class)
split_status image split.Spent = Spent
split_status image (split.HeapWanted need live) = HeapWanted need live
split_status image (split.StackWanted need used) = StackWanted need used
split_status image split.ConsoleFault = ConsoleFault
split_status image (split.Misfit class place) = Misfit class place

-- a cause alone, and a cause with two numbers
abbrev pub refusal_by : ImageCause → ImageRefusal
refusal_by cause = record { cause = cause; a = 0; b = 0 }

abbrev pub refusal_at : ImageCause → (a b : ℕ) → ImageRefusal
refusal_at cause a b = record { cause = cause; a = a; b = b }

-- the refusal of a form; want of memory is none
abbrev pub form_refusal : FormRefusal → ImageRefusal
form_refusal form.NotInfusion = refusal_by image.NotInfusion
form_refusal (form.FormVersion version) = refusal_at image.FormVersion version 0
form_refusal form.Truncated = refusal_by image.Truncated
form_refusal form.TrailingBytes = refusal_by image.Trailing
form_refusal (form.BadTable table index) = refusal_at image.BadTable table index
form_refusal form.Memory = refusal_by image.Unbuilt

abbrev pub check_cause : CheckCause → ImageCause
check_cause check.BadCode = image.BadCode
check_cause check.BadTarget = image.BadTarget
check_cause check.BadId = image.BadId
check_cause check.BadDepth = image.BadDepth
check_cause check.Crosses = image.Crosses
check_cause check.Falls = image.Falls
check_cause check.Unbuilt = image.Unbuilt
check_cause check.Memory = image.Unbuilt

-- the refusal of a check: the method and the place in its code
abbrev pub check_refusal : CheckRefusal → ImageRefusal
check_refusal refusal = refusal_at (check_cause refusal.cause) refusal.method refusal.pc
