-- What the infuser answers, up to want of memory.
use Rattle.std.specs.Prelude.{◌≡◌, ◌⊎◌, ℕ, List, Result, Ok, Err}
use Rattle.image_form.specs.declared.record.Image.{Image}
use Rattle.jvm_model.specs.declared.refusal.Cause.TheVariants.{Memory}
use Rattle.jvm_model.specs.declared.refusal.Refusal.{Refusal}
use Rattle.set_verdict.specs.Verdict.{IsRefused}

-- what was answered is this, unless there was no memory
abbrev pub Gives : Result Image Refusal → Result Image Refusal → Type 0
Gives (Ok image) wanted = wanted ≡ Ok image
Gives (Err why) wanted = (why.cause ≡ Memory) ⊎ (wanted ≡ Err why)

-- the set is refused so, or there was no memory
abbrev pub RefusedOrMemory : List (List ℕ) → Refusal → Type 0
RefusedOrMemory files why = (why.cause ≡ Memory) ⊎ IsRefused files why
