-- A run starts in a reached state: main's frame, without operands, and the statics of the image.
use Rattle.std.proofs.Common.{ℕ, [], None, refl, arith}
use Rattle.std.proofs.lemmas.List.{length-replicate}
use Rattle.image_form.specs.declared.record.Image.{Image}
use Rattle.image_form.specs.declared.record.Method.{Method}
use Rattle.mote_model.specs.State.{Reference}
use Rattle.mote_model.specs.SplitRun.{first_frame, start_state}
use Rattle.split_safety.specs.Reached.{IsCell, AreWaiting}
use Rattle.split_safety.specs.Safety.{StartsAreReached}
use Rattle.split_safety.proofs.facts.Lists.{all_replicate, all_of_each}
use Rattle.split_safety.proofs.moves.Going.{holds, is_reached}

none_waits : (image : Image) (id : ℕ) (method : Method) → AreWaiting image (first_frame id method) []
unfolding AreWaiting
none_waits image id method = tt

pub starts_are_reached : StartsAreReached
starts_are_reached image sound method found answers =
    let none : Reference = None in
    let frame = first_frame image.main method in
    is_reached image (start_state image method answers)
    (record { refs = length-replicate image.static_refs none; cells = refl; are_cells = all_of_each IsCell [] image.static_cells sound.image_is.static_cells_are })
    frame []
    (record {
      method = method;
      found = found;
      locals = holds method frame (length-replicate method.ref_locals none) (length-replicate method.cell_locals 0) (all_replicate IsCell method.cell_locals 0 (omega arith)) tt;
      sent = λ holds first closed. first;
    })
    (none_waits image image.main method)
