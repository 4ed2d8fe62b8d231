-- The form of the images that the machine runs so far: no method has handlers.
use Rattle.std.specs.Prelude.{Bool, ◌==◌, length}
use Rattle.std.specs.List.{list_all}
use Rattle.image_form.specs.declared.record.Image.{Image}
use Rattle.image_form.specs.declared.record.Method.{Method}

abbrev pub has_no_handler : Method → Bool
has_no_handler method = length method.handlers == 0

-- the image has the form
abbrev pub has_built_form : Image → Bool
has_built_form image = list_all has_no_handler image.methods
