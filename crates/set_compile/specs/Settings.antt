-- What the laws on runs are told of a set: its world, its types and layouts by method, and its image.
use Rattle.std.specs.Prelude.{Bool, List, [], Option, None}
use Rattle.std.specs.List.{find}
use Rattle.std.specs.Option.{option_map_or}
use Rattle.class_pool.specs.declared.types.MemberId.{MemberId}
use Rattle.jvm_model.specs.declared.plan.Plan.{Plan}
use Rattle.jvm_model.specs.ImageNumbering.{is_body_of}
use Rattle.typed_machine.specs.TypedWorld.{World}
use Rattle.type_safety.specs.Fitting.{Tables}
use Rattle.match_states.specs.Setting.{Setting}
use Rattle.set_image.specs.Linked.{Linked, Typed, bodies_of, image_in, numbering_in, plan_for}
use Rattle.set_image.specs.LinkRefusals.{cells_in}

-- the typed body of a method, where it has one
abbrev pub is_typed_of : MemberId → Typed → Bool
is_typed_of member typed = is_body_of member typed.body

abbrev pub typed_among : List Typed → MemberId → Option Typed
typed_among code member = find (is_typed_of member) code

-- a method without a body has no types, no layout and no cells
abbrev pub no_plan : Plan
no_plan = record { narrow = []; refs = []; cells = []; fills = []; ref_locals = 0; cell_locals = 0; body = 0 }

abbrev pub tables_of : Linked → Tables
tables_of linked member = option_map_or (λ (typed : Typed). typed.table) (typed_among linked.code member) (λ pc. None)

abbrev pub plans_of : Linked → MemberId → Plan
plans_of linked member = option_map_or plan_for (typed_among linked.code member) no_plan

abbrev pub world_of : Linked → World
world_of linked =
    record {
      files = linked.classes;
      bodies = bodies_of linked;
      main = linked.main;
      frame_cells = λ member. option_map_or cells_in (typed_among linked.code member) 0;
    }

abbrev pub setting_of : Linked → Setting
setting_of linked =
    record {
      world = world_of linked;
      tables = tables_of linked;
      plans = plans_of linked;
      numbering = numbering_in linked;
      image = image_in linked;
    }
