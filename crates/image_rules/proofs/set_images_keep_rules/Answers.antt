use Rattle.image_rules.specs.Parts.{BodiesAreAccepted}
use Rattle.image_rules.proofs.AcceptedBodies.{bodies_are_accepted}
use Rattle.image_rules.proofs.CalledSignatures.{calls_are}
use Rattle.image_rules.proofs.ComingOn.{come_on}
use Rattle.image_rules.proofs.Leading.{expansions_lead_as}
use Rattle.image_rules.proofs.MovedDepths.{expansions_move_right}
use Rattle.image_rules.proofs.RightDepths.{depths_are_right}
use Rattle.image_rules.proofs.RightInsns.{insns_are_right}
use Rattle.image_rules.proofs.names.Expansions.{expansions_name_well}
use Rattle.image_rules.proofs.names.Fills.{fills_name_well}
use Rattle.image_rules.proofs.set_images_keep_rules.Goals as goal

pub returns-clause-insns : goal.returns-clause-insns
returns-clause-insns c =
    let bodies : BodiesAreAccepted = bodies_are_accepted c.class_order_is_right.ensures c.sets_compile.ensures c.bodies_keep_limits.ensures.ranges c.typed_code_starts.ensures in
    insns_are_right expansions_lead_as expansions_name_well fills_name_well bodies

pub returns-clause-depths : goal.returns-clause-depths
returns-clause-depths c =
    let bodies : BodiesAreAccepted = bodies_are_accepted c.class_order_is_right.ensures c.sets_compile.ensures c.bodies_keep_limits.ensures.ranges c.typed_code_starts.ensures in
    depths_are_right expansions_lead_as expansions_move_right (come_on expansions_lead_as) calls_are bodies
