use Rattle.class_file.proofs.faults.DescriptorsSay.{bad_descriptor_is}
use Rattle.class_file.proofs.faults.ShapeSays.{bad_shape_is}
use Rattle.class_file.proofs.faults.FaultsSay.{truncated_is, bad_pool_is}
use Rattle.class_file.proofs.laws.faults_say.Goals as goal

pub returns-clause-truncated : goal.returns-clause-truncated
returns-clause-truncated c = truncated_is

pub returns-clause-pool : goal.returns-clause-pool
returns-clause-pool c = bad_pool_is

pub returns-clause-descriptor : goal.returns-clause-descriptor
returns-clause-descriptor c = bad_descriptor_is

pub returns-clause-shape : goal.returns-clause-shape
returns-clause-shape c = bad_shape_is
