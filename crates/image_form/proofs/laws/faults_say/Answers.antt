use Rattle.image_form.proofs.faults.TablesSay.{bad_table_is}
use Rattle.image_form.proofs.laws.faults_say.Goals as goal

pub returns : goal.returns
returns c = bad_table_is
