use Rattle.std.proofs.Common.{sym, ap, ◌∙◌}
use Rattle.class_pool.specs.PoolReading.{pool_at}
use Rattle.class_pool.proofs.constant_pool.Pools.{pool_again, same_parts}
use Rattle.class_pool.proofs.descriptors.ClassNames.{some_is}
use Rattle.class_pool.proofs.descriptors.FieldTypes.{field_read}
use Rattle.class_pool.proofs.descriptors.Parameters.{method_read}
use Rattle.class_pool.proofs.laws.one_value.Goals as goal

pub returns-clause-pool : goal.returns-clause-pool
returns-clause-pool c = λ first second after_first after_second is_first is_second e.
    same_parts (first, after_first) (second, after_second) (sym (pool_again first after_first is_first) ∙ ap pool_at e ∙ pool_again second after_second is_second)

pub returns-clause-field : goal.returns-clause-field
returns-clause-field c = λ text first second is_first is_second. some_is first second (sym (field_read text first is_first) ∙ field_read text second is_second)

pub returns-clause-method : goal.returns-clause-method
returns-clause-method c = λ text first second is_first is_second. some_is first second (sym (method_read text first is_first) ∙ method_read text second is_second)
