-- What a call answers, where what is found is so.
use Rattle.std.proofs.Common.{◌≡◌, Option, Some, None, IfSome}
use Rattle.class_pool.specs.declared.types.MemberId.{MemberId}

pub is_so : (P : MemberId → Type 0) (result found : Option MemberId) → result ≡ found → ((id : MemberId) → found ≡ Some id → P id) → IfSome result (λ id. P id)
is_so P None found e h = tt
is_so P (Some id) found e h = h id (let same : found ≡ Some id = cc in same)
