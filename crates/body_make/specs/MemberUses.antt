-- What the code says of members and of their uses, as the definitions have it.
use Rattle.class_pool.specs.declared.members.MemberName.{MemberName as Named}
use Rattle.class_pool.specs.Members.{MemberName}
use Rattle.body_make.specs.declared.fields.FieldAsked.{FieldAsked as Asked}
use Rattle.jvm_model.specs.FieldUses.{FieldAsked}

-- the texts of a name
abbrev pub name_of : Named → MemberName
name_of named = record { class = named.class.now; name = named.name.now; descriptor = named.descriptor.now }

abbrev pub asked_of : Asked → FieldAsked
asked_of asked = record { writes = asked.writes; static = asked.of_class }
