-- What a console over three streams is.
use Rattle.std.specs.Prelude.{ℕ, refl}
use Rattle.std.specs.Coded.{Coded, code_by, coded×, coded_ℕ}
use Rattle.host_face.specs.Faults.{one_more}

-- the three streams, and how many calls failed
pub record Streams (Input Output Notes : Type 0) : Type 0 where
  pub input : Input
  pub output : Output
  pub notes : Notes
  pub faults : ℕ

-- it is stored as the tuple of its fields
abbrev pub streams_code : {Input Output Notes : Type 0} → Coded Input → Coded Output → Coded Notes
    → Coded (Streams Input Output Notes)
streams_code {Input} {Output} {Notes} input output notes =
    code_by (Input × (Output × (Notes × ℕ)))
    (coded× input (coded× output (coded× notes coded_ℕ)))
    (λ s. (s.input, (s.output, (s.notes, s.faults))))
    (λ p. record { input = p.0; output = p.1.0; notes = p.1.1.0; faults = p.1.1.1 })
    (λ _. refl)

-- after a call that failed
abbrev pub failed : {Input Output Notes : Type 0} → Streams Input Output Notes → Streams Input Output Notes
failed console = record console { faults = one_more console.faults }
