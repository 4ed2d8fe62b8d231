-- Laws of the format.
use Rattle.std.specs.Prelude.{◌≡◌, List, ℕ, [], ◌++◌}
use Rattle.image_form.specs.declared.record.Image.{Image}
use Rattle.image_form.specs.Format.{encoding}
use Rattle.image_form.specs.Grammar.{IsImage, IsEncoded}

-- an image has one encoding
abbrev pub HasOneEncoding : Type 0
HasOneEncoding = (image : Image) (first second : List ℕ) → IsEncoded first image → IsEncoded second image → first ≡ second

-- equal encodings are those of equal images
abbrev pub IsInjective : Type 0
IsInjective = (bytes : List ℕ) (first second : Image) → IsEncoded bytes first → IsEncoded bytes second → first ≡ second

-- no encoding is a proper prefix of another
abbrev pub IsPrefixFree : Type 0
IsPrefixFree = (first second : Image) (suffix : List ℕ) → IsImage first → IsImage second → encoding first ++ suffix ≡ encoding second → suffix ≡ []
