-- What the grammar asks of the image of an accepted set, part by part.
use Rattle.std.specs.Prelude.{ℕ, ◌^◌, ◌<◌, ◌≤◌, List, [], length}
use Rattle.image_form.specs.declared.record.Image.{Image}
use Rattle.image_form.specs.Grammar.{Each, EachAfter, HasSignatures, IsMain, IsMethod, IsSelector, IsType, most_methods, most_types}
use Rattle.jvm_model.specs.Verdict.{AreBytes}
use Rattle.set_image.specs.Linked.{Linked, image_in}
use Rattle.set_image.specs.LinkRefusals.{IsAccepted}

-- of the image of each accepted set this holds
abbrev pub OfEachImage : (Image → Type 0) → Type 0
OfEachImage Holds = (files : List (List ℕ)) (linked : Linked) → IsAccepted files linked → Holds (image_in linked)

-- of the image of each accepted set of files of bytes this holds
abbrev pub OfEachImageOfBytes : (Image → Type 0) → Type 0
OfEachImageOfBytes Holds = (files : List (List ℕ)) (linked : Linked) → AreBytes files → IsAccepted files linked → Holds (image_in linked)

-- the types are few enough, and each stands behind those that it names
pub record HasTypes (image : Image) : Type 0 where
  pub fit : length image.types ≤ most_types
  pub are : EachAfter IsType [] image.types

pub record HasSelectors (image : Image) : Type 0 where
  pub fit : length image.selectors ≤ 16384
  pub are : Each IsSelector image.selectors

pub record HasMethods (image : Image) : Type 0 where
  pub fit : length image.methods ≤ most_methods
  pub are : Each (IsMethod image.types) image.methods

pub record HasStatics (image : Image) : Type 0 where
  pub refs : image.static_refs ≤ 16384
  pub cells : length image.static_cells ≤ 16384
  pub are : Each (λ cell. cell < 2 ^ 16) image.static_cells

abbrev pub HasMain : Image → Type 0
HasMain image = IsMain image.methods image.main

-- the rows of each class have the signatures of their selectors
abbrev pub HasRows : Image → Type 0
HasRows image = Each (HasSignatures image.selectors image.methods) image.types
