-- The text of an array, if that of its elements is known, and the messages of an error.
use Rattle.std.specs.Prelude.{◌≡◌, ◌⊎◌, ℕ, false, List, Option, Some, IfSome}
use Rattle.std.specs.Fmt.{AppendsText}
use Rattle.anyhow.specs.declared.error.Error.{Error}
use Rattle.anyhow.specs.Error.{HasMessage}
use Rattle.nd_array_core.specs.declared.base.array.ArrayBase.{ArrayBase}
use Rattle.nd_array_core.specs.Prelude.{meaning_of}
use Rattle.nd_array_core.specs.printing.ArrayTexts.{array_text}

-- Says that the bytes are the text, if that is known.
abbrev pub IsText : Option (List ℕ) → List ℕ → Type 0
IsText text bytes = IfSome text (λ known. bytes ≡ known)

module _ {S D A T R : Type 0} {s : _} {d : _} {n : _} {r : _} {t : _} where
  -- The text `new` is `old` and after it what `{}` writes of the array, where `shown` tells the text of each element.
  abbrev pub AppendsArray : (A → Option (List ℕ)) → List ℕ → List ℕ → ArrayBase S D T A R s d n r t → Type 0
  AppendsArray shown old new a = AppendsText old new (array_text shown false (meaning_of a))

-- The error has one of two messages.
abbrev pub HasEitherMessage : List ℕ → List ℕ → Error → Type 0
HasEitherMessage one other error = HasMessage (Some one) error ⊎ HasMessage (Some other) error
