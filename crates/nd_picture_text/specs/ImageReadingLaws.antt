-- Laws of images: what is written is read back, and a bad byte is the first at which no image can go on.
use Rattle.std.specs.Prelude.{◌≡◌, ℕ, List, ◌∷◌, ◌++◌, length, Ok, Err}
use Rattle.nd_picture_text.specs.declared.errors.ImageFlaw.{ImageFlaw}
use Rattle.nd_picture_text.specs.ImageFormatsAndHeaders.{Pixmap, IsWholeImage}
use Rattle.nd_picture_text.specs.ImageReading.{image_in}
use Rattle.nd_picture_text.specs.ImageWriting.{image_text}

-- An image that was written is read back as the same image, whatever follows it.
abbrev pub ImagesReadBack : Type 0
ImagesReadBack = (p : Pixmap) (rest : List ℕ) → IsWholeImage p → image_in (image_text p ++ rest) ≡ Ok p

-- A byte at which the bytes so far are no image stays bad, with the same flaw, whatever follows it: no image begins so.
abbrev pub BadBytesStayBad : Type 0
BadBytesStayBad = (front rest other : List ℕ) (b : ℕ) (flaw : ImageFlaw) → image_in (front ++ b ∷ rest) ≡ Err (length (b ∷ rest), flaw) → image_in (front ++ b ∷ other) ≡ Err (length (b ∷ other), flaw)

-- The bytes before the one at which reading stops begin an image.
abbrev pub GoodBytesGoOn : Type 0
GoodBytesGoOn = (front rest : List ℕ) (flaw : ImageFlaw) → image_in (front ++ rest) ≡ Err (length rest, flaw) → (more : List ℕ) × (p : Pixmap) × (image_in (front ++ more) ≡ Ok p)
