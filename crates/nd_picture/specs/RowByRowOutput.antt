-- Images that are changed row by row: which these are, and what is written of the rows that were read.
use Rattle.std.specs.Prelude.{◌≡◌, ◌⊎◌, ◌≤◌, ℕ, ◌+◌, ◌-◌, ◌^◌, true, All, List, ◌++◌, length, Option, IfSome, Result, Ok, Err}
use Rattle.nd_array_core.specs.ArrayMeaning.{Meaning}
use Rattle.nd_text.specs.declared.watched_streams.Watched.{Watched}
use Rattle.nd_text.specs.BufferedPrinting.{Puts}
use Rattle.nd_picture_text.specs.declared.image_formats.Header.{Header}
use Rattle.nd_picture_text.specs.declared.step.Step.{Step}
use Rattle.nd_picture_text.specs.declared.rows_from_stream.RowsError.{RowsError}
use Rattle.nd_picture_text.specs.declared.rows_from_stream.RowsError.TheVariants as rows
use Rattle.nd_picture_text.specs.ImageFormatsAndHeaders.{Pixmap, channels_of}
use Rattle.nd_picture_text.specs.ImageReading.{image_header_in}
use Rattle.nd_picture_text.specs.RowwiseImageReading.{row_samples, samples_of_rows, raster_rows, TakesRows}
use Rattle.nd_picture_text.specs.ImageWriting.{image_header_text}
use Rattle.nd_picture.specs.declared.image_row_by_row.Plan.{Plan}
use Rattle.nd_picture.specs.declared.read_change_and_write.Fault.{Fault}
use Rattle.nd_picture.specs.declared.read_change_and_write.Fault.TheVariants.{BadStep, BadByte, Refused, Memory, ReadFailed}
use Rattle.nd_picture.specs.PictureChanges.{Picture, Shows, rows_from}
use Rattle.nd_picture.specs.PictureSampleLists.{Lists}
use Rattle.nd_picture.specs.RowwiseSteps.{are_by_rows, rows_made_each, rows_made_between, TakesAll}
use Rattle.nd_picture.specs.StepListResults.{kind_after_each, after_all}

-- Says that the steps go row by row on an image with the header `h`, that all of them can be taken, and that they make an
-- image with the header `after`.
abbrev pub GoesByRows : List Step → Header → Header → Type 0
GoesByRows steps h after =
    (are_by_rows steps ≡ true) × TakesAll h.maxval steps h.height h.width (after.height, after.width)
    × (after ≡ record { kind = kind_after_each steps h.kind; width = after.width; height = after.height; maxval = h.maxval })

-- Says that the plan is for a header of so many bytes.
abbrev pub IsPlanFor : List Step → Header → ℕ → Plan → Type 0
IsPlanFor steps h size plan = GoesByRows steps h plan.after × (plan.header ≡ h) × (plan.size ≡ size)

-- Says that a picture can be that of an image with the header.
abbrev pub HasSidesOf : Header → Picture → Type 0
HasSidesOf h p = (p.height ≡ h.height) × (p.width ≡ h.width) × (p.channels ≡ channels_of h.kind)

-- Says that the samples `ys` are those of the rows that the steps make of the first `n` rows of an image with the header
-- `h`, whose samples are `xs`.
abbrev pub MakesOfFirst : List Step → Header → ℕ → List ℕ → List ℕ → Type 0
MakesOfFirst steps h n xs ys = (p q : Picture) → HasSidesOf h p → Lists xs (rows_from 0 n p) → after_all h.maxval 1 steps p ≡ Ok q → Lists ys (rows_from 0 (rows_made_each steps n) q)

-- Says that the text is the beginning of an image: its header, and the rows that the steps make of the first rows of the
-- image that these bytes begin.
abbrev pub BeginsRows : List Step → List ℕ → List ℕ → Type 0
BeginsRows steps bytes text =
    (h after : Header) × (rest : List ℕ) × (image_header_in bytes ≡ Ok (h, rest)) × GoesByRows steps h after
    × (n : ℕ) × (xs ys : List ℕ) × (n ≤ h.height) × (samples_of_rows h n rest ≡ Ok xs) × MakesOfFirst steps h n xs ys
    × (text ≡ image_header_text after ++ raster_rows after (rows_made_each steps n) ys)

-- Says that the image is the rows from `first` on of the picture `p`, of which the steps make `q`.
abbrev pub ArePictureRows : List Step → ℕ → Pixmap → Picture → Picture → Type 0
ArePictureRows steps first image p q =
    (p.height ≤ 1000000000) × (first + image.header.height ≤ p.height) × (p.width ≡ image.header.width) × (p.channels ≡ channels_of image.header.kind)
    × Lists image.samples (rows_from first image.header.height p) × (after_all image.header.maxval 1 steps p ≡ Ok q)

-- Says that the image is the rows from `first` on of some picture on which the steps can be taken, row by row.
abbrev pub AreSomeRows : List Step → ℕ → Pixmap → Type 0
AreSomeRows steps first image = (are_by_rows steps ≡ true) × (p q : Picture) × ArePictureRows steps first image p q

-- Says that an array shows the rows that the steps make of the image, which is the rows from `first` on of one.
abbrev pub ShowsRowsMade : List Step → ℕ → Pixmap → Meaning ℕ → Type 0
ShowsRowsMade steps first image m =
    (p q : Picture) → ArePictureRows steps first image p q
    → (count : ℕ) × (rows_made_each steps first + count ≡ rows_made_each steps (first + image.header.height)) × Shows m (rows_from (rows_made_each steps first) count q)

-- Says that the samples are those of the rows that the steps make of the image, which is the rows from `first` on of one.
abbrev pub MakesRows : List Step → ℕ → Pixmap → List ℕ → Type 0
MakesRows steps first image ys =
    (p q : Picture) → ArePictureRows steps first image p q
    → (count : ℕ) × (rows_made_each steps first + count ≡ rows_made_each steps (first + image.header.height)) × Lists ys (rows_from (rows_made_each steps first) count q)

-- Says that the fault is an error of some rows, before which there are so many bytes. Where the position of a byte is above
-- the greatest `usize`, the fault is that memory was refused.
abbrev pub IsFaultAfter : ℕ → RowsError → Fault → Type 0
IsFaultAfter before (rows.BadByte byte flaw) fault = (fault ≡ BadByte (before + byte) flaw) ⊎ ((2 ^ 64 ≤ before + byte) × (fault ≡ Memory))
IsFaultAfter before rows.Memory fault = fault ≡ Memory
IsFaultAfter before rows.ReadFailed fault = fault ≡ ReadFailed

-- Says why rows are not read: a byte after the header is wrong, or memory was refused, or a read failed.
abbrev pub IsRowFault : Header → ℕ → Option (List ℕ) → Fault → Type 0
IsRowFault h size given (BadByte byte flaw) = IfSome given (λ rest. (at : ℕ) × (byte ≡ size + at) × (at ≤ length rest) × (samples_of_rows h h.height rest ≡ Err (length rest - at, flaw)))
IsRowFault h size given Memory = Unit {0}
IsRowFault h size given ReadFailed = Unit {0}
IsRowFault h size given (BadStep number flaw) = ⊥
IsRowFault h size given (Refused number step) = ⊥

-- Says that all rows were read, or why not.
abbrev pub EndsRows : {X : Type 0} → Header → ℕ → Option (List ℕ) → ℕ → Result X Fault → Type 0
EndsRows h size given n (Ok x) = n ≡ h.height
EndsRows h size given n (Err fault) = IsRowFault h size given fault

module _ {W : Type 0} (contents : W → Option (List ℕ)) where
  -- Says that the rows that the steps make of the image, which is the rows from `first` on of one, were put.
  abbrev pub PutsMade : List Step → ℕ → Pixmap → Header → Watched W → List ℕ → Watched W → List ℕ → Type 0
  PutsMade steps first image after output page output' page' = (ys : List ℕ) × MakesRows steps first image ys × Puts contents output page output' page' (raster_rows after (rows_made_between steps first image.header.height) ys)

  -- Says that the samples `xs` are those of the first `n` rows of an image with the header `h`, and that the rows that the
  -- steps make of them were put.
  abbrev pub PutsFirst : List Step → Header → Header → ℕ → List ℕ → Watched W → List ℕ → Watched W → List ℕ → Type 0
  PutsFirst steps h after n xs output page output' page' =
      (ys : List ℕ) × (n ≤ h.height) × (length xs ≡ row_samples h n) × All (λ s. s ≤ h.maxval) xs × MakesOfFirst steps h n xs ys × Puts contents output page output' page' (raster_rows after (rows_made_each steps n) ys)

  -- Says that some rows were read from the front of the bytes that were given, and that what the steps make of them was
  -- put; and that these are all rows, or why they aren't.
  abbrev pub PutsRows : {X : Type 0} → List Step → Plan → Option (List ℕ) → Watched W → List ℕ → Watched W → List ℕ → Result X Fault → Type 0
  PutsRows steps plan given output page output' page' result =
      (n : ℕ) × (xs : List ℕ) × (size : ℕ) × (given' : Option (List ℕ)) × TakesRows plan.header n size xs given given' × PutsFirst steps plan.header plan.after n xs output page output' page' × EndsRows plan.header plan.size given n result
