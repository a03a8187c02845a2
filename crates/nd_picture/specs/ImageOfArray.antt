-- The image of a header and of an array that shows a picture.
use Rattle.nd_array_core.specs.ArrayMeaning.{meaning_of}
use Rattle.nd_array_core.specs.ConcatenationAndSplit.{row_major_elements}
use Rattle.nd_array_core.specs.reshape.ElementsAsSlice.{IsStandardArray}
use Rattle.nd_picture_text.specs.ImageFormatsAndHeaders.{Pixmap, pixmap_with}
use Rattle.nd_picture.specs.declared.read_change_and_write.Drawn.{Drawn}

abbrev pub drawn_image : Drawn → Pixmap
drawn_image d = pixmap_with d.header (row_major_elements (meaning_of d.picture))

-- Says that the array that shows the picture is in the standard layout.
abbrev pub LiesInRows : Drawn → Type 0
LiesInRows d = IsStandardArray d.picture
