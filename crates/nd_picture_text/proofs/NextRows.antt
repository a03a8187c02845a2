-- Rows taken from the front of the bytes that are still given.
use Rattle.std.proofs.Common.{◌≡◌, ◌∙◌, ℕ, ◌+◌, ◌-◌, ◌*◌, ◌<◌, ◌≤◌, ◌⊎◌, inl, inr, min, Bool, true, false, List, [], ◌++◌, length, length-append, length-take-le, take, drop, take-append-drop, drop_of_length-le, Option, None, Some, IfSome, Result, Ok, Err, refl, sym, ap, subst, arith, append_assoc, mul-le-mul_right}
use Rattle.std.specs.Prelude.{nat_le}
use Rattle.std.specs.Io.KnownBytes.{prepend_known, Consumes, IsAtEnd}
use Rattle.std.proofs.lemmas.Bool.Decides.{nat_tests}
use Rattle.nd_picture_text.specs.declared.image_formats.Header.{Header}
use Rattle.nd_picture_text.specs.declared.image_formats.Image.{Image}
use Rattle.nd_picture_text.specs.declared.errors.ImageFlaw.{ImageFlaw}
use Rattle.nd_picture_text.specs.ImageFormatsAndHeaders.{is_plain}
use Rattle.nd_picture_text.specs.ImageReading.{ImageStop, raster_in}
use Rattle.nd_picture_text.specs.RowwiseImageReading.{with_rows, row_bytes, samples_of_rows, ReadsThen, TakesRows, AreNextRows, AreRawRows, IsBadRow}
use Rattle.nd_picture_text.proofs.RawRows.{rows_bytes, rows_whole, rows_then, rows_bad, rows_within}

-- what was read before stands in front of what the reader still gives
pub given_taken : (old mid : Option (List ℕ)) (bytes piece read : List ℕ) (front : ℕ) → Consumes old mid piece → read ≡ bytes ++ piece → Consumes (prepend_known bytes old) (prepend_known (drop front read) mid) (take front read)
given_taken None mid bytes piece read front takes is = tt
given_taken (Some xs) None bytes piece read front takes is = absurd takes
given_taken (Some xs) (Some ys) bytes piece read front takes is =
    ap (λ (l : List ℕ). bytes ++ l) takes ∙ sym (append_assoc bytes piece ys) ∙ ap (λ (l : List ℕ). l ++ ys) (sym is ∙ sym (take-append-drop front read)) ∙ append_assoc (take front read) (drop front read) ys

module _ (h : Header) (raw : is_plain h.kind ≡ false) (count front : ℕ) (read : List ℕ) (cut : front ≡ min (count * row_bytes h 1) (length read)) where
  -- rows that were read took all bytes that were handed on
  pub rows_taken : (items : List ℕ) → samples_of_rows h count (take front read) ≡ Ok items → length (take front read) ≡ row_bytes h count
  rows_taken items is =
      let long : length (take front read) ≡ front = length-take-le front read (omega (arith, cut)) in
      let enough = rows_whole h raw count (take front read) items is in
      let size = rows_bytes h count in
      omega (arith, long, enough.0, size, cut)

  -- so many bytes are there, or all that is still given was handed on
  by_size : (ys : List ℕ) → (row_bytes h 1 ≤ length read → count * row_bytes h 1 ≤ length read) → 0 < count → ys ≡ [] → length (take front read) ≡ front → (t : Bool) → nat_le (row_bytes h 1) (length read) ≡ t
      → (row_bytes h count ≤ length (take front read)) ⊎ (drop front read ++ ys ≡ [])
  by_size ys whole some end long true e =
      let one : row_bytes h 1 ≤ length read = grind (arith, nat_tests, e) in
      let size = rows_bytes h count in
      let all = whole one in
      inl (omega (arith, size, all, long, cut))
  by_size ys whole some end long false e =
      let short : length read < row_bytes h 1 = grind (arith, nat_tests, e) in
      let more : 1 * row_bytes h 1 ≤ count * row_bytes h 1 = mul-le-mul_right (row_bytes h 1) some in
      let cut_all : length read ≤ front = omega (arith, cut, short, more) in
      inr (ap (λ (l : List ℕ). l ++ ys) (drop_of_length-le read cut_all) ∙ end)

  by_filled : (ys : List ℕ) → (row_bytes h 1 ≤ length read → count * row_bytes h 1 ≤ length read) → 0 < count → (row_bytes h 1 ≤ length read) ⊎ (ys ≡ []) → length (take front read) ≡ front
      → (row_bytes h count ≤ length (take front read)) ⊎ (drop front read ++ ys ≡ [])
  by_filled ys whole some (inl one) long =
      let size = rows_bytes h count in
      let all = whole one in
      inl (omega (arith, size, all, long, cut))
  by_filled ys whole some (inr end) long = by_size ys whole some end long (nat_le (row_bytes h 1) (length read)) refl

  -- a stop in the rows that were handed on is one in all that is still given
  bad_by : (old mid : Option (List ℕ)) (bytes piece : List ℕ) (missing byte left : ℕ) (flaw : ImageFlaw) → Consumes old mid piece → read ≡ bytes ++ piece → (row_bytes h 1 ≤ length read → count * row_bytes h 1 ≤ length read)
      → (row_bytes h 1 ≤ length read) ⊎ IsAtEnd mid → 0 < count → count ≤ missing → samples_of_rows h count (take front read) ≡ Err (left, flaw) → byte ≡ front - left
      → IfSome (prepend_known bytes old) (λ bs. IsBadRow h missing byte flaw bs)
  bad_by None mid bytes piece missing byte left flaw takes is whole filled some fewer stops at = tt
  bad_by (Some xs) None bytes piece missing byte left flaw takes is whole filled some fewer stops at = absurd takes
  bad_by (Some xs) (Some ys) bytes piece missing byte left flaw takes is whole filled some fewer stops at =
      let long : length (take front read) ≡ front = length-take-le front read (omega (arith, cut)) in
      let within = rows_within h raw count (take front read) left flaw stops in
      let all : bytes ++ xs ≡ take front read ++ (drop front read ++ ys) = given_taken (Some xs) (Some ys) bytes piece read front takes is in
      let enough : (row_bytes h count ≤ length (take front read)) ⊎ (drop front read ++ ys ≡ []) = by_filled ys whole some filled long in
      let bad = rows_bad h raw count missing (take front read) (drop front read ++ ys) left flaw fewer enough stops in
      let size : length (bytes ++ xs) ≡ front + length (drop front read ++ ys) = ap length all ∙ length-append (take front read) (drop front read ++ ys) ∙ ap (λ n. n + length (drop front read ++ ys)) long in
      let back : left + length (drop front read ++ ys) ≡ length (bytes ++ xs) - byte = omega (arith, size, at, within, long) in
      (omega (arith, size, at), ap (samples_of_rows h missing) all ∙ bad ∙ ap (λ n. Err (n, flaw)) back)

cut_at : (h : Header) (count front size len : ℕ) (read : List ℕ) → size ≡ row_bytes h 1 → len ≡ length read → front ≡ min (count * size) len → front ≡ min (count * row_bytes h 1) (length read)
cut_at h count front size len read is long cut = cut ∙ ap (λ n. min (count * n) len) is ∙ ap (λ n. min (count * row_bytes h 1) n) long

-- what the rows are, and where they go wrong
module _ (h : Header) (raw : is_plain h.kind ≡ false) (count missing front size len : ℕ) (old mid : Option (List ℕ)) (bytes piece read handed : List ℕ) (header : Header)
    (sized : size ≡ row_bytes h 1) (long : len ≡ length read) (cut : front ≡ min (count * size) len) (takes : Consumes old mid piece) (is : read ≡ bytes ++ piece) (hands : handed ≡ read) (headed : header ≡ with_rows count h) where
  handed_on : (r : Result (List ℕ) ImageStop) → raster_in header (take front handed) ≡ r → samples_of_rows h count (take front read) ≡ r
  handed_on r reads = sym (ap (λ (l : List ℕ). samples_of_rows h count (take front l)) hands) ∙ sym (ap (λ (x : Header). raster_in x (take front handed)) headed) ∙ reads

  -- the rows after these are read from what is then still given
  then_by : (old mid : Option (List ℕ)) → Consumes old mid piece → (items : List ℕ) → samples_of_rows h count (take front read) ≡ Ok items → IfSome (prepend_known bytes old) (λ all. IfSome (prepend_known (drop front read) mid) (λ rest. ReadsThen h count all items rest))
  then_by None mid takes items rows = tt
  then_by (Some xs) None takes items rows = absurd takes
  then_by (Some xs) (Some ys) takes items rows =
      let size = rows_taken h raw count front read (cut_at h count front size len read sized long cut) items rows in
      λ more. ap (samples_of_rows h (count + more)) (given_taken (Some xs) (Some ys) bytes piece read front takes is) ∙ rows_then h raw count more (count + more) (take front read) (drop front read ++ ys) items refl size rows

  pub are_next : (new : List ℕ) (image : Image) → new ≡ drop front read → count ≤ missing → image.header ≡ header → raster_in header (take front handed) ≡ Ok image.samples.items → AreNextRows h missing (prepend_known bytes old) (prepend_known new mid) (record { image = image; size = front })
  are_next new image left few same reads =
      let items = image.samples.items in
      let rows = handed_on (Ok items) reads in
      let high : count ≡ image.header.height = sym (ap (λ (x : Header). x.height) (same ∙ headed)) in
      let within = cut_at h count front size len read sized long cut in
      let taken : TakesRows h count front items (prepend_known bytes old) (prepend_known (drop front read) mid) = (
        take front read,
        length-take-le front read (omega (arith, within)),
        given_taken old mid bytes piece read front takes is,
        then_by old mid takes items rows,
      ) in
      subst
      (λ n. TakesRows h n front items (prepend_known bytes old) (prepend_known new mid) × (image.header ≡ with_rows n h) × (n ≤ missing))
      high
      (subst (λ (l : List ℕ). TakesRows h count front items (prepend_known bytes old) (prepend_known l mid)) (sym left) taken, same ∙ headed, few)

  -- they took the bytes of as many rows
  pub are_raw : (new : List ℕ) (image : Image) → new ≡ drop front read → image.header ≡ header → raster_in header (take front handed) ≡ Ok image.samples.items → AreRawRows h (prepend_known bytes old) (prepend_known new mid) (record { image = image; size = front })
  are_raw new image left same reads =
      let rows = handed_on (Ok image.samples.items) reads in
      let high : count ≡ image.header.height = sym (ap (λ (x : Header). x.height) (same ∙ headed)) in
      let within = cut_at h count front size len read sized long cut in
      let all = rows_taken h raw count front read within image.samples.items rows in
      subst
      (λ n. (front ≡ row_bytes h n) × (taken : List ℕ) × Consumes (prepend_known bytes old) (prepend_known new mid) taken × (length taken ≡ row_bytes h n) × (samples_of_rows h n taken ≡ Ok image.samples.items))
      high (
        sym (length-take-le front read (omega (arith, within))) ∙ all,
        take front read,
        subst (λ (l : List ℕ). Consumes (prepend_known bytes old) (prepend_known l mid) (take front read)) (sym left) (given_taken old mid bytes piece read front takes is),
        all,
        rows,
      )

  -- a bad byte is no further away than the rows reach
  pub bad_near : (byte left : ℕ) → count ≤ missing → byte ≡ front - left → byte ≤ row_bytes h missing
  bad_near byte left few at =
      let least : count * row_bytes h 1 ≤ missing * row_bytes h 1 = mul-le-mul_right (row_bytes h 1) few in
      let within = cut_at h count front size len read sized long cut in
      let all = rows_bytes h missing in
      omega (arith, at, within, least, all)

  pub bad_row : (byte left : ℕ) (flaw : ImageFlaw) → (size ≤ len → count * size ≤ len) → (size ≤ length read) ⊎ IsAtEnd mid → 0 < count → count ≤ missing → raster_in header (take front handed) ≡ Err (left, flaw) → byte ≡ front - left
      → IfSome (prepend_known bytes old) (λ bs. IsBadRow h missing byte flaw bs)
  bad_row byte left flaw whole filled some few reads at =
      let rows = handed_on (Err (left, flaw)) reads in
      let cut' = cut_at h count front size len read sized long cut in
      bad_by h raw count front read cut' old mid bytes piece missing byte left flaw takes is (subst (λ n. n ≤ length read → count * n ≤ length read) sized (subst (λ n. size ≤ n → count * size ≤ n) long whole)) (subst (λ n. (n ≤ length read) ⊎ IsAtEnd mid) sized filled) some few rows at
