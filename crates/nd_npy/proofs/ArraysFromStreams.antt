-- The array that the bytes of a stream mean, from its front and what is ahead.
use Rattle.std.proofs.Common.{◌≡◌, ◌∙◌, ◌<◌, ◌≤◌, ◌*◌, inl, inr, ⊎_elim, ℕ, Bool, true, false, List, [], ◌++◌, length, drop, slice_get, refl, sym, ap, subst, arith, append-nil}
use Rattle.std.specs.Prelude.{Option, None, Some, IfSome, Result, Ok, Err}
use Rattle.std.specs.Io.KnownBytes.{prepend_known, Keeps, IsAtEnd}
use Rattle.std.proofs.lemmas.List.{length-append, drop-append-le}
use Rattle.nd_shape_and_slice.specs.ShapesAndIndexOrders.{size_of}
use Rattle.nd_elements.specs.ShapeAndElements.{Meaning, inside}
use Rattle.nd_npy_text.specs.ItemTypes.{kind_size}
use Rattle.nd_npy_text.specs.HeaderDescription.{Description}
use Rattle.nd_npy_text.specs.HeaderLaws.{HeadsNeedNoMore}
use Rattle.nd_npy_text.specs.HeaderReading.{npy_header_in, is_cut_off}
use Rattle.nd_npy.specs.declared.item.NpyItem as npy_item
use Rattle.nd_npy.specs.declared.errors.ReadNpyError.{ReadNpyError}
use Rattle.nd_npy.specs.declared.errors.ReadNpyError.TheVariants.{Header, OtherKind, WrongSize, Memory}
use Rattle.nd_npy.specs.declared.errors.ReadNpyFromError.{ReadNpyFromError}
use Rattle.nd_npy.specs.declared.errors.ReadNpyFromError.TheVariants.{ReadFailed, File}
use Rattle.nd_npy.specs.ItemBytes.{values_in}
use Rattle.nd_npy.specs.FileBytesAndArrays.{item_number, data_size, array_after_head, or_header_error, npy_in, IsNpyCause}
use Rattle.nd_npy.specs.StreamReadsAndWrites.{IsStreamCause, FailsToRead, IsValuesCause}
use Rattle.nd_npy.proofs.ArrayAfterHeader.{array_is, array_of_other_kind, array_of_wrong_size, array_of_whole_bytes, npy_of_cause}

-- ---- what is behind the head

module _ {A : Type 0} (item : npy_item.Ghosts A) (d : Description) (size count : ℕ) (accepts : item.accepts d.item_type.kind ≡ true) (sized : size ≡ kind_size d.item_type.kind) (counted : count ≡ size_of d.array_shape) where
  data_is : (bytes : List ℕ) → count * size ≡ data_size d
  data_is bytes = ap (λ n. n * size) counted ∙ ap (λ n. size_of d.array_shape * n) sized

  pub array_ahead_is : (known : Option (List ℕ)) (values : List A) (m : Meaning A) → IfSome known (λ bytes. (values ≡ values_in (item.value_of d.item_type.order) size count bytes) × (length bytes ≡ count * size)) → m.shape ≡ d.array_shape
      → ((i : List ℕ) → m.at i ≡ inside d.array_shape i (slice_get values (item_number d.fortran_order d.array_shape i))) → IfSome known (λ bytes. array_after_head item d bytes ≡ Ok m)
  array_ahead_is None values m given shape shows = tt
  array_ahead_is (Some bytes) values m given shape shows =
      array_of_whole_bytes item d bytes accepts (given.1 ∙ data_is bytes) ∙ ap Ok (sym (array_is item d bytes m values size count shape sized counted given.0 shows))

  pub cause_ahead_is : (known : Option (List ℕ)) (error : ReadNpyFromError) → IfSome known (λ bytes. IsValuesCause size count bytes error)
      → IfSome known (λ bytes. IsStreamCause error (array_after_head item d bytes))
  cause_ahead_is None error given = tt
  cause_ahead_is (Some bytes) ReadFailed given = tt
  cause_ahead_is (Some bytes) (File Memory) given = tt
  cause_ahead_is (Some bytes) (File (Header e)) given = absurd given
  cause_ahead_is (Some bytes) (File (OtherKind k)) given = absurd given
  cause_ahead_is (Some bytes) (File (WrongSize expected found)) given =
      let expects = data_is bytes in
      let differs : length bytes ≡ data_size d → ⊥ = λ same. given.2 (given.1 ∙ same ∙ sym expects ∙ sym given.0) in
      array_of_wrong_size item d bytes accepts differs ∙ ap (λ n. Err (WrongSize n (length bytes))) (sym expects ∙ sym given.0) ∙ ap (λ n. Err (WrongSize expected n)) (sym given.1)

pub other_ahead_is : {A : Type 0} (item : npy_item.Ghosts A) (d : Description) (known : Option (List ℕ)) → item.accepts d.item_type.kind ≡ false → IfSome known (λ bytes. array_after_head item d bytes ≡ Err (OtherKind d.item_type.kind))
other_ahead_is item d None other = tt
other_ahead_is item d (Some bytes) other = array_of_other_kind item d bytes other

-- ---- the head

module _ (stay : HeadsNeedNoMore) (front : List ℕ) where
  head_same : (ys : List ℕ) → (is_cut_off front ≡ true → ys ≡ []) → npy_header_in (front ++ ys) ≡ npy_header_in front
  head_same ys ended = by_test (is_cut_off front) refl
    where
      by_test : (t : Bool) → is_cut_off front ≡ t → npy_header_in (front ++ ys) ≡ npy_header_in front
      by_test true e = ap (λ l. npy_header_in (front ++ l)) (ended e) ∙ ap npy_header_in (append-nil front)
      by_test false e = stay front ys e

  module _ {A : Type 0} (item : npy_item.Ghosts A) where
    after_start : (d : Description) (start : ℕ) (ys : List ℕ) → (is_cut_off front ≡ true → ys ≡ []) → or_header_error (npy_header_in front) ≡ Ok (d, start) → start ≤ length front → npy_in item (front ++ ys) ≡ array_after_head item d (drop start front ++ ys)
    unfolding npy_in
    after_start d start ys ended head inside =
        rw (head_same ys ended, head) (ap (array_after_head item d) (drop-append-le start front ys inside))

    pub stream_of_head : (rest : Option (List ℕ)) → (is_cut_off front ≡ true → IsAtEnd rest) → (d : Description) (start : ℕ) → or_header_error (npy_header_in front) ≡ Ok (d, start) → start ≤ length front
        → (P : Result (Meaning A) ReadNpyError → Type 0) → IfSome (prepend_known (drop start front) rest) (λ bytes. P (array_after_head item d bytes)) → IfSome (prepend_known front rest) (λ bytes. P (npy_in item bytes))
    stream_of_head None ended d start head inside P holds = tt
    stream_of_head (Some ys) ended d start head inside P holds = subst P (sym (after_start d start ys ended head inside)) holds

    pub stream_of_cause : (rest : Option (List ℕ)) → (is_cut_off front ≡ true → IsAtEnd rest) → (e : ReadNpyError) → IsNpyCause e (or_header_error (npy_header_in front)) → IfSome (prepend_known front rest) (λ bytes. IsNpyCause e (npy_in item bytes))
    stream_of_cause None ended e cause = tt
    stream_of_cause (Some ys) ended e cause = npy_of_cause item (front ++ ys) e (subst (λ r. IsNpyCause e (or_header_error r)) (sym (head_same ys ended)) cause)

-- the error of a file is its cause
pub file_error : {X : Type 0} (e f : ReadNpyError) → (let r : Result X ReadNpyFromError = Err (File e) in r) ≡ Err (File f) → e ≡ f
file_error e f is = cc

-- ---- the stream, from the bytes that are ahead

-- what holds of the bytes that are ahead holds of all, which they are
pub stream_kept : (whole ahead : Option (List ℕ)) (P : List ℕ → Type 0) → Keeps whole ahead → IfSome ahead P → IfSome whole P
stream_kept None ahead P keeps holds = tt
stream_kept (Some xs) None P keeps holds = absurd keeps
stream_kept (Some xs) (Some ys) P keeps holds = subst P keeps holds

-- a stream whose front has bytes has bytes
pub stream_bytes : (whole rest : Option (List ℕ)) (front : List ℕ) → Keeps whole (prepend_known front rest) → 0 < length front → IfSome whole (λ bytes. 0 < length bytes)
stream_bytes None rest front keeps some = tt
stream_bytes (Some xs) None front keeps some = absurd keeps
stream_bytes (Some xs) (Some ys) front keeps some = let long = ap length keeps in omega (arith, long, length-append front ys, some)

-- what was read on keeps what there was
pub keeps_on : (old now new : Option (List ℕ)) → Keeps old now → Keeps now new → Keeps old new
keeps_on None now new first then = tt
keeps_on (Some xs) None new first then = absurd first
keeps_on (Some xs) (Some ys) None first then = absurd then
keeps_on (Some xs) (Some ys) (Some zs) first then = then ∙ first

-- if what is left has bytes, so has the whole
pub front_refused : (whole rest : Option (List ℕ)) (front : List ℕ) (e : ReadNpyFromError) → Keeps whole (prepend_known front rest) → FailsToRead e (IfSome rest (λ xs. 0 < length xs)) → FailsToRead e (IfSome whole (λ xs. 0 < length xs))
front_refused whole rest front e keeps (inl failed) = inl failed
front_refused whole rest front e keeps (inr memory) = inr (memory.0, more whole rest keeps memory.1)
  where
    more : (whole rest : Option (List ℕ)) → Keeps whole (prepend_known front rest) → IfSome rest (λ xs. 0 < length xs) → IfSome whole (λ xs. 0 < length xs)
    more None rest keeps some = tt
    more (Some xs) None keeps some = absurd keeps
    more (Some xs) (Some ys) keeps some = let long = ap length keeps in omega (arith, long, length-append front ys, some)

-- memory that is refused, or a read that failed, is a cause whatever the bytes mean
module _ {P : Type 0} (e : ReadNpyFromError) (fails : FailsToRead e P) where
  pub cause_of_front : {Y : Type 0} (whole : Option (List ℕ)) (meant : List ℕ → Result Y ReadNpyError) → IfSome whole (λ bytes. IsStreamCause e (meant bytes))
  cause_of_front None meant = tt
  cause_of_front (Some bytes) meant = ⊎_elim (λ failed. subst (λ d. IsStreamCause d (meant bytes)) (sym failed) tt) (λ memory. subst (λ d. IsStreamCause d (meant bytes)) (sym memory.0) tt) fails

  pub memory_of_front : {X : Type 0} → (let r : Result X ReadNpyFromError = Err e in r) ≡ Err (File Memory) → P
  memory_of_front is = ⊎_elim (λ failed. let clash : e ≡ File Memory = cc in absurd (let both : ReadFailed ≡ File Memory = sym failed ∙ clash in cc)) (λ memory. memory.1) fails

  pub values_fail : (size count : ℕ) (whole : Option (List ℕ)) → IfSome whole (λ bytes. IsValuesCause size count bytes e)
  values_fail size count None = tt
  values_fail size count (Some bytes) = ⊎_elim (λ failed. subst (IsValuesCause size count bytes) (sym failed) tt) (λ memory. subst (IsValuesCause size count bytes) (sym memory.0) tt) fails
