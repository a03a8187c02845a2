-- Files whose items are read as their bytes.
use Rattle.std.proofs.Common.{◌≡◌, ◌∙◌, ℕ, ◌<◌, ◌≤◌, ◌==◌, Bool, true, false, cond, List, [], ◌∷◌, length, take, drop, Result, Ok, Err, refl, sym, ap, subst}
use Rattle.std.specs.List.{AllZip}
use Rattle.std.proofs.lemmas.Bool.{eqb-true, eq-eqb, eqb-false}
use Rattle.nd_npy_text.specs.declared.item_type.ItemType.{ItemType}
use Rattle.nd_npy_text.specs.declared.item_type.Kind.{Kind}
use Rattle.nd_npy_text.specs.ItemTypes.{kind_size}
use Rattle.nd_npy_text.specs.HeaderDescription.{Description}
use Rattle.nd_npy_text.specs.HeaderReading.{npy_header_in}
use Rattle.nd_npy_text.proofs.MemoryLackAfterHeader.{head_bytes}
use Rattle.nd_npy.specs.declared.item.NpyItem as npy_item
use Rattle.nd_npy.specs.declared.errors.ReadNpyError.{ReadNpyError}
use Rattle.nd_npy.specs.declared.errors.ReadNpyError.TheVariants.{WrongSize}
use Rattle.nd_npy.specs.FileBytesAndArrays.{data_size, array_of_items, array_after_head, npy_in, file_of, IsNpyCause}
use Rattle.nd_npy_run.specs.declared.steps.errors.Refusal.{Refusal}
use Rattle.nd_npy_run.specs.declared.steps.errors.NpyStepsError.{NpyStepsError}
use Rattle.nd_npy_run.specs.declared.steps.errors.NpyStepsError.TheVariants.{Refused}
use Rattle.nd_npy_run.specs.ViewSelectAndReshapeSteps.{AskedNpyStep}
use Rattle.nd_npy_run.specs.StepListResults.{array_after_steps, rest_of_steps, GivesArrayAfterSome}
use Rattle.nd_npy_run.proofs.StepListsJoined.{after_all}
use Rattle.nd_npy_run.specs.declared.output_or_fault.Fault.{Fault}
use Rattle.nd_npy_run.specs.declared.output_or_fault.Fault.TheVariants as faults
use Rattle.nd_npy_run.specs.declared.wanted_outputs.Wanted.{Wanted}
use Rattle.nd_npy_run.specs.Reductions.{reduced_file}
use Rattle.nd_npy_run.specs.OutputAndStatus.{ComesOfRest, ComesOfArray, ComesOfSteps}
use Rattle.nd_npy_run.specs.FilesAfterSteps.{wanted_text, Items, IsFile, file_text, HasItems, HasWrongSize, IsRefused, ReadsItems}

-- a head has bytes
pub some_items : (bytes : List ℕ) (item_type : ItemType) (n : ℕ) → HasItems bytes item_type n → 0 < length bytes
some_items bytes item_type n has = head_bytes bytes (has.0, has.1) has.2

module _ (item : npy_item.Ghosts (List ℕ)) (bytes : List ℕ) (d : Description) (start : ℕ) (head : npy_header_in bytes ≡ Ok (d, start)) (accepts : item.accepts d.item_type.kind ≡ true) where
  -- what a file means, by the number of bytes behind its head
  by_size : (t : Bool) → (length (drop start bytes) == data_size d) ≡ t → npy_in item bytes ≡ cond t (Ok (array_of_items item d (drop start bytes))) (Err (WrongSize (data_size d) (length (drop start bytes))))
  unfolding npy_in array_after_head
  by_size true e = rw (head, accepts, e) refl
  by_size false e = rw (head, accepts, e) refl

  file_by : (t : Bool) (m : Items) → item.value_of ≡ (λ order x. x) → (length (drop start bytes) == data_size d) ≡ t → npy_in item bytes ≡ Ok m → IsFile bytes d m
  file_by true m raw e is =
      let same : ◌≡◌ {A = Result Items ReadNpyError} (Ok (array_of_items item d (drop start bytes))) (Ok m) = sym (by_size true e) ∙ is in
      let one : array_of_items item d (drop start bytes) ≡ m = cc in
      record { data_start = start; head = head; data_whole = eqb-true _ _ e; items = sym one ∙ rw raw refl }
  file_by false m raw e is =
      let clash : ◌≡◌ {A = Result Items ReadNpyError} (Err (WrongSize (data_size d) (length (drop start bytes)))) (Ok m) = sym (by_size false e) ∙ is in absurd cc

  pub file_is : (m : Items) → item.value_of ≡ (λ order x. x) → npy_in item bytes ≡ Ok m → IsFile bytes d m
  file_is m raw is = file_by (length (drop start bytes) == data_size d) m raw refl is

  wrong_by : (t : Bool) (expected found : ℕ) → (length (drop start bytes) == data_size d) ≡ t → npy_in item bytes ≡ Err (WrongSize expected found) → HasWrongSize bytes expected found
  wrong_by true expected found e is =
      let clash : ◌≡◌ {A = Result Items ReadNpyError} (Ok (array_of_items item d (drop start bytes))) (Err (WrongSize expected found)) = sym (by_size true e) ∙ is in absurd cc
  wrong_by false expected found e is =
      let same : ◌≡◌ {A = Result Items ReadNpyError} (Err (WrongSize (data_size d) (length (drop start bytes)))) (Err (WrongSize expected found)) = sym (by_size false e) ∙ is in
      let one : data_size d ≡ expected = cc in
      let other : length (drop start bytes) ≡ found = cc in
      (d, start, head, sym one, sym other, λ is. eqb-false _ _ e (other ∙ is ∙ sym one))

  pub wrong_is : (expected found : ℕ) → npy_in item bytes ≡ Err (WrongSize expected found) → HasWrongSize bytes expected found
  wrong_is expected found is = wrong_by (length (drop start bytes) == data_size d) expected found refl is

-- items that are read as their bytes, as the head says
module _ (item : npy_item.Ghosts (List ℕ)) (bytes : List ℕ) (item_type : ItemType) where
  taken : (n : ℕ) (has : HasItems bytes item_type n) → item.accepts ≡ (λ kind. kind_size kind == n) → item.accepts has.0.item_type.kind ≡ true
  taken n has accepts = ap (λ (test : Kind → Bool). test has.0.item_type.kind) accepts ∙ eq-eqb _ _ has.4

  pub items_read : (n : ℕ) (m : Items) → npy_in item bytes ≡ Ok m → HasItems bytes item_type n → item.accepts ≡ (λ kind. kind_size kind == n) → item.value_of ≡ (λ order x. x) → (d : Description) × IsFile bytes d m × (item_type ≡ d.item_type)
  items_read n m is has accepts raw = (has.0, file_is item bytes has.0 has.1 has.2 (taken n has accepts) m raw is, has.3)

  pub items_wrong : (n expected found : ℕ) (error : ReadNpyError) → IsNpyCause error (npy_in item bytes) → error ≡ WrongSize expected found → HasItems bytes item_type n → item.accepts ≡ (λ kind. kind_size kind == n) → HasWrongSize bytes expected found
  items_wrong n expected found error cause is has accepts =
      wrong_is item bytes has.0 has.1 has.2 (taken n has accepts) expected found (subst (λ e. IsNpyCause e (npy_in item bytes)) is cause)

-- the clone of an item is the same bytes
pub clone_same : (R : ℕ → ℕ → Type 0) → ((x y : ℕ) → R x y → y ≡ x) → (xs ys : List ℕ) → AllZip R xs ys → ys ≡ xs
clone_same R same [] [] all = refl
clone_same R same [] (y ∷ ys) all = absurd all
clone_same R same (x ∷ xs) [] all = absurd all
clone_same R same (x ∷ xs) (y ∷ ys) all = rw (same x y all.0, clone_same R same xs ys all.1) refl

-- no array is read
pub array_fails : (wanted : Wanted) (steps : List AskedNpyStep) (bytes : List ℕ) (item_type : ItemType) (fault : Fault) → ReadsItems bytes item_type (Err fault) → ComesOfSteps wanted steps bytes (Err fault)
array_fails wanted steps bytes item_type (faults.BadStep number word) none = absurd none
array_fails wanted steps bytes item_type (faults.BadHead error) none = absurd none
array_fails wanted steps bytes item_type (faults.WrongSize expected found) none = none
array_fails wanted steps bytes item_type (faults.Refused refusal) none = absurd none
array_fails wanted steps bytes item_type (faults.NoText kind) none = absurd none
array_fails wanted steps bytes item_type (faults.NotReduced error) none = absurd none
array_fails wanted steps bytes item_type faults.Memory none = none
array_fails wanted steps bytes item_type faults.ReadFailed none = absurd none

-- the file of an array of items
pub raw_file : (item : npy_item.Ghosts (List ℕ)) (item_type : ItemType) (m : Items) → item.bytes_of ≡ (λ order x. x) → file_of item item_type m ≡ file_text item_type m
unfolding file_of
raw_file item item_type m raw = rw raw refl

-- ---- The array after the steps

module _ (steps : List AskedNpyStep) (bytes : List ℕ) (item_type : ItemType) (m : Items) (is : (d : Description) × IsFile bytes d m × (item_type ≡ d.item_type)) where
  file_bytes : 0 < length bytes
  file_bytes = head_bytes bytes (is.0, is.1.data_start) is.1.head

  turned_comes : (wanted : Wanted) (done : ℕ) (a v n : Items) (made : Result (List ℕ) Fault) → done ≤ length steps → array_after_steps (take done steps) m ≡ Ok a → v ≡ a → rest_of_steps done steps v ≡ Ok n → ComesOfArray wanted item_type n made → ComesOfSteps wanted steps bytes made
  turned_comes wanted done a v n made few first same rest comes = by_made made comes
    where
      after : array_after_steps steps m ≡ Ok n
      after = after_all steps done m a few first ∙ ap (rest_of_steps done steps) (sym same) ∙ rest

      by_made : (made : Result (List ℕ) Fault) → ComesOfArray wanted item_type n made → ComesOfSteps wanted steps bytes made
      by_made (Ok text) comes = (is.0, m, n, is.1, after, ap (λ t. wanted_text wanted t n) (sym is.2) ∙ comes)
      by_made (Err (faults.BadStep number word)) comes = absurd comes
      by_made (Err (faults.BadHead error)) comes = absurd comes
      by_made (Err (faults.WrongSize expected found)) comes = absurd comes
      by_made (Err (faults.Refused refusal)) comes = absurd comes
      by_made (Err (faults.NoText kind)) comes = (is.0, m, n, is.1, after, comes.0, comes.1 ∙ ap (λ t. t.kind) is.2, comes.2)
      by_made (Err (faults.NotReduced error)) comes =
          (is.0, m, n, is.1, after, (comes.0, comes.1, comes.2, ap (λ t. reduced_file comes.0 comes.1 t n) (sym is.2) ∙ comes.3))
      by_made (Err faults.Memory) comes = file_bytes
      by_made (Err faults.ReadFailed) comes = absurd comes

  refused_first : (refusal : Refusal) → array_after_steps steps m ≡ Err refusal → IsRefused steps bytes refusal
  refused_first refusal after = (is.0, m, is.1, after)

  -- a step that may copy elements is refused
  pub refused_taking : (done : ℕ) (error : NpyStepsError) (refusal : Refusal) → error ≡ Refused refusal → GivesArrayAfterSome {X = Items} (λ n. n) done steps m (Err error) → IsRefused steps bytes refusal
  refused_taking done error refusal same none = refused_first refusal (subst (λ e. GivesArrayAfterSome {X = Items} (λ n. n) done steps m (Err e)) same none)

  refused_then : (done : ℕ) (a v : Items) (refusal : Refusal) → done ≤ length steps → array_after_steps (take done steps) m ≡ Ok a → v ≡ a → rest_of_steps done steps v ≡ Err refusal → IsRefused steps bytes refusal
  refused_then done a v refusal few first same rest = refused_first refusal (after_all steps done m a few first ∙ ap (rest_of_steps done steps) (sym same) ∙ rest)

  -- what comes of the steps that follow the first `done` ones
  pub rest_comes : (wanted : Wanted) (done : ℕ) (a v : Items) (made : Result (List ℕ) Fault) → done ≤ length steps → array_after_steps (take done steps) m ≡ Ok a → v ≡ a → ComesOfRest wanted item_type (rest_of_steps done steps v) made → ComesOfSteps wanted steps bytes made
  rest_comes wanted done a v made few first same comes = by_rest (rest_of_steps done steps v) refl comes
    where
      by_rest : (rest : Result Items Refusal) → rest_of_steps done steps v ≡ rest → ComesOfRest wanted item_type rest made → ComesOfSteps wanted steps bytes made
      by_rest (Ok n) is comes = turned_comes wanted done a v n made few first same is comes
      by_rest (Err refusal) is comes = subst (ComesOfSteps wanted steps bytes) (sym comes) (refused_then done a v refusal few first same is)
