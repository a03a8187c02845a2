-- The files of arrays that are reduced: what is made of the lanes of an array of numbers is made of its items' values.
use Rattle.std.proofs.Common.{◌≡◌, ◌∙◌, ℕ, Bool, true, false, List, Some, None, Result, Ok, Err, refl, sym, subst, ap}
use Rattle.std.specs.Prelude.{slice_index, IfOk, if◌then◌else◌}
use Rattle.std.specs.Option.{option_map}
use Rattle.nd_shape_and_slice.specs.ShapesAndIndexOrders.{in_box}
use Rattle.nd_shape_and_slice.specs.LayoutIndexMaps.{indexed_shape}
use Rattle.nd_elements.specs.ShapeAndElements.{Meaning, inside}
use Rattle.nd_array_core.specs.along.AxisFolds.{lane_elements}
use Rattle.nd_steps.proofs.StepEquations.{same_meaning}
use Rattle.nd_npy_text.specs.declared.item_type.ItemType.{ItemType}
use Rattle.nd_npy_text.specs.declared.item_type.Kind.{Kind}
use Rattle.nd_npy.specs.declared.item.NpyItem as npy_item
use Rattle.nd_npy.specs.FileBytesAndArrays.{file_of, little_items}
use Rattle.nd_npy_run.specs.declared.output_or_fault.Fault.{Fault}
use Rattle.nd_npy_run.specs.declared.reduction.Reduction.{Reduction}
use Rattle.nd_npy_run.specs.declared.reduction.Reduction.TheVariants.{Sum, Mean, Min, Max}
use Rattle.nd_npy_run.specs.declared.reduction.ReductionError.{ReductionError}
use Rattle.nd_npy_run.specs.Reductions.{by_reduction, ends_file, lanes_reduced, lanes_written, made_file, means_file, numbers_written, sums_file, values_of}
use Rattle.nd_npy_run.specs.OutputAndStatus.{ComesOfReduced}

-- what is kept of each lane, as it is written
mapped_if : {A B : Type 0} (h : A → B) (t : Bool) (x : A) → option_map h (if t then Some x else None) ≡ (if t then Some (h x) else None)
mapped_if h true x = refl
mapped_if h false x = refl

-- what two clauses say together of a result
pub both_ok : {X E : Type 0} (P Q R : X → Type 0) (result : Result X E) → ((x : X) → P x → Q x → R x) → IfOk result P → IfOk result Q → IfOk result R
both_ok P Q R (Ok x) f p q = f x p q
both_ok P Q R (Err e) f p q = tt

module _ {A B : Type 0} (axis : ℕ) (v : Meaning A) (r : Meaning B) where
  -- an array of what is made of the lanes of the numbers `v`
  pub lanes_are : (made : List A → B) → r.shape ≡ indexed_shape v.shape axis
      → ((i : List ℕ) → r.at i ≡ inside (indexed_shape v.shape axis) i (Some (made (lane_elements v.at axis (slice_index v.shape axis) i)))) → r ≡ lanes_reduced made axis v
  lanes_are made rs ra = same_meaning (lanes_reduced made axis v) r rs ra

  -- an array of what is kept of these lanes, as it is written
  pub ends_are : {C : Type 0} (h : C → B) (kept : List A → C) (ends : Meaning C) → ends.shape ≡ indexed_shape v.shape axis
      → ((i : List ℕ) → ends.at i ≡ inside (indexed_shape v.shape axis) i (Some (kept (lane_elements v.at axis (slice_index v.shape axis) i)))) → r.shape ≡ ends.shape → ((i : List ℕ) → r.at i ≡ option_map h (ends.at i)) → r ≡ lanes_reduced (λ xs. h (kept xs)) axis v
  ends_are h kept ends es ea rs ra =
      lanes_are (λ xs. h (kept xs)) (rs ∙ es) (λ i. ra i ∙ ap (option_map h) (ea i) ∙ mapped_if h (in_box (indexed_shape v.shape axis) i) (kept (lane_elements v.at axis (slice_index v.shape axis) i)))

  -- the file of the array `r`, where the numbers `v` are the values of the items `m` and `made` knows the length of the axis
  pub lanes_file_comes : (item : npy_item.Ghosts B) (kind : Kind) (made : ℕ → List A → B) (value : List ℕ → A) (m : Meaning (List ℕ)) (result : Result (List ℕ) Fault) → v ≡ values_of value m → r ≡ lanes_reduced (made (slice_index v.shape axis)) axis v
      → ComesOfReduced (Ok (numbers_written item kind r)) result → ComesOfReduced (Ok (lanes_written item kind (made (slice_index m.shape axis)) value axis m)) result
  lanes_file_comes item kind made value m result read is comes =
      let of_items : r ≡ lanes_reduced (made (slice_index m.shape axis)) axis (values_of value m) = subst (λ n. r ≡ lanes_reduced (made (slice_index n.shape axis)) axis n) read is in
      subst (λ n. ComesOfReduced (Ok (numbers_written item kind n)) result) of_items comes

-- the file that the writer makes of an array of numbers
pub numbers_file_made : {B : Type 0} (item : npy_item.Ghosts B) (kind : Kind) (m : Meaning B) (file : List ℕ) → file ≡ file_of item (little_items kind) m → numbers_written item kind m ≡ file
unfolding file_of
numbers_file_made item kind m file is = rw is refl

module _ (t : ItemType) (axis : ℕ) (m : Meaning (List ℕ)) where
  -- the file for items of this kind
  abbrev file_by : Kind → Reduction → Result (List ℕ) ReductionError
  file_by kind reduction = by_reduction (sums_file axis m kind t.order) (means_file axis m kind t.order) (λ greatest. ends_file axis m greatest kind t.order) reduction

  file_made : (reduction : Reduction) → file_by t.kind reduction ≡ made_file reduction t axis m
  file_made Sum = refl
  file_made Mean = refl
  file_made Min = refl
  file_made Max = refl

  pub kind_comes : (reduction : Reduction) (result : Result (List ℕ) Fault) (kind : Kind) → t.kind ≡ kind → ComesOfReduced (file_by kind reduction) result → ComesOfReduced (made_file reduction t axis m) result
  kind_comes reduction result kind is comes =
      let same : file_by kind reduction ≡ made_file reduction t axis m = ap (λ (k : Kind). file_by k reduction) (sym is) ∙ file_made reduction in
      subst (λ made. ComesOfReduced made result) same comes
