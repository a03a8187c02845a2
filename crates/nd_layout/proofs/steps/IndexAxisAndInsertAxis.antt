-- Taking an axis out, putting one in, and keeping all as another dimension are layout steps.
use Rattle.nd_layout.proofs.NamesFromOtherCrates.{◌≡◌, ℕ, zero, suc, ◌+◌, ◌<◌, ◌≤◌, true, ltb, List, [], ◌∷◌, length, get_or, set, ℤ, pos, ◌+ℤ◌, refl, ap, sym, ◌∙◌, subst, arith, +ℤ_idl, remove, insert, and_parts, and_from, lt-ltb, ltb-true, get_or-set_same, length-set, length-insert, length-remove, in_box, displacement_of, length-in_box, collapsed_shape, collapsed_index, indexed_shape, indexed_index, inserted_shape, inserted_index, set-inserted}
use Rattle.nd_layout.proofs.Integers.{zero-mul}
use Rattle.nd_layout.proofs.AxisRemovedOrInserted.{displacement_of-inserted, in_box-inserted, span_of-removed-le, IsSeparated-removed, HasCheckedSize-removed, displacement_of-inserted_zero, in_box-inserted_axis, span_of-inserted_axis, IsSeparated-inserted_axis, nonzero_product-inserted_axis}
use Rattle.nd_layout.specs.ValidLayoutsAndSteps.{IsStep}
use Rattle.nd_layout.proofs.steps.StepsKeepValidLayouts.{step_then, step_by}

-- nothing changes
pub same_is_step : (offset : ℕ) (ns : List ℕ) (ss : List ℤ) → length ss ≡ length ns → IsStep offset ns ss offset ns ss (λ i. i)
same_is_step offset ns ss many = record {
  within = λ i h. h;
  same = λ i h. refl;
  as_many = many;
  spread = omega arith;
  checked = λ few. few;
  separated = λ apart. apart;
}

remove-set : {A : Type 0} (xs : List A) (a : ℕ) (x : A) → remove (set xs a x) a ≡ remove xs a
remove-set [] a x = refl
remove-set (y ∷ xs) zero x = refl
remove-set (y ∷ xs) (suc a) x = ap (λ l. y ∷ l) (remove-set xs a x)

module _ (ns : List ℕ) (ss : List ℤ) (a : ℕ) (many : length ss ≡ length ns) where
  module _ (on : a < length ns) where
    on_index : (i : List ℕ) → in_box (remove ns a) i ≡ true → a ≤ length i
    on_index i h = let e = length-in_box (remove ns a) i h in let l = length-remove ns a on in omega (arith, e, l, on)

    -- an axis with a coordinate 0 is taken out
    remove_is_step : (offset : ℕ) → 0 < get_or ns a 0 → IsStep offset ns ss offset (remove ns a) (remove ss a) (λ i. insert i a 0)
    remove_is_step offset some = record {
      within = λ i h. in_box-inserted ns i a 0 on ∙ and_from (ltb 0 (get_or ns a 0)) (in_box (remove ns a) i) (lt-ltb 0 (get_or ns a 0) some) h;
      same = λ i h.
          let at = displacement_of-inserted ss i a 0 (omega (arith, many, on)) (on_index i h) in
          sym (ap (λ z. pos offset +ℤ z) (at ∙ ap (λ z. z +ℤ displacement_of (remove ss a) i) (zero-mul (get_or ss a (pos 0))) ∙ +ℤ_idl (displacement_of (remove ss a) i)));
      as_many = let l = length-remove ss a (omega (arith, many, on)) in let m = length-remove ns a on in omega (arith, l, m, many);
      spread = span_of-removed-le ns ss a many on;
      checked = HasCheckedSize-removed ns a on;
      separated = IsSeparated-removed ns ss a many on;
    }

  module _ (on : a ≤ length ns) where
    -- an axis of length 1 is put in
    pub insert_is_step : (offset : ℕ) (t : ℤ) → IsStep offset ns ss offset (inserted_shape ns a) (insert ss a t) (inserted_index a)
    insert_is_step offset t = record {
      within = λ i h. (parts i h).1;
      same = λ i h. let below = ltb-true (get_or i a 0) 1 (parts i h).0 in
          ap (λ z. pos offset +ℤ z) (displacement_of-inserted_zero ss i a t (omega (arith, many, on)) (long i h) (omega (arith, below)));
      as_many = length-insert ss a t (omega (arith, many, on)) ∙ (ap (λ n. n + 1) many ∙ sym (length-insert ns a 1 on));
      spread = let e = span_of-inserted_axis ns ss a 1 t many on in omega (arith, e);
      checked = λ few. rw (nonzero_product-inserted_axis ns a on) few;
      separated = IsSeparated-inserted_axis ns ss a t many on;
    }
      where
        long : (i : List ℕ) → in_box (insert ns a 1) i ≡ true → a < length i
        long i h = let e = length-in_box (insert ns a 1) i h in let l = length-insert ns a 1 on in omega (arith, e, l, on)

        parts : (i : List ℕ) → in_box (insert ns a 1) i ≡ true → (ltb (get_or i a 0) 1 ≡ true) × (in_box ns (remove i a) ≡ true)
        parts i h = and_parts (ltb (get_or i a 0) 1) (in_box ns (remove i a)) (sym (in_box-inserted_axis ns i a 1 on (long i h)) ∙ h)

-- one coordinate of an axis is kept, and the axis goes
pub index_is_step : (ns : List ℕ) (ss : List ℤ) (a k offset new_offset : ℕ) → length ss ≡ length ns → a < length ns → IsStep offset ns ss new_offset (collapsed_shape ns a) ss (collapsed_index a k) → IsStep offset ns ss new_offset (indexed_shape ns a) (remove ss a) (indexed_index a k)
index_is_step ns ss a k offset new_offset many on collapse =
    let ms = set ns a 1 in
    let long = length-set ns a 1 in
    let on_ms : a < length ms = omega (arith, long, on) in
    let many_ms : length ss ≡ length ms = many ∙ sym long in
    let one = get_or-set_same ns a 1 0 on in
    let without : IsStep new_offset ms ss new_offset (remove ms a) (remove ss a) (λ i. insert i a 0) = remove_is_step ms ss a many_ms on_ms new_offset (omega (arith, one)) in
    let both : IsStep offset ns ss new_offset (remove ms a) (remove ss a) (λ i. set (insert i a 0) a k) = step_then collapse without in
    subst (λ ls. IsStep offset ns ss new_offset ls (remove ss a) (indexed_index a k)) (remove-set ns a 1)
    (step_by (indexed_index a k) (λ i h. set-inserted i a 0 k (on_index ms ss a many_ms on_ms i h)) both)
